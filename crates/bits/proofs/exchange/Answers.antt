-- `bits::exchange` meets its contract: the exchange is a move of bits.
-- Assumes nothing.
use Rattle.bits.proofs.Exchanges.{exchange-moves}
use Rattle.bits.proofs.exchange.Goals as goal

pub returns : goal.returns
returns c = exchange-moves c.args.x c.args.mask c.args.shift c.ranges.x.fits c.requires.by_index
