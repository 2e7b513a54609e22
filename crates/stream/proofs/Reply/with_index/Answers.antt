-- `stream::Reply::with_index` meets its contract: by what the reply is known to be.
-- Assumes nothing.
use Rattle.std.proofs.Common.{sym, ap}
use Rattle.stream.specs.Expected.{with_index}
use Rattle.stream.proofs.Reply.with_index.Goals as goal

pub returns-in-Given : goal.returns-in-Given
returns-in-Given c = ap (with_index c.args.index) (sym c.in-Given.is)
