-- `stream::Reply::with_reference` meets its contract: by what the reply is known to be.
-- Assumes nothing.
use Rattle.std.proofs.Common.{sym, ap}
use Rattle.stream.specs.Expected.{with_reference}
use Rattle.stream.proofs.Reply.with_reference.Goals as goal

pub returns-in-Given : goal.returns-in-Given
returns-in-Given c = ap (with_reference c.args.reference) (sym c.in-Given.is)
