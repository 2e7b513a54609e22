-- `writer::lay_blocks` meets its contract: after each block the output holds the entries and the bodies up to there.
-- Assumes nothing.
use mathlib.Core.Path.{◌≡◌}
use Prim.Native.Nat.{◌+◌}
use lib.ListN.{length}
use Rattle.contents.specs.Contents.{contents_size}
use Rattle.writer.specs.InnerKept.{Rooms}
use Rattle.writer.specs.Writer.{bodies_for}
use Rattle.writer.proofs.Laying.{laid_to}
use Rattle.writer.proofs.lay_blocks.Given as goal

abbrev pub invariant-loop-i : goal.invariant-loop-i
invariant-loop-i l =
    (l.at ≡ contents_size 2 l.n + length (bodies_for l.values l.i)) × (l.output ≡ laid_to l.values l.n l.i l.initial.output) × Rooms l.plain l.frame l.rest
