-- `writer::measure_blocks` meets its contract: after each block the sum is what the file has up to there, and what the
-- blocks up to there are laid down by is kept.
-- Assumes nothing.
use mathlib.Core.Path.{◌≡◌}
use Prim.Native.Nat.{◌+◌}
use lib.ListN.{length}
use Rattle.contents.specs.Contents.{contents_size}
use Rattle.writer.specs.InnerKept.{Kept}
use Rattle.writer.specs.Writer.{block_count, block_at, bodies_for}
use Rattle.writer.proofs.measure_blocks.Given as goal

abbrev pub invariant-loop-i : goal.invariant-loop-i
invariant-loop-i l =
    (l.n ≡ block_count l.values) × (l.size ≡ contents_size 2 l.n + length (bodies_for l.values l.i)) × (length l.kept ≡ 768) × Kept (block_at l.values) l.kept l.i
