-- The rows of an accepted file of bytes, as the writer takes them: whole blocks, at most 256, each of which is laid down
-- from its body.
-- Assumes nothing.
use mathlib.Core.List.{List}
use mathlib.Core.Path.{◌≡◌, ◌∙◌}
use Prim.Native.Nat.{ℕ, ◌*◌, ◌≤◌, ◌<◌}
use native.Mathlib.Omega.{arith}
use lib.ListN.{length, drop}
use Rattle.std.specs.Prelude.{Ok}
use Rattle.lists.specs.Numbers.{Elements}
use Rattle.contents.specs.Answers.{file_answer}
use Rattle.contents.specs.Contents.{count, entry_of, body_start, contents_tests}
use Rattle.bodies.proofs.Blocks.{Block, a_block, take-elements, drop-elements}
use Rattle.files.specs.Files.{body_of, block_in, rows_of, runs_tests, file_tests}
use Rattle.files.specs.Froms.{from_leaves}
use Rattle.bodywise.proofs.Told.{whole, body_laid}
use Rattle.files.proofs.Froms.{from_block}
use Rattle.files.proofs.Ranges.{contents-right, runs-good, file-runs}
use Rattle.files.proofs.Rows.{rows-count, rows_block}
use Rattle.writer.specs.Reasons.{Blocks}
use Rattle.writer.specs.Writer.{block_count, block_at}

-- What holds already of a file that is right up to its run indices,
module _ (l : List ℕ) (runs : file_answer (runs_tests l) ≡ Ok tt) where
  runs-right : file_answer (contents_tests l (length l)) ≡ Ok tt
  runs-right = contents-right l runs

  pub runs-few : count l ≤ 256
  runs-few = (whole l runs-right).few

  module _ (bytes : Elements 8 l) (i : ℕ) (h : i < count l) where
    -- A block is 1,024 numbers of 64 bits,
    pub runs_block : Block (block_in l i)
    unfolding block_in body_of
    runs_block =
        a_block (entry_of l i) (body_of l i) (body_laid l runs-right i h)
        (take-elements 8 (entry_of l i).length (drop (body_start l i) l) (drop-elements 8 (body_start l i) l bytes))

    -- and it is laid down from where its body begins.
    pub runs_laid : {from : ℕ} {block : List ℕ} (output : List ℕ) → length output ≡ 1024 → from ≡ body_start l i → block ≡ from_leaves l i from output → block ≡ block_in l i
    runs_laid {from} {block} output long start left = left ∙ from_block l runs-right i h from start output long (runs-good l runs i h)

-- and what holds of one that is accepted.
module _ (l : List ℕ) (done : file_answer (file_tests l) ≡ Ok tt) where
  -- Its contents are right,
  pub right : file_answer (contents_tests l (length l)) ≡ Ok tt
  right = contents-right l (file-runs l done)

  -- it has at most 256 blocks,
  pub few : count l ≤ 256
  few = runs-few l (file-runs l done)

  -- and its rows are as many.
  pub rows_long : length (rows_of l) ≡ count l * 1024
  rows_long = omega (arith, rows-count l)

  pub rows_blocks : block_count (rows_of l) ≡ count l
  rows_blocks = omega (arith, rows-count l)

  pub rows_whole : Blocks (rows_of l)
  rows_whole = record { n = count l; whole = rows_long; few = few }

  module _ (bytes : Elements 8 l) (i : ℕ) (h : i < count l) where
    -- A block has 1,024 numbers,
    pub block_long : length (block_in l i) ≡ 1024
    block_long = (runs_block l (file-runs l done) bytes i h).0

    -- and it is these of the rows.
    pub block_at_lem : block_at (rows_of l) i ≡ block_in l i
    block_at_lem = rows_block l i h block_long
