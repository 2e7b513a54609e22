-- What holds of a file whose contents are right: its edition, its count, its entries and its ranges are read as they
-- stand, and each body begins where the one before it ends, within the file.
-- Assumes nothing.
use mathlib.Core.Bool.{true}
use mathlib.Core.List.{List}
use mathlib.Core.Path.{◌≡◌, ap}
use Prim.Native.Nat.{ℕ, suc, ◌+◌, ◌≤◌, ◌<◌}
use native.Mathlib.Numerals.{add-one}
use native.Mathlib.Omega.{arith}
use lib.ListN.{length}
use Rattle.std.specs.Prelude.{Ok}
use Rattle.little.proofs.Little.{little-within}
use Rattle.contents.specs.Answers.{file_answer}
use Rattle.contents.specs.Contents.{edition, count, edition_or, count_or, contents_size, entry_of, entry_or, range_of, range_or, is_laid_out, bodies_size, body_start, contents_tests}
use Rattle.contents.proofs.Accepted.{Whole, whole_laid, accepted}
use Rattle.contents.proofs.Entries.{edition_there, entry_there, range_there, bodies-within}
use Rattle.contents.proofs.Sizes.{size-before}

module _ (l : List ℕ) (done : file_answer (contents_tests l (length l)) ≡ Ok tt) where
  pub whole : Whole l (length l)
  whole = accepted l (length l) done

  pub count-read : count_or l ≡ count l
  count-read = little-within l 2 2 whole.head

  pub edition-read : edition_or l ≡ edition l
  edition-read = edition_there l (omega (arith, whole.head))

  module _ (i : ℕ) (h : i < count l) where
    pub entry_read : entry_or l i ≡ entry_of l i
    entry_read = entry_there l i (omega (arith, whole.room, size-before (edition l) i (count l) h, ap (contents_size (edition l)) (add-one i)))

    pub range-read : range_or l i ≡ range_of l i
    range-read = range_there l i (omega (arith, whole.room, size-before (edition l) i (count l) h, ap (contents_size (edition l)) (add-one i)))

    -- a body ends within the file
    pub body-ends : body_start l i + (entry_of l i).length ≤ length l
    unfolding body_start
    body-ends = omega (arith, bodies-within l i (count l) h, whole.end)

    pub body_laid : is_laid_out (entry_of l i) ≡ true
    body_laid = whole_laid whole i h

  -- where the next body begins
  pub next_start : (i : ℕ) → body_start l (suc i) ≡ body_start l i + (entry_of l i).length
  unfolding body_start bodies_size
  next_start i = omega arith

  pub first-start : body_start l 0 ≡ contents_size (edition l) (count l)
  unfolding body_start bodies_size
  first-start = omega arith
