-- In a file whose contents are right, what is asked of the body that begins where body i does is asked of body i, and
-- its block is block i.
-- Assumes nothing.
use Rattle.std.specs.Prelude.{Ok, Err}
use Rattle.std.proofs.Common.{◌≡◌, ℕ, ◌+◌, ◌<◌, true, List, [], length, take, drop, replicate, sym, refl, ap, ◌∙◌, ap₂, arith, eq-eqb, le-leb}
use Rattle.lists.specs.Pick.{pick}
use Rattle.contents.specs.declared.FileRefusal.TheVariants.{Runs}
use Rattle.contents.specs.Answers.{file_answer, is_done}
use Rattle.contents.specs.Contents.{edition, count, entry_or, range_of, range_or, body_start, contents_tests}
use Rattle.bodies.specs.Bodies as Bodies
use Rattle.bodies.specs.Ranges.{is_range}
use Rattle.files.specs.Files.{body_of, block_in, has_true_range}
use Rattle.files.specs.Froms.{body_from, good_from, from_tests, from_leaves, true_from}
use Rattle.bodywise.proofs.Told.{entry_read, range-read, body-ends}
use Rattle.files.proofs.Files.{good_in, body-tested, block_tested, block_left, tested-done}

module _ (l : List ℕ) (right : file_answer (contents_tests l (length l)) ≡ Ok tt) (i : ℕ) (h : i < count l) (at : ℕ) (start : at ≡ body_start l i) where
  pub body_from-is : body_from l i at ≡ body_of l i
  unfolding body_from body_of
  body_from-is =
      let e = entry_read l right i h in
      let inside = le-leb (at + (entry_or l i).length) (length l) (omega (arith, body-ends l right i h, ap (λ e. e.length) e)) in
      ap (λ t. pick t (take (entry_or l i).length (drop at l)) []) inside
      ∙ ap₂ (λ e s. take e.length (drop s l)) e start

  pub good_from-is : good_from l i at ≡ good_in l i
  unfolding good_from
  good_from-is =
      ap is_done (ap₂ (λ e b. file_answer (Bodies.body_tests e b)) (entry_read l right i h) body_from-is ∙ body-tested l right i h)
      ∙ tested-done (good_in l i)

  module _ (output : List ℕ) (long : length output ≡ 1024) where
    pub from_tested : file_answer (from_tests l i at output) ≡ pick (good_in l i) (Ok tt) (Err (Runs 0))
    from_tested =
        ap₂ (λ e b. file_answer (Bodies.block_tests e b output)) (entry_read l right i h) body_from-is
        ∙ block_tested l right i h output long

    pub from_left : from_leaves l i at output ≡ pick (good_in l i) (block_in l i) output
    unfolding from_leaves
    from_left = ap₂ (λ e b. Bodies.block_leaves e b output) (entry_read l right i h) body_from-is ∙ block_left l right i h output long

    -- Where its run indices are in range, the block is left.
    pub from_block : good_in l i ≡ true → from_leaves l i at output ≡ block_in l i
    from_block good = from_left ∙ ap (λ t. pick t (block_in l i) output) good

    -- In edition 2 its range is then held to the block, in any output of the right length,
    pub true_in_is : edition l ≡ 2 → good_in l i ≡ true → is_range (range_or l i) (from_leaves l i at output) ≡ has_true_range l i
    unfolding has_true_range
    true_in_is second good =
        ap₂ is_range (range-read l right i h) (from_block good)
        ∙ sym (ap (λ t. pick t (is_range (range_of l i) (block_in l i)) true) (eq-eqb (edition l) 2 second))

  -- and so over zeros.
  pub true_from-is : edition l ≡ 2 → good_in l i ≡ true → true_from l i at ≡ has_true_range l i
  unfolding true_from
  true_from-is = true_in_is (replicate 1024 0) refl
