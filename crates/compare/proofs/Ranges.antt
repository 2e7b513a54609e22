-- Two files that say the same of a range are answered alike for a block that is the same in both; and the blocks that
-- are in both files are counted by their fronts.
-- Assumes nothing.
use mathlib.Core.Bool.{true}
use mathlib.Core.List.{List}
use mathlib.Core.Path.{◌≡◌, refl, sym, ap, ap₂, ◌∙◌}
use Prim.Native.Nat.{ℕ, min}
use lib.Dec.{eqb}
use lib.ListN.{length}
use borrow.Author.Tests.{eqb-true}
use Rattle.std.specs.Prelude.{Ok}
use Rattle.lists.specs.Pick.{pick}
use Rattle.lists.proofs.Tests.{both_true}
use Rattle.contents.specs.Answers.{file_answer}
use Rattle.contents.specs.Contents.{count, edition_or, count_or, range_or, has_right_entry, contents_tests}
use Rattle.bodies.specs.Ranges.{is_range}
use Rattle.bodywise.specs.Steps.{has_true_range, range_tests, front_of}
use Rattle.bodywise.proofs.Fronts.{front-right}
use Rattle.bodywise.proofs.Steps.{range-answer}
use Rattle.compare.specs.Ranges.{same_range}

-- Two files whose entries are right and that say the same of a range are answered alike for a block that is the same in
-- both.
pub range-alike : (left right : List ℕ) (i : ℕ) (block : List ℕ) → has_right_entry left i ≡ true → has_right_entry right i ≡ true → same_range left right i ≡ true
    → file_answer (range_tests left i block) ≡ file_answer (range_tests right i block)
unfolding has_true_range same_range
range-alike left right i block l r e =
    let t = both_true (eqb (edition_or left) (edition_or right)) _ e in
    let ends = both_true (eqb (range_or left i).smallest (range_or right i).smallest) (eqb (range_or left i).largest (range_or right i).largest) t.1 in
    let small : (range_or left i).smallest ≡ (range_or right i).smallest = eqb-true _ _ ends.0 in
    let large : (range_or left i).largest ≡ (range_or right i).largest = eqb-true _ _ ends.1 in
    let same : has_true_range left i block ≡ has_true_range right i block =
    ap (λ e. pick (eqb e 2) (is_range (range_or left i) block) true) (eqb-true (edition_or left) (edition_or right) t.0)
    ∙ ap₂ (λ s g. pick (eqb (edition_or right) 2) (is_range (record { smallest = s; largest = g }) block) true) small large in
    range-answer left i block l same ∙ sym (range-answer right i block r refl)

-- The blocks that are in both files are counted by their fronts.
pub both-counted : (l m : List ℕ) → file_answer (contents_tests l (length l)) ≡ Ok tt → file_answer (contents_tests m (length m)) ≡ Ok tt
    → min (count_or (front_of l)) (count_or (front_of m)) ≡ min (count l) (count m)
both-counted l m right also = ap₂ min ((front-right l).count-is right) ((front-right m).count-is also)
