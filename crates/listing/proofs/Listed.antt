-- The lines of a block: what the loop over its places keeps.
-- Assumes nothing.
use mathlib.Core.List.{List, [], ◌∷◌, ◌++◌, map}
use mathlib.Core.Path.{◌≡◌, refl, sym, ap, ◌∙◌}
use Prim.Native.Nat.{ℕ, zero, suc, ◌+◌, ◌*◌, ◌≤◌, ◌<◌}
use native.Mathlib.Nat.{zero-add, le_of_suc-le-suc}
use native.Mathlib.Omega.{arith}
use lib.ListN.{length, get_or, take, drop, length-map}
use lib.Seq.{take_all, get_or-take}
use borrow.Author.Tests.{eq-eqb}
use Rattle.std.specs.Prelude.{Result, Ok}
use Rattle.std.specs.Result.{result_unwrap_or}
use Rattle.lists.specs.Tab.{over}
use Rattle.lists.proofs.Overs.{over-front, over-rest}
use Rattle.lists.proofs.Failing.{failing_few}
use Rattle.contents.specs.declared.FileRefusal.{FileRefusal}
use Rattle.contents.specs.Answers.{FileAnswer, file_answer, number_of, left as leaves}
use Rattle.contents.specs.Contents.{entry_or}
use Rattle.contents.proofs.Answers.{passed, none_left, number-done}
use Rattle.bodies.specs.Bodies.{block_of}
use Rattle.bodywise.specs.Steps.{body_tests, held_tests, held_leaves}
use Rattle.compare.specs.declared.Change.{Change}
use Rattle.compare.specs.Changes.{differing, is_same_at, change_at, changes_in, differing_tests, compared_of, differing_leaves}
use Rattle.compare.proofs.Noted.{some_differ}
use Rattle.listing.specs.Text.{change_line, lines_of}
use Rattle.listing.proofs.Stages.{over-text}
use Rattle.listing.proofs.Lines.{Laid, LaidTo, laid_next, laid_keeps}

-- A text that is laid twice.
over-same : (x l : List ℕ) → over 0 x (over 0 x l) ≡ over 0 x l
unfolding over
over-same x l =
    ap (λ n. x ++ drop n (over 0 x l)) (zero-add (length x)) ∙ ap (λ t. x ++ t) (over-rest x l) ∙ ap (λ n. x ++ drop n l) (sym (zero-add (length x)))

-- A block has as many changes as places that differ, at most 1,024.
pub changes-long : (i : ℕ) (left right : List ℕ) → length (changes_in i left right) ≡ length (differing left right)
unfolding changes_in
changes-long i left right = length-map (differing left right) (change_at i left right)

pub differ_few : (left right : List ℕ) → length (differing left right) ≤ 1024
unfolding differing
differ_few left right = failing_few 0 1024 (is_same_at left right)

map_at : (f : ℕ → Change) (list : List ℕ) (k d : ℕ) (none : Change) → k < length list → get_or (map f list) k none ≡ f (get_or list k d)
map_at f [] k d none h = absurd (omega arith)
map_at f (x ∷ list) zero d none h = refl
map_at f (x ∷ list) (suc k) d none h = map_at f list k d none (le_of_suc-le-suc h)

abbrev none : Change
none = record { row = 0; left = 0; right = 0 }

-- A place that was noted stands in the room for places.
place_is : (places list : List ℕ) (k : ℕ) → over 0 list places ≡ places → k < length list → get_or places k 0 ≡ get_or list k 0
place_is places list k e h =
    ap (λ l. get_or l k 0) (sym e)
    ∙ sym (get_or-take (length list) (over 0 list places) k 0 h)
    ∙ ap (λ l. get_or l k 0) (over-front list places)

pub laid_length : {changes : List Change} {k at : ℕ} {old new : List ℕ} → LaidTo changes k old new at → 63 * k ≤ length old → length new ≡ length old
laid_length {changes} {k} {at} {old} {new} before room =
    laid_keeps before.laid (omega (arith, before.laid.ends, before.few))

-- One place more.
pub change_next : (i : ℕ) (left right places : List ℕ) (k : ℕ) {old mid new : List ℕ} {at next : ℕ} {c : Change}
    → LaidTo (changes_in i left right) k old mid at → k < length (differing left right) → over 0 (differing left right) places ≡ places
    → c ≡ change_at i left right (get_or places k 0) → Laid at (change_line c) mid new next → length (change_line c) ≤ 63 → 63 * (k + 1) ≤ length old
    → LaidTo (changes_in i left right) (k + 1) old new next
unfolding changes_in
change_next i left right places k {c = c} before h noted e line most room =
    laid_next (changes_in i left right) none c k before (omega (arith, changes-long i left right))
    (e ∙ ap (change_at i left right) (place_is places (differing left right) k noted h) ∙ sym (map_at (change_at i left right) (differing left right) k 0 none h))
    line most room

-- All of them.
pub laid_all : (i : ℕ) (left right : List ℕ) {k at : ℕ} {old new : List ℕ} → LaidTo (changes_in i left right) k old new at → length (differing left right) ≤ k
    → (at ≡ length (lines_of (changes_in i left right))) × (new ≡ over 0 (lines_of (changes_in i left right)) old)
laid_all i left right {k} {at} {old} {new} before h =
    let all : take k (changes_in i left right) ≡ changes_in i left right = take_all k (changes_in i left right) (omega (arith, changes-long i left right)) in (
      before.laid.ends ∙ ap (λ x. 0 + length (lines_of x)) all ∙ zero-add (length (lines_of (changes_in i left right))),
      before.laid.is ∙ ap (λ x. over 0 (lines_of x) old) all,
    )

-- ---- what the comparison of two blocks gives

module _ (left right places : List ℕ) (long : length left ≡ 1024) (also : length right ≡ 1024) (room : length places ≡ 1024) where
  lengths-done : file_answer (differing_tests left right places) ≡ Ok tt
  lengths-done =
      passed _ _ (eq-eqb (length left) 1024 long) ∙ passed _ _ (eq-eqb (length right) 1024 also) ∙ passed _ _ (eq-eqb (length places) 1024 room) ∙ none_left

  pub counted : {r : Result ℕ FileRefusal} {n : ℕ} → r ≡ compared_of left right places → n ≡ result_unwrap_or r 0 → n ≡ length (differing left right)
  counted {r} {n} e f = f ∙ ap (λ r. result_unwrap_or r 0) (e ∙ sym (some_differ left right places lengths-done {n = length (differing left right)} {y = over 0 (differing left right) places} refl refl).0)

  pub noted : {y : List ℕ} → y ≡ differing_leaves left right places → (over 0 (differing left right) y ≡ y) × (length (differing left right) ≤ length y)
  noted {y} e =
      let is : y ≡ over 0 (differing left right) places =
      e ∙ sym (some_differ left right places lengths-done {n = length (differing left right)} {y = over 0 (differing left right) places} refl refl).1 in (
        ap (over 0 (differing left right)) is ∙ over-same (differing left right) places ∙ sym is,
        omega (arith, ap length is, over-text (differing left right) places),
      )

-- ---- a body that is laid down

module _ (front : List ℕ) (i : ℕ) (body block : List ℕ) (long : length block ≡ 1024) where
  pub tests_same : {a : FileAnswer} → a ≡ file_answer (held_tests front i body block) → a ≡ file_answer (body_tests front i body)
  tests_same e = e ∙ passed _ _ (eq-eqb (length block) 1024 long)

  pub laid_as : {a : FileAnswer} {y : List ℕ} → a ≡ file_answer (held_tests front i body block) → number_of a ≡ 0 → y ≡ held_leaves front i body block
      → y ≡ block_of (entry_or front i) body
  unfolding held_leaves
  laid_as {a} {y} e z f = f ∙ ap (λ a. leaves a (block_of (entry_or front i) body) block) (sym e ∙ number-done a z)
