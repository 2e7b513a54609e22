-- The next turn of the machine by what was wished for last, where the output has room; and what a text that is laid
-- there leaves.
-- Assumes nothing.
use mathlib.Core.Bool.{Bool, true, false}
use mathlib.Core.List.{List}
use mathlib.Core.Path.{◌≡◌, refl, sym, ap, ◌∙◌}
use Prim.Native.Nat.{ℕ, ◌*◌, ◌≤◌, ◌<◌}
use native.Mathlib.Omega.{arith}
use lib.Dec.{eqb}
use lib.ListN.{length, length-append, length-take, length-drop}
use borrow.Author.Tests.{le-leb, lt-leb, lt-ltb, le-ltb, eq-eqb, ne_eqb}
use Rattle.std.specs.Prelude.{Ok}
use Rattle.lists.specs.Pick.{pick, both}
use Rattle.lists.specs.Tab.{over}
use Rattle.contents.specs.Answers.{FileAnswer, file_answer, number_of, is_done}
use Rattle.contents.specs.Contents.{count_or, entry_or, contents_tests}
use Rattle.bodies.specs.Bodies.{block_of}
use Rattle.bodywise.specs.declared.Body.{Body}
use Rattle.bodywise.specs.Cursor.{body_at, first_body, next_body}
use Rattle.bodywise.specs.Steps.{body_tests, range_tests, step_of}
use Rattle.compare.specs.Changes.{differing}
use Rattle.compare.specs.Ranges.{same_range}
use Rattle.wishes.specs.declared.Side.{Side}
use Rattle.wishes.specs.declared.Side.TheVariants.{Left, Right}
use Rattle.wishes.specs.declared.Part.TheVariants.{Front as OfFront, Body as OfBody}
use Rattle.wishes.specs.Runs.{Held, filled}
use Rattle.listing.specs.declared.Stage.{Stage}
use Rattle.listing.specs.declared.Stage.TheVariants.{Head, Front, Checking, Checked, Between, Again, End}
use Rattle.listing.specs.declared.State.{State}
use Rattle.listing.specs.Text.{last_lines}
use Rattle.listing.specs.Machine.{given, done_turn, turn_to, last_text, refusal, at_body_lem, ask_front, ask_body, body_wish, behind, go_to, checked_by, check_front, check_body, begin, blocks_in_both, go_on, ask_again, listed, still_taken, compared, both_laid, both_there, by_stage, next_of}

-- ---- a text that is laid

-- It stands in the output whole, which is no shorter than before.
pub over-text : (x l : List ℕ) → length x ≤ length (over 0 x l)
unfolding over
over-text x l = simp (length-append, length-take, length-drop) (omega arith)

pub over-room : (x l : List ℕ) → length l ≤ length (over 0 x l)
unfolding over
over-room x l = simp (length-append, length-take, length-drop) (omega arith)

-- ---- the files by their side

abbrev pub front_in : (side : Side) → Held → List ℕ
front_in Left h = h.left_front_lem
front_in Right h = h.right_front_lem

abbrev pub other : Side → Side
other Left = Right
other Right = Left

abbrev pub size_in : (side : Side) → State → ℕ
size_in Left s = s.left.size
size_in Right s = s.right.size

module _ (side : Side) (h : Held) (bytes : List ℕ) where
  pub read-front : front_in side (filled h side OfFront bytes) ≡ bytes
  read-front = go side
    where
      go : (side : Side) → front_in side (filled h side OfFront bytes) ≡ bytes
      go Left = refl
      go Right = refl

  pub read-other : front_in (other side) (filled h side OfFront bytes) ≡ front_in (other side) h
  read-other = go side
    where
      go : (side : Side) → front_in (other side) (filled h side OfFront bytes) ≡ front_in (other side) h
      go Left = refl
      go Right = refl

  pub kept_front : front_in side (filled h side OfBody bytes) ≡ front_in side h
  kept_front = go side
    where
      go : (side : Side) → front_in side (filled h side OfBody bytes) ≡ front_in side h
      go Left = refl
      go Right = refl

  pub kept_other : front_in (other side) (filled h side OfBody bytes) ≡ front_in (other side) h
  kept_other = go side
    where
      go : (side : Side) → front_in (other side) (filled h side OfBody bytes) ≡ front_in (other side) h
      go Left = refl
      go Right = refl

-- ---- the next turn

pub small : (s : State) (h : Held) (out : List ℕ) → length out < 65536 → next_of s h out ≡ given (done_turn s) out
unfolding next_of
small s h out short = ap (λ t. pick t (by_stage s.stage s h out) (given (done_turn s) out)) (lt-leb 65536 (length out) short)

pub at_stage : (g : Stage) (s : State) (h : Held) (out : List ℕ) → 65536 ≤ length out → s.stage ≡ g → next_of s h out ≡ by_stage g s h out
unfolding next_of
at_stage g s h out room e =
    ap (λ t. pick t (by_stage s.stage s h out) (given (done_turn s) out)) (le-leb 65536 (length out) room) ∙ ap (λ g. by_stage g s h out) e

module _ (s : State) (h : Held) (out : List ℕ) (room : 65536 ≤ length out) where
  pub at-end : s.stage ≡ End → next_of s h out ≡ given (done_turn s) out
  unfolding by_stage
  at-end e = at_stage End s h out room e

  pub at_checked : s.stage ≡ Checked → next_of s h out ≡ given (begin s h.left_front_lem h.right_front_lem) out
  unfolding by_stage
  at_checked e = at_stage Checked s h out room e

  pub at-between : s.stage ≡ Between → next_of s h out ≡ go_on s h.left_front_lem h.right_front_lem out
  unfolding by_stage
  at-between e = at_stage Between s h out room e

  pub at-left-again : s.stage ≡ Again Left → next_of s h out ≡ given (ask_again s Right s.right.at h.right_front_lem) out
  unfolding by_stage
  at-left-again e = at_stage (Again Left) s h out room e

  pub at-right-again : s.stage ≡ Again Right → next_of s h out ≡ both_there s h.left_front_lem h.right_front_lem h.left_body_lem h.right_body_lem out
  unfolding by_stage
  at-right-again e = at_stage (Again Right) s h out room e

  -- by the side: the first four bytes,
  pub at_head : (side : Side) → s.stage ≡ Head side → next_of s h out ≡ given (ask_front s side (front_in side h)) out
  unfolding by_stage
  at_head Left e = at_stage (Head Left) s h out room e
  at_head Right e = at_stage (Head Right) s h out room e

  -- the front,
  pub at_front : (side : Side) → s.stage ≡ Front side → next_of s h out ≡ check_front s side (size_in side s) (front_in side h) out
  unfolding by_stage
  at_front Left e = at_stage (Front Left) s h out room e
  at_front Right e = at_stage (Front Right) s h out room e

  -- and a body that was wished for.
  pub at_body : (side : Side) (b : Body) (bytes : List ℕ) →
      next_of (turn_to (at_body_lem s side b) (Checking side) (body_wish side b)).state (filled h side OfBody bytes) out
      ≡ checked_by (step_of (Ok tt) (front_in side h) b.number bytes) (turn_to (at_body_lem s side b) (Checking side) (body_wish side b)).state side
      (front_in side h) (next_body (front_in side h) (body_at (front_in side h) b.number b.at)) out
  unfolding by_stage check_body
  at_body Left b bytes = at_stage (Checking Left) (turn_to (at_body_lem s Left b) (Checking Left) (body_wish Left b)).state (filled h Left OfBody bytes) out room refl
  at_body Right b bytes = at_stage (Checking Right) (turn_to (at_body_lem s Right b) (Checking Right) (body_wish Right b)).state (filled h Right OfBody bytes) out room refl

-- ---- the check, by its tests

pub to_more : (s : State) (side : Side) (front : List ℕ) (b : Body) → b.number < count_or front → go_to s side front b ≡ ask_body s side b
unfolding go_to
to_more s side front b h = ap (λ t. pick t (ask_body s side b) (behind s side)) (lt-ltb b.number (count_or front) h)

pub to_over : (s : State) (side : Side) (front : List ℕ) (b : Body) → count_or front ≤ b.number → go_to s side front b ≡ behind s side
unfolding go_to
to_over s side front b h = ap (λ t. pick t (ask_body s side b) (behind s side)) (le-ltb b.number (count_or front) h)

-- A test that refuses, and one that does not.
pub not_done : {a x : FileAnswer} → a ≡ x → (number_of a ≡ 0 → ⊥) → is_done x ≡ false
not_done {a} e n = ap is_done (sym e) ∙ ne_eqb (number_of a) 0 n

pub is-done : {a x : FileAnswer} → a ≡ x → number_of a ≡ 0 → is_done x ≡ true
is-done {a} e z = ap is_done (sym e) ∙ eq-eqb (number_of a) 0 z

module _ (s : State) (side : Side) (size : ℕ) (front out : List ℕ) {a : FileAnswer} (e : a ≡ file_answer (contents_tests front size)) where
  pub front_bad : (number_of a ≡ 0 → ⊥) → check_front s side size front out ≡ refusal s side a out
  unfolding check_front
  front_bad n = simp (not_done e n) (ap (λ x. refusal s side x out) (sym e))

  pub front-good : number_of a ≡ 0 → check_front s side size front out ≡ given (go_to s side front (first_body front)) out
  unfolding check_front
  front-good z = simp (is-done e z)

module _ (s : State) (side : Side) (at : ℕ) (front body out : List ℕ) {a : FileAnswer} (e : a ≡ step_of (Ok tt) front s.number body) where
  pub body_bad : (number_of a ≡ 0 → ⊥) → check_body s side at front body out ≡ refusal s side a out
  unfolding check_body
  body_bad n = simp (not_done e n) (ap (λ x. refusal s side x out) (sym e))

  pub body-good : number_of a ≡ 0 → check_body s side at front body out ≡ given (go_to s side front (next_body front (body_at front s.number at))) out
  unfolding check_body
  body-good z = simp (is-done e z)

-- ---- the list, by its tests

module _ (s : State) (left_front_lem right_front_lem out : List ℕ) where
  pub on_more : s.number < blocks_in_both left_front_lem right_front_lem → go_on s left_front_lem right_front_lem out ≡ given (ask_again s Left s.left.at left_front_lem) out
  unfolding go_on
  on_more h = simp (lt-ltb s.number (blocks_in_both left_front_lem right_front_lem) h)

  pub on_over : blocks_in_both left_front_lem right_front_lem ≤ s.number
      → go_on s left_front_lem right_front_lem out ≡ last_text s (last_lines (count_or left_front_lem * 1024) (count_or right_front_lem * 1024) s.differences) out
  unfolding go_on
  on_over h = simp (le-ltb s.number (blocks_in_both left_front_lem right_front_lem) h)

  module _ (left_body_lem right_body_lem : List ℕ) where
    pub there_over : blocks_in_both left_front_lem right_front_lem ≤ s.number → both_there s left_front_lem right_front_lem left_body_lem right_body_lem out ≡ given (done_turn s) out
    unfolding both_there
    there_over h = simp (le-leb (blocks_in_both left_front_lem right_front_lem) s.number h)

    pub there_both : s.number < blocks_in_both left_front_lem right_front_lem
        → both_there s left_front_lem right_front_lem left_body_lem right_body_lem out ≡ both_laid s left_front_lem right_front_lem left_body_lem right_body_lem out
    unfolding both_there
    there_both h = simp (lt-leb (blocks_in_both left_front_lem right_front_lem) s.number h)

    -- the bodies
    pub left_laid_bad : {a : FileAnswer} → a ≡ file_answer (body_tests left_front_lem s.number left_body_lem) → (number_of a ≡ 0 → ⊥)
        → both_laid s left_front_lem right_front_lem left_body_lem right_body_lem out ≡ refusal s Left a out
    unfolding both_laid
    left_laid_bad {a} e n = simp (not_done e n) (ap (λ x. refusal s Left x out) (sym e))

    pub right_laid_bad : {a b : FileAnswer} → a ≡ file_answer (body_tests left_front_lem s.number left_body_lem) → number_of a ≡ 0
        → b ≡ file_answer (body_tests right_front_lem s.number right_body_lem) → (number_of b ≡ 0 → ⊥)
        → both_laid s left_front_lem right_front_lem left_body_lem right_body_lem out ≡ refusal s Right b out
    unfolding both_laid
    right_laid_bad {a} {b} e z f n = simp (is-done e z, not_done f n) (ap (λ x. refusal s Right x out) (sym f))

    pub laid_good : {a b : FileAnswer} → a ≡ file_answer (body_tests left_front_lem s.number left_body_lem) → number_of a ≡ 0
        → b ≡ file_answer (body_tests right_front_lem s.number right_body_lem) → number_of b ≡ 0
        → both_laid s left_front_lem right_front_lem left_body_lem right_body_lem out
        ≡ compared s left_front_lem right_front_lem (block_of (entry_or left_front_lem s.number) left_body_lem) (block_of (entry_or right_front_lem s.number) right_body_lem) out
    unfolding both_laid
    laid_good {a} {b} e z f w = simp (is-done e z, is-done f w)

  -- the blocks
  module _ (left right : List ℕ) where
    pub same_blocks : length (differing left right) ≡ 0 → same_range left_front_lem right_front_lem s.number ≡ true
        → compared s left_front_lem right_front_lem left right out ≡ listed s left_front_lem right_front_lem left right out
    unfolding compared
    same_blocks z e = simp (eq-eqb (length (differing left right)) 0 z, e)

    -- the ranges are looked at where this test fails
    abbrev pub alike : Bool
    alike = both (eqb (length (differing left right)) 0) (same_range left_front_lem right_front_lem s.number)

    pub some_differ : (length (differing left right) ≡ 0 → ⊥) → alike ≡ false
    some_differ n = ap (λ t. both t (same_range left_front_lem right_front_lem s.number)) (ne_eqb (length (differing left right)) 0 n)

    pub other-range : same_range left_front_lem right_front_lem s.number ≡ false → alike ≡ false
    other-range e = ap (both (eqb (length (differing left right)) 0)) e ∙ go (eqb (length (differing left right)) 0)
      where
        go : (t : Bool) → both t false ≡ false
        go true = refl
        go false = refl

    alike-listed : alike ≡ true → compared s left_front_lem right_front_lem left right out ≡ listed s left_front_lem right_front_lem left right out
    unfolding compared
    alike-listed e = simp e

    module _ (apart : alike ≡ false) where
      apart-is : compared s left_front_lem right_front_lem left right out
          ≡ still_taken (file_answer (range_tests left_front_lem s.number left)) s Left out
          (still_taken (file_answer (range_tests right_front_lem s.number right)) s Right out (listed s left_front_lem right_front_lem left right out))
      unfolding compared
      apart-is = simp apart

      pub left-range_bad : {a : FileAnswer} → a ≡ file_answer (range_tests left_front_lem s.number left) → (number_of a ≡ 0 → ⊥)
          → compared s left_front_lem right_front_lem left right out ≡ refusal s Left a out
      left-range_bad {a} e n =
          apart-is ∙ simp (not_done e n) (ap (λ x. refusal s Left x out) (sym e))

      pub right-range_bad : {a b : FileAnswer} → a ≡ file_answer (range_tests left_front_lem s.number left) → number_of a ≡ 0
          → b ≡ file_answer (range_tests right_front_lem s.number right) → (number_of b ≡ 0 → ⊥) → compared s left_front_lem right_front_lem left right out ≡ refusal s Right b out
      right-range_bad {a} {b} e z f n =
          apart-is ∙ simp (is-done e z, not_done f n) (ap (λ x. refusal s Right x out) (sym f))

      pub ranges_good : {a b : FileAnswer} → a ≡ file_answer (range_tests left_front_lem s.number left) → number_of a ≡ 0
          → b ≡ file_answer (range_tests right_front_lem s.number right) → number_of b ≡ 0
          → compared s left_front_lem right_front_lem left right out ≡ listed s left_front_lem right_front_lem left right out
      ranges_good {a} {b} e z f w =
          apart-is ∙ simp (is-done e z, is-done f w)

    -- Where both ranges are right, the rows are listed in either case.
    pub compared-taken : file_answer (range_tests left_front_lem s.number left) ≡ Ok tt → file_answer (range_tests right_front_lem s.number right) ≡ Ok tt
        → compared s left_front_lem right_front_lem left right out ≡ listed s left_front_lem right_front_lem left right out
    compared-taken e f = go alike refl
      where
        go : (t : Bool) → alike ≡ t → compared s left_front_lem right_front_lem left right out ≡ listed s left_front_lem right_front_lem left right out
        go true a = alike-listed a
        go false a = ranges_good a refl (ap number_of e) refl (ap number_of f)
