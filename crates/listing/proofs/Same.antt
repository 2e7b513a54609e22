-- What the loop over two bodies keeps, that two entries with the same fields are one, and what is listed of a block
-- that is the same in both files: nothing.
-- Assumes nothing.
use mathlib.Core.Bool.{Bool, true, false}
use mathlib.Core.List.{List, [], ◌∷◌, map}
use mathlib.Core.Path.{◌≡◌, refl, sym, ap, ap₂, ◌∙◌}
use Prim.Native.Nat.{ℕ, ◌+◌, ◌≤◌, ◌<◌, min}
use native.Mathlib.Decide.{dec_le}
use native.Mathlib.Omega.{arith}
use lib.Bits.{bit_or, bit_xor, or_add_and, and_le_l, and_le_r, xor_add_and}
use lib.Dec.{eqb, leb}
use lib.ListN.{length, get_or}
use lib.Seq.{ext_get_or}
use borrow.Author.Tests.{eq-eqb, eqb-true, eqb-false}
use Rattle.std.specs.Prelude.{Err}
use Rattle.lists.specs.Pick.{pick, both}
use Rattle.lists.specs.Tab.{over}
use Rattle.lists.proofs.Overs.{over_nothing}
use Rattle.lists.proofs.Tests.{both_true}
use Rattle.lists.proofs.Failing.{failing_none}
use Rattle.places.specs.Sizes.{largest_u64}
use Rattle.contents.specs.declared.Entry.{Entry}
use Rattle.contents.specs.declared.FileRefusal.TheVariants.{Cut, BadEntry, Over, Runs}
use Rattle.contents.specs.Answers.{FileAnswer, FileTest, file_answer, number_of, is_done}
use Rattle.contents.specs.Contents.{entry_or, has_right_entry}
use Rattle.bodies.specs.Bodies.{block_of, has_good_runs}
use Rattle.bodywise.specs.Steps.{body_tests}
use Rattle.compare.specs.Changes.{differing, is_same_at, change_at, changes_in}
use Rattle.wishes.specs.declared.Side.TheVariants.{Left}
use Rattle.listing.specs.declared.State.{State}
use Rattle.listing.specs.InnerSame.{SameBody, same_laid}
use Rattle.listing.specs.Machine.{given, refusal, between, past, listed, compared, both_laid}
use Rattle.listing.specs.Text.{lines_of}
use Rattle.listing.proofs.Stages.{not_done, is-done, left_laid_bad, laid_good, same_blocks}

-- Where nothing is joined yet, the bytes below i are the same.
pub record Agree (a b : List ℕ) (any i : ℕ) : Type 0 where
  pub within : i ≤ length a
  pub none : any ≡ 0 → (k : ℕ) → k < i → get_or a k 0 ≡ get_or b k 0

pub agree_none : (a b : List ℕ) → Agree a b 0 0
agree_none a b = record { within = omega arith; none = λ _ k h. absurd (omega arith) }

pub agree_next : {a b : List ℕ} {any i : ℕ} (next : ℕ) → Agree a b any i → i < length a → next ≡ bit_or any (bit_xor (get_or a i 0) (get_or b i 0))
    → Agree a b next (i + 1)
agree_next {a} {b} {any} {i} next g h e = record {
  within = omega arith;
  none = λ z k below.
      let x = bit_xor (get_or a i 0) (get_or b i 0) in
      let joined : bit_or any x ≡ 0 = sym e ∙ z in
      let old : any ≡ 0 = omega (arith, or_add_and any x, and_le_r any x) in
      let apart : x ≡ 0 = omega (arith, or_add_and any x, and_le_l any x) in
      elim (dec_le i k) [
        | yes last ↦
            let q : k ≡ i = omega arith in
            ap (λ k. get_or a k 0) q
            ∙ omega (arith, xor_add_and (get_or a i 0) (get_or b i 0), and_le_l (get_or a i 0) (get_or b i 0), and_le_r (get_or a i 0) (get_or b i 0))
            ∙ ap (λ k. get_or b k 0) (sym q)
        | no first ↦ g.none old k (omega arith)
      ];
}

pub agree_all : {a b : List ℕ} {any i : ℕ} → Agree a b any i → length a ≤ i → length a ≡ length b → eqb any 0 ≡ true → a ≡ b
agree_all {a} {b} {any} {i} g h long e = ext_get_or 0 a b long (λ k below. g.none (eqb-true any 0 e) k (omega arith))

pub entry-same : (a b : Entry)
    → both (eqb a.kind b.kind) (both (eqb a.width b.width) (both (eqb a.zero b.zero) (both (eqb a.length b.length) (eqb a.reference b.reference))))
    ≡ true → a ≡ b
entry-same a b e =
    let t0 = both_true _ _ e in
    let t1 = both_true _ _ t0.1 in
    let t2 = both_true _ _ t1.1 in
    let t3 = both_true _ _ t2.1 in
    λ j. record {
      kind = eqb-true a.kind b.kind t0.0 j;
      width = eqb-true a.width b.width t1.0 j;
      zero = eqb-true a.zero b.zero t2.0 j;
      length = eqb-true a.length b.length t3.0 j;
      reference = eqb-true a.reference b.reference t3.1 j;
    }

-- ---- a block that is the same in both files

none_differ : (l : List ℕ) → differing l l ≡ []
unfolding differing
none_differ l = failing_none 1024 (is_same_at l l) (λ k h. eq-eqb (get_or l k 0) (get_or l k 0) refl)

none_many : (l : List ℕ) → length (differing l l) ≡ 0
none_many l = ap length (none_differ l)

-- what is listed of it
none-listed : (s : State) (left_front_lem right_front_lem block out : List ℕ)
    → listed s left_front_lem right_front_lem block block out ≡ given (between (past s left_front_lem right_front_lem) (min (s.differences + 0) largest_u64) 0) out
unfolding listed changes_in lines_of
none-listed s left_front_lem right_front_lem block out =
    ap
    (λ d. let text = lines_of (map (change_at s.number block block) d) in
    given (between (past s left_front_lem right_front_lem) (min (s.differences + length d) largest_u64) (length text)) (over 0 text out))
    (none_differ block)
    ∙ ap (given (between (past s left_front_lem right_front_lem) (min (s.differences + 0) largest_u64) 0)) (over_nothing 0 out)

-- the tests of a body, by what its file says of it
abbrev tests_for : (i : ℕ) (right : Bool) (e : Entry) (body : List ℕ) → List FileTest
tests_for i right e body =
    (right, Err (BadEntry i))
    ∷ (leb e.length (length body), Err Cut)
    ∷ (leb (length body) e.length, Err Over)
    ∷ (has_good_runs e body, Err (Runs i))
    ∷ []

-- The right body is answered as the left one, and stands for the same block: the list goes behind it.
pub body_same : (s : State) (left_front_lem right_front_lem out left_body_lem right_body_lem : List ℕ) → SameBody s.number left_front_lem right_front_lem left_body_lem right_body_lem
    → both_laid s left_front_lem right_front_lem left_body_lem right_body_lem out ≡ same_laid s left_front_lem right_front_lem left_body_lem out
body_same s left_front_lem right_front_lem out left_body_lem right_body_lem same = go (is_done answer) refl
  where
    i : ℕ
    i = s.number

    block : List ℕ
    block = block_of (entry_or left_front_lem i) left_body_lem

    answer : FileAnswer
    answer = file_answer (body_tests left_front_lem i left_body_lem)

    tests : answer ≡ file_answer (body_tests right_front_lem i right_body_lem)
    tests =
        ap₂ (λ h e. file_answer (tests_for i h e left_body_lem)) (same.left_right ∙ sym same.right_right) same.entry
        ∙ ap (λ b. file_answer (tests_for i (has_right_entry right_front_lem i) (entry_or right_front_lem i) b)) same.body

    go : (d : Bool) → is_done answer ≡ d → both_laid s left_front_lem right_front_lem left_body_lem right_body_lem out ≡ same_laid s left_front_lem right_front_lem left_body_lem out
    go true e =
        laid_good s left_front_lem right_front_lem out left_body_lem right_body_lem refl (eqb-true (number_of answer) 0 e) tests (eqb-true (number_of answer) 0 e)
        ∙ ap (λ r. compared s left_front_lem right_front_lem block r out) (sym (ap₂ block_of same.entry same.body))
        ∙ same_blocks s left_front_lem right_front_lem out block block (none_many block) same.range
        ∙ none-listed s left_front_lem right_front_lem block out
        ∙ sym (ap (λ d. pick d (given (between (past s left_front_lem right_front_lem) (min (s.differences + 0) largest_u64) 0) out) (refusal s Left answer out)) e)
    go false e =
        left_laid_bad s left_front_lem right_front_lem out left_body_lem right_body_lem refl (eqb-false (number_of answer) 0 e)
        ∙ sym (ap (λ d. pick d (given (between (past s left_front_lem right_front_lem) (min (s.differences + 0) largest_u64) 0) out) (refusal s Left answer out)) e)

-- what is done with it, by the answer to its body
module _ (s : State) (left_front_lem right_front_lem left_body_lem out : List ℕ) {a : FileAnswer} (e : a ≡ file_answer (body_tests left_front_lem s.number left_body_lem)) where
  pub same_bad : (number_of a ≡ 0 → ⊥) → same_laid s left_front_lem right_front_lem left_body_lem out ≡ refusal s Left a out
  same_bad n = simp (not_done e n) (ap (λ x. refusal s Left x out) (sym e))

  pub same_good : number_of a ≡ 0 → same_laid s left_front_lem right_front_lem left_body_lem out ≡ given (between (past s left_front_lem right_front_lem) (min (s.differences + 0) largest_u64) 0) out
  same_good z = simp (is-done e z)
