-- The tests of two entries and of two lists say that they are the same.
-- Assumes nothing.
use mathlib.Core.Bool.{Bool, true, false}
use mathlib.Core.List.{List, [], ◌∷◌}
use mathlib.Core.Logic.{◌↔◌}
use mathlib.Core.Path.{◌≡◌, refl, sym, ap, ap₂, ◌∙◌}
use Prim.Native.Nat.{ℕ}
use lib.Dec.{eqb}
use borrow.Author.Tests.{eq-eqb, eqb-true}
use Rattle.lists.specs.Pick.{both}
use Rattle.lists.proofs.Tests.{both_true, not_then, false-true}
use Rattle.contents.specs.declared.Entry.{Entry}
use Rattle.canonical.specs.Canonical.{is_same_entry, is_same_list}

pub entry-same : (a b : Entry) → (is_same_entry a b ≡ true) ↔ (a ≡ b)
entry-same a b = (
  λ e.
      let t0 = both_true _ _ e in
      let t1 = both_true _ _ t0.1 in
      let t2 = both_true _ _ t1.1 in
      let t3 = both_true _ _ t2.1 in
      λ j. record {
        kind = eqb-true a.kind b.kind t0.0 j;
        width = eqb-true a.width b.width t1.0 j;
        zero = eqb-true a.zero b.zero t2.0 j;
        length = eqb-true a.length b.length t3.0 j;
        reference = eqb-true a.reference b.reference t3.1 j;
      },
  λ e.
      ap₂ both (eq-eqb a.kind b.kind (ap (λ e. e.kind) e))
      (ap₂ both (eq-eqb a.width b.width (ap (λ e. e.width) e))
      (ap₂ both (eq-eqb a.zero b.zero (ap (λ e. e.zero) e))
      (ap₂ both (eq-eqb a.length b.length (ap (λ e. e.length) e)) (eq-eqb a.reference b.reference (ap (λ e. e.reference) e))))),
)

same_self : (a : List ℕ) → is_same_list a a ≡ true
unfolding is_same_list
same_self [] = refl
same_self (x ∷ a) = ap₂ both (eq-eqb x x refl) (same_self a)

same-list : (a b : List ℕ) → is_same_list a b ≡ true → a ≡ b
unfolding is_same_list
same-list [] [] e = refl
same-list [] (y ∷ b) e = absurd (false-true e)
same-list (x ∷ a) [] e = absurd (false-true e)
same-list (x ∷ a) (y ∷ b) e = let t = both_true (eqb x y) (is_same_list a b) e in ap₂ ◌∷◌ (eqb-true x y t.0) (same-list a b t.1)

pub list_same : (a b : List ℕ) → (is_same_list a b ≡ true) ↔ (a ≡ b)
list_same a b = (same-list a b, λ e. ap (is_same_list a) (sym e) ∙ same_self a)

-- An answer that is yes exactly where two lists are the same is that of this test.
pub same_test : (t : Bool) (a b : List ℕ) → (t ≡ true → a ≡ b) × (a ≡ b → t ≡ true) → t ≡ is_same_list a b
same_test true a b e = sym ((list_same a b).1 (e.0 refl))
same_test false a b e = sym (not_then (is_same_list a b) (λ s. false-true (e.1 (same-list a b s))))
