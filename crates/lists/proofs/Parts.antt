-- The laws of a list that is cut into parts, and of lists that stand one after another.
-- Assumes nothing.
use mathlib.Core.List.{List, [], ◌++◌, append-nil, append_assoc}
use mathlib.Core.Path.{◌≡◌, refl, sym, ap, ap₂, ◌∙◌, subst}
use Prim.Native.Nat.{ℕ, zero, suc, ◌+◌, ◌*◌, ◌^◌, ◌≤◌, ◌<◌}
use native.Mathlib.Decide.{dec_le}
use native.Mathlib.Nat.{suc-mul, not-suc-le-zero, zero-mul}
use native.Mathlib.Omega.{arith}
use lib.ListN.{length, get_or, drop, length-append, length-take, length-drop}
use lib.Seq.{get_or-take, get_or-drop}
use Rattle.lists.specs.Numbers.{Elements}
use Rattle.lists.specs.Parts.{cut, joined}
use Rattle.lists.proofs.Digits.{elements-of}

module _ {A : Type 0} (n : ℕ) (l : List A) (b : ℕ) where
  -- A part that is there has n entries,
  pub length_cut : b * n + n ≤ length l → length (cut n l b) ≡ n
  unfolding cut
  length_cut h = simp (length-take, length-drop) (omega arith)

  -- and these.
  pub get_d_cut : (i : ℕ) (d : A) → i < n → get_or (cut n l b) i d ≡ get_or l (b * n + i) d
  unfolding cut
  get_d_cut i d h = get_or-take n (drop (b * n) l) i d h ∙ get_or-drop (b * n) l i d

-- Lists of one length have so many entries together.
pub length-joined : {A : Type 0} (k n : ℕ) (f : ℕ → List A) → ((b : ℕ) → b < n → length (f b) ≡ k) → length (joined n f) ≡ n * k
unfolding joined
length-joined k zero f all = sym (zero-mul k)
length-joined k (suc n) f all =
    length-append (joined n f) (f n)
    ∙ ap₂ ◌+◌ (length-joined k n f (λ b h. all b (omega arith))) (all n (omega arith))
    ∙ sym (suc-mul n k)

-- Before list i stand those in front of it, and behind it some more.
pub joined_at : {A : Type 0} (n : ℕ) (f : ℕ → List A) (i : ℕ) → i < n → (rest : List A) × (joined n f ≡ joined i f ++ (f i ++ rest))
unfolding joined
joined_at zero f i h = absurd (not-suc-le-zero h)
joined_at (suc n) f i h =
    elim (dec_le n i) [
      | yes le ↦ let e : i ≡ n = omega arith in ([], ap (λ k. joined k f ++ f k) (sym e) ∙ ap (λ x. joined i f ++ x) (sym (append-nil (f i))))
      | no lt ↦
          let r = joined_at n f i (omega arith) in (
            r.0 ++ f n,
            ap (λ x. x ++ f n) r.1
                ∙ append_assoc (joined i f) (f i ++ r.0) (f n)
                ∙ ap (λ x. joined i f ++ x) (append_assoc (f i) r.0 (f n)),
          )
    ]

-- The numbers of a part are numbers of the list.
pub cut-elements : (t n : ℕ) (l : List ℕ) (b : ℕ) → Elements t l → Elements t (cut n l b)
unfolding cut
cut-elements t n l b fits =
    elements-of t (length (cut n l b)) (cut n l b) refl
    (λ i h. subst (λ k. k < 2 ^ t) (sym (get_d_cut n l b i 0 (omega (arith, cut_most)))) (fits (b * n + i)))
  where
    cut_most : length (cut n l b) ≤ n
    cut_most = simp length-take (omega arith)
