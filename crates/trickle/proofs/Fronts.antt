-- The laws of fronts of lists: a front that is shorter or as long as the list, a front of two lists, and what stands at
-- the front of a list that was written over.
-- Assumes nothing.
use mathlib.Core.List.{List, ◌++◌, append-nil}
use mathlib.Core.Path.{◌≡◌, sym, ap, ◌∙◌}
use Prim.Native.Nat.{ℕ, ◌+◌, ◌-◌, ◌≤◌, min}
use native.Mathlib.Decide.{dec_le}
use native.Mathlib.Omega.{arith}
use lib.ListN.{length, get_or, take, drop, length-append, length-take}
use lib.Seq.{get_or-take, length-take-le, take_all, take_at, take-append-le, take-append-add}
use Rattle.lists.specs.Tab.{tab, over}
use Rattle.lists.proofs.Tabs.{is-tab}

-- a front of a list is a list by its rule
pub take-tab : (l : List ℕ) (n : ℕ) → n ≤ length l → take n l ≡ tab n (λ i. get_or l i 0)
take-tab l n h = is-tab (take n l) n (λ i. get_or l i 0) 0 (length-take-le n l h) (λ i b. get_or-take n l i 0 b)

-- The first k entries are no more than the list has.
pub front-min : {A : Type 0} (k : ℕ) (l : List A) → take (min (length l) k) l ≡ take k l
front-min k l =
    elim (dec_le (length l) k) [
      | yes h ↦
          let e : min (length l) k ≡ length l = omega arith in
          rw e (take_all (length l) l (omega arith) ∙ sym (take_all k l h))
      | no h ↦ let e : min (length l) k ≡ k = omega arith in rw e
    ]

-- The first k entries of two lists are those of the first, and as many of the second as are still lacking.
pub front-both : {A : Type 0} (k : ℕ) (a b : List A) → take k (a ++ b) ≡ take k a ++ take (k - length a) b
front-both k a b =
    elim (dec_le (length a) k) [
      | yes h ↦
          let e : k ≡ length a + (k - length a) = omega arith in
          ap (λ n. take n (a ++ b)) e ∙ take-append-add a b (k - length a) ∙ ap (λ l. l ++ take (k - length a) b) (sym (take_all k a h))
      | no h ↦
          let e : k - length a ≡ 0 = omega arith in
          let g : k ≤ length a = omega arith in
          take-append-le k a b g ∙ sym (append-nil (take k a)) ∙ ap (λ n. take k a ++ take n b) (sym e)
    ]

-- What stands before a place and what is written there are the front of a list that was written over.
pub front-over : {A : Type 0} (p n : ℕ) (x l : List A) → length x ≡ n → p + n ≤ length l → take (p + n) (over p x l) ≡ take p l ++ x
unfolding over
front-over p n x l e h = take_at (take p l ++ x) (drop (p + length x) l) (p + n) (simp (length-append, length-take) (omega arith))

-- What stands before the place is as it was.
pub before-over : {A : Type 0} (p : ℕ) (x l : List A) → p ≤ length l → take p (over p x l) ≡ take p l
unfolding over
before-over p x l h =
    let long : length (take p l) ≡ p = length-take-le p l h in
    take-append-le p (take p l ++ x) (drop (p + length x) l) (omega (arith, length-append (take p l) x, long)) ∙ take_at (take p l) x p long
