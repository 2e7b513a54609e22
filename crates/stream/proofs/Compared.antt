-- What a comparison has to show where it answers: it is true exactly where both lists are long enough and agree.
-- Assumes nothing.
use Rattle.std.proofs.Common.{◌≡◌, ℕ, ◌*◌, ◌<◌, ◌≤◌, Bool, true, false, List, length, get_or, take, sym, refl, ap, ◌∙◌, arith, length-take-le, get_or-take, ext_get_or}
use mathlib.Core.Bool.{false≢true}
use Rattle.lists.proofs.Tabs.{get_d_tab}
use Rattle.little.specs.Little.{little, numbers_of}
use Rattle.stream.specs.Expected.{Agree}

-- The answer is yes exactly where the one list is long enough, the other too, and they agree.
abbrev pub Exactly : (answer : Bool) (long long' agree : Type 0) → Type 0
Exactly answer long long' agree = (answer ≡ true → long × long' × agree) × (long → long' → agree → answer ≡ true)

module _ {long long' agree : Type 0} where
  -- a no, where these three cannot all be
  pub no : (long → long' → agree → ⊥) → Exactly false long long' agree
  no not-all = (λ h. absurd (false≢true h), λ p q a. absurd (not-all p q a))

  -- a yes, where they all are
  pub yes : long → long' → agree → Exactly true long long' agree
  yes p q a = (λ h. (p, q, a), λ p q a. refl)

-- Two lists have the same front exactly where they agree there.
module _ (n : ℕ) (x y : List ℕ) (long : n ≤ length x) (long' : n ≤ length y) where
  pub front_agrees : take n x ≡ take n y → Agree n x y
  front_agrees e k h = sym (get_or-take n x k 0 h) ∙ ap (λ l. get_or l k 0) e ∙ get_or-take n y k 0 h

  pub agrees_front : Agree n x y → take n x ≡ take n y
  agrees_front all =
      ext_get_or 0 (take n x) (take n y) (length-take-le n x long ∙ sym (length-take-le n y long'))
      (λ k h. let h : k < n = omega (arith, length-take-le n x long) in get_or-take n x k 0 h ∙ all k h ∙ sym (get_or-take n y k 0 h))

-- one of the numbers of so many bytes each that the bytes hold
pub number_at : (size : ℕ) (bytes : List ℕ) (n k : ℕ) → k < n → get_or (numbers_of size bytes n) k 0 ≡ little bytes (k * size) size
unfolding numbers_of
number_at size bytes n k h = get_d_tab n (λ i. little bytes (i * size) size) k 0 h
