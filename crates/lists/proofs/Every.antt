-- A rule that holds at every number below n, shown by one test that is computed number by number.
-- Assumes nothing.
use mathlib.Core.Path.{◌≡◌, ◌∙◌, subst, sym}
use mathlib.Core.Bool.{Bool, true, false}
use Prim.Native.Nat.{ℕ, zero, suc, ◌+◌, ◌<◌}
use native.Mathlib.Nat.{add-zero, zero-add, add-suc, suc-add, le_of_suc-le-suc, not-suc-le-zero}
use lib.Dec.{T, eqb, ltb, eqb→eq, ltb→lt}
use Rattle.lists.specs.Pick.{both}

both_left : (a b : Bool) → T (both a b) → T a
both_left true b t = tt
both_left false b t = t

both_right : (a b : Bool) → T (both a b) → T b
both_right true b t = t
both_right false b t = absurd t

-- the test passes at s, s + 1, .., n numbers in all
abbrev pub every_from : ℕ → ℕ → (ℕ → Bool) → Bool
every_from s zero f = true
every_from s (suc n) f = both (f s) (every_from (suc s) n f)

from : (s n : ℕ) (f : ℕ → Bool) → T (every_from s n f) → (k : ℕ) → k < n → T (f (s + k))
from s zero f t k h = absurd (not-suc-le-zero h)
from s (suc n) f t zero h = subst (λ (m : ℕ). T (f m)) (sym (add-zero s)) (both_left (f s) (every_from (suc s) n f) t)
from s (suc n) f t (suc k) h =
    subst (λ (m : ℕ). T (f m)) (suc-add s k ∙ sym (add-suc s k))
    (from (suc s) n f (both_right (f s) (every_from (suc s) n f) t) k (le_of_suc-le-suc h))

-- the test passes at each number below n
abbrev pub every : ℕ → (ℕ → Bool) → Bool
every n f = every_from 0 n f

pub at : (n : ℕ) (f : ℕ → Bool) → T (every n f) → (k : ℕ) → k < n → T (f k)
at n f t k h = subst (λ (m : ℕ). T (f m)) (zero-add k) (from 0 n f t k h)

-- f and g are equal at each number below n; f is below g there
abbrev pub Same : ℕ → (ℕ → ℕ) → (ℕ → ℕ) → Type 0
Same n f g = T (every n (λ k. eqb (f k) (g k)))

abbrev pub Below : ℕ → (ℕ → ℕ) → (ℕ → ℕ) → Type 0
Below n f g = T (every n (λ k. ltb (f k) (g k)))

pub same : (n : ℕ) (f g : ℕ → ℕ) → Same n f g → (k : ℕ) → k < n → f k ≡ g k
same n f g t k h = eqb→eq (f k) (g k) (at n (λ k. eqb (f k) (g k)) t k h)

pub below : (n : ℕ) (f g : ℕ → ℕ) → Below n f g → (k : ℕ) → k < n → f k < g k
below n f g t k h = ltb→lt (f k) (g k) (at n (λ k. ltb (f k) (g k)) t k h)
