-- What wrapping subtraction gives.
-- Assumes nothing.
use Rattle.std.proofs.Common.{◌≡◌, ℕ, ◌+◌, ◌-◌, ◌%◌, ◌<◌, sym, ap, ◌∙◌, mod-eq_of_lt, arith}
use native.Mathlib.Nat.{mod-add-mod, add-mod_right}

-- the number r below n that b, added modulo n, takes back to a, is a plus n minus b, modulo n
pub sub_wraps : (n a b r : ℕ) → b < n → r < n → (r + b) % n ≡ a → r ≡ (a + (n - b)) % n
sub_wraps n a b r hb hr e =
    let h : r + b + (n - b) ≡ r + n = omega arith in
    sym (ap (λ k. (k + (n - b)) % n) (sym e) ∙ mod-add-mod (r + b) n (n - b) ∙ ap (λ k. k % n) h ∙ add-mod_right r n ∙ mod-eq_of_lt hr)
