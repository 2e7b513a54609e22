-- The exchange of bits under a mask, and the three exchanges of the 8 by 8 step as moves of 64 bits.
-- Assumes nothing.
use mathlib.Core.Path.{◌≡◌, refl, sym, ap, ap₂, ◌∙◌}
use Prim.Native.Nat.{ℕ, zero, suc, ◌+◌, ◌-◌, ◌*◌, ◌/◌, ◌%◌, ◌^◌, ◌<◌}
use native.Mathlib.Decide.{dec_le}
use native.Mathlib.Nat.{not-suc-le-zero, le_of_suc-le-suc, lt_of_le_of_lt, mod-lt, mod-eq_of_lt}
use native.Mathlib.Omega.{arith}
use lib.Bits.{bit_and, bit_xor, and_mask, and_le_l, and_zero_r, xor_zero_r, xor_comm, xor_lt}
use lib.Pow.{pow_pos, shr_le}
use Rattle.lists.proofs.Every.{Same, Below, same, below}
use Rattle.lists.proofs.Digits.{number_ext}
use Rattle.bits.specs.InnerSteps.{crossed, exchange_of, turn_of}
use Rattle.bits.proofs.Numbers.{bit-lt, bit_mod, bit-shr, bit_shl, bit_shl_below, bit_and_lem, bit_xor_lem, is_number, bit-of-number}
use Rattle.bits.specs.Bits.{bit_of}

-- Of two bits, the first cancels itself.
cancel : (a b : ℕ) → a < 2 → b < 2 → bit_xor a (bit_xor a b) ≡ b
cancel zero b ha hb = refl
cancel (suc zero) zero ha hb = refl
cancel (suc zero) (suc zero) ha hb = refl
cancel (suc zero) (suc (suc b)) ha hb = absurd (not-suc-le-zero (le_of_suc-le-suc (le_of_suc-le-suc hb)))
cancel (suc (suc a)) b ha hb = absurd (not-suc-le-zero (le_of_suc-le-suc (le_of_suc-le-suc ha)))

-- A mask of one bit keeps whether two bits differ.
kept : (a b : ℕ) → a < 2 → b < 2 → bit_and (bit_xor a b) 1 ≡ bit_xor a b
kept a b ha hb = and_mask (bit_xor a b) 1 ∙ mod-eq_of_lt (xor_lt 1 a b ha hb)

-- The bits under the mask that differ from those k places above them, and the number with these exchanged.
abbrev pub crossing : ℕ → ℕ → ℕ → ℕ
crossing x m k = bit_and (bit_xor x (x / 2 ^ k)) m

abbrev pub exchanged : ℕ → ℕ → ℕ → ℕ
exchanged x m k = bit_xor (bit_xor x (crossing x m k)) (crossing x m k * 2 ^ k % 2 ^ 64)

bit_crossing : (x m k p : ℕ) → bit_of (crossing x m k) p ≡ bit_and (bit_xor (bit_of x p) (bit_of x (k + p))) (bit_of m p)
bit_crossing x m k p =
    bit_and_lem (bit_xor x (x / 2 ^ k)) m p
    ∙ ap (λ n. bit_and n (bit_of m p)) (bit_xor_lem x (x / 2 ^ k) p ∙ ap (bit_xor (bit_of x p)) (bit-shr x k p))

-- The same bits stand k places above, where the mask that is moved there has them.
bit_crossing_up : (x m k p : ℕ) → bit_of (crossing x m k * 2 ^ k) p ≡ bit_and (bit_xor (bit_of x (p - k)) (bit_of x p)) (bit_of (m * 2 ^ k) p)
bit_crossing_up x m k p =
    elim (dec_le k p) [
      | yes h ↦ let e : k + (p - k) ≡ p = omega arith in
          ap (bit_of (crossing x m k * 2 ^ k)) (sym e)
          ∙ bit_shl (crossing x m k) k (p - k)
          ∙ bit_crossing x m k (p - k)
          ∙ ap₂ (λ n d. bit_and (bit_xor (bit_of x (p - k)) (bit_of x n)) d) e (sym (bit_shl m k (p - k)) ∙ ap (bit_of (m * 2 ^ k)) e)
      | no n ↦ rw (bit_shl_below (crossing x m k) k p (omega arith), bit_shl_below m k p (omega arith))
          (sym (and_zero_r (bit_xor (bit_of x (p - k)) (bit_of x p))))
    ]

-- The mask's bit u at p and its bit d at k places below decide where bit p comes from.
cases : (x k p u d : ℕ) → u + d < 2
    → bit_xor (bit_xor (bit_of x p) (bit_and (bit_xor (bit_of x p) (bit_of x (k + p))) u)) (bit_and (bit_xor (bit_of x (p - k)) (bit_of x p)) d)
    ≡ bit_of x (p + u * k - d * k)
cases x k p zero zero h = simp (and_zero_r, xor_zero_r) (ap (bit_of x) (omega arith))
cases x k p zero (suc zero) h =
    let a = bit_of x p in
    let c = bit_of x (p - k) in
    rw (and_zero_r, xor_zero_r, kept c a (bit-lt x (p - k)) (bit-lt x p), xor_comm c a, cancel a c (bit-lt x p) (bit-lt x (p - k)))
    (ap (bit_of x) (omega arith))
cases x k p zero (suc (suc d)) h = absurd (omega arith)
cases x k p (suc zero) zero h =
    let a = bit_of x p in
    let b = bit_of x (k + p) in
    rw (kept a b (bit-lt x p) (bit-lt x (k + p)), cancel a b (bit-lt x p) (bit-lt x (k + p)), and_zero_r, xor_zero_r)
    (ap (bit_of x) (omega arith))
cases x k p (suc zero) (suc d) h = absurd (omega arith)
cases x k p (suc (suc u)) d h = absurd (omega arith)

-- The exchange is a move of bits, where no bit is both under the mask and k places above one that is.
pub exchange-moves : (x m k : ℕ) → x < 2 ^ 64 → ((p : ℕ) → p < 64 → bit_of m p + bit_of (m * 2 ^ k) p < 2) → exchanged x m k ≡ exchange_of x m k
unfolding exchange_of crossed
exchange-moves x m k h apart =
    let t = crossing x m k in
    let small : t < 2 ^ 64 =
    lt_of_le_of_lt (and_le_l (bit_xor x (x / 2 ^ k)) m) (xor_lt 64 x (x / 2 ^ k) h (lt_of_le_of_lt (shr_le x k) h)) in
    is_number (exchanged x m k) 64 _ (xor_lt 64 (bit_xor x t) (t * 2 ^ k % 2 ^ 64) (xor_lt 64 x t h small) (mod-lt (t * 2 ^ k) (pow_pos 64)))
    (λ p l.
    bit_xor_lem (bit_xor x t) (t * 2 ^ k % 2 ^ 64) p
    ∙ ap₂ bit_xor
    (bit_xor_lem x t p ∙ ap (bit_xor (bit_of x p)) (bit_crossing x m k p))
    (bit_mod (t * 2 ^ k) 64 p l ∙ bit_crossing_up x m k p)
    ∙ cases x k p (bit_of m p) (bit_of (m * 2 ^ k) p) (apart p l))

pub bit-exchange : (x m k p : ℕ) → p < 64 → bit_of (exchange_of x m k) p ≡ bit_of x (crossed m k p)
unfolding exchange_of
bit-exchange x m k p h = bit-of-number (λ p. bit_of x (crossed m k p)) 64 (λ q l. bit-lt x (crossed m k q)) p h

-- Three exchanges are the 8 by 8 step where their moves together are its move. That is a test that is computed at each
-- of the 64 bits.
pub exchanges_turn : (x m₁ k₁ m₂ k₂ m₃ k₃ : ℕ)
    → Same 64 (λ p. crossed m₁ k₁ (crossed m₂ k₂ (crossed m₃ k₃ p))) (λ p. p % 8 * 8 + p / 8)
    → Below 64 (λ p. crossed m₂ k₂ (crossed m₃ k₃ p)) (λ _. 64)
    → Below 64 (crossed m₃ k₃) (λ _. 64)
    → exchange_of (exchange_of (exchange_of x m₁ k₁) m₂ k₂) m₃ k₃ ≡ turn_of x
unfolding exchange_of turn_of
exchanges_turn x m₁ k₁ m₂ k₂ m₃ k₃ moves two one =
    number_ext 1 _ _ 64
    (λ p h.
    bit-exchange (exchange_of x m₁ k₁) m₂ k₂ (crossed m₃ k₃ p) (below 64 (crossed m₃ k₃) (λ _. 64) one p h)
    ∙ bit-exchange x m₁ k₁ (crossed m₂ k₂ (crossed m₃ k₃ p)) (below 64 (λ p. crossed m₂ k₂ (crossed m₃ k₃ p)) (λ _. 64) two p h)
    ∙ ap (bit_of x) (same 64 (λ p. crossed m₁ k₁ (crossed m₂ k₂ (crossed m₃ k₃ p))) (λ p. p % 8 * 8 + p / 8) moves p h))
