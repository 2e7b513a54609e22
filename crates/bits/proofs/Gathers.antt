-- What the two loops on bytes keep: the numbers of a block that are written as bytes, and the bytes that are gathered
-- into one number.
-- Assumes nothing.
use mathlib.Core.Path.{◌≡◌, refl, ap, ◌∙◌, subst}
use mathlib.Core.List.{List}
use Prim.Native.Nat.{ℕ, ◌+◌, ◌*◌, ◌/◌, ◌%◌, ◌^◌, ◌≤◌, ◌<◌}
use native.Mathlib.Nat.{add_comm, mul_comm, mul-le-mul_right}
use native.Mathlib.Numerals.{add-one}
use native.Mathlib.Omega.{arith}
use lib.Arith.{digits_lt}
use lib.Bits.{bit_or, or_shifted_r}
use lib.ListN.{length, get_or}
use lib.Pow.{pow-add, shl_exact}
use Rattle.lists.specs.Tab.{tab, over}
use Rattle.lists.specs.Numbers.{number}
use Rattle.lists.proofs.Tabs.{Written, written-length, written-run, written_ext}
use Rattle.bits.specs.InnerSteps.{byte_at, byte_of}

-- The bytes of one number more are written.
pub word_more : (b : List ℕ) {x y z : List ℕ} (k : ℕ) → length x ≡ 128 → k < 16 → Written 0 (k * 8) (byte_at b) x y
    → z ≡ over (k * 8) (tab 8 (byte_of (get_or b k 0))) y → Written 0 ((k + 1) * 8) (byte_at b) x z
unfolding byte_at
word_more b {x} {y} {z} k long h before e =
    let bytes : (i : ℕ) → i < 8 → byte_of (get_or b k 0) i ≡ byte_at b (k * 8 + i) =
    λ i l.
    let q : (k * 8 + i) / 8 ≡ k = omega arith in
    let r : (k * 8 + i) % 8 ≡ i = omega arith in
    rw (q, r) in
    let word : Written (k * 8) 8 (byte_of (get_or b k 0)) y z = record { room = omega (arith, written-length before); is = e } in
    let next : k * 8 + 8 ≡ (k + 1) * 8 = omega arith in
    subst (λ n. Written 0 n (byte_at b) x z) next (written-run before (k * 8) (omega arith) (written_ext 0 word bytes))

-- Eight bytes that stand `step` apart lie below n where the last one does.
pub strided-lt : (start step i n : ℕ) → i < 8 → start + 7 * step < n → start + i * step < n
strided-lt start step i n h b =
    let m : i * step ≤ 7 * step = mul-le-mul_right step (omega arith) in
    omega arith

-- The number x is made of the first i of eight bytes.
pub record Gathered (f : ℕ → ℕ) (i x : ℕ) : Type 0 where
  pub few : i ≤ 8
  pub small : x < 2 ^ (8 * i)
  pub is : x ≡ number 8 f i

pub gathered_none : (f : ℕ → ℕ) → Gathered f 0 0
unfolding number
gathered_none f = record { few = omega arith; small = omega arith; is = refl }

-- One byte more is gathered: what | adds stands above what is there.
pub gathered_next : (f : ℕ → ℕ) (i x y : ℕ) → Gathered f i x → i < 8 → y ≡ f i → y < 256
    → Gathered f (i + 1) (bit_or x (y * 2 ^ (i * 8) % 2 ^ 64))
unfolding number
gathered_next f i x y g h e s =
    let sum : bit_or x (y * 2 ^ (i * 8) % 2 ^ 64) ≡ y * 2 ^ (8 * i) + x =
    ap (λ k. bit_or x (y * 2 ^ k % 2 ^ 64)) (mul_comm i 8)
    ∙ ap (bit_or x) (shl_exact {a = y} 8 (8 * i) 64 s (omega arith))
    ∙ or_shifted_r y (8 * i) x g.small in
    let more : 2 ^ (8 * (i + 1)) ≡ 2 ^ 8 * 2 ^ (8 * i) = ap (λ k. 2 ^ k) (omega arith) ∙ pow-add 2 8 (8 * i) in
    rw sum
    (record {
      few = omega arith;
      small = rw more (digits_lt s g.small);
      is = rw (add-one, e, g.is) (add_comm (f i * 2 ^ (8 * i)) (number 8 f i));
    })
