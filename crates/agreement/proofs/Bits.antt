-- The one law behind pack, unpack and single access: what is cut into digits of one length, bit by bit, is what the
-- whole number's digits of that length are. Over the element size and the width, for every list.
-- Assumes nothing.
use mathlib.Core.List.{List}
use mathlib.Core.Path.{◌≡◌, sym, ap, ap₂, ◌∙◌, subst}
use Prim.Native.Nat.{ℕ, suc, ◌+◌, ◌-◌, ◌*◌, ◌/◌, ◌%◌, ◌^◌, ◌<◌}
use native.Mathlib.Nat.{one-mul, mul_comm, mod-lt, div-add-mod', div-lt_iff_lt-mul}
use native.Mathlib.Omega.{arith}
use lib.Arith.{digits_lt}
use lib.ListN.{get_or}
use lib.Pow.{pow_pos, field, mod-mod-pow, shr-shr}
use Rattle.lists.specs.Numbers.{number, digit, Elements}
use Rattle.lists.proofs.Digits.{number_ext, number_digits, digit-number, digit_lt}
use Rattle.lists.proofs.Tabs.{tab_ext}
use Rattle.places.specs.Places.{place, lane, row}
use Rattle.places.specs.Sizes.{Size, lanes}
use Rattle.places.proofs.Places.{lanes_some, row_lt}
use Rattle.packing.specs.Packed.{word, part, words_number, values_number, word_at, pack_of, value_at, unpack_of}
use Rattle.plain.specs.Plain.{bit, bit_at, value_in, plain_value, plain_unpack, bit_of, word_in, plain_pack}

-- A bit below b is one of the lowest b bits.
pub low_bit : (m b j : ℕ) → j < b → bit (m % 2 ^ b) j ≡ bit m j
unfolding digit
low_bit m b j h =
    let i : ℕ = b - suc j in
    let e : b ≡ i + 1 + j = omega arith in
    ap₂ (λ e f. m % 2 ^ e / 2 ^ f % 2) e (one-mul j)
    ∙ ap (λ x. x % 2) (field m (i + 1) j)
    ∙ mod-mod-pow (m / 2 ^ j) i 1
    ∙ ap (λ f. m / 2 ^ f % 2) (sym (one-mul j))

-- Bit j of digit k is bit b·k + j of the whole number.
pub bit-digit : (b m k j : ℕ) → j < b → bit (digit b m k) j ≡ bit m (b * k + j)
unfolding digit
bit-digit b m k j h =
    low_bit (m / 2 ^ (b * k)) b j h
    ∙ ap (λ f. m / 2 ^ (b * k) / 2 ^ f % 2) (one-mul j)
    ∙ ap (λ x. x % 2) (shr-shr m (b * k) j)
    ∙ ap (λ f. m / 2 ^ f % 2) (sym (one-mul (b * k + j)))

-- Bit x of a number that is made of n digits of b bits is bit x mod b of digit x / b.
pub bit-number : (b : ℕ) (f : ℕ → ℕ) (n x : ℕ) → 0 < b → ((k : ℕ) → k < n → f k < 2 ^ b) → x < n * b
    → bit (number b f n) x ≡ bit (f (x / b)) (x % b)
bit-number b f n x some small h =
    let k : x / b < n = (div-lt_iff_lt-mul some).1 h in
    ap (bit (number b f n)) (sym (ap (λ y. y + x % b) (mul_comm b (x / b)) ∙ div-add-mod' x b))
    ∙ sym (bit-digit b (number b f n) (x / b) (x % b) (mod-lt x some))
    ∙ ap (λ d. bit d (x % b)) (digit-number b f n (x / b) small k)

-- The law. The number has c digits of b bits. Its digit k of c bits has as bit j what bit k·c + j of the digits of b
-- bits is.
pub cut_anew : (b c : ℕ) (f : ℕ → ℕ) (k : ℕ) → k < b → ((i : ℕ) → i < c → f i < 2 ^ b)
    → number 1 (λ j. bit (f ((k * c + j) / b)) ((k * c + j) % b)) c ≡ digit c (number b f c) k
cut_anew b c f k h small =
    let m : ℕ = number b f c in
    let bits : (j : ℕ) → j < c → bit (f ((k * c + j) / b)) ((k * c + j) % b) ≡ bit (digit c m k) j =
    λ j hj.
    sym (bit-number b f c (k * c + j) (omega arith) small (subst (λ n. k * c + j < n) (mul_comm b c) (digits_lt h hj)))
    ∙ ap (λ n. bit m (n + j)) (mul_comm k c)
    ∙ sym (bit-digit c m k j hj) in
    number_ext 1 _ _ c bits ∙ number_digits 1 (digit c m k) c (subst (λ e. digit c m k < 2 ^ e) (sym (one-mul c)) (digit_lt c m k))

-- Unpacking: digits of w bits are cut from words of t bits.
pub value_agrees : (t w : ℕ) (packed : List ℕ) → Elements t packed → (l r : ℕ) → r < t
    → value_in t w packed l r ≡ digit w (words_number t w packed l) r
unfolding value_in bit_at words_number word
value_agrees t w packed small l r h = cut_anew t w (word t packed l) r h (λ i _. small (lanes t * i + l))

-- Packing: words of t bits are cut from digits of w bits, and no bit of a value at w or above is looked at.
pub word_agrees : (t w : ℕ) (values : List ℕ) (l k : ℕ) → k < w → word_in t w values l k ≡ digit t (values_number t w values l) k
unfolding word_in bit_of values_number part
word_agrees t w values l k h =
    number_ext 1 _ _ t
    (λ j _. sym (low_bit (get_or values (place ((k * t + j) / w) l) 0) w ((k * t + j) % w) (mod-lt (k * t + j) (omega arith))))
    ∙ cut_anew w t (part w values l) k h (λ i _. mod-lt (get_or values (place i l) 0) (pow_pos w))

module _ {t : ℕ} (s : Size t) (w : ℕ) where
  -- The block that is packed is packing's,
  pub pack_agrees : (values : List ℕ) → plain_pack t w values ≡ pack_of t w values
  unfolding plain_pack pack_of word_at
  pack_agrees values =
      tab_ext (lanes t * w) _ _ 0
      (λ i h. word_agrees t w values (i % lanes t) (i / lanes t) ((div-lt_iff_lt-mul (lanes_some s)).1 (subst (λ n. i < n) (mul_comm (lanes t) w) h)))

  -- the value at a place is the one that it gives there,
  pub place_agrees : (packed : List ℕ) → Elements t packed → (p : ℕ) → p < 1024 → plain_value t w packed p ≡ value_at t w packed p
  unfolding plain_value value_at
  place_agrees packed small p h = value_agrees t w packed small (lane t p) (row t p) (row_lt s p h)

  -- and so is the whole block.
  pub unpack_agrees : (packed : List ℕ) → Elements t packed → plain_unpack t w packed ≡ unpack_of t w packed
  unfolding plain_unpack unpack_of
  unpack_agrees packed small = tab_ext 1024 _ _ 0 (place_agrees packed small)
