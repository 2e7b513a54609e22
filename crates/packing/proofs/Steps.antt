-- What one turn of the walks over a lane computes, over the element size t and the width w. Row r of a lane begins at
-- bit s of word k, which is said by r * w ≡ k * t + s and s < t. A walk that reads takes the row's value out of one
-- word or two; a walk that writes holds the word that is not full yet.
-- Assumes nothing.
use mathlib.Core.Path.{◌≡◌, sym, ap, ◌∙◌}
use Prim.Native.Nat.{ℕ, ◌+◌, ◌-◌, ◌*◌, ◌/◌, ◌%◌, ◌^◌, ◌≤◌, ◌<◌}
use native.Mathlib.Nat.{add-zero, add_comm, add_assoc, one-mul, mul-suc, suc-mul, mul_assoc, mul_right_comm, mul_comm, add-mul, mod-eq_of_lt, mul-add-mod_self_right, mul-add-div_right, add-mul-div_right, le_of_lt, lt_of_lt_of_le, zero-div, sub-add_cancel, mul-div_cancel_left, lt_of_mul-lt-mul_right, mul-le-mul_right, mul-lt-mul_of_pos_right}
use native.Mathlib.Decide.{dec_le}
use native.Mathlib.Numerals.{add-one}
use native.Mathlib.Omega.{arith}
use lib.Arith.{digits_div, digits_mod}
use lib.Bits.{bit_or, or_shifted_r}
use lib.Pow.{pow_pos, pow_mono, pow-add, mod-pow-add, mod-mod-pow, high, low, shr-shr, shr_lt}
use Rattle.lists.specs.Numbers.{number, digit}
use Rattle.lists.proofs.Digits.{number_lt, number-split, digit-number, digit_from}

-- a power as two
pow_cut : (s t : ℕ) → s ≤ t → 2 ^ t ≡ 2 ^ (t - s) * 2 ^ s
pow_cut s t l = ap (λ n. 2 ^ n) (sym (sub-add_cancel l)) ∙ pow-add 2 (t - s) s

-- a multiple of a higher power does not reach the low bits
above_mod : (h c w n : ℕ) → w ≤ n → (h * 2 ^ n + c) % 2 ^ w ≡ c % 2 ^ w
above_mod h c w n l = rw (pow_cut w n l, ← mul_assoc) (mul-add-mod_self_right (h * 2 ^ (n - w)) (2 ^ w) c)

-- a multiple of a higher power is shifted down as it is
above_shr : (h c s n : ℕ) → s ≤ n → (h * 2 ^ n + c) / 2 ^ s ≡ h * 2 ^ (n - s) + c / 2 ^ s
above_shr h c s n l = rw (pow_cut s n l, ← mul_assoc) (mul-add-div_right (pow_pos s) (h * 2 ^ (n - s)) c)

-- a mask after a longer one
mod_mod_le : (n w t : ℕ) → w ≤ t → n % 2 ^ t % 2 ^ w ≡ n % 2 ^ w
mod_mod_le n w t l = ap (λ k. n % 2 ^ k % 2 ^ w) (sym (sub-add_cancel l)) ∙ mod-mod-pow n (t - w) w

-- a number of t bits, cut into its s low bits and the rest
cut_mod : (a b s t : ℕ) → s ≤ t → b < 2 ^ s → (a * 2 ^ s + b) % 2 ^ t ≡ a % 2 ^ (t - s) * 2 ^ s + b
cut_mod a b s t l h =
    ap (λ n. (a * 2 ^ s + b) % 2 ^ n) (sym (sub-add_cancel l)) ∙ mod-pow-add (a * 2 ^ s + b) (t - s) s ∙ rw (high a s h, low a s h)

-- Where b lies below bit s and a above it, `or` of the two is their sum, cut to t bits.
or_join : (a b s t : ℕ) → s ≤ t → b < 2 ^ s → bit_or b (a * 2 ^ s % 2 ^ t) ≡ (b + a * 2 ^ s) % 2 ^ t
or_join a b s t l h =
    let shifted : a * 2 ^ s % 2 ^ t ≡ a % 2 ^ (t - s) * 2 ^ s = simp add-zero at (cut_mod a 0 s t l (pow_pos s)) in
    ap (bit_or b) shifted ∙ or_shifted_r (a % 2 ^ (t - s)) s b h ∙ rw (add_comm b) (sym (cut_mod a b s t l h))

-- A value that fills its word, shifted to its bit, is the same with what it has above the width and without that.
pub filling : (v w s t : ℕ) → s ≤ t → t ≤ s + w → v % 2 ^ w * 2 ^ s % 2 ^ t ≡ v * 2 ^ s % 2 ^ t
filling v w s t l h =
    let shifted : (a : ℕ) → a * 2 ^ s % 2 ^ t ≡ a % 2 ^ (t - s) * 2 ^ s = λ a. simp add-zero at (cut_mod a 0 s t l (pow_pos s)) in
    shifted (v % 2 ^ w) ∙ ap (λ n. n * 2 ^ s) (mod_mod_le v (t - s) w (omega arith)) ∙ sym (shifted v)

-- ---- where a row begins

module _ (t w r k s : ℕ) (e : r * w ≡ k * t + s) (hs : s < t) where
  -- The word in which row r begins is the quotient,
  pub at-word : r * w / t ≡ k
  at-word = ap (λ n. n / t) e ∙ digits_div k hs

  -- and the bit of it the remainder.
  pub at-bit : r * w % t ≡ s
  at-bit = ap (λ n. n % t) e ∙ digits_mod k hs

  -- the next row begins w bits later
  next-at : (r + 1) * w ≡ k * t + s + w
  next-at = ap (λ n. n * w) (add-one r) ∙ suc-mul r w ∙ ap (λ n. n + w) e

  -- A row begins in a word of the lane.
  pub word_lt : r < t → 0 < w → k < w
  word_lt hr pos =
      let m : r * w < t * w = mul-lt-mul_of_pos_right hr pos in
      lt_of_mul-lt-mul_right t (omega (arith, mul_comm t w))

  -- A row that goes on beyond its word has a next word to go on in.
  pub second_lt : r < t → t < s + w → k + 1 < w
  second_lt hr over =
      let m : (r + 1) * w ≤ t * w = mul-le-mul_right w (omega arith) in
      lt_of_mul-lt-mul_right t (omega (arith, mul_comm t w, next-at, add-mul k 1 t, one-mul t))

  -- Where the row ends before its word does, the next one begins w bits on in that word.
  pub on_at : (r + 1) * w ≡ k * t + (s + w)
  on_at = next-at ∙ add_assoc (k * t) s w

  -- Otherwise it begins in the next word, after what the row has put there.
  pub over-at : t ≤ s + w → (r + 1) * w ≡ (k + 1) * t + (s + w - t)
  over-at l = omega (arith, next-at, add-mul k 1 t, one-mul t)

  -- the bit of the lane at which row r begins
  bit_at : w * r ≡ t * k + s
  bit_at = mul_comm w r ∙ e ∙ ap (λ n. n + s) (mul_comm k t)

module _ (t w r k s : ℕ) (e : r * w ≡ k * t + s) (hs : s < t) (l : s + w < t) where
  -- Where row r ends before its word does, the next row begins in the same word,
  pub on_word : (r + 1) * w / t ≡ k
  on_word = at-word t w (r + 1) k (s + w) (on_at t w r k s e hs) l

  -- w bits on.
  pub on_bit : (r + 1) * w % t ≡ s + w
  on_bit = at-bit t w (r + 1) k (s + w) (on_at t w r k s e hs) l

module _ (t w r k s : ℕ) (e : r * w ≡ k * t + s) (hs : s < t) (wide : w ≤ t) (l : t ≤ s + w) where
  -- Where it does not, the next row begins in the next word,
  pub over_word : (r + 1) * w / t ≡ k + 1
  over_word = at-word t w (r + 1) (k + 1) (s + w - t) (over-at t w r k s e hs l) (omega arith)

  -- after what row r has put there.
  pub over-bit : (r + 1) * w % t ≡ s + w - t
  over-bit = at-bit t w (r + 1) (k + 1) (s + w - t) (over-at t w r k s e hs l) (omega arith)

-- The t rows of a lane fill its w words.
pub word_all : (t w : ℕ) → 0 < t → t * w / t ≡ w
word_all t w pos = mul-div_cancel_left w pos

-- ---- reading

module _ (t w r k s : ℕ) (e : r * w ≡ k * t + s) (hs : s < t) where
  -- the number from the row's first bit on
  from_bit : (m : ℕ) → m / 2 ^ (w * r) ≡ m / 2 ^ (t * (k + 1)) * 2 ^ (t - s) + digit t m k / 2 ^ s
  from_bit m =
      ap (λ n. m / 2 ^ n) (bit_at t w r k s e hs) ∙ sym (shr-shr m (t * k) s) ∙ ap (λ n. n / 2 ^ s) (digit_from t m k)
      ∙ above_shr (m / 2 ^ (t * (k + 1))) (digit t m k) s t (le_of_lt hs)

  -- A value that ends within its word is cut out of it.
  pub digit-one : (m : ℕ) → s + w ≤ t → digit w m r ≡ digit t m k / 2 ^ s % 2 ^ w
  unfolding digit
  digit-one m l = ap (λ n. n % 2 ^ w) (from_bit m) ∙ above_mod (m / 2 ^ (t * (k + 1))) (digit t m k / 2 ^ s) w (t - s) (omega arith)

  -- Any value is cut out of its word and the next one, taken together.
  pub digit_two : (m : ℕ) → w ≤ t → digit w m r ≡ (digit t m k / 2 ^ s + digit t m (k + 1) * 2 ^ (t - s)) % 2 ^ w
  unfolding digit
  digit_two m wide =
      let rest : ℕ = m / 2 ^ (t * (k + 1 + 1)) in
      let parts : (rest * 2 ^ t + digit t m (k + 1)) * 2 ^ (t - s) + digit t m k / 2 ^ s
      ≡ rest * 2 ^ (t - s) * 2 ^ t + (digit t m k / 2 ^ s + digit t m (k + 1) * 2 ^ (t - s)) =
      rw (add-mul, mul_right_comm rest (2 ^ t)) (omega arith) in
      ap (λ n. n % 2 ^ w) (from_bit m ∙ ap (λ n. n * 2 ^ (t - s) + digit t m k / 2 ^ s) (digit_from t m (k + 1)) ∙ parts)
      ∙ above_mod (rest * 2 ^ (t - s)) (digit t m k / 2 ^ s + digit t m (k + 1) * 2 ^ (t - s)) w t wide

  module _ (f : ℕ → ℕ) (small : (i : ℕ) → i < w → f i < 2 ^ t) (hr : r < t) where
    -- A value that ends within its word is cut out of that word.
    pub read_one : 0 < w → s + w ≤ t → digit w (number t f w) r ≡ f k / 2 ^ s % 2 ^ w
    read_one pos l = digit-one (number t f w) l ∙ rw (digit-number t f w k small (word_lt t w r k s e hs hr pos))

    -- Any value is cut out of its word and the next one, taken together; where there is no next word, none of it is cut
    -- out of that.
    pub over_reads : 0 < w → w ≤ t → digit w (number t f w) r ≡ (f k / 2 ^ s + f (k + 1) * 2 ^ (t - s)) % 2 ^ w
    over_reads pos wide = by (dec_le (s + w) t)
      where
        first : digit t (number t f w) k ≡ f k
        first = digit-number t f w k small (word_lt t w r k s e hs hr pos)

        by : Dec (s + w ≤ t) → digit w (number t f w) r ≡ (f k / 2 ^ s + f (k + 1) * 2 ^ (t - s)) % 2 ^ w
        by (yes l) =
            read_one pos l
            ∙ sym (above_mod (f (k + 1)) (f k / 2 ^ s) w (t - s) (omega arith))
            ∙ ap (λ n. n % 2 ^ w) (add_comm (f (k + 1) * 2 ^ (t - s)) (f k / 2 ^ s))
        by (no n) =
            digit_two (number t f w) wide
            ∙ rw (first, digit-number t f w (k + 1) small (second_lt t w r k s e hs hr (omega arith)))

    -- A value that goes on in the next word is what the shifts and `or` make of the two.
    pub read_two : w ≤ t → t < s + w → digit w (number t f w) r ≡ bit_or (f k / 2 ^ s) (f (k + 1) * 2 ^ (t - s) % 2 ^ t) % 2 ^ w
    read_two wide l =
        let pos : 0 < w = omega arith in
        let fits : f k < 2 ^ (t - s + s) = rw (sub-add_cancel (le_of_lt hs)) (small k (word_lt t w r k s e hs hr pos)) in
        over_reads pos wide
        ∙ sym (mod_mod_le (f k / 2 ^ s + f (k + 1) * 2 ^ (t - s)) w t wide)
        ∙ ap (λ n. n % 2 ^ w) (sym (or_join (f (k + 1)) (f k / 2 ^ s) (t - s) t (omega arith) (shr_lt (t - s) s fits)))

-- ---- writing

-- The first r digits of w bits leave this over for the digit of t bits that they do not fill: a word that is being
-- packed holds it.
unfoldable pub held : (t w : ℕ) (f : ℕ → ℕ) (r : ℕ) → ℕ
held t w f r = number w f r / 2 ^ (t * (r * w / t))

-- Before the first value nothing is held.
pub held-zero : (t w : ℕ) (g : ℕ → ℕ) → held t w g 0 ≡ 0
unfolding held number
held-zero t w g = zero-div (2 ^ (t * (0 * w / t)))

module _ (t w r k s : ℕ) (e : r * w ≡ k * t + s) (hs : s < t) (g : ℕ → ℕ) where
  -- What is held is the number of the values so far, from the word on that is not full yet.
  pub held_at : held t w g r ≡ number w g r / 2 ^ (t * k)
  unfolding held
  held_at = rw (at-word t w r k s e hs)

  -- It has as many bits as that word is full.
  pub held-lt : ((i : ℕ) → i < t → g i < 2 ^ w) → r ≤ t → held t w g r < 2 ^ s
  held-lt small l =
      let b : number w g r < 2 ^ (w * r) = number_lt w g r (λ i h. small i (omega arith)) in
      rw held_at (shr_lt s (t * k) (rw (bit_at t w r k s e hs, add_comm (t * k) s) at b))

  -- the next value, put above it
  filled : number w g (r + 1) / 2 ^ (t * k) ≡ held t w g r + g r * 2 ^ s
  unfolding number
  filled =
      let above : g r * 2 ^ (w * r) ≡ g r * 2 ^ s * 2 ^ (t * k) =
      rw (bit_at t w r k s e hs, add_comm (t * k) s, pow-add) (sym (mul_assoc (g r) (2 ^ s) (2 ^ (t * k)))) in
      rw (held_at, add-one, above) (add-mul-div_right (number w g r) (g r * 2 ^ s) (pow_pos (t * k)))

module _ (t w r k s : ℕ) (e : r * w ≡ k * t + s) (hs : s < t) (g : ℕ → ℕ) (small : (i : ℕ) → i < t → g i < 2 ^ w) (hr : r < t) where
  -- What `or` makes of what is held and of the next value, shifted, is their sum, cut to a word.
  pub write_or : bit_or (held t w g r) (g r * 2 ^ s % 2 ^ t) ≡ (held t w g r + g r * 2 ^ s) % 2 ^ t
  write_or = or_join (g r) (held t w g r) s t (le_of_lt hs) (held-lt t w r k s e hs g small (le_of_lt hr))

  -- Where the value does not fill the word, that is what is held next.
  pub write_on : s + w < t → held t w g (r + 1) ≡ bit_or (held t w g r) (g r * 2 ^ s % 2 ^ t)
  write_on l =
      let next : held t w g (r + 1) ≡ held t w g r + g r * 2 ^ s =
      held_at t w (r + 1) k (s + w) (on_at t w r k s e hs) l g ∙ filled t w r k s e hs g in
      let b : held t w g (r + 1) < 2 ^ (s + w) = held-lt t w (r + 1) k (s + w) (on_at t w r k s e hs) l g small (omega arith) in
      let fits : held t w g r + g r * 2 ^ s < 2 ^ t = rw next at (lt_of_lt_of_le b (pow_mono (le_of_lt l))) in
      next ∙ sym (write_or ∙ mod-eq_of_lt fits)

  -- Where it does, that is the word.
  pub write_word : t ≤ s + w → digit t (number w g t) k ≡ bit_or (held t w g r) (g r * 2 ^ s % 2 ^ t)
  unfolding digit
  write_word l =
      let rest : ℕ = number w (λ i. g (r + 1 + i)) (t - (r + 1)) in
      let more : w * (r + 1) ≡ t * k + (s + w) = mul_comm w (r + 1) ∙ on_at t w r k s e hs ∙ ap (λ n. n + (s + w)) (mul_comm k t) in
      let whole : number w g t ≡ rest * 2 ^ (w * (r + 1)) + number w g (r + 1) =
      ap (number w g) (omega arith) ∙ number-split w g (r + 1) (t - (r + 1)) in
      ap (λ n. n / 2 ^ (t * k) % 2 ^ t) whole
      ∙ ap (λ n. n % 2 ^ t) (above_shr rest (number w g (r + 1)) (t * k) (w * (r + 1)) (omega arith))
      ∙ above_mod rest (number w g (r + 1) / 2 ^ (t * k)) t (w * (r + 1) - t * k) (omega arith)
      ∙ ap (λ n. n % 2 ^ t) (filled t w r k s e hs g)
      ∙ sym write_or

  -- And what of the value has found no room in the word is held next.
  pub write-rest : w ≤ t → t ≤ s + w → held t w g (r + 1) ≡ g r / 2 ^ (t - s)
  write-rest wide l =
      let h : ℕ = held t w g r in
      held_at t w (r + 1) (k + 1) (s + w - t) (over-at t w r k s e hs l) (omega arith) g
      ∙ ap (λ n. number w g (r + 1) / 2 ^ n) (ap (λ n. t * n) (add-one k) ∙ mul-suc t k)
      ∙ sym (shr-shr (number w g (r + 1)) (t * k) t)
      ∙ ap (λ n. n / 2 ^ t) (filled t w r k s e hs g ∙ add_comm h (g r * 2 ^ s))
      ∙ ap (λ n. (g r * 2 ^ s + h) / 2 ^ n) (omega arith)
      ∙ sym (shr-shr (g r * 2 ^ s + h) s (t - s))
      ∙ ap (λ n. n / 2 ^ (t - s)) (high (g r) s (held-lt t w r k s e hs g small (le_of_lt hr)))
