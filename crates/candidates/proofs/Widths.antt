-- The laws of the least width, of one number and of a list; the highest number of a frame over the lowest one; and what
-- the loop keeps that joins the bits of all numbers of a list.
-- Assumes nothing.
use Rattle.std.proofs.Common.{◌≡◌, ℕ, suc, ◌+◌, ◌-◌, ◌%◌, ◌^◌, ◌<◌, ◌≤◌, leb, ◌↔◌, List, length, get_or, sym, refl, ap, ◌∙◌, subst, suc-le-suc, zero-le, le_refl, lt_of_lt_of_le, not-suc-le-zero, lt_of_le_of_lt, mod-eq_of_lt, pow-suc, arith, pow_pos, pow_mono, le-leb, leb-false, leb-true}
use native.Mathlib.Decide.{dec_le}
use borrow.Author.Tests.{lt-leb}
use lib.Bits.{bit_or, or_lt, or_add_and, and_le_l, and_le_r}
use lib.Count.{count_leading_zeros, leading_length}
use Rattle.lists.specs.Numbers.{Elements, plus, minus}
use Rattle.lists.specs.Tab.{tab}
use Rattle.lists.specs.Ends.{highest_of, lowest_of}
use Rattle.lists.proofs.Digits.{elements-of}
use Rattle.lists.proofs.Tabs.{length-tab, get_d_tab}
use Rattle.lists.proofs.Highs.{highest_bound, highest-below, highest-stands}
use Rattle.lists.proofs.Search.{first_le, first-before, first-at, first_only}
use Rattle.lists.proofs.Lows.{lowest_bound}
use Rattle.places.specs.Sizes.{t64}
use Rattle.deltas.specs.Deltas.{frame_of}
use Rattle.deltas.proofs.Lanes.{minus_only}
use Rattle.candidates.specs.Widths.{bits, width_of}

module _ (m : ℕ) where
  -- No width is above 64.
  pub bits_most : bits m ≤ 64
  unfolding bits
  bits_most = first_le 64 (λ w. leb (2 ^ w) m)

  -- A number of 64 bits is held at its width,
  pub bits_hold : m < 2 ^ 64 → m < 2 ^ bits m
  unfolding bits
  bits_hold h =
      elim (dec_le 64 (bits m)) [
        | yes top ↦ lt_of_lt_of_le h (pow_mono top)
        | no low ↦ leb-false (2 ^ bits m) m (first-at 64 (λ w. leb (2 ^ w) m) (omega arith))
      ]

  -- and at no smaller one.
  pub bits-least : (w : ℕ) → m < 2 ^ w → bits m ≤ w
  unfolding bits
  bits-least w h =
      elim (dec_le (bits m) w) [
        | yes le ↦ le
        | no gt ↦ let t : 2 ^ w ≤ m = leb-true (2 ^ w) m (first-before 64 (λ w. leb (2 ^ w) m) w (omega arith)) in absurd (omega arith)
      ]

  -- 64 less the leading zeros is the width.
  pub bits_leading : m < 2 ^ 64 → 64 - count_leading_zeros 64 m ≡ bits m
  unfolding bits
  bits_leading h =
      let s = leading_length 64 m h in
      let n : ℕ = s.0 in
      let high : 64 - count_leading_zeros 64 m ≡ n = omega (arith, s.1) in
      high
      ∙ first_only 64 n (λ w. leb (2 ^ w) m) (omega (arith, s.1))
      (λ w b. le-leb (2 ^ w) m (let half : 2 ^ suc w ≤ 2 ^ n = pow_mono b in omega (arith, s.3, pow-suc 2 w)))
      (λ _. lt-leb (2 ^ n) m s.2)

pub width-most : (l : List ℕ) → width_of l ≤ 64
unfolding width_of
width-most l = bits_most (highest_of l)

-- A list of elements fits a width exactly when its own least width is at most that.
pub width_fits : (l : List ℕ) → Elements t64 l → (w : ℕ) → (width_of l ≤ w) ↔ ((i : ℕ) → i < length l → get_or l i 0 < 2 ^ w)
unfolding width_of
width_fits l fits w = (
  (λ low i h. lt_of_le_of_lt (highest_bound l i h) (lt_of_lt_of_le (bits_hold (highest_of l) (highest-element l fits)) (pow_mono low))),
  (λ all. bits-least (highest_of l) w (highest-below (2 ^ w) l (pow_pos w) all)),
)
  where
    highest-element : (l : List ℕ) → Elements t64 l → highest_of l < 2 ^ 64
    highest-element l fits = highest-below (2 ^ 64) l (pow_pos 64) (λ i _. fits i)

-- A number less one that is not above it does not wrap.
pub minus-low : (a b : ℕ) → b ≤ a → a < 2 ^ 64 → minus t64 a b ≡ a - b
unfolding plus
minus-low a b h fits = sym (minus_only t64 a b (a - b) (omega arith) (omega arith) (ap (λ n. n % 2 ^ 64) (omega arith) ∙ mod-eq_of_lt fits))

-- The highest number of the frame over the lowest one is the highest less the lowest.
pub frame-highest : (v : List ℕ) → length v ≡ 1024 → Elements t64 v → highest_of (frame_of t64 v (lowest_of v)) ≡ highest_of v - lowest_of v
unfolding frame_of
frame-highest v long fits =
    let low : ℕ = lowest_of v in
    let high : ℕ = highest_of v in
    let f : List ℕ = tab 1024 (λ p. minus t64 (get_or v p 0) low) in
    let size : length f ≡ 1024 = length-tab 1024 _ in
    let at : (i : ℕ) → i < 1024 → get_or f i 0 ≡ get_or v i 0 - low
    = λ i h. get_d_tab 1024 _ i 0 h ∙ minus-low (get_or v i 0) low (lowest_bound v i (omega arith)) (fits i) in
    let most : highest_of f < suc (high - low)
    = highest-below (suc (high - low)) f (suc-le-suc zero-le) (λ i h. omega (arith, at i (omega arith), highest_bound v i (omega arith))) in
    let top = highest-stands v (omega arith) in
    let least : high - low ≤ highest_of f = omega (arith, at top.0 (omega (arith, top.1)), highest_bound f top.0 (omega (arith, top.1)), top.2) in
    omega arith

-- What the loop that joins the bits of all numbers keeps: what it has fits a width exactly when the numbers passed do.
pub record Joined (xs : List ℕ) (any i : ℕ) : Type 0 where
  pub within : i ≤ length xs
  pub each : (w : ℕ) → any < 2 ^ w → (k : ℕ) → k < i → get_or xs k 0 < 2 ^ w
  pub all : (w : ℕ) → ((k : ℕ) → k < i → get_or xs k 0 < 2 ^ w) → any < 2 ^ w

pub joined-none : (xs : List ℕ) → Joined xs 0 0
joined-none xs = record { within = omega arith; each = λ w h k b. absurd (not-suc-le-zero b); all = λ w h. pow_pos w }

-- A number is at most the or with another.
or_above : (a b : ℕ) → (a ≤ bit_or a b) × (b ≤ bit_or a b)
or_above a b = (omega (arith, or_add_and a b, and_le_r a b), omega (arith, or_add_and a b, and_le_l a b))

pub joined-next : {xs : List ℕ} {any i : ℕ} (next : ℕ) → Joined xs any i → i < length xs → next ≡ bit_or any (get_or xs i 0) → Joined xs next (i + 1)
joined-next {xs} {any} {i} next j h e = record {
  within = omega arith;
  each = λ w small k b.
      elim (dec_le i k) [
        | yes last ↦
            let z : k ≡ i = omega arith in
            subst (λ n. get_or xs n 0 < 2 ^ w) (sym z) (lt_of_le_of_lt (or_above any (get_or xs i 0)).1 (subst (λ n. n < 2 ^ w) e small))
        | no first ↦ j.each w (lt_of_le_of_lt (or_above any (get_or xs i 0)).0 (subst (λ n. n < 2 ^ w) e small)) k (omega arith)
      ];
  all = λ w small.
      subst (λ n. n < 2 ^ w) (sym e) (or_lt w any (get_or xs i 0) (j.all w (λ k b. small k (omega arith))) (small i (omega arith)));
}

pub joined_all : {xs : List ℕ} {any i : ℕ} → Joined xs any i → any < 2 ^ 64 → length xs ≤ i → bits any ≡ width_of xs
joined_all {xs} {any} {i} j small h =
    let most : i ≤ length xs = j.within in
    let fits : Elements t64 xs = elements-of t64 (length xs) xs refl (λ k b. j.each 64 small k (omega arith)) in
    let low : bits any ≤ width_of xs =
    bits-least any (width_of xs) (j.all (width_of xs) (λ k b. (width_fits xs fits (width_of xs)).0 (le_refl (width_of xs)) k (omega arith))) in
    let high : width_of xs ≤ bits any = (width_fits xs fits (bits any)).1 (λ k b. j.each (bits any) (bits_hold any small) k (omega arith)) in
    omega arith
