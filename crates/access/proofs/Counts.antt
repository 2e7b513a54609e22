-- The laws of counts (R39): the words that hold a bit of a row are as many as its count says. And those of sums of
-- counts (R43).
-- Assumes nothing.
use mathlib.Core.Bool.{Bool, true, false}
use mathlib.Core.List.{List, [], ◌∷◌, ◌++◌}
use mathlib.Core.Path.{◌≡◌, refl, sym, ap, ◌∙◌, subst}
use Prim.Native.Nat.{ℕ, zero, suc, ◌+◌, ◌-◌, ◌*◌, ◌/◌, ◌%◌, ◌^◌, ◌≤◌, ◌<◌}
use native.Mathlib.Decide.{dec_le}
use native.Mathlib.Nat.{add-zero}
use native.Mathlib.Numerals.{add-one}
use native.Mathlib.Omega.{arith}
use lib.Arith.{digits_lt}
use lib.Dec.{eqb, leb}
use lib.ListN.{length, get_or, take}
use lib.Seq.{take-suc, take_all}
use borrow.Author.Tests.{eq-eqb, ne_eqb, le-leb, lt-leb, le-ltb, lt-ltb}
use Rattle.lists.specs.Pick.{pick}
use Rattle.lists.proofs.Tabs.{length-tab, get_d_tab}
use Rattle.places.specs.Places.{row}
use Rattle.places.specs.Sizes.{Size}
use Rattle.places.proofs.Places.{each}
use Rattle.access.specs.InnerCounts.{firsts}
use Rattle.access.specs.Counts.{BitIn, words_read, count_at, no_count, words_at, counts_of_lem, sum_of, sum_cap, list_words}

-- ---- one count

module _ (t w r : ℕ) where
  pub words-none : w ≡ 0 → words_read t w r ≡ 0
  unfolding words_read
  words-none e = simp (eq-eqb w 0 e)

  pub words-one : (w ≡ 0 → ⊥) → r * w % t + w ≤ t → words_read t w r ≡ 1
  unfolding words_read
  words-one some h = simp (ne_eqb w 0 some, le-leb (r * w % t + w) t h)

  pub words_two : (w ≡ 0 → ⊥) → t < r * w % t + w → words_read t w r ≡ 2
  unfolding words_read
  words_two some h = simp (ne_eqb w 0 some, lt-leb (r * w % t + w) t h)

  pub words_small : words_read t w r ≤ 2
  unfolding words_read
  words_small = go (eqb w 0) (leb (r * w % t + w) t)
    where
      go : (none one : Bool) → pick none 0 (pick one 1 2) ≤ 2
      go true one = omega arith
      go false true = omega arith
      go false false = omega arith

-- ---- first words and second words

firsts-next : (w i : ℕ) → firsts w (i + 1) ≡ firsts w i + firsts w 1
firsts-next w i = go (eqb w 0)
  where
    go : (none : Bool) → pick none 0 (i + 1) ≡ pick none 0 i + pick none 0 1
    go true = refl
    go false = refl

-- A lookup reads its first word, and where its count is 2 a second one.
second_word : (t w r : ℕ) → words_read t w r ≡ firsts w 1 + pick (eqb (words_read t w r) 2) 1 0
unfolding words_read
second_word t w r = go (eqb w 0) (leb (r * w % t + w) t)
  where
    go : (none one : Bool) → pick none 0 (pick one 1 2) ≡ pick none 0 1 + pick (eqb (pick none 0 (pick one 1 2)) 2) 1 0
    go true one = refl
    go false true = refl
    go false false = refl

-- ---- the words that hold a bit

-- bit x + b, for b below a width of at most t, stands in the word of bit x or in the next one
Spread : ℕ → Type 0
Spread t =
    (x b w : ℕ) → b < w → w ≤ t
    → (x / t ≤ (x + b) / t) × ((x + b) / t < x / t + 2) × (x % t + w ≤ t → (x + b) / t ≡ x / t)

spread : {t : ℕ} → Size t → Spread t
unfolding Spread
spread s =
    each Spread
    (λ x b w h k. (omega arith, omega arith, λ one. omega arith))
    (λ x b w h k. (omega arith, omega arith, λ one. omega arith))
    (λ x b w h k. (omega arith, omega arith, λ one. omega arith))
    (λ x b w h k. (omega arith, omega arith, λ one. omega arith))
    s

-- what does not end within its word has a bit at the next word's start
Crossing : ℕ → Type 0
Crossing t = (x w : ℕ) → w ≤ t → t < x % t + w → (t - x % t < w) × ((x + (t - x % t)) / t ≡ x / t + 1)

crossing : {t : ℕ} → Size t → Crossing t
unfolding Crossing
crossing s =
    each Crossing
    (λ x w k two. (omega arith, omega arith))
    (λ x w k two. (omega arith, omega arith))
    (λ x w k two. (omega arith, omega arith))
    (λ x w k two. (omega arith, omega arith))
    s

-- A word that holds a bit of one of the lane's rows is one of its w words.
pub bit_word : {t : ℕ} → Size t → (w r k : ℕ) → r < t → BitIn t w r k → k < w
bit_word {t} s w r k h in-k =
    subst (λ k. k < w) in-k.stands
    (each (λ t. (x : ℕ) → x < t * w → x / t < w) (λ x b. omega arith) (λ x b. omega arith) (λ x b. omega arith) (λ x b. omega arith) s
    (r * w + in-k.bit) (digits_lt h in-k.within))

-- The words that hold a bit of row r are those from r · w / t on, as many as the count says: each of these holds one,
-- and no other does.
module _ {t : ℕ} (s : Size t) (w r k : ℕ) (hw : w ≤ t) where
  pub bit-counted : BitIn t w r k → (r * w / t ≤ k) × (k < r * w / t + words_read t w r)
  unfolding Spread
  bit-counted in-k =
      let b = in-k.bit in
      let far = spread s (r * w) b w in-k.within hw in
      let some : w ≡ 0 → ⊥ = λ e. omega (arith, in-k.within) in
      elim (dec_le (r * w % t + w) t) [
        | yes one ↦ (
          omega (arith, far.0, in-k.stands),
          omega (arith, far.2 one, in-k.stands, words-one t w r some one),
        )
        | no two ↦ (
          omega (arith, far.0, in-k.stands),
          omega (arith, far.1, in-k.stands, words_two t w r some (omega arith)),
        )
      ]

  -- the first word holds the row's first bit
  first_bit : 0 < w → r * w / t ≡ k → BitIn t w r k
  first_bit some e = record { bit = 0; within = some; stands = ap (λ x. x / t) (add-zero (r * w)) ∙ e }

  -- and where the row crosses, the next word holds the bit at its start
  next_bit : t < r * w % t + w → r * w / t + 1 ≡ k → BitIn t w r k
  unfolding Crossing
  next_bit two e =
      let at = crossing s (r * w) w hw two in
      record { bit = t - r * w % t; within = at.0; stands = at.1 ∙ e }

  pub counted-bit : r * w / t ≤ k → k < r * w / t + words_read t w r → BitIn t w r k
  counted-bit from to =
      elim (dec_le w 0) [
        | yes none ↦ absurd (omega (arith, words-none t w r (omega arith)))
        | no some ↦
            elim (dec_le k (r * w / t)) [
              | yes first ↦ first_bit (omega arith) (omega arith)
              | no later ↦
                  elim (dec_le (r * w % t + w) t) [
                    | yes one ↦ absurd (omega (arith, words-one t w r (λ e. omega arith) one))
                    | no two ↦ next_bit (omega arith) (omega (arith, words_small t w r))
                  ]
            ]
      ]

-- ---- a list of counts

pub counts_length : (t w : ℕ) (indices : List ℕ) → length (counts_of_lem t w indices) ≡ length indices
unfolding counts_of_lem
counts_length t w indices = length-tab (length indices) _

pub counts_at : (t w : ℕ) (indices : List ℕ) (i : ℕ) → i < length indices → get_or (counts_of_lem t w indices) i 0 ≡ count_at t w (get_or indices i 0)
unfolding counts_of_lem
counts_at t w indices i h = get_d_tab (length indices) _ i 0 h

pub counts_small : (t w : ℕ) (indices : List ℕ) (i : ℕ) → i < length indices → get_or (counts_of_lem t w indices) i 0 ≤ 2
unfolding count_at
counts_small t w indices i h = rw (counts_at t w indices i h) (words_small t w (row t (get_or indices i 0)))

-- ---- sums

pub sum_append : (xs ys : List ℕ) → sum_of (xs ++ ys) ≡ sum_of xs + sum_of ys
unfolding sum_of
sum_append [] ys = omega arith
sum_append (x ∷ xs) ys = let e : sum_of (xs ++ ys) ≡ sum_of xs + sum_of ys = sum_append xs ys in omega arith

-- one entry more
pub sum_next : (l : List ℕ) (i : ℕ) → i < length l → sum_of (take (i + 1) l) ≡ sum_of (take i l) + get_or l i 0
unfolding sum_of
sum_next l i h = rw (add-one, take-suc l i 0 h, sum_append) (omega arith)

-- where no entry is above 2 the sum of a front part is at most twice its length
pub sum_small : (l : List ℕ) (k : ℕ) → ((i : ℕ) → i < length l → get_or l i 0 ≤ 2) → k ≤ length l → sum_of (take k l) ≤ 2 * k
unfolding sum_of
sum_small l zero all h = omega arith
sum_small l (suc k) all h =
    let e : sum_of (take (k + 1) l) ≡ sum_of (take k l) + get_or l k 0 = sum_next l k (omega arith) in
    let f : sum_of (take (suc k) l) ≡ sum_of (take (k + 1) l) = ap (λ n. sum_of (take n l)) (sym (add-one k)) in
    let r : sum_of (take k l) ≤ 2 * k = sum_small l k all (omega arith) in
    omega (arith, e, f, r, all k (omega arith))

-- A list reads the sum of its counts, and where that is no number of 64 bits the largest of them.
pub list_held : (t w : ℕ) (indices : List ℕ)
    → let sum = sum_of (counts_of_lem t w indices) in
    (sum < 2 ^ 64 → list_words t w indices ≡ sum) × (2 ^ 64 ≤ sum → list_words t w indices ≡ sum_cap)
unfolding list_words
list_held t w indices = (λ h. omega arith, λ h. omega arith)

-- A front part of a list of lookups reads at most two words for each,
pub front-small : (t w : ℕ) (indices : List ℕ) (k : ℕ) → k ≤ length indices → sum_of (take k (counts_of_lem t w indices)) ≤ 2 * k
front-small t w indices k h =
    let n = counts_length t w indices in
    sum_small (counts_of_lem t w indices) k (λ i b. counts_small t w indices i (omega arith)) (omega arith)

-- a whole list too,
pub list-twice : (t w : ℕ) (indices : List ℕ) → sum_of (counts_of_lem t w indices) ≤ 2 * length indices
list-twice t w indices =
    let e : take (length indices) (counts_of_lem t w indices) ≡ counts_of_lem t w indices = take_all (length indices) (counts_of_lem t w indices) (omega (arith, counts_length t w indices)) in
    subst (λ l. sum_of l ≤ 2 * length indices) e (front-small t w indices (length indices) (omega arith))

-- and so a list of fewer than 2^63 indices never reaches the limit at which its sum would be held.
pub list_unheld : (t w : ℕ) (indices : List ℕ) → length indices < 2 ^ 63 → list_words t w indices ≡ sum_of (counts_of_lem t w indices)
unfolding list_words
list_unheld t w indices h = let twice = list-twice t w indices in omega arith

-- ---- a sum along a list of lookups

-- After the first i lookups so many words are read.
pub record Summed (t w : ℕ) (indices : List ℕ) (i sum : ℕ) : Type 0 where
  pub is : sum ≡ sum_of (take i (counts_of_lem t w indices))

pub summed-none : (t w : ℕ) (indices : List ℕ) → Summed t w indices 0 0
unfolding sum_of
summed-none t w indices = record { is = refl }

module _ {t w : ℕ} {indices : List ℕ} {i sum : ℕ} (so : Summed t w indices i sum) where
  pub summed-next : (n : ℕ) → i < length indices → n ≡ count_at t w (get_or indices i 0) → Summed t w indices (i + 1) (sum + n)
  summed-next n h e =
      let next = sum_next (counts_of_lem t w indices) i (omega (arith, counts_length t w indices)) in
      record { is = omega (arith, so.is, e, next, counts_at t w indices i h) }

  pub summed-small : i ≤ length indices → sum ≤ 2 * i
  summed-small h = omega (arith, so.is, front-small t w indices i h)

  pub summed_all : length indices ≤ i → sum ≡ sum_of (counts_of_lem t w indices)
  summed_all h = so.is ∙ ap sum_of (take_all i (counts_of_lem t w indices) (omega (arith, counts_length t w indices)))

-- The same where the second words alone are counted.
pub record Seconds (t w : ℕ) (indices : List ℕ) (i seconds : ℕ) : Type 0 where
  pub sum : Summed t w indices i (firsts w i + seconds)

pub seconds_none : (t w : ℕ) (indices : List ℕ) → Seconds t w indices 0 0
seconds_none t w indices = record { sum = subst (Summed t w indices 0) (nothing (eqb w 0)) (summed-none t w indices) }
  where
    nothing : (none : Bool) → 0 ≡ pick none 0 0 + 0
    nothing true = refl
    nothing false = refl

module _ {t w : ℕ} {indices : List ℕ} {i seconds : ℕ} (so : Seconds t w indices i seconds) where
  pub seconds_small : i ≤ length indices → seconds ≤ 2 * i
  seconds_small h = omega (arith, summed-small so.sum h)

  pub seconds_all : i ≡ length indices → firsts w (length indices) + seconds ≡ sum_of (counts_of_lem t w indices)
  seconds_all e = ap (λ n. firsts w n + seconds) (sym e) ∙ summed_all so.sum (omega arith)

  module _ (n : ℕ) (h : i < length indices) (e : n ≡ count_at t w (get_or indices i 0)) where
    next_second : (m : ℕ) → m ≡ pick (eqb n 2) 1 0 → Seconds t w indices (i + 1) (seconds + m)
    unfolding count_at
    next_second m is =
        let r = row t (get_or indices i 0) in
        let all = e ∙ second_word t w r ∙ ap (λ n. firsts w 1 + pick (eqb n 2) 1 0) (sym e) in
        let same : firsts w i + seconds + n ≡ firsts w (i + 1) + (seconds + m) = omega (arith, firsts-next w i, all, is) in
        record { sum = subst (Summed t w indices (i + 1)) same (summed-next so.sum n h e) }

    -- a lookup of two words has a second one,
    pub seconds_more : n ≡ 2 → Seconds t w indices (i + 1) (seconds + 1)
    seconds_more two = next_second 1 (rw (eq-eqb n 2 two) refl)

    -- and every other has none
    pub seconds_same : (n ≡ 2 → ⊥) → Seconds t w indices (i + 1) seconds
    seconds_same other = subst (Seconds t w indices (i + 1)) (add-zero seconds) (next_second 0 (rw (ne_eqb n 2 other) refl))

-- ---- the count at a place

-- A lookup has a count, and so it is no refusal, which has none.
pub has-count : (t w p : ℕ) → count_at t w p ≡ no_count → ⊥
unfolding count_at
has-count t w p e = omega (arith, words_small t w (row t p))

module _ (t w p : ℕ) where
  pub no-width : t < w → no_count ≡ words_at t w p
  unfolding words_at
  no-width h = simp (lt-leb w t h)

  pub no_place : w ≤ t → 1024 ≤ p → no_count ≡ words_at t w p
  unfolding words_at
  no_place h k = simp (le-leb w t h, le-ltb p 1024 k)

  pub a_place : w ≤ t → p < 1024 → count_at t w p ≡ words_at t w p
  unfolding words_at
  a_place h k = simp (le-leb w t h, lt-ltb p 1024 k)
