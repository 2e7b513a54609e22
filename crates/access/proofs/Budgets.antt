-- The laws of access by a list under a budget (R46 to R48).
-- Assumes nothing.
use mathlib.Core.Bool.{Bool, true, false}
use mathlib.Core.List.{List}
use mathlib.Core.Logic.{◌⊎◌, ⊎_elim}
use mathlib.Core.Path.{◌≡◌, refl, sym, ap, ap₂, subst, ◌∙◌}
use Prim.Native.Nat.{ℕ, zero, suc, ◌+◌, ◌-◌, ◌*◌, ◌/◌, ◌^◌, ◌≤◌, ◌<◌}
use native.Mathlib.Decide.{dec_le}
use native.Mathlib.Omega.{arith}
use lib.Dec.{leb}
use lib.ListN.{length, get_or, take, drop}
use lib.Seq.{take-add, take_all, length-take-le, get_or-take, ext_get_or}
use borrow.Author.Tests.{le-leb, lt-leb, leb-true, leb-false, eqb-true}
use Rattle.lists.specs.Pick.{pick}
use Rattle.lists.specs.Tab.{tab, over}
use Rattle.lists.proofs.Overs.{over-front, over-rest}
use Rattle.lists.proofs.Search.{first-beyond-none}
use Rattle.lists.proofs.Tabs.{Written, tab_ext, length-tab, get_d_tab, written_all}
use Rattle.lists.proofs.Tests.{false-true}
use Rattle.places.specs.declared.Answer.{Answer}
use Rattle.places.specs.declared.Answer.TheVariants.{Done}
use Rattle.places.specs.Answers.{number_of, is_done, left}
use Rattle.places.specs.Places.{row}
use Rattle.places.specs.Takes.{answer_for}
use Rattle.places.proofs.Answers.{says_answer, says_number, number-done}
use Rattle.packing.specs.Packed.{value_at}
use Rattle.access.specs.declared.Afforded.{Afforded}
use Rattle.access.specs.declared.Afforded.TheVariants.{Front, Refused}
use Rattle.access.specs.declared.Listed.{Listed}
use Rattle.access.specs.declared.Listed.TheVariants.{Words, Refused as Unlisted}
use Rattle.access.specs.Budgets.{most, front_words, affordable, within_gives, within_leaves, answer_of, answered_of, words_of}
use Rattle.access.specs.Calls.{list_takes, list_of, list_gives, list_leaves}
use Rattle.access.specs.Counts.{count_at, counts_of_lem, sum_of, list_words}
use Rattle.access.proofs.Answers.{index_within, list-good, Listable, list-taken}
use Rattle.access.proofs.Counts.{words_small, counts_length, counts_at, sum_append, sum_next, list_held, front-small}

-- ---- the greatest number that passes a test

module _ (test : ℕ → Bool) where
  -- where 0 passes, the greatest that passes does, is within the numbers tried, and none above it passes
  pub most-within : (n : ℕ) → most n test ≤ n
  unfolding most
  most-within zero = omega arith
  most-within (suc n) = go (test (suc n)) (most-within n)
    where
      go : (b : Bool) → most n test ≤ n → pick b (suc n) (most n test) ≤ suc n
      go true h = omega arith
      go false h = omega arith

  pub most-passes : (n : ℕ) → test 0 ≡ true → test (most n test) ≡ true
  unfolding most
  most-passes zero z = z
  most-passes (suc n) z = go (test (suc n)) refl (most-passes n z)
    where
      go : (b : Bool) → test (suc n) ≡ b → test (most n test) ≡ true → test (pick b (suc n) (most n test)) ≡ true
      go true e h = e
      go false e h = h

  pub most_above : (n k : ℕ) → most n test < k → k ≤ n → test k ≡ false
  unfolding most
  most_above zero k a b = absurd (omega arith)
  most_above (suc n) k a b = go (test (suc n)) refl a (most_above n k)
    where
      go : (c : Bool) → test (suc n) ≡ c → pick c (suc n) (most n test) < k → (most n test < k → k ≤ n → test k ≡ false) → test k ≡ false
      go true e a before = absurd (omega arith)
      go false e a before =
          elim (dec_le k n) [
            | yes h ↦ before a h
            | no h ↦ let same : k ≡ suc n = omega arith in ap test same ∙ e
          ]

  -- so what passes where nothing above does is the greatest
  pub most-is : (n k : ℕ) → k ≤ n → test 0 ≡ true → test k ≡ true → ((j : ℕ) → k < j → j ≤ n → test j ≡ false) → k ≡ most n test
  most-is n k within z at above =
      let m = most n test in
      elim (dec_le m k) [
        | yes h ↦
            elim (dec_le k m) [
              | yes g ↦ omega arith
              | no g ↦ absurd (false-true (sym (most_above n k (omega arith) within) ∙ at))
            ]
        | no h ↦ absurd (false-true (sym (above m (omega arith) (most-within n)) ∙ most-passes n z))
      ]

-- ---- the words of a front part

module _ (t w : ℕ) (indices : List ℕ) where
  pub front-none : front_words t w indices 0 ≡ 0
  unfolding front_words sum_of
  front-none = refl

  pub front-next : (i : ℕ) → i < length indices → front_words t w indices (i + 1) ≡ front_words t w indices i + count_at t w (get_or indices i 0)
  unfolding front_words
  front-next i h =
      sum_next (counts_of_lem t w indices) i (omega (arith, counts_length t w indices))
      ∙ ap (λ n. sum_of (take i (counts_of_lem t w indices)) + n) (counts_at t w indices i h)

  -- a longer front part reads no fewer words
  pub front_more : (i k : ℕ) → i ≤ k → front_words t w indices i ≤ front_words t w indices k
  unfolding front_words
  front_more i k h =
      let l = counts_of_lem t w indices in
      let e : k ≡ i + (k - i) = omega arith in
      let s : sum_of (take (i + (k - i)) l) ≡ sum_of (take i l) + sum_of (take (k - i) (drop i l)) = ap sum_of (take-add i (k - i) l) ∙ sum_append _ _ in
      let r : sum_of (take k l) ≡ sum_of (take (i + (k - i)) l) = ap (λ n. sum_of (take n l)) e in
      omega (arith, s, r)

  pub front-twice : (k : ℕ) → k ≤ length indices → front_words t w indices k ≤ 2 * k
  unfolding front_words
  front-twice k h = front-small t w indices k h

  -- ---- how many are affordable
  module _ (budget : ℕ) where
    within : ℕ → Bool
    within k = leb (front_words t w indices k) budget

    none_within : within 0 ≡ true
    unfolding within
    none_within = le-leb (front_words t w indices 0) budget (omega (arith, front-none))

    -- The front part that is answered is a front part, its words are within the budget, and those of no longer one are.
    pub affordable-part : affordable t w indices budget ≤ length indices
    unfolding affordable within
    affordable-part = most-within within (length indices)

    pub affordable-within : front_words t w indices (affordable t w indices budget) ≤ budget
    unfolding affordable within
    affordable-within = leb-true _ _ (most-passes within (length indices) none_within)

    pub affordable_longest : (k : ℕ) → affordable t w indices budget < k → k ≤ length indices → budget < front_words t w indices k
    unfolding affordable within
    affordable_longest k a b = leb-false _ _ (most_above within (length indices) k a b)

    -- There is one such number.
    pub affordable-is : (k : ℕ) → k ≤ length indices → front_words t w indices k ≤ budget
        → (k < length indices → budget < front_words t w indices (k + 1)) → k ≡ affordable t w indices budget
    unfolding affordable within
    affordable-is k h at next =
        most-is within (length indices) k h none_within (le-leb (front_words t w indices k) budget at)
        (λ j a b.
        lt-leb (front_words t w indices j) budget
        (let more = front_more (k + 1) j (omega arith) in omega (arith, next (omega arith), more)))

    -- The words are at most twice the lookups answered.
    pub affordable-twice : front_words t w indices (affordable t w indices budget) ≤ 2 * affordable t w indices budget
    affordable-twice = front-twice (affordable t w indices budget) affordable-part

    -- With a budget of twice the list's length all are answered.
    pub affordable_all : 2 * length indices ≤ budget → affordable t w indices budget ≡ length indices
    affordable_all h =
        sym (affordable-is (length indices) (omega arith) (omega (arith, front-twice (length indices) (omega arith))) (λ more. absurd (omega arith)))

  -- A larger budget never answers fewer.
  pub affordable_more : (b c : ℕ) → b ≤ c → affordable t w indices b ≤ affordable t w indices c
  affordable_more b c h =
      elim (dec_le (affordable t w indices b) (affordable t w indices c)) [
        | yes g ↦ g
        | no g ↦
            absurd
            (omega (arith, affordable_longest c (affordable t w indices b) (omega arith) (affordable-part b), affordable-within b))
      ]

-- ---- the outputs of a front part

-- the front of a rule's entries are its first entries
take-tab : (k n : ℕ) (f : ℕ → ℕ) → k ≤ n → take k (tab n f) ≡ tab k f
take-tab k n f h =
    let long : length (take k (tab n f)) ≡ k = length-take-le k (tab n f) (omega (arith, length-tab n f)) in
    ext_get_or 0 (take k (tab n f)) (tab k f) (long ∙ sym (length-tab k f))
    (λ i b. get_or-take k (tab n f) i 0 (omega arith) ∙ get_d_tab n f i 0 (omega arith) ∙ sym (get_d_tab k f i 0 (omega arith)))

-- The words of the first k lookups are those of the list of the first k indices.
pub front-alone : (t w : ℕ) (indices : List ℕ) (k : ℕ) → k ≤ length indices → front_words t w indices k ≡ sum_of (counts_of_lem t w (take k indices))
unfolding front_words counts_of_lem
front-alone t w indices k h =
    let n : length (take k indices) ≡ k = length-take-le k indices h in
    ap sum_of
    (take-tab k (length indices) (λ i. count_at t w (get_or indices i 0)) h
    ∙ tab_ext k _ _ 0 (λ i b. ap (count_at t w) (sym (get_or-take k indices i 0 b)))
    ∙ ap (λ m. tab m (λ i. count_at t w (get_or (take k indices) i 0))) (sym n))

-- what is written for the first k indices is what access by these alone gives
pub front-written : (t w : ℕ) (packed indices : List ℕ) (k : ℕ) → k ≤ length indices
    → tab k (λ i. value_at t w packed (get_or indices i 0)) ≡ list_of t w packed (take k indices)
unfolding list_of
front-written t w packed indices k h =
    let n : length (take k indices) ≡ k = length-take-le k indices h in
    tab_ext k _ _ 0 (λ i b. ap (value_at t w packed) (sym (get_or-take k indices i 0 b)))
    ∙ ap (λ m. tab m (λ i. value_at t w packed (get_or (take k indices) i 0))) (sym n)

-- ---- the walk along a list

-- After the first i lookups so much of the budget is left.
pub record Spent (t w : ℕ) (indices : List ℕ) (budget i left : ℕ) : Type 0 where
  pub all : front_words t w indices i + left ≡ budget

pub spent_none : (t w : ℕ) (indices : List ℕ) (budget : ℕ) → Spent t w indices budget 0 budget
spent_none t w indices budget = record { all = omega (arith, front-none t w indices) }

-- A lookup reads at most two words, so two that are left are enough for it.
pub enough : (t w p left : ℕ) → (2 ≤ left) ⊎ (count_at t w p ≤ left) → count_at t w p ≤ left
unfolding count_at
enough t w p left o = ⊎_elim (λ two. omega (arith, words_small t w (row t p), two)) (λ some. some) o

module _ {t w : ℕ} {indices : List ℕ} {budget i left : ℕ} (so : Spent t w indices budget i left) where
  pub spent_within : left ≤ budget
  spent_within = omega (arith, so.all)

  pub spent_next : (n : ℕ) → i < length indices → n ≡ count_at t w (get_or indices i 0) → n ≤ left → Spent t w indices budget (i + 1) (left - n)
  spent_next n h e fits = record { all = omega (arith, so.all, front-next t w indices i h, e) }

  -- Where the next lookup would pass the budget, or the list is at its end, the walk has gone through the affordable
  -- front part.
  module _ (h : i ≤ length indices) (next : i < length indices → left < count_at t w (get_or indices i 0)) where
    spent_all : i ≡ affordable t w indices budget
    spent_all =
        affordable-is t w indices budget i h (omega (arith, so.all))
        (λ more. omega (arith, so.all, front-next t w indices i more, next more))

    pub spent_gives : (sum : ℕ) → sum ≡ budget - left
        → Front i sum ≡ Front (affordable t w indices budget) (front_words t w indices (affordable t w indices budget))
    spent_gives sum e = ap₂ Front spent_all (omega (arith, e, so.all) ∙ ap (front_words t w indices) spent_all)

    pub spent_leaves : (packed old new : List ℕ) → Written 0 i (λ i. value_at t w packed (get_or indices i 0)) old new
        → new ≡ over 0 (list_of t w packed (take (affordable t w indices budget) indices)) old
    spent_leaves packed old new written =
        written.is ∙ ap (λ l. over 0 l old) (front-written t w packed indices i h ∙ ap (λ k. list_of t w packed (take k indices)) spent_all)

-- ---- what the call gives and leaves

list-long : (t w : ℕ) (packed indices : List ℕ) → length (list_of t w packed indices) ≡ length indices
unfolding list_of
list-long t w packed indices = length-tab (length indices) _

-- a front part of a list that is taken is taken
front-taken : (t w : ℕ) (packed indices output : List ℕ) (k : ℕ) → k ≤ length indices → Listable t w packed indices output
    → answer_for (list_takes t w packed (take k indices) (take k output)) ≡ Done
front-taken t w packed indices output k h given =
    let long = length-take-le k indices h in
    let room = length-take-le k output (omega (arith, given.room)) in
    list-good t w packed (take k indices) (take k output) given.narrow given.whole (room ∙ sym long)
    ((first-beyond-none 1024 (take k indices)).1
    (λ i b. subst (λ n. n < 1024) (sym (get_or-take k indices i 0 (omega arith))) (index_within _ (given.inside i (omega arith)))))

-- What it gives stands for the answer of access by the list, and for the lookups answered and their words where it is
-- done.
module _ (t w : ℕ) (packed indices output : List ℕ) (budget : ℕ) where
  answer : Answer
  answer = answer_for (list_takes t w packed indices output)

  k : ℕ
  k = affordable t w indices budget

  pub within_answers : answer_of (within_gives t w packed indices output budget) ≡ answer_for (list_takes t w packed indices output)
  unfolding within_gives answer
  within_answers = says_answer _ Refused answer_of refl (λ _. refl) answer

  pub within_counts : answered_of (within_gives t w packed indices output budget) ≡ left (answer_for (list_takes t w packed indices output)) (affordable t w indices budget) 0
  unfolding within_gives answer k
  within_counts = says_number (Front k (front_words t w indices k)) Refused answered_of 0 (λ _. refl) answer

  pub within-words : words_of (within_gives t w packed indices output budget)
      ≡ left (answer_for (list_takes t w packed indices output)) (front_words t w indices (affordable t w indices budget)) 0
  unfolding within_gives answer k
  within-words = says_number (Front k (front_words t w indices k)) Refused words_of 0 (λ _. refl) answer

  module _ (done : answer_for (list_takes t w packed indices output) ≡ Done) where
    -- The remaining outputs are unchanged.
    pub within-rest : drop (affordable t w indices budget) (within_leaves t w packed indices output budget) ≡ drop (affordable t w indices budget) output
    unfolding within_leaves k
    within-rest =
        let x = list_of t w packed (take k indices) in
        let n : length x ≡ k = list-long t w packed (take k indices) ∙ length-take-le k indices (affordable-part t w indices budget) in
        ap (λ a. drop k (left a (over 0 x output) output)) done
        ∙ ap (λ m. drop m (over 0 x output)) (sym n)
        ∙ over-rest x output
        ∙ ap (λ m. drop m output) n

    -- With all answered the outputs are those of the call without a budget, and for a budget of 64 bits, as every
    -- budget is, the sum is its sum.
    pub within_all : affordable t w indices budget ≡ length indices → budget < 2 ^ 64
        → (within_leaves t w packed indices output budget ≡ list_leaves t w packed indices output)
        × (front_words t w indices (affordable t w indices budget) ≡ list_words t w indices)
    unfolding within_leaves list_leaves list_of front_words
    within_all all small =
        let given = list-taken t w packed indices output done in
        let whole = take_all (affordable t w indices budget) indices (omega arith) in
        let counts = take_all (affordable t w indices budget) (counts_of_lem t w indices) (omega (arith, counts_length t w indices)) in
        let within : sum_of (take (affordable t w indices budget) (counts_of_lem t w indices)) ≤ budget = affordable-within t w indices budget in
        let sum : sum_of (counts_of_lem t w indices) < 2 ^ 64 = subst (λ l. sum_of l < 2 ^ 64) counts (omega arith) in (
          ap₂ (λ a l. left a (over 0 (list_of t w packed l) output) output) done whole
              ∙ written_all (record { room = omega (arith, given.room); is = refl }) (length indices) refl given.room
              ∙ sym (ap (λ a. left a (list_of t w packed indices) output) done),
          ap sum_of counts ∙ sym ((list_held t w indices).0 sum),
        )

    -- Access by the front part alone is done; the outputs of the front part are those that it leaves, and the words,
    -- for a budget of 64 bits, those that it gives.
    pub within-front : (answer_for (list_takes t w packed (take (affordable t w indices budget) indices) (take (affordable t w indices budget) output)) ≡ Done)
        × (take (affordable t w indices budget) (within_leaves t w packed indices output budget)
        ≡ list_leaves t w packed (take (affordable t w indices budget) indices) (take (affordable t w indices budget) output))
        × (budget < 2 ^ 64 → front_words t w indices (affordable t w indices budget) ≡ list_words t w (take (affordable t w indices budget) indices))
    unfolding within_leaves list_leaves k
    within-front =
        let given = list-taken t w packed indices output done in
        let part = affordable-part t w indices budget in
        let front = front-taken t w packed indices output k part given in
        let x = list_of t w packed (take k indices) in
        let n : length x ≡ k = list-long t w packed (take k indices) ∙ length-take-le k indices part in
        let words = front-alone t w indices k part in (
          front,
          ap (λ a. take k (left a (over 0 x output) output)) done
              ∙ ap (λ m. take m (over 0 x output)) (sym n)
              ∙ over-front x output
              ∙ sym (ap (λ a. left a x (take k output)) front),
          λ small. words ∙ sym ((list_held t w (take k indices)).0 (omega (arith, words, affordable-within t w indices budget))),
        )

-- ---- a budget of two words for each lookup

-- What access by the whole list gives, as access under a budget would give it.
abbrev pub as_front : ℕ → Listed → Afforded
as_front k (Words n) = Front k n
as_front k (Unlisted a) = Refused a

front_of : (k n : ℕ) (a : Answer) (b : Bool) → as_front k (pick b (Words n) (Unlisted a)) ≡ pick b (Front k n) (Refused a)
front_of k n a true = refl
front_of k n a false = refl

-- It is enough for all of them: what is given and left is what access by the whole list gives and leaves.
module _ (t w : ℕ) (packed indices output : List ℕ) (budget : ℕ) (ample : length indices ≤ budget / 2) (small : budget < 2 ^ 64) where
  all-afforded : affordable t w indices budget ≡ length indices
  all-afforded = affordable_all t w indices budget (omega arith)

  all-words : front_words t w indices (length indices) ≡ list_words t w indices
  unfolding front_words
  all-words =
      let counts = take_all (length indices) (counts_of_lem t w indices) (omega (arith, counts_length t w indices)) in
      let most = front-twice t w indices (length indices) (omega arith) in
      let sum : sum_of (counts_of_lem t w indices) < 2 ^ 64 = subst (λ l. sum_of l < 2 ^ 64) counts (omega arith) in
      ap sum_of counts ∙ sym ((list_held t w indices).0 sum)

  pub ample-gives : {r : Listed} → r ≡ list_gives t w packed indices output → as_front (length indices) r ≡ within_gives t w packed indices output budget
  unfolding list_gives within_gives
  ample-gives e =
      let a = answer_for (list_takes t w packed indices output) in
      ap (as_front (length indices)) e
      ∙ front_of (length indices) (list_words t w indices) a (is_done a)
      ∙ ap (λ n. pick (is_done a) (Front (length indices) n) (Refused a)) (sym all-words)
      ∙ ap (λ k. pick (is_done a) (Front k (front_words t w indices k)) (Refused a)) (sym all-afforded)

  pub ample-leaves : list_leaves t w packed indices output ≡ within_leaves t w packed indices output budget
  unfolding list_leaves within_leaves
  ample-leaves = by_answer (is_done answer) refl
    where
      answer : Answer
      answer = answer_for (list_takes t w packed indices output)

      by_answer : (b : Bool) → is_done answer ≡ b → list_leaves t w packed indices output ≡ within_leaves t w packed indices output budget
      by_answer true e =
          let done = number-done answer (eqb-true (number_of answer) 0 e) in
          sym (within_all t w packed indices output budget done all-afforded small).0
      by_answer false e =
          ap (λ b. pick b (list_of t w packed indices) output) e
          ∙ sym (ap (λ b. pick b (over 0 (list_of t w packed (take (affordable t w indices budget) indices)) output) output) e)
