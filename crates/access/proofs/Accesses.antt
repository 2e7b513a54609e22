-- The laws of access, over the element size and the width: single access as unpack at its place (R37), and list access
-- as single access entry by entry (R45). Each law speaks of what the calls give and leave.
-- Assumes nothing.
use mathlib.Core.Path.{◌≡◌, refl, sym, ap, ap₂, ◌∙◌}
use mathlib.Core.List.{List}
use Prim.Native.Nat.{ℕ, ◌*◌, ◌≤◌, ◌<◌}
use lib.ListN.{length, get_or}
use Rattle.lists.specs.Search.{first_beyond}
use Rattle.lists.proofs.Tabs.{get_d_tab}
use Rattle.places.specs.declared.Answer.{Answer}
use Rattle.places.specs.declared.Answer.TheVariants.{Done, Index}
use Rattle.places.specs.Answers.{left}
use Rattle.places.specs.Sizes.{lanes}
use Rattle.places.specs.Takes.{answer_for}
use Rattle.places.proofs.Answers.{says_answer, says_number}
use Rattle.packing.specs.Calls.{unpack_leaves}
use Rattle.packing.specs.Packed.{unpack_of, value_at}
use Rattle.packing.proofs.Answers.{good_block}
use Rattle.packing.proofs.Rounds.{unpack-at}
use Rattle.access.specs.declared.Listed.TheVariants.{Words, Refused}
use Rattle.access.specs.Calls.{single, single_takes, single_of, list_takes, list_of, list_gives, answer_of, words_of, list_leaves}
use Rattle.access.specs.Counts.{count_at, no_count, counts_of_lem, list_words}
use Rattle.access.specs.Singles as singles
use Rattle.access.specs.declared.Single.{Single}
use Rattle.access.specs.declared.Single.TheVariants as variants
use Rattle.access.proofs.Answers.{single-good, index_in, list-good, list_bad_index, indices-good}

-- What a list gives stands for the answer of the tests, and for the words where it is done.
module _ (t w : ℕ) (packed indices output : List ℕ) where
  pub list_answers : answer_of (list_gives t w packed indices output) ≡ answer_for (list_takes t w packed indices output)
  unfolding list_gives
  list_answers = says_answer _ Refused answer_of refl (λ _. refl) (answer_for (list_takes t w packed indices output))

  pub list_counts : words_of (list_gives t w packed indices output) ≡ left (answer_for (list_takes t w packed indices output)) (list_words t w indices) 0
  unfolding list_gives
  list_counts = says_number (Words (list_words t w indices)) Refused words_of 0 (λ _. refl) (answer_for (list_takes t w packed indices output))

-- Where the elements are numbers, the single answer is the one with its value as a number. So a contract that is said of
-- `single_number` is said of the answer itself there.
pub single-same : (s : Single ℕ) → singles.single_number (λ v. v) s ≡ s
single-same (variants.Value v n) = refl
single-same (variants.Refused a) = refl

-- At every type of element the answer and the count stand there as they are.
pub single_number-reads : {A : Type 0} (number : A → ℕ) (s : Single A)
    → (singles.answer_of (singles.single_number number s) ≡ singles.answer_of s) × (singles.words_of (singles.single_number number s) ≡ singles.words_of s)
single_number-reads number (variants.Value v n) = (refl, refl)
single_number-reads number (variants.Refused a) = (refl, refl)

-- What an enum's two cases stand for, read back off the single answer, is the answer of the tests, and the value at the
-- index where the call is done.
module _ {S : Type 0} (value : ℕ → ℕ → S) (refused : Answer → S) (t w : ℕ) (packed : List ℕ) (index : ℕ) where
  given : S
  given = value (value_at t w packed index) (count_at t w index)

  pub single_answers : (answer : S → Answer) → ((v n : ℕ) → answer (value v n) ≡ Done) → ((a : Answer) → answer (refused a) ≡ a)
      → answer (single_of value refused t w packed index) ≡ answer_for (single_takes t w packed index)
  unfolding single_of given
  single_answers answer ev er = says_answer given refused answer (ev _ _) er (answer_for (single_takes t w packed index))

  pub single_values : (read : S → ℕ) → ((v n : ℕ) → read (value v n) ≡ v) → ((a : Answer) → read (refused a) ≡ 0)
      → read (single_of value refused t w packed index) ≡ left (answer_for (single_takes t w packed index)) (value_at t w packed index) 0
  unfolding single_of given
  single_values read ev er =
      says_number given refused read 0 er (answer_for (single_takes t w packed index))
      ∙ ap (λ v. left (answer_for (single_takes t w packed index)) v 0) (ev _ _)

  -- The count stands where the call is done, and a refused one has none.
  pub single_counts : (count : S → ℕ) → ((v n : ℕ) → count (value v n) ≡ n) → ((a : Answer) → count (refused a) ≡ no_count)
      → count (single_of value refused t w packed index) ≡ left (answer_for (single_takes t w packed index)) (count_at t w index) no_count
  unfolding single_of given
  single_counts count ev er =
      says_number given refused count no_count er (answer_for (single_takes t w packed index))
      ∙ ap (λ n. left (answer_for (single_takes t w packed index)) n no_count) (ev _ _)

module _ {S : Type 0} (value : ℕ → ℕ → S) (refused : Answer → S) (t w : ℕ) (packed : List ℕ) (h : w ≤ t) (e : length packed ≡ lanes t * w) where
  -- Single access gives the value that unpack leaves at that place, and its count.
  pub single-unpack : (out : List ℕ) → length out ≡ 1024 → (p : ℕ) → p < 1024
      → single_of value refused t w packed p ≡ value (get_or (unpack_leaves t w out packed) p 0) (count_at t w p)
  unfolding unpack_leaves
  single-unpack out eo p hp =
      sym (single-good value refused t w packed p h e)
      ∙ ap (λ a. single value refused a (value_at t w packed p) (count_at t w p)) (index_in p hp)
      ∙ ap (λ v. value v (count_at t w p))
      (sym (unpack-at t w packed p hp) ∙ ap (λ a. get_or (left a (unpack_of t w packed) out) p 0) (sym (good_block t w out packed h eo e)))

  module _ (indices out : List ℕ) (eo : length out ≡ length indices) where
    -- Where the list is taken, each entry that it leaves is what single access gives for that index, and the entry of
    -- its counts is the count.
    pub list-single : first_beyond 1024 indices ≡ length indices → (i : ℕ) → i < length indices
        → single_of value refused t w packed (get_or indices i 0) ≡ value (get_or (list_leaves t w packed indices out) i 0) (get_or (counts_of_lem t w indices) i 0)
    unfolding list_leaves list_of counts_of_lem
    list-single good i hi =
        sym (single-good value refused t w packed (get_or indices i 0) h e)
        ∙ ap (λ a. single value refused a (value_at t w packed (get_or indices i 0)) (count_at t w (get_or indices i 0))) (indices-good indices good i hi)
        ∙ ap₂ value
        (sym (get_d_tab (length indices) (λ i. value_at t w packed (get_or indices i 0)) i 0 hi)
        ∙ ap (λ a. get_or (left a (list_of t w packed indices) out) i 0) (sym (list-good t w packed indices out h e eo good)))
        (sym (get_d_tab (length indices) (λ i. count_at t w (get_or indices i 0)) i 0 hi))

    -- Where an entry is refused, the list is refused at the first of those, and nothing is written.
    pub list-refused : first_beyond 1024 indices < length indices
        → (answer_for (list_takes t w packed indices out) ≡ Index (first_beyond 1024 indices)) × (list_leaves t w packed indices out ≡ out)
    unfolding list_leaves
    list-refused b =
        let bad = list_bad_index t w packed indices out h e eo b in
        (bad, ap (λ a. left a (list_of t w packed indices) out) bad)
