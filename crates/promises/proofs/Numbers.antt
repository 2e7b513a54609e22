-- The table of the numbers 0 to 7 (R143), call by call and in plain arithmetic: when a call gives each of its numbers
-- with place p (R3). All of it follows from the one table. Then the table's corners: an empty dictionary (R59), and
-- width 0, where every value is 0 and an index is looked at as anywhere (R38).
--
-- In each statement `gives n` says that the call gives number n with place p. To the right of it stand first the
-- conditions of the lower numbers, turned round since none of them applies, and then the number's own with its place. A
-- number that has no line belongs to nothing that the call takes, so the table never gives it; `exactly` in
-- proofs/Tables.antt says that too.
-- Assumes nothing.
use mathlib.Core.List.{List, []}
use mathlib.Core.Logic.{◌↔◌, ◌≢◌, ◌⊎◌}
use mathlib.Core.Path.{◌≡◌, refl, sym, ap, ap₂, ◌∙◌}
use Prim.Native.Nat.{ℕ, ◌*◌, ◌≤◌, ◌<◌}
use native.Mathlib.Omega.{arith}
use lib.ListN.{length, get_or}
use Rattle.lists.specs.Search.{first_beyond}
use Rattle.lists.specs.Tab.{tab}
use Rattle.lists.proofs.Tabs.{tab_ext}
use Rattle.places.specs.declared.Answer.{Answer}
use Rattle.places.specs.declared.Answer.TheVariants.{Done}
use Rattle.places.specs.Answers.{number_of, place_of, left}
use Rattle.places.specs.Places.{row}
use Rattle.places.specs.Sizes.{lanes}
use Rattle.places.specs.Takes.{answer_for}
use Rattle.places.specs.Transposes.{transpose_takes}
use Rattle.packing.specs.Calls.{pack_takes}
use Rattle.packing.specs.Packed.{value_at}
use Rattle.packing.proofs.Rounds.{value-zero}
use Rattle.access.specs.Calls.{single_takes, single, single_of, list_takes, list_of, list_leaves}
use Rattle.access.specs.Counts.{count_at}
use Rattle.access.proofs.Answers.{list-good, index_in, single-good}
use Rattle.access.proofs.Counts.{words-none}
use Rattle.deltas.specs.Calls.{delta_takes, undelta_pack_takes}
use Rattle.runs.specs.Calls.{decode_takes}
use Rattle.promises.specs.Tables.{Lowest, Gives}
use Rattle.promises.proofs.Tables.{plainly}

-- transpose, untranspose
pub transpose-numbers : (input output : List ℕ) (p : ℕ)
    → let gives : ℕ → Type 0 = λ n. Gives (answer_for (transpose_takes input output)) n p in
    (gives 0 ↔ ((length input ≡ 1024) × ((length output ≡ 1024) × (p ≡ 0))))
    × (gives 2 ↔ (((length input ≢ 1024) × (p ≡ 0)) ⊎ ((length output ≢ 1024) × (p ≡ 0))))
transpose-numbers input output p =
    let row = plainly (transpose_takes input output) refl in
    (row 0 p, row 2 p)

-- pack, unpack, for_pack, unfor_pack
pub pack-numbers : (t w : ℕ) (values packed : List ℕ) (p : ℕ)
    → let gives : ℕ → Type 0 = λ n. Gives (answer_for (pack_takes t w values packed)) n p in
    (gives 0 ↔ ((w ≤ t) × ((length values ≡ 1024) × ((length packed ≡ lanes t * w) × (p ≡ 0)))))
    × (gives 1 ↔ ((t < w) × (p ≡ 0)))
    × (gives 2 ↔ ((w ≤ t) × ((length values ≢ 1024) × (p ≡ 0))))
    × (gives 3 ↔ ((w ≤ t) × ((length values ≡ 1024) × ((length packed ≢ lanes t * w) × (p ≡ 0)))))
pack-numbers t w values packed p =
    let row = plainly (pack_takes t w values packed) refl in
    (row 0 p, row 1 p, row 2 p, row 3 p)

-- single access
pub single-numbers : (t w : ℕ) (packed : List ℕ) (index p : ℕ)
    → let gives : ℕ → Type 0 = λ n. Gives (answer_for (single_takes t w packed index)) n p in
    (gives 0 ↔ ((w ≤ t) × ((length packed ≡ lanes t * w) × ((index < 1024) × (p ≡ 0)))))
    × (gives 1 ↔ ((t < w) × (p ≡ 0)))
    × (gives 3 ↔ ((w ≤ t) × ((length packed ≢ lanes t * w) × (p ≡ 0))))
    × (gives 6 ↔ ((w ≤ t) × ((length packed ≡ lanes t * w) × ((1024 ≤ index) × (p ≡ 0)))))
single-numbers t w packed index p =
    let row = plainly (single_takes t w packed index) refl in
    (row 0 p, row 1 p, row 3 p, row 6 p)

-- access by a list
pub list-numbers : (t w : ℕ) (packed indices output : List ℕ) (p : ℕ)
    → let gives : ℕ → Type 0 = λ n. Gives (answer_for (list_takes t w packed indices output)) n p in
    let good : Type 0 = (i : ℕ) → i < length indices → get_or indices i 0 < 1024 in
    (gives 0 ↔ ((w ≤ t) × ((length packed ≡ lanes t * w) × ((length output ≡ length indices) × (good × (p ≡ 0))))))
    × (gives 1 ↔ ((t < w) × (p ≡ 0)))
    × (gives 3 ↔ ((w ≤ t) × ((length packed ≢ lanes t * w) × (p ≡ 0))))
    × (gives 5 ↔ ((w ≤ t) × ((length packed ≡ lanes t * w) × ((length output ≢ length indices) × (p ≡ 0)))))
    × (gives 6 ↔ ((w ≤ t) × ((length packed ≡ lanes t * w) × ((length output ≡ length indices) × Lowest 1024 indices p))))
list-numbers t w packed indices output p =
    let row = plainly (list_takes t w packed indices output) refl in
    (row 0 p, row 1 p, row 3 p, row 5 p, row 6 p)

-- delta, undelta
pub delta-numbers : (t : ℕ) (input base output : List ℕ) (p : ℕ)
    → let gives : ℕ → Type 0 = λ n. Gives (answer_for (delta_takes t input base output)) n p in
    (gives 0 ↔ ((length input ≡ 1024) × ((length output ≡ 1024) × ((length base ≡ lanes t) × (p ≡ 0)))))
    × (gives 2 ↔ (((length input ≢ 1024) × (p ≡ 0)) ⊎ ((length output ≢ 1024) × (p ≡ 0))))
    × (gives 4 ↔ ((length input ≡ 1024) × ((length output ≡ 1024) × ((length base ≢ lanes t) × (p ≡ 0)))))
delta-numbers t input base output p =
    let row = plainly (delta_takes t input base output) refl in
    (row 0 p, row 2 p, row 4 p)

-- undelta_pack
pub undelta-pack-numbers : (t w : ℕ) (values packed base : List ℕ) (p : ℕ)
    → let gives : ℕ → Type 0 = λ n. Gives (answer_for (undelta_pack_takes t w values packed base)) n p in
    (gives 0 ↔ ((w ≤ t) × ((length values ≡ 1024) × ((length packed ≡ lanes t * w) × ((length base ≡ lanes t) × (p ≡ 0))))))
    × (gives 1 ↔ ((t < w) × (p ≡ 0)))
    × (gives 2 ↔ ((w ≤ t) × ((length values ≢ 1024) × (p ≡ 0))))
    × (gives 3 ↔ ((w ≤ t) × ((length values ≡ 1024) × ((length packed ≢ lanes t * w) × (p ≡ 0)))))
    × (gives 4 ↔ ((w ≤ t) × ((length values ≡ 1024) × ((length packed ≡ lanes t * w) × ((length base ≢ lanes t) × (p ≡ 0))))))
undelta-pack-numbers t w values packed base p =
    let row = plainly (undelta_pack_takes t w values packed base) refl in
    (row 0 p, row 1 p, row 2 p, row 3 p, row 4 p)

-- decode
pub decode-numbers : (dictionary indices output : List ℕ) (p : ℕ)
    → let gives : ℕ → Type 0 = λ n. Gives (answer_for (decode_takes dictionary indices output)) n p in
    let good : Type 0 = (i : ℕ) → i < length indices → get_or indices i 0 < length dictionary in
    (gives 0 ↔ ((length indices ≡ 1024) × ((length output ≡ 1024) × (good × (p ≡ 0)))))
    × (gives 2 ↔ (((length indices ≢ 1024) × (p ≡ 0)) ⊎ ((length output ≢ 1024) × (p ≡ 0))))
    × (gives 7 ↔ ((length indices ≡ 1024) × ((length output ≡ 1024) × Lowest (length dictionary) indices p)))
decode-numbers dictionary indices output p =
    let row = plainly (decode_takes dictionary indices output) refl in
    (row 0 p, row 2 p, row 7 p)

-- An empty dictionary gives 7 at place 0, since there the first index is already beyond it.
pub empty_dictionary : (indices output : List ℕ) → length indices ≡ 1024 → length output ≡ 1024 → Gives (answer_for (decode_takes [] indices output)) 7 0
empty_dictionary indices output ei eo =
    (decode-numbers [] indices output 0).2.1
    (ei, (eo, record { within = omega arith; beyond = omega arith; earlier = λ i h. absurd (omega arith) }))

module _ (t : ℕ) (packed : List ℕ) (e : length packed ≡ 0) where
  none : length packed ≡ lanes t * 0
  none = omega arith

  -- At width 0 single access gives the value 0 for each index within the block, from no word,
  pub single-zero : {S : Type 0} (value : ℕ → ℕ → S) (refused : Answer → S) (index : ℕ) → index < 1024
      → single_of value refused t 0 packed index ≡ value 0 0
  unfolding count_at
  single-zero value refused index h =
      sym (single-good value refused t 0 packed index (omega arith) none)
      ∙ ap (λ a. single value refused a (value_at t 0 packed index) (count_at t 0 index)) (index_in index h)
      ∙ ap₂ value (value-zero t packed index) (words-none t 0 (row t index) refl)

  -- and a list of such indices is done, with 0 at each place.
  pub list-zero : (indices output : List ℕ) → length output ≡ length indices → first_beyond 1024 indices ≡ length indices
      → Gives (answer_for (list_takes t 0 packed indices output)) 0 0 × (list_leaves t 0 packed indices output ≡ tab (length indices) (λ _. 0))
  unfolding list_leaves list_of
  list-zero indices output eo good =
      let done : answer_for (list_takes t 0 packed indices output) ≡ Done = list-good t 0 packed indices output (omega arith) none eo good in (
        (ap number_of done, ap place_of done),
        ap (λ a. left a (list_of t 0 packed indices) output) done
            ∙ tab_ext (length indices) _ _ 0 (λ i h. value-zero t packed (get_or indices i 0)),
      )
