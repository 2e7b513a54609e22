-- The cases P1 to P11 (R150) hold: one theorem over the one list, `cases_hold`. Before it stands a lemma for each kind
-- of case. It leaves to a case only what is computed from its numbers.
-- Assumes nothing.
use mathlib.Core.Bool.{Bool, true, false}
use mathlib.Core.List.{List}
use mathlib.Core.Path.{◌≡◌, refl, sym, ap, ap₂, ◌∙◌, subst}
use Prim.Native.Nat.{ℕ, zero, suc, ◌+◌, ◌*◌, ◌%◌, ◌^◌, ◌≤◌, ◌<◌}
use native.Mathlib.Numerals.{add-one}
use native.Mathlib.Decide.{dec_lt}
use native.Mathlib.Omega.{arith}
use lib.Dec.{eqb, lit<, lit≤}
use lib.ListN.{length, get_or, get_or-eq_default}
use lib.Pow.{pow_pos}
use borrow.Author.Tests.{ne_eqb}
use Rattle.lists.specs.Numbers.{number, digit, plus, minus, Elements}
use Rattle.lists.specs.Pick.{pick}
use Rattle.lists.specs.Tab.{tab, tab_from}
use Rattle.lists.proofs.Digits.{number_ext, elements-of}
use Rattle.lists.proofs.Every.{Same, same}
use Rattle.lists.proofs.Search.{first-beyond-none}
use Rattle.lists.proofs.Tabs.{get_d_tab, length-tab}
use Rattle.places.specs.Places.{order, place, lane, row, source}
use Rattle.places.specs.Sizes.{Size, lanes}
use Rattle.places.specs.Transposes.{transpose_of, untranspose_of, transpose_leaves, untranspose_leaves}
use Rattle.places.proofs.Places.{size8, size16, size32, size64, lane_place, row-place, target-source, source-lt}
use Rattle.places.proofs.Walks.{good_blocks}
use Rattle.packing.specs.Calls.{pack_leaves}
use Rattle.packing.specs.Packed.{word, part, words_number, values_number, value_at}
use Rattle.packing.proofs.Answers.{pack-leaves}
use Rattle.packing.proofs.Rounds.{word-pack}
use Rattle.access.specs.declared.Single.{Single}
use Rattle.access.specs.declared.Single.TheVariants.{Value, Refused}
use Rattle.access.specs.Calls.{single, single_of}
use Rattle.access.specs.Counts.{words_read, count_at}
use Rattle.access.proofs.Answers.{single-good, index_in}
use Rattle.deltas.specs.Calls.{delta_leaves}
use Rattle.deltas.proofs.Answers.{for_pack-leaves, unfor_pack-leaves, delta-leaves}
use Rattle.deltas.proofs.Restores.{frame_back}
use Rattle.deltas.proofs.Lanes.{length_for_pack, delta-first, delta-next}
use Rattle.runs.specs.Calls.{decode_leaves}
use Rattle.runs.specs.Runs.{decode_of}
use Rattle.runs.proofs.Answers.{decode-done}
use Rattle.bits.specs.Bits.{bit, goes_to, transpose_bits_of}
use Rattle.bits.proofs.Bits.{transpose_puts}
use Rattle.promises.specs.Cases.{Mark, ◌at◌, Holding, Rows, SameAt, Needed, Each, stands, comes, packs, reads, frames, steps, runs, moves, Holds, rows_p6, block_p10, indices_p10, values_p10, cases, All}

-- ---- a place, a source, and a bit

place-holds : {t : ℕ} → Size t → (r l p : ℕ) → r < t → l < lanes t → place r l ≡ p → Holds (stands t r l p)
unfolding Holds
place-holds {t} s r l p hr hl e = (hr, hl, e, ap (row t) (sym e) ∙ row-place s r l hr hl, ap (lane t) (sym e) ∙ lane_place s r l hr hl)

source-holds : (i j : ℕ) → i < 1024 → source i ≡ j → Holds (comes i j)
unfolding Holds transpose_leaves untranspose_leaves transpose_of untranspose_of
source-holds i j h e = (
  e,
  λ input output li lo.
      rw (good_blocks input output li lo) (
        get_d_tab 1024 _ i 0 h ∙ ap (λ k. get_or input k 0) e,
        ap (λ k. get_or (untranspose_of input) k 0) (sym e)
            ∙ get_d_tab 1024 _ (source i) 0 (source-lt i h)
            ∙ ap (λ k. get_or input k 0) (target-source i h),
      ),
)

bit-holds : {t : ℕ} → Size t → (p q : ℕ) → p < 1024 → goes_to t p ≡ q → Holds (moves t p q)
unfolding Holds
bit-holds {t} s p q h e = (e, λ b. ap (bit (transpose_bits_of t b)) (sym e) ∙ transpose_puts s b p h)

-- ---- a packed lane, and single access

-- the words of lane l, each at its place: the digits of the number that the rows make
lane_words : (t w l : ℕ) → List ℕ → List Mark
lane_words t w l rows = tab w (λ k. digit t (number w (λ r. get_or rows r 0 % 2 ^ w) t) k at (lanes t * k + l))

holding_from : (x : List ℕ) (f : ℕ → Mark) (s n : ℕ) → ((k : ℕ) → k < s + n → get_or x (f k).spot 0 ≡ (f k).shows)
    → Holding x (tab_from s n f)
unfolding tab_from
holding_from x f s zero h = tt
holding_from x f s (suc n) h = (h s (omega arith), holding_from x f (suc s) n (λ k l. h k (omega arith)))

lane-holds : (t w l : ℕ) (rows : List ℕ) (words : List Mark) → w ≤ t → l < lanes t → length rows ≡ t → lane_words t w l rows ≡ words
    → Holds (packs t w l rows words)
unfolding Holds lane_words tab word values_number part
lane-holds t w l rows words hw hl lr e values packed lv lp held =
    subst (Holding (pack_leaves t w values packed)) e
    (holding_from (pack_leaves t w values packed) _ 0 w
    (λ k hk.
    ap (λ x. get_or x (lanes t * k + l) 0) (pack-leaves t w values packed hw lv lp)
    ∙ word-pack t w l k hl (omega arith) values
    ∙ ap (λ m. digit t m k)
    (number_ext w (part w values l) (λ r. get_or rows r 0 % 2 ^ w) t (λ r hr. ap (λ n. n % 2 ^ w) (held r (omega arith))))))

-- single access within the block gives the value at its place, and its count
read_is : (t w p : ℕ) (packed : List ℕ) → w ≤ t → p < 1024 → length packed ≡ lanes t * w
    → single_of Value Refused t w packed p ≡ Value (value_at t w packed p) (count_at t w p)
read_is t w p packed hw hp lp =
    sym (single-good Value Refused t w packed p hw lp) ∙ ap (λ a. single Value Refused a (value_at t w packed p) (count_at t w p)) (index_in p hp)

-- n words, all 0 but the one at k, which is b
marked : (n k b : ℕ) → List ℕ
marked n k b = tab n (λ i. pick (eqb i k) b 0)

module _ (t n k b : ℕ) (small : b < 2 ^ t) where
  either-small : (c : Bool) → pick c b 0 < 2 ^ t
  either-small true = small
  either-small false = pow_pos t

  marked_fits : (length (marked n k b) ≡ n) × Elements t (marked n k b)
  unfolding marked
  marked_fits = (
    length-tab n _,
    elements-of t n (tab n (λ i. pick (eqb i k) b 0)) (length-tab n _)
        (λ i h. rw (get_d_tab n (λ i. pick (eqb i k) b 0) i 0 h) (either-small (eqb i k))),
  )

-- away from the mark every word is 0
marked_off : (n k b i : ℕ) → (i ≡ k → ⊥) → get_or (marked n k b) i 0 ≡ 0
unfolding marked
marked_off n k b i off =
    elim (dec_lt i n) [
      | yes h ↦ get_d_tab n (λ i. pick (eqb i k) b 0) i 0 h ∙ simp (ne_eqb i k off)
      | no h ↦ get_or-eq_default (tab n (λ i. pick (eqb i k) b 0)) 0 {n = i} (omega (arith, length-tab n (λ i. pick (eqb i k) b 0)))
    ]

-- a mark that changes the value shows that its word is needed
value-apart : (x y : Single ℕ) (v w m n : ℕ) → x ≡ Value v m → y ≡ Value w n → x ≡ y → v ≡ w
value-apart x y v w m n p q e = cc

is_needed : (t w p k b : ℕ) → w ≤ t → p < 1024 → b < 2 ^ t
    → (value_at t w (marked (lanes t * w) k 0) p ≡ value_at t w (marked (lanes t * w) k b) p → ⊥) → Needed t w p k
is_needed t w p k b hw hp small changes =
    let none = marked_fits t (lanes t * w) k 0 (pow_pos t) in
    let some = marked_fits t (lanes t * w) k b small in
    record {
      one = marked (lanes t * w) k 0;
      other = marked (lanes t * w) k b;
      one_fits = none;
      other_fits = some;
      same = λ i off. marked_off (lanes t * w) k 0 i off ∙ sym (marked_off (lanes t * w) k b i off);
      apart = λ e. changes (value-apart _ _ _ _ _ _ (read_is t w p _ hw hp none.0) (read_is t w p _ hw hp some.0) e);
    }

read-holds : (t w : ℕ) (words : List Mark) (p value : ℕ) (from : List ℕ) → w ≤ t → p < 1024
    → ((packed : List ℕ) → Holding packed words → value_at t w packed p ≡ value)
    → count_at t w p ≡ length from
    → ((x y : List ℕ) → SameAt from x y → value_at t w x p ≡ value_at t w y p)
    → Each (Needed t w p) from → Holds (reads t w words p value from)
unfolding Holds
read-holds t w words p value from hw hp given many same needed = (
  (λ packed lp held. read_is t w p packed hw hp lp ∙ ap₂ Value (given packed held) many),
  (λ x y lx ly agree. read_is t w p x hw hp lx ∙ ap (λ v. Value v (count_at t w p)) (same x y agree) ∙ sym (read_is t w p y hw hp ly)),
  needed,
)

-- ---- a frame

frame-holds : {t : ℕ} → Size t → (w value reference difference result : ℕ) → w ≤ t
    → minus t value reference ≡ difference → plus t (difference % 2 ^ w) reference ≡ result
    → Holds (frames t w value reference difference result)
unfolding Holds
frame-holds {t} s w value reference difference result hw d back = (
  d,
  λ values packed output lv lp lo p h e.
      let ef = length_for_pack t w values reference in
      rw (for_pack-leaves t w values packed hw lv lp reference, unfor_pack-leaves t w output _ hw lo ef reference)
      (frame_back s w values reference p h
      ∙ ap (λ n. plus t (minus t n reference % 2 ^ w) reference) e
      ∙ ap (λ n. plus t (n % 2 ^ w) reference) d
      ∙ back),
)

-- ---- the differences of a lane

-- row r of a lane that has this base and these rows, minus what stands before it
step_of : ℕ → ℕ → List ℕ → ℕ → ℕ
step_of t base rows zero = minus t (get_or rows 0 0) base
step_of t base rows (suc r) = minus t (get_or rows (suc r) 0) (get_or rows r 0)

module _ {t : ℕ} (s : Size t) (base : ℕ) (rows : List ℕ) (fits : length rows ≤ t) where
  step_left : (values bases output : List ℕ) → length values ≡ 1024 → length bases ≡ lanes t → length output ≡ 1024
      → (l : ℕ) → l < lanes t → get_or bases l 0 ≡ base → Rows values l rows
      → (r : ℕ) → r < length rows → get_or (delta_leaves t values bases output) (place r l) 0 ≡ step_of t base rows r
  unfolding step_of
  step_left values bases output lv lb lo l hl eb held zero hr =
      rw (delta-leaves t values bases output lv lo lb) (delta-first s values bases l hl ∙ ap₂ (minus t) (held zero hr) eb)
  step_left values bases output lv lb lo l hl eb held (suc r) hr =
      rw (delta-leaves t values bases output lv lo lb)
      (rw add-one at (delta-next s values bases l hl r (omega arith)) ∙ ap₂ (minus t) (held (suc r) hr) (held r (omega arith)))

  steps_hold : (differences : List ℕ) → length differences ≤ length rows
      → Same (length differences) (step_of t base rows) (λ r. get_or differences r 0) → Holds (steps t base rows differences)
  unfolding Holds
  steps_hold differences shorter test values bases output lv lb lo l hl eb held r hr =
      step_left values bases output lv lb lo l hl eb held r (omega arith)
      ∙ same (length differences) (step_of t base rows) (λ r. get_or differences r 0) test r hr

-- ---- runs

-- each of P10's indices has a value, which is the block's
index_below : (i : ℕ) → get_or indices_p10.front i indices_p10.rest < 3
index_below zero = lit< tt
index_below (suc zero) = lit< tt
index_below (suc (suc zero)) = lit< tt
index_below (suc (suc (suc zero))) = lit< tt
index_below (suc (suc (suc (suc k)))) = lit< tt

value_of : (a b i : ℕ) → get_or (values_p10 a b) (get_or indices_p10.front i indices_p10.rest) 0 ≡ get_or (block_p10 a b).front i (block_p10 a b).rest
value_of a b zero = refl
value_of a b (suc zero) = refl
value_of a b (suc (suc zero)) = refl
value_of a b (suc (suc (suc zero))) = refl
value_of a b (suc (suc (suc (suc k)))) = refl

runs_hold : Holds (runs values_p10 indices_p10 block_p10)
unfolding Holds decode_leaves decode_of
runs_hold a b places output lp lo whole =
    let below : (i : ℕ) → i < length places → get_or places i 0 < 3 = λ i h. rw (whole i (omega arith)) (index_below i) in
    rw (decode-done (values_p10 a b) places output lp lo ((first-beyond-none 3 places).1 below)) (
      refl,
      λ i h. get_d_tab 1024 _ i 0 h ∙ ap (λ k. get_or (values_p10 a b) k 0) (whole i h) ∙ value_of a b i,
    )

-- ---- the list

-- what holds of the first case of a list, before what holds of the others
◌and◌ : {A B : Type 0} → A → B → A × B
a and b = (a, b)

infixr 20 ◌and◌
-- In the order of the list. P5 stands in four lines, and P8 and P11 in two each.
pub cases_hold : All Holds cases
unfolding order place lane row source goes_to minus plus number digit tab tab_from lane_words word words_number value_at words_read count_at step_of marked
cases_hold =
    place-holds size8 _ _ _ (lit< tt) (lit< tt) refl
    and place-holds size16 _ _ _ (lit< tt) (lit< tt) refl
    and place-holds size32 _ _ _ (lit< tt) (lit< tt) refl
    and place-holds size64 _ _ _ (lit< tt) (lit< tt) refl
    and source-holds _ _ (lit< tt) refl
    and source-holds _ _ (lit< tt) refl
    and source-holds _ _ (lit< tt) refl
    and source-holds _ _ (lit< tt) refl
    and lane-holds _ _ _ rows_p6 _ (lit≤ tt) (lit< tt) refl refl
    and read-holds _ _ _ _ _ _ (lit≤ tt) (lit< tt) (λ packed held. rw (held.0, held.1.0, held.1.1.0)) refl (λ x y agree. omega (arith, agree.0, agree.1.0))
    (is_needed _ _ _ _ 64 (lit≤ tt) (lit< tt) (lit< tt) (λ e. let z : ◌≡◌ {A = ℕ} 0 1 = e in omega arith) and is_needed _ _ _ _ 1 (lit≤ tt) (lit< tt) (lit< tt) (λ e. let z : ◌≡◌ {A = ℕ} 0 4 = e in omega arith) and tt)
    and frame-holds size8 _ _ _ _ _ (lit≤ tt) refl refl
    and frame-holds size8 _ _ _ _ _ (lit≤ tt) refl refl
    and steps_hold size8 _ _ (lit≤ tt) _ (lit≤ tt) tt
    and runs_hold
    and bit-holds size16 _ _ (lit< tt) refl
    and bit-holds size64 _ _ (lit< tt) refl
    and tt
