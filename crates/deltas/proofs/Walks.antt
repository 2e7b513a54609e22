-- What the walks of deltas and frames hold between two rows, and what a turn makes of a row, over the element size.
-- What those that pack or unpack do besides is said in packing Walks.
-- Assumes nothing.
use mathlib.Core.Path.{◌≡◌, sym, ap, ap₂, ◌∙◌}
use mathlib.Core.List.{List}
use Prim.Native.Nat.{ℕ, zero, suc, ◌+◌, ◌*◌, ◌^◌, ◌≤◌, ◌<◌}
use native.Mathlib.Nat.{zero-add, mul-suc, mul-add-mod_self_left, mod-eq_of_lt}
use native.Mathlib.Numerals.{add-one}
use native.Mathlib.Omega.{arith}
use lib.ListN.{length, get_or}
use Rattle.lists.specs.Numbers.{plus, minus, Elements}
use Rattle.lists.specs.Tab.{tab, over}
use Rattle.lists.proofs.Tabs.{get_d_tab, tab_ext, tab_get_d, Written, written-length, written-run}
use Rattle.places.specs.Places.{place, lane, row}
use Rattle.places.specs.Sizes.{Size, lanes}
use Rattle.places.proofs.Places.{lane-lt, place-lt}
use Rattle.rows.specs.Rows.{splat_of, load_of, add_of, sub_of}
use Rattle.rows.proofs.Blocks.{row_from_lem, row_of, row_from, Laid, laid_none, laid_next, laid_all}
use Rattle.rows.proofs.Rows.{load-room, add_tab, sub_tab}
use Rattle.packing.specs.Packed.{value_at, unpack_of}
use Rattle.packing.proofs.Rounds.{digit-zero, value-zero}
use Rattle.packing.proofs.Walks.{copied_room}
use Rattle.deltas.specs.Deltas.{before, summed, undelta_of, undelta_pack_of, frame_of, unfor_pack_of}
use Rattle.deltas.proofs.Lanes.{plus-zero, minus-lt, summed-zero, length-undelta, undelta-at}
use Rattle.deltas.proofs.Lanes.{delta-row-first, delta-row-next}

-- a base has one value for each lane, so a load gives all of it
pub load-base : (t : ℕ) (b : List ℕ) → length b ≡ lanes t → load_of t b ≡ b
load-base t b e = sym (load-room t b (omega arith)) ∙ tab_get_d b 0 (lanes t) e

-- Before row r stands the base, and at later rows the row before.
abbrev pub row_before_lem : ℕ → List ℕ → List ℕ → ℕ → List ℕ
row_before_lem t v b zero = b
row_before_lem t v b (suc r) = row_of t v r

pub before_later : (t : ℕ) (v b : List ℕ) (r : ℕ) → row_before_lem t v b (r + 1) ≡ row_of t v r
before_later t v b r = rw add-one

-- ---- differences

-- A walk that holds what stands before row r writes the differences that delta stores there.
pub differ_row : {t : ℕ} (s : Size t) (v b : List ℕ) (r : ℕ) → r < t → length b ≡ lanes t
    → sub_of t (row_of t v r) (row_before_lem t v b r) ≡ tab (lanes t) (λ l. minus t (get_or v (place r l) 0) (before t v b (place r l)))
differ_row {t} s v b zero h e = ap (sub_of t (row_of t v 0)) (sym (tab_get_d b 0 (lanes t) e)) ∙ sub_tab t _ _ ∙ delta-row-first s v b
differ_row {t} s v b (suc r) h e =
    let next : r + 1 ≡ suc r = add-one r in
    sub_tab t _ _ ∙ rw next at (delta-row-next s v b r (rw next h))

-- ---- sums

-- the numbers of row r, added to what stands before it in the sums, are the row of the sums
pub sum_row : {t : ℕ} (s : Size t) (v b : List ℕ) (r : ℕ) → r < t → length b ≡ lanes t
    → add_of t (row_of t v r) (row_before_lem t (undelta_of t v b) b r) ≡ row_of t (undelta_of t v b) r
unfolding summed
sum_row {t} s v b zero h e =
    ap (add_of t (row_of t v 0)) (sym (tab_get_d b 0 (lanes t) e))
    ∙ add_tab t _ _
    ∙ tab_ext (lanes t) _ _ 0 (λ l hl. sym (undelta-at s v b l hl 0 h))
sum_row {t} s v b (suc r) h e =
    add_tab t _ _
    ∙ tab_ext (lanes t) _ _ 0
    (λ l hl.
    ap (plus t (get_or v (place (suc r) l) 0)) (undelta-at s v b l hl r (omega arith))
    ∙ sym (undelta-at s v b l hl (suc r) h))

-- Before row r, a walk that sums the numbers v has laid down the rows before it, and holds the last of them; at row 0
-- it holds the base.
pub record Summing (t : ℕ) (v b : List ℕ) (r : ℕ) (y prev : List ℕ) : Type 0 where
  pub base : length b ≡ lanes t
  pub laid : Laid t r (λ p. get_or (undelta_of t v b) p 0) y
  pub holds : prev ≡ row_before_lem t (undelta_of t v b) b r

-- before the first row it holds the base
pub summing_none : {t : ℕ} {v b y prev : List ℕ} → length b ≡ lanes t → length y ≡ 1024 → prev ≡ load_of t b
    → Summing t v b 0 y prev
summing_none {t} {b = b} e long ep = record { base = e; laid = laid_none long; holds = ep ∙ load-base t b e }

-- the next row is summed, put in its place, and held
pub summing_next : {t : ℕ} (s : Size t) {r : ℕ} → r < t → {v b y prev : List ℕ} → Summing t v b r y prev
    → {start : ℕ} → start ≡ place r 0 → {row next z : List ℕ} → row ≡ row_of t v r → next ≡ add_of t row prev
    → z ≡ over start next y → Summing t v b (r + 1) z next
summing_next {t} s {r} hr {v} {b} w es er en ez =
    let sums = en ∙ ap₂ (add_of t) er w.holds ∙ sum_row s v b r hr w.base in
    record {
      base = w.base;
      laid = laid_next s hr w.laid es sums ez;
      holds = sums ∙ sym (before_later t (undelta_of t v b) b r);
    }

-- after the last row all is summed
pub summing_all : {t : ℕ} (s : Size t) {n : ℕ} {v b y prev : List ℕ} → Summing t v b n y prev → t ≤ n
    → y ≡ undelta_of t v b
summing_all {t} s {v = v} {b} w h = laid_all s w.laid h ∙ tab_get_d (undelta_of t v b) 0 1024 (length-undelta t v b)

-- ---- frames

-- the row of differences from the reference is a row of the frame
pub frame_row : {t : ℕ} (s : Size t) (r start reference : ℕ) (values : List ℕ) → r < t → start ≡ place r 0
    → sub_of t (row_from_lem t values start) (splat_of t reference) ≡ row_of t (frame_of t values reference) r
unfolding splat_of frame_of
frame_row {t} s r start reference values hr e =
    ap (λ x. sub_of t x (splat_of t reference)) (row_from t r start values e)
    ∙ sub_tab t _ _
    ∙ tab_ext (lanes t) _ _ 0
    (λ l hl. sym (get_d_tab 1024 (λ p. minus t (get_or values p 0) reference) (place r l) 0 (place-lt s r l hr hl)))

-- its values are elements
pub frame_small : {t : ℕ} (s : Size t) (values : List ℕ) (reference p : ℕ) → p < 1024 → get_or (frame_of t values reference) p 0 < 2 ^ t
unfolding frame_of
frame_small {t} s values reference p h = rw (get_d_tab 1024 (λ p. minus t (get_or values p 0) reference) p 0 h) (minus-lt t (get_or values p 0) reference)

-- a row of values, each raised by the reference
pub raised_row : (t : ℕ) (f : ℕ → ℕ) (reference : ℕ) → add_of t (tab (lanes t) f) (splat_of t reference) ≡ tab (lanes t) (λ l. plus t (f l) reference)
unfolding splat_of
raised_row t f reference = add_tab t _ _

-- a row of values that are read is a row of the unpacked block
pub unpacked_row : {t : ℕ} (s : Size t) (w r : ℕ) (packed : List ℕ) → r < t
    → tab (lanes t) (λ l. value_at t w packed (place r l)) ≡ row_of t (unpack_of t w packed) r
unfolding unpack_of
unpacked_row {t} s w r packed hr = tab_ext (lanes t) _ _ 0 (λ l hl. sym (get_d_tab 1024 (value_at t w packed) (place r l) 0 (place-lt s r l hr hl)))

-- ---- width 0

-- A packed block of width 0 has no words and every number of it is zero: a row of values is what is added to zeros.
pub no-words_raised : {t : ℕ} (s : Size t) (packed : List ℕ) (reference : ℕ) → reference < 2 ^ t
    → tab 1024 (λ p. get_or (splat_of t reference) (lane t p) 0) ≡ unfor_pack_of t 0 packed reference
unfolding splat_of unfor_pack_of
no-words_raised {t} s packed reference small =
    tab_ext 1024 _ _ 0
    (λ p h.
    get_d_tab (lanes t) _ (lane t p) 0 (lane-lt s p h)
    ∙ sym (ap (λ n. plus t n reference) (value-zero t packed p) ∙ plus-zero t reference small))

pub no-words-summed : (t : ℕ) (packed b : List ℕ) → length b ≡ lanes t → Elements t b
    → tab 1024 (λ p. get_or (load_of t b) (lane t p) 0) ≡ undelta_pack_of t 0 packed b
unfolding undelta_pack_of
no-words-summed t packed b e small =
    tab_ext 1024 _ _ 0
    (λ p _.
    ap (λ x. get_or x (lane t p) 0) (load-base t b e)
    ∙ sym (summed-zero t _ (digit-zero _) (get_or b (lane t p) 0) (small (lane t p)) (row t p)))

-- The rows of places are one after another: where those before row r hold the row again and again, and it is put there,
-- those before the next one do.
pub repeated : {t : ℕ} (size : Size t) {r : ℕ} → r < t → (row : List ℕ) {x y z : List ℕ} → length row ≡ lanes t → length x ≡ 1024
    → Written 0 (lanes t * r) (λ p. get_or row (lane t p) 0) x y → {q : ℕ} → q ≡ lanes t * r → z ≡ over q row y
    → Written 0 (lanes t * (r + 1)) (λ p. get_or row (lane t p) 0) x z
unfolding lane
repeated {t} size {r} hr row {x} {y} long all w {q} eq ez =
    let next : lanes t * (r + 1) ≡ lanes t * r + lanes t = ap (λ n. lanes t * n) (add-one r) ∙ mul-suc (lanes t) r in
    let again =
    sym (tab_get_d row 0 (lanes t) long)
    ∙ tab_ext (lanes t) _ _ 0 (λ l h. ap (λ n. get_or row n 0) (sym (mul-add-mod_self_left (lanes t) r l ∙ mod-eq_of_lt h))) in
    rw next
    (written-run w q (eq ∙ sym (zero-add (lanes t * r)))
    (record {
      room = omega (arith, copied_room size r hr, written-length w);
      is = ez ∙ ap (λ v. over q v y) again;
    }))
