-- The differences from row to row of a block, with row 0 as their base: the row that a walk takes of them, and what a
-- walk keeps that joins their bits.
-- Assumes nothing.
use Rattle.std.proofs.Common.{◌≡◌, ℕ, zero, suc, ◌+◌, ◌-◌, ◌*◌, ◌/◌, ◌%◌, ◌^◌, ◌<◌, ◌≤◌, List, length, get_or, sym, refl, ap, ◌∙◌, subst, ap₂, le_refl, lt_of_lt_of_le, lt_of_le_of_lt, add-one, arith, pow_pos, pow_mono}
use native.Mathlib.Decide.{dec_lt}
use lib.Bits.{bit_or, or_lt, or_add_and, and_le_l, and_le_r}
use Rattle.lists.specs.Numbers.{Elements, plus, minus}
use Rattle.lists.specs.Tab.{tab}
use Rattle.lists.proofs.Digits.{elements-of}
use Rattle.lists.proofs.Tabs.{length-tab, get_d_tab, tab_ext}
use Rattle.places.specs.Places.{place, order, row, lane}
use Rattle.places.specs.Sizes.{t64, lanes}
use Rattle.places.proofs.Places.{size64, order_lt, place-row-lane, row_lt, lane-lt, place-lt, place-lane}
use Rattle.rows.specs.Rows.{sub_of}
use Rattle.rows.proofs.Blocks.{row_from_lem, row_of, row_from, start-room, Starts, starts_at}
use Rattle.deltas.specs.Deltas.{before, delta_of}
use Rattle.deltas.proofs.Lanes.{plus-zero, minus-lt, minus_only, by_rows, delta-at, delta-first, delta-next, length-delta}
use Rattle.deltas.proofs.Walks.{row_before_lem, differ_row}
use Rattle.candidates.specs.Candidates.{base_of, differences}
use Rattle.candidates.specs.Widths.{bits, width_of}
use Rattle.candidates.proofs.Choice.{length-base}
use Rattle.candidates.proofs.Widths.{bits_hold, bits-least, width_fits, Joined}

-- ---- a row of the differences

-- Before row r a walk has the start of the row before; at row 0 that is row 0, which is the base.
abbrev pub Before : (r before : ℕ) → Type 0
Before r before = before ≡ place (r - 1) 0

pub before-first : Before 0 0
unfolding place order
before-first = refl

pub before-next : {r start : ℕ} → r < t64 → Starts r start → Before (r + 1) start
before-next {r} {start} hr starts =
    let back : r ≡ r + 1 - 1 = omega arith in
    starts_at size64 hr starts ∙ ap (λ k. place k 0) back

-- so that row lies within the block
pub before-room : (r previous : ℕ) → r ≤ t64 → Before r previous → previous + lanes t64 ≤ 1024
before-room r previous h e = omega (arith, start-room size64 (r - 1) (omega arith), e)

module _ (v : List ℕ) where
  row_before : (r : ℕ) → row_before_lem t64 v (base_of v) r ≡ row_of t64 v (r - 1)
  unfolding base_of
  row_before zero = refl
  row_before (suc r) = let e : r ≡ suc r - 1 = omega arith in ap (λ k. row_of t64 v k) e

  -- the row less the row before is a row of the differences
  pub step_row : (r start previous : ℕ) → r < t64 → start ≡ place r 0 → Before r previous
      → sub_of t64 (row_from_lem t64 v start) (row_from_lem t64 v previous) ≡ row_of t64 (differences v) r
  step_row r start previous hr es ep =
      ap₂ (sub_of t64) (row_from t64 r start v es) (row_from t64 (r - 1) previous v ep ∙ sym (row_before r))
      ∙ differ_row size64 v (base_of v) r hr (length-base v)
      ∙ tab_ext (lanes t64) _ _ 0 (λ l hl. sym (delta-at size64 v (base_of v) l hl r hr))

  -- its numbers are elements
  pub step_small : (p : ℕ) → p < 1024 → get_or (differences v) p 0 < 2 ^ t64
  unfolding delta_of
  step_small p h = rw (get_d_tab 1024 (λ p. minus t64 (get_or v p 0) (before t64 v (base_of v) p)) p 0 h) (minus-lt t64 (get_or v p 0) (before t64 v (base_of v) p))

-- ---- the bits of the differences

-- The difference of two places of a block.
abbrev pub step : (v : List ℕ) (to from : ℕ) → ℕ
step v to from = minus t64 (get_or v to 0) (get_or v from 0)

-- A number that wraps back to one when the other is added is their difference.
pub step_wraps : (v : List ℕ) → Elements t64 v → (to from r : ℕ) → r < 2 ^ 64 → (r + get_or v from 0) % 2 ^ 64 ≡ get_or v to 0 → r ≡ step v to from
unfolding plus
step_wraps v fits to from r small e = minus_only t64 (get_or v to 0) (get_or v from 0) r (fits from) small e

-- These are the differences within the eights, in the order of the places,
abbrev pub withins : List ℕ → List ℕ
withins v = tab 896 (λ p. step v (p + 128) p)

-- and these from a row that starts at one place to a row that starts at another.
abbrev pub crossings : (v : List ℕ) (from to : ℕ) → List ℕ
crossings v from to = tab 16 (λ l. step v (to + l) (from + l))

-- Every difference within the eights, and from the first o of them to the next, fits the width.
pub record Narrow (v : List ℕ) (o w : ℕ) : Type 0 where
  pub within : (p : ℕ) → p < 896 → step v (p + 128) p < 2 ^ w
  pub across : (k : ℕ) → k < o → (l : ℕ) → l < 16 → step v (place ((k + 1) * 8) l) (place (k * 8 + 7) l) < 2 ^ w

-- What the loop over the crossings keeps: what it has fits a width exactly when the differences passed do.
pub record Stepped (v : List ℕ) (any o : ℕ) : Type 0 where
  pub small : any < 2 ^ 64
  pub each : (w : ℕ) → any < 2 ^ w → Narrow v o w
  pub all : (w : ℕ) → Narrow v o w → any < 2 ^ w

pub stepped_none : {v : List ℕ} {any p : ℕ} → any < 2 ^ 64 → Joined (withins v) any p → 896 ≤ p → Stepped v any 0
stepped_none {v} {any} {p} small j h = record {
  small = small;
  each = λ w s. record {
    within = λ k b. subst (λ n. n < 2 ^ w) (get_d_tab 896 _ k 0 b) (j.each w s k (omega arith));
    across = λ k b. absurd (omega arith);
  };
  all = λ w n. j.all w (λ k b.
      let low : k < 896 = omega (arith, j.within, length-tab 896 (λ p. step v (p + 128) p)) in
      subst (λ n. n < 2 ^ w) (sym (get_d_tab 896 _ k 0 low)) (n.within k low));
}

-- A number is at most the or with another.
or_above : (a b : ℕ) → (a ≤ bit_or a b) × (b ≤ bit_or a b)
or_above a b = (omega (arith, or_add_and a b, and_le_r a b), omega (arith, or_add_and a b, and_le_l a b))

pub stepped_next : {v : List ℕ} {any o : ℕ} (more from to : ℕ) → Stepped v any o → from ≡ place (o * 8 + 7) 0 → to ≡ place ((o + 1) * 8) 0
    → more < 2 ^ 64 → bits more ≡ width_of (crossings v from to) → Stepped v (bit_or any more) (o + 1)
stepped_next {v} {any} {o} more from to s ef et small e =
    record {
      small = or_lt 64 any more s.small small;
      each = λ w h.
          let before = s.each w (lt_of_le_of_lt (or_above any more).0 h) in
          let wide : width_of xs ≤ w = subst (λ n. n ≤ w) e (bits-least more w (lt_of_le_of_lt (or_above any more).1 h)) in
          record {
            within = before.within;
            across = λ k b l hl.
                elim (dec_lt k o) [
                  | yes first ↦ before.across k first l hl
                  | no last ↦
                      let z : k ≡ o = omega arith in
                      subst (λ k. step v (place ((k + 1) * 8) l) (place (k * 8 + 7) l) < 2 ^ w) (sym z)
                      (subst (λ n. n < 2 ^ w) (here l hl) ((width_fits xs fits w).0 wide l (omega (arith, size))))
                ];
          };
      all = λ w n.
          let before : any < 2 ^ w = s.all w (record { within = n.within; across = λ k b. n.across k (omega arith) }) in
          let wide : width_of xs ≤ w =
          (width_fits xs fits w).1 (λ l b. let hl : l < 16 = omega (arith, size) in subst (λ n. n < 2 ^ w) (sym (here l hl)) (n.across o (omega arith) l hl)) in
          or_lt w any more before (lt_of_lt_of_le (bits_hold more small) (pow_mono (subst (λ n. n ≤ w) (sym e) wide)));
    }
  where
    xs : List ℕ
    xs = crossings v from to

    size : length xs ≡ 16
    size = length-tab 16 _

    at : (l : ℕ) → l < 16 → get_or xs l 0 ≡ step v (to + l) (from + l)
    at l hl = get_d_tab 16 _ l 0 hl

    fits : Elements t64 xs
    fits = elements-of t64 16 xs size (λ l hl. subst (λ n. n < 2 ^ 64) (sym (at l hl)) (minus-lt t64 (get_or v (to + l) 0) (get_or v (from + l) 0)))

    here : (l : ℕ) → l < 16 → get_or xs l 0 ≡ step v (place ((o + 1) * 8) l) (place (o * 8 + 7) l)
    here l hl =
        at l hl
        ∙ ap₂ (step v) (ap (λ n. n + l) et ∙ sym (place-lane ((o + 1) * 8) l)) (ap (λ n. n + l) ef ∙ sym (place-lane (o * 8 + 7) l))

-- Within eight rows the next row stands 128 places on.
next_place : (r l : ℕ) → r % 8 < 7 → place (r + 1) l ≡ place r l + 128
unfolding place
next_place r l h =
    let d : (r + 1) / 8 ≡ r / 8 = omega arith in
    let m : (r + 1) % 8 ≡ r % 8 + 1 = omega arith in
    ap₂ (λ a b. order a * 16 + b * 128 + l) d m ∙ omega arith

-- Such a row is none of the last 128 places,
place-low : (r l : ℕ) → r < 64 → r % 8 < 7 → l < 16 → place r l < 896
unfolding place
place-low r l hr h hl = omega (arith, order_lt (r / 8) (omega arith))

-- and a place in front of them is in such a row.
row_low : (p : ℕ) → p < 896 → row t64 p % 8 < 7
unfolding row
row_low p h = omega arith

module _ (v : List ℕ) (fits : Elements t64 v) where
  -- at row 0 there is no difference
  first-zero : (l : ℕ) → l < 16 → get_or (differences v) (place 0 l) 0 ≡ 0
  unfolding base_of
  first-zero l hl =
      delta-first size64 v (base_of v) l hl
      ∙ ap (minus t64 (get_or v (place 0 l) 0)) (get_d_tab 16 _ l 0 hl)
      ∙ sym (minus_only t64 (get_or v (place 0 l) 0) (get_or v (place 0 l) 0) 0 (fits (place 0 l)) (pow_pos 64) (plus-zero t64 (get_or v (place 0 l) 0) (fits (place 0 l))))

  next-is : (r l : ℕ) → r + 1 < 64 → l < 16 → get_or (differences v) (place (r + 1) l) 0 ≡ step v (place (r + 1) l) (place r l)
  next-is r l hr hl = delta-next size64 v (base_of v) l hl r hr

  -- so all of them fit a width exactly when those do that a walk has passed
  narrow_all : (w : ℕ) → Narrow v 7 w → (p : ℕ) → p < 1024 → get_or (differences v) p 0 < 2 ^ w
  narrow_all w n = by_rows size64 (λ p. get_or (differences v) p 0 < 2 ^ w) at
    where
      later : (r l : ℕ) → r + 1 < 64 → l < 16 → get_or (differences v) (place (r + 1) l) 0 < 2 ^ w
      later r l hr hl =
          subst (λ n. n < 2 ^ w) (sym (next-is r l hr hl))
          (elim (dec_lt (r % 8) 7) [
            | yes h ↦
                let low : place r l < 896 = place-low r l (omega arith) h hl in
                subst (λ p. step v p (place r l) < 2 ^ w) (sym (next_place r l h)) (n.within (place r l) low)
            | no h ↦
                let k : ℕ = r / 8 in
                let a : r + 1 ≡ (k + 1) * 8 = omega arith in
                let b : r ≡ k * 8 + 7 = omega arith in
                subst (λ x. step v (place (r + 1) l) (place x l) < 2 ^ w) (sym b)
                (subst (λ x. step v (place x l) (place (k * 8 + 7) l) < 2 ^ w) (sym a) (n.across k (omega arith) l hl))
          ])

      at : (r l : ℕ) → r < 64 → l < 16 → get_or (differences v) (place r l) 0 < 2 ^ w
      at zero l hr hl = subst (λ n. n < 2 ^ w) (sym (first-zero l hl)) (pow_pos w)
      at (suc r) l hr hl = rw (← add-one r) (later r l (omega arith) hl)

  all_narrow : (w : ℕ) → ((p : ℕ) → p < 1024 → get_or (differences v) p 0 < 2 ^ w) → Narrow v 7 w
  all_narrow w all = record {
    within = λ p h.
        let r : ℕ = row t64 p in
        let l : ℕ = lane t64 p in
        let here : place r l ≡ p = place-row-lane size64 p (omega arith) in
        let in-eight : r % 8 < 7 = row_low p h in
        let more : r + 1 < 64 = omega (arith, row_lt size64 p (omega arith)) in
        let hl : l < 16 = lane-lt size64 p (omega arith) in
        let there : place (r + 1) l ≡ p + 128 = next_place r l in-eight ∙ ap (λ n. n + 128) here in
        subst (λ n. n < 2 ^ w) (next-is r l more hl ∙ ap₂ (step v) there here) (all (place (r + 1) l) (omega arith));
    across = λ k h l hl.
        let a : k * 8 + 7 + 1 ≡ (k + 1) * 8 = omega arith in
        subst (λ n. n < 2 ^ w) (next-is (k * 8 + 7) l (omega arith) hl ∙ ap (λ x. step v (place x l) (place (k * 8 + 7) l)) a)
        (all (place (k * 8 + 7 + 1) l) (place-lt size64 (k * 8 + 7 + 1) l (omega arith) hl));
  }

  -- After the last crossing the bits are as wide as the differences.
  pub stepped_all : {any o : ℕ} → Stepped v any o → o ≡ 7 → bits any ≡ width_of (differences v)
  stepped_all {any} {o} s e =
      let s' : Stepped v any 7 = subst (λ o. Stepped v any o) e s in
      let size : length (differences v) ≡ 1024 = length-delta t64 v (base_of v) in
      let small : Elements t64 (differences v) = elements-of t64 1024 (differences v) size (λ p h. step_small v p h) in
      let low : bits any ≤ width_of (differences v) =
      bits-least any _ (s'.all _ (all_narrow _ (λ p h. (width_fits (differences v) small _).0 (le_refl _) p (omega arith)))) in
      let high : width_of (differences v) ≤ bits any =
      (width_fits (differences v) small (bits any)).1 (λ p h. narrow_all (bits any) (s'.each (bits any) (bits_hold any s'.small)) p (omega arith)) in
      omega arith
