-- The walks over a packed block: what a walk holds between two rows, and how one turn carries it on, over the element
-- size. The walks of packing lean on this module, and so do those of deltas, which pack or unpack as they go:
--
--   At         where a walk stands before a row;
--   Read       what a turn that unpacks has read, and where it stands then;
--   Reading    how it comes to that, by what the code tests;
--   Filled     how much of the packed block is written;
--   Packing    what a walk that packs holds before a row.
--
-- The rows of a block that is unpacked are laid down by the law of rows Blocks, `Laid`.
-- Assumes nothing.
use mathlib.Core.Path.{◌≡◌, refl, sym, ap, ap₂, ◌∙◌, subst}
use mathlib.Core.List.{List, ◌++◌}
use Prim.Native.Nat.{ℕ, ◌+◌, ◌-◌, ◌*◌, ◌/◌, ◌%◌, ◌^◌, ◌≤◌, ◌<◌}
use native.Mathlib.Nat.{mul_comm, mul-zero, zero-mul, zero-mod, zero-div, mul-suc, mul-mod_right, le_of_eq, mod-lt, mod-eq_of_lt}
use native.Mathlib.Numerals.{add-one}
use native.Mathlib.Omega.{arith}
use lib.Arith.{lt_of_le-ne}
use lib.ListN.{length, get_or, take, drop, length-append, length-take}
use lib.Seq.{take_all, take_at}
use Rattle.lists.specs.Numbers.{Elements}
use Rattle.lists.specs.Tab.{tab, tab_from, over}
use Rattle.lists.proofs.Digits.{digit-number}
use Rattle.lists.proofs.Tabs.{length-tab, tab_ext, tab_append, length_over}
use Rattle.places.specs.Places.{place, next_start_lem}
use Rattle.places.specs.Sizes.{Size, lanes}
use Rattle.places.proofs.Places.{size_some, size-lanes, place-lt}
use Rattle.rows.specs.Rows.{splat_of, shr_of, or_shl_of, mask_of}
use Rattle.rows.proofs.Blocks.{row_from_lem, row_of, Starts, starts_first, starts_next}
use Rattle.packing.specs.Packed.{word, part, values_number, word_at, pack_of, value_at}
use Rattle.packing.proofs.Rounds.{value-place, digit-words, part-lt}
use Rattle.packing.proofs.Steps.{on_word, on_bit, over_word, over-bit, word_all}
use Rattle.packing.proofs.Turns.{begins, word_room, word_row, first_word, next_word, row_one, row_two, values_row}
use Rattle.packing.proofs.Turns.{word_lane, held_row, held_none, held_on, full-words, held-rest}

-- ---- where a walk stands

-- Before row r a walk stands at bit s of the words from place `word` on: there the row begins.
pub record At (t w r s word : ℕ) : Type 0 where
  pub bit : s ≡ r * w % t
  pub from : word ≡ lanes t * (r * w / t)

pub at_first : (t w : ℕ) → At t w 0 0 0
at_first t w = record { bit = rw (zero-mul, zero-mod); from = rw (zero-mul, zero-div, mul-zero) }

-- the next row of words
next-words : (t k : ℕ) → lanes t * k + lanes t ≡ lanes t * (k + 1)
next-words t k = sym (ap (λ n. lanes t * n) (add-one k) ∙ mul-suc (lanes t) k)

module _ {t : ℕ} (size : Size t) {w r s word : ℕ} (hr : r < t) (pos : 0 < w) (at : At t w r s word) where
  pub at_lt : s < t
  at_lt = rw at.bit (mod-lt (r * w) (size_some size))

  -- the words in which the row begins, and those into which it crosses, lie within the packed block
  pub at_room : word + lanes t ≤ lanes t * w
  at_room = rw at.from (word_room t w (r * w / t) (first_word size w r hr pos))

  pub at-room_two : t < s + w → word + lanes t + lanes t ≤ lanes t * w
  at-room_two over =
      rw (at.from, next-words t (r * w / t)) (word_room t w (r * w / t + 1) (next_word size w r hr pos (rw at.bit at over)))

  -- the next row begins in the same words, or in the next ones
  pub at_on : s + w < t → {s' word' : ℕ} → s' ≡ s + w → word' ≡ word → At t w (r + 1) s' word'
  at_on less es ew =
      let h = rw at.bit at less in
      let lt = mod-lt (r * w) (size_some size) in
      record {
        bit = es ∙ ap (λ n. n + w) at.bit ∙ sym (on_bit t w r (r * w / t) (r * w % t) (begins t w r) lt h);
        from = ew ∙ at.from ∙ ap (λ n. lanes t * n) (sym (on_word t w r (r * w / t) (r * w % t) (begins t w r) lt h));
      }

  pub at-over : w ≤ t → t ≤ s + w → {s' word' : ℕ} → s' ≡ s + w - t → word' ≡ word + lanes t → At t w (r + 1) s' word'
  at-over wide full es ew =
      let h = rw at.bit at full in
      let lt = mod-lt (r * w) (size_some size) in
      record {
        bit = es ∙ ap (λ n. n + w - t) at.bit ∙ sym (over-bit t w r (r * w / t) (r * w % t) (begins t w r) lt wide h);
        from = ew ∙ ap (λ n. n + lanes t) at.from ∙ next-words t (r * w / t)
            ∙ ap (λ n. lanes t * n) (sym (over_word t w r (r * w / t) (r * w % t) (begins t w r) lt wide h));
      }

  -- where a row leaves room in its words there is a next row
  pub row_more : s + w < t → r + 1 < t
  row_more less =
      lt_of_le-ne (omega arith)
      (λ e.
      let zero_bit : s + w ≡ 0 = (at_on less refl refl).bit ∙ ap (λ n. n * w % t) e ∙ mul-mod_right t w in
      omega arith)

-- ---- the walks that unpack

-- Row r is read: cut to the width it has the values of its places, and the walk stands before the next row.
pub record Read (t w r : ℕ) (packed row : List ℕ) (s word : ℕ) : Type 0 where
  pub cut : mask_of t row w ≡ tab (lanes t) (λ l. value_at t w packed (place r l))
  pub next : At t w (r + 1) s word

module _ {t : ℕ} (size : Size t) {w r s word : ℕ} (hr : r < t) (pos : 0 < w) (narrow : w < t) (at : At t w r s word)
    (packed : List ℕ) (small : Elements t packed) {row : List ℕ} (er : row ≡ shr_of t (row_from_lem t packed word) s) where
  -- the row as the laws of one word and of two have it
  is_shifted : row ≡ shr_of t (word_row t packed (r * w / t)) (r * w % t)
  is_shifted = er ∙ ap₂ (λ a k. shr_of t (row_from_lem t packed a) k) at.from at.bit

  -- it lies in one word
  in_one : s + w ≤ t → mask_of t row w ≡ tab (lanes t) (λ l. value_at t w packed (place r l))
  in_one fits =
      ap (λ x. mask_of t x w) is_shifted
      ∙ row_one size w r hr pos packed small narrow (rw at.bit at fits)
      ∙ values_row size w r packed hr

  module _ {s' word' : ℕ} where
    pub read-within : s + w < t → s' ≡ s + w → word' ≡ word → Read t w r packed row s' word'
    read-within less es ew = record { cut = in_one (omega arith); next = at_on size hr pos at less es ew }

    -- it ends with its word
    pub read-full : s + w ≡ t → s' ≡ s + w - t → word' ≡ word + lanes t → Read t w r packed row s' word'
    read-full full es ew = record { cut = in_one (omega arith); next = at-over size hr pos at (omega arith) (omega arith) es ew }

    -- it crosses into the next word
    pub read-over : t < s + w → s' ≡ s + w - t → word' ≡ word + lanes t → {both : List ℕ}
        → both ≡ or_shl_of t row (row_from_lem t packed (word + lanes t)) (w - (s + w - t)) → Read t w r packed both s' word'
    read-over over es ew eb =
        let shift : w - (s + w - t) ≡ t - r * w % t = omega (arith, at.bit, at_lt size hr pos at) in
        let second : word + lanes t ≡ lanes t * (r * w / t + 1) = ap (λ n. n + lanes t) at.from ∙ next-words t (r * w / t) in
        record {
          cut = ap (λ x. mask_of t x w)
              (eb
              ∙ ap₂ (λ x k. or_shl_of t x (row_from_lem t packed (word + lanes t)) k) is_shifted shift
              ∙ ap (λ a. or_shl_of t (shr_of t (word_row t packed (r * w / t)) (r * w % t)) (row_from_lem t packed a) (t - r * w % t)) second)
              ∙ row_two size w r hr pos packed small narrow (rw at.bit at over)
              ∙ values_row size w r packed hr;
          next = at-over size hr pos at (omega arith) (omega arith) es ew;
        }

-- A walk that stands before row r has loaded its words, from `places` places, and has cut off what lies in front of the
-- row. Where the row lies within these words it is read, and the walk stands in them or, where the row ends with them, in
-- the next ones; else what the next ones hold of it is joined.
pub record Reading (t places w r : ℕ) (packed row : List ℕ) (s word : ℕ) : Type 0 where
  pub within : s + w < t → {row' : List ℕ} {s' word' : ℕ} → s' ≡ s + w → word' ≡ word → row' ≡ row → Read t w r packed row' s' word'
  pub full : s + w ≡ t → {row' : List ℕ} {s' word' : ℕ} → s' ≡ s + w - t → word' ≡ word + places → row' ≡ row → Read t w r packed row' s' word'
  pub over : t < s + w → {next row' : List ℕ} {s' word' : ℕ} → s' ≡ s + w - t → word' ≡ word + places → next ≡ row_from_lem t packed (word + places)
      → row' ≡ or_shl_of t row next (w - (s + w - t)) → Read t w r packed row' s' word'

pub reading : {t : ℕ} (size : Size t) {places : ℕ} → lanes t ≡ places → {w r s word : ℕ} → r < t → (0 < w) × (w < t) → At t w r s word
    → (packed : List ℕ) → Elements t packed → {row : List ℕ} → row ≡ shr_of t (row_from_lem t packed word) s
    → Reading t places w r packed row s word
reading {t} size side {w} {r} {s} {word} hr middle at packed small {row} first =
    let next = ap (λ n. word + n) (sym side) in
    record {
      within = λ less es ew er. read-within size hr middle.0 middle.1 at packed small (er ∙ first) less es ew;
      full = λ e es ew er. read-full size hr middle.0 middle.1 at packed small (er ∙ first) e es (ew ∙ next);
      over = λ b es ew en er.
          read-over size hr middle.0 middle.1 at packed small first b es (ew ∙ next)
          (er ∙ ap (λ x. or_shl_of t row x (w - (s + w - t))) (en ∙ ap (row_from_lem t packed) next));
    }

-- ---- the walks that pack

-- A packed block of the right length is filled up to word k where the rows of words in front of that hold what they
-- should.
pub record Filled (t w : ℕ) (values : List ℕ) (k : ℕ) (packed : List ℕ) : Type 0 where
  pub fits : length packed ≡ lanes t * w
  pub front : take (lanes t * k) packed ≡ tab (lanes t * k) (word_at t w values)

-- no row of words is filled yet
pub filled_none : {t w : ℕ} {values packed : List ℕ} → length packed ≡ lanes t * w → Filled t w values 0 packed
unfolding tab tab_from
filled_none {t} e = record { fits = e; front = rw mul-zero }

-- all are filled
pub filled_all : {t w : ℕ} {values packed : List ℕ} (k : ℕ) → k ≡ w → Filled t w values k packed → packed ≡ pack_of t w values
unfolding pack_of
filled_all {t} {w} {values} {packed} k e p =
    sym (take_all (lanes t * k) packed (le_of_eq (p.fits ∙ ap (λ n. lanes t * n) (sym e))))
    ∙ p.front
    ∙ ap (λ n. tab (lanes t * n) (word_at t w values)) e

-- the next row of words is filled
pub filled_next : {t w : ℕ} {values packed z row : List ℕ} (k : ℕ) → k < w → Filled t w values k packed
    → row ≡ tab (lanes t) (λ l. word_at t w values (lanes t * k + l)) → z ≡ over (lanes t * k) row packed → Filled t w values (k + 1) z
unfolding over
filled_next {t} {w} {values} {packed} {z} {row} k h p er ez =
    let n : ℕ = lanes t * k in
    let room : n + lanes t ≤ length packed = omega (arith, word_room t w k h, p.fits) in
    let row-long : length row ≡ lanes t = ap length er ∙ length-tab (lanes t) (λ l. word_at t w values (n + l)) in
    let e : lanes t * (k + 1) ≡ n + lanes t = ap (λ m. lanes t * m) (add-one k) ∙ mul-suc (lanes t) k in
    let front_long : length (take n packed ++ row) ≡ n + lanes t = simp (length-append, length-take) (omega arith) in
    record {
      fits = ap length ez ∙ length_over n row packed (omega arith) ∙ p.fits;
      front = ap₂ take e ez
          ∙ take_at (take n packed ++ row) (drop (n + length row) packed) (n + lanes t) front_long
          ∙ ap₂ ◌++◌ p.front er
          ∙ sym (tab_append n (lanes t) (word_at t w values))
          ∙ ap (λ m. tab m (word_at t w values)) (sym e);
    }

-- Before row r, the words that are full stand in the packed block, the others are held, and the row starts at place
-- `start`.
pub record Packing (t w : ℕ) (values : List ℕ) (r : ℕ) (packed held : List ℕ) (s word start : ℕ) : Type 0 where
  pub stands : At t w r s word
  pub holds : held ≡ held_row t w values r
  pub filled : Filled t w values (r * w / t) packed
  pub starts : Starts r start

-- One turn of the walk over the words: row r joins those that are held, or fills them.
module _ {t : ℕ} (size : Size t) {w r : ℕ} (hr : r < t) (pos : 0 < w) (narrow : w < t) {values packed held : List ℕ} {s word start : ℕ}
    (p : Packing t w values r packed held s word start) {row : List ℕ} (er : row ≡ row_of t values r) {start' : ℕ} (en : start' ≡ next_start_lem start (r + 1)) where
  pub packing_on : s + w < t → {more : List ℕ} → more ≡ or_shl_of t held (mask_of t row w) s
      → Packing t w values (r + 1) packed more (s + w) word start'
  packing_on less {more} em =
      let h = rw p.stands.bit at less in
      let same = on_word t w r (r * w / t) (r * w % t) (begins t w r) (mod-lt (r * w) (size_some size)) h in
      record {
        stands = at_on size hr pos p.stands less refl refl;
        holds = em
            ∙ ap₂ (λ x y. or_shl_of t x (mask_of t y w) s) p.holds er
            ∙ ap (λ k. or_shl_of t (held_row t w values r) (mask_of t (row_of t values r) w) k) p.stands.bit
            ∙ held_on size w r hr narrow values h;
        filled = subst (λ k. Filled t w values k packed) (sym same) p.filled;
        starts = starts_next size hr p.starts en;
      }

  pub packing-full : t ≤ s + w → {full rest z : List ℕ} {s' : ℕ} → full ≡ or_shl_of t held row s → rest ≡ shr_of t (mask_of t row w) (t - s) → z ≡ over word full packed
      → s' ≡ s + w - t → Packing t w values (r + 1) z rest s' (word + lanes t) start'
  packing-full fills {full} {rest} {z} ef es ez e =
      let h = rw p.stands.bit at fills in
      let next = over_word t w r (r * w / t) (r * w % t) (begins t w r) (mod-lt (r * w) (size_some size)) (omega arith) h in
      let words =
      ef ∙ ap₂ (λ x y. or_shl_of t x y s) p.holds er
      ∙ ap (λ k. or_shl_of t (held_row t w values r) (row_of t values r) k) p.stands.bit
      ∙ full-words size w r hr narrow values h in
      record {
        stands = at-over size hr pos p.stands (omega arith) fills e refl;
        holds = es
            ∙ ap₂ (λ x k. shr_of t (mask_of t x w) (t - k)) er p.stands.bit
            ∙ held-rest size w r hr narrow values h;
        filled = subst (λ k. Filled t w values k z) (sym next)
            (filled_next (r * w / t) (first_word size w r hr pos) p.filled words (ez ∙ ap (λ a. over a full packed) p.stands.from));
        starts = starts_next size hr p.starts en;
      }

-- before the first row nothing is packed
pub packing-none : (t w : ℕ) (values packed held : List ℕ) → length packed ≡ lanes t * w → held ≡ splat_of t 0 → Packing t w values 0 packed held 0 0 0
packing-none t w values packed held e eh =
    record {
      stands = at_first t w;
      holds = eh ∙ held_none t w values;
      filled = rw (zero-mul, zero-div) (filled_none e);
      starts = starts_first;
    }

-- after the last row all is
pub packing_all : {t w : ℕ} (size : Size t) {values packed held : List ℕ} {r s word start : ℕ} → r ≡ t → Packing t w values r packed held s word start
    → packed ≡ pack_of t w values
packing_all {t} {w} size {r = r} e p = filled_all (r * w / t) (ap (λ n. n * w / t) e ∙ word_all t w (size_some size)) p.filled

-- ---- the walks that copy, at width t

-- all words of the packed block, and those of row r within it
pub copied_size : {t : ℕ} → Size t → lanes t * t ≡ 1024
copied_size {t} size = mul_comm (lanes t) t ∙ size-lanes size

pub copied_room : {t : ℕ} → Size t → (r : ℕ) → r < t → lanes t * r + lanes t ≤ 1024
copied_room {t} size r hr = rw (copied_size size) at (word_room t t r hr)

-- the words of row r are the values at its places
pub copied_row : {t : ℕ} (size : Size t) (r : ℕ) (packed : List ℕ) → Elements t packed → r < t
    → word_row t packed r ≡ tab (lanes t) (λ l. value_at t t packed (place r l))
unfolding word
copied_row {t} size r packed small hr =
    tab_ext (lanes t) _ _ 0
    (λ l hl. sym (value-place size t packed l r hl hr ∙ digit-words t t l hl packed small r hr))

-- the same of the row that a walk loads: `places` places hold lanes t words
pub copied : {t : ℕ} (size : Size t) {places : ℕ} → lanes t ≡ places → {r : ℕ} (packed : List ℕ) → Elements t packed → r < t
    → {row : List ℕ} → row ≡ row_from_lem t packed (places * r) → row ≡ tab (lanes t) (λ l. value_at t t packed (place r l))
copied {t} size side {r} packed small hr e = e ∙ ap (λ n. row_from_lem t packed (n * r)) (sym side) ∙ copied_row size r packed small hr

-- and the values at its places are its words, where they are elements
pub copied_words : {t : ℕ} (size : Size t) (r : ℕ) (values : List ℕ) → ((p : ℕ) → p < 1024 → get_or values p 0 < 2 ^ t) → r < t
    → row_of t values r ≡ tab (lanes t) (λ l. word_at t t values (lanes t * r + l))
unfolding values_number part
copied_words {t} size r values small hr =
    tab_ext (lanes t) _ _ 0
    (λ l hl.
    sym (word_lane t t values r l hl
    ∙ digit-number t (part t values l) t r (λ i _. part-lt t t values l i) hr
    ∙ mod-eq_of_lt (small (place r l) (place-lt size r l hr hl))))
