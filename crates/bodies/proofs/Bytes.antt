-- Rows of packed words that are read from the bytes of a body, and what a walk over them holds between two rows: the
-- laws of packing Walks, with the place of a row of words in bytes.
-- Assumes nothing.
use mathlib.Core.List.{List, []}
use mathlib.Core.Path.{◌≡◌, refl, sym, ap, ap₂, ◌∙◌}
use Prim.Native.Nat.{ℕ, zero, suc, ◌+◌, ◌-◌, ◌*◌, ◌/◌, ◌%◌, ◌≤◌, ◌<◌}
use native.Mathlib.Omega.{arith}
use lib.ListN.{length, take, drop, length-drop}
use lib.Seq.{get_or-drop, length-take-le}
use Rattle.lists.specs.Numbers.{Elements}
use Rattle.lists.specs.Tab.{tab, tab_from}
use Rattle.lists.proofs.Tabs.{get_d_tab, tab_ext}
use Rattle.places.specs.Sizes.{t64, lanes}
use Rattle.places.proofs.Places.{size64}
use Rattle.rows.specs.Rows.{shr_of, or_shl_of}
use Rattle.rows.proofs.Blocks.{row_from_lem}
use Rattle.packing.proofs.Walks.{At, at_first, at_lt, at_room, at-room_two, Read, read-within, read-full, read-over}
use Rattle.little.specs.Little.{little, numbers_of, read_leaves}
use Rattle.little.proofs.Little.{numbers-read}
use Rattle.contents.proofs.Fronts.{little-front}
use Rattle.bodies.specs.Bodies.{words_from, packed_from}
use Rattle.bodies.proofs.Blocks.{words_fit}

-- A number that is read behind the first a bytes stands so much further on in all of them.
pub little-drop : (l : List ℕ) (a at k : ℕ) → little (drop a l) at k ≡ little l (a + at) k
unfolding little
little-drop l a at zero = refl
little-drop l a at (suc k) =
    let next : a + suc at ≡ suc (a + at) = omega arith in
    ap₂ (λ m n. m + n * 256) (get_or-drop a l at 0) (little-drop l a (suc at) k ∙ ap (λ n. little l n k) next)

-- Words are read from a part of the body as they are from all of it.
pub words-part : (body words : List ℕ) (a n : ℕ) → length words ≡ n → a + 8 * n ≤ length body
    → read_leaves 8 (take (8 * n) (drop a body)) words ≡ words_from body a n
unfolding numbers_of
words-part body words a n l room =
    let whole : length (take (8 * n) (drop a body)) ≡ 8 * n = length-take-le (8 * n) (drop a body) (omega (arith, length-drop a body)) in
    numbers-read 8 (take (8 * n) (drop a body)) words n l (omega arith)
    ∙ tab_ext n _ _ 0 (λ i h. little-front (drop a body) (8 * n) (i * 8) 8 (omega arith))

-- Width 0 has no words.
pub no_words : (body : List ℕ) → [] ≡ packed_from body 0 0
unfolding numbers_of tab tab_from
no_words body = refl

-- The words that stand from byte a on are a row of the first n words, where they are all among these.
pub row_words : (body : List ℕ) (a word n : ℕ) → a ≡ word * 8 → word + lanes t64 ≤ n → words_from body a (lanes t64) ≡ row_from_lem t64 (words_from body 0 n) word
unfolding numbers_of
row_words body a word n e room =
    tab_ext (lanes t64) _ _ 0
    (λ l h.
    let at : a + l * 8 ≡ (word + l) * 8 = omega arith in
    little-drop body a (l * 8) 8
    ∙ ap (λ k. little body k 8) at
    ∙ sym (get_d_tab n (λ i. little body (i * 8) 8) (word + l) 0 (omega arith)))

-- Before row r a walk stands at bit s of the words from byte `at` on.
pub record Stands (w r s at : ℕ) : Type 0 where
  pub whole : at % 8 ≡ 0
  pub there : At t64 w r s (at / 8)

pub stands-first : (w : ℕ) → Stands w 0 0 0
stands-first w = record { whole = refl; there = at_first t64 w }

module _ {w r s at : ℕ} (hr : r < t64) (pos : 0 < w) (stands : Stands w r s at) where
  pub stands-lt : s < t64
  stands-lt = at_lt size64 hr pos stands.there

  pub stands-room : at + 128 ≤ 128 * w
  stands-room = omega (arith, at_room size64 hr pos stands.there, stands.whole)

  pub stands-room_two : t64 < s + w → at + 128 + 128 ≤ 128 * w
  stands-room_two over = omega (arith, at-room_two size64 hr pos stands.there over, stands.whole)

-- Row r is read, and the walk stands before the next row.
pub record ReadFrom (w r : ℕ) (body row : List ℕ) (s at : ℕ) : Type 0 where
  pub whole : at % 8 ≡ 0
  pub read : Read t64 w r (packed_from body 0 w) row s (at / 8)

pub stands-next : {w r s at : ℕ} {body row : List ℕ} → ReadFrom w r body row s at → Stands w (r + 1) s at
stands-next p = record { whole = p.whole; there = p.read.next }

module _ {w r s at : ℕ} (hr : r < t64) (pos : 0 < w) (narrow : w < t64) (stands : Stands w r s at)
    (body : List ℕ) (fits : Elements 8 body) {row : List ℕ} (er : row ≡ shr_of t64 (words_from body at (lanes t64)) s) where
  small : Elements t64 (packed_from body 0 w)
  small = words_fit body 0 (lanes t64 * w) fits

  its_words : row ≡ shr_of t64 (row_from_lem t64 (packed_from body 0 w) (at / 8)) s
  its_words =
      er
      ∙ ap (λ x. shr_of t64 x s)
      (row_words body at (at / 8) (lanes t64 * w) (omega (arith, stands.whole)) (at_room size64 hr pos stands.there))

  module _ {s' at' : ℕ} where
    -- it lies within its word
    pub from_within : s + w < t64 → s' ≡ s + w → at' ≡ at → ReadFrom w r body row s' at'
    from_within less es ea =
        record {
          whole = omega (arith, stands.whole);
          read = read-within size64 hr pos narrow stands.there (packed_from body 0 w) small its_words less es (ap (λ n. n / 8) ea);
        }

    -- it ends with its word
    pub from_full : s + w ≡ t64 → s' ≡ s + w - t64 → at' ≡ at + 128 → ReadFrom w r body row s' at'
    from_full full es ea =
        record {
          whole = omega (arith, stands.whole);
          read = read-full size64 hr pos narrow stands.there (packed_from body 0 w) small its_words full es (omega (arith, stands.whole));
        }

    -- it crosses into the next word
    pub from_over : t64 < s + w → s' ≡ s + w - t64 → at' ≡ at + 128 → {both : List ℕ}
        → both ≡ or_shl_of t64 row (words_from body (at + 128) (lanes t64)) (w - (s + w - t64)) → ReadFrom w r body both s' at'
    from_over over es ea eb =
        let next =
        row_words body (at + 128) (at / 8 + lanes t64) (lanes t64 * w) (omega (arith, stands.whole))
        (at-room_two size64 hr pos stands.there over) in
        record {
          whole = omega (arith, stands.whole);
          read = read-over size64 hr pos narrow stands.there (packed_from body 0 w) small its_words over es (omega (arith, stands.whole))
              (eb ∙ ap (λ x. or_shl_of t64 row x (w - (s + w - t64))) next);
        }
