-- The lookup of one value in a body of packed words: the words of the body by lane, as they are read from its bytes,
-- the row of a place without its lane, a sum along a lane, and the value of a body of runs.
-- Assumes nothing.
use Rattle.std.proofs.Common.{◌≡◌, ℕ, zero, suc, ◌+◌, ◌*◌, ◌/◌, ◌%◌, ◌<◌, ◌≤◌, true, List, length, get_or, drop, sym, refl, ap, ◌∙◌, subst, add-one, arith, eqb-true}
use Rattle.lists.specs.Numbers.{digit, plus}
use Rattle.lists.specs.Search.{first_beyond}
use Rattle.lists.proofs.Search.{first-beyond-none}
use Rattle.lists.proofs.Tabs.{get_d_tab}
use Rattle.places.specs.Places.{lane, order, row}
use Rattle.places.specs.Sizes.{t64}
use Rattle.packing.specs.Packed.{word, words_number}
use Rattle.packing.proofs.Turns.{word_room}
use Rattle.deltas.specs.Deltas.{summed, undelta_pack_of}
use Rattle.runs.specs.Runs.{decode_of}
use Rattle.little.specs.Little.{little, little_or, numbers_of}
use Rattle.little.proofs.Little.{little-within, length-numbers}
use Rattle.bodies.specs.Bodies.{words_from, packed_from, run_indices, indexed}
use Rattle.bodies.proofs.Bytes.{little-drop}

-- Word k of lane l lies within the body,
pub word_in_lem : (w l k n : ℕ) → l < 16 → k < w → n ≡ 128 * w → (16 * k + l) * 8 + 8 ≤ n
word_in_lem w l k n hl hk e = let room = word_room t64 w k hk in omega arith

-- and is the number of eight bytes that stands there.
pub packed_word : (w l k : ℕ) (body : List ℕ) → l < 16 → k < w → little body ((16 * k + l) * 8) 8 ≡ word t64 (packed_from body 0 w) l k
unfolding word numbers_of
packed_word w l k body hl hk =
    let room = word_room t64 w k hk in
    sym (get_d_tab (16 * w) (λ i. little body (i * 8) 8) (16 * k + l) 0 (omega arith))

-- The row of a place, which needs no lane at 64 bits an element.
pub row-alone : (p : ℕ) → order (p / 16 % 8) * 8 + p / 128 ≡ row t64 p
unfolding row lane
row-alone p = ap (λ k. order k * 8 + p / 128) (omega arith)

-- ---- a sum along a lane

-- This is what the numbers of a lane before row k come to, added to its base.
unfoldable pub sum_before : (f : ℕ → ℕ) (b k : ℕ) → ℕ
sum_before f b zero = b
sum_before f b (suc k) = summed t64 f b k

pub sum_next : (f : ℕ → ℕ) (b k : ℕ) → plus t64 (f k) (sum_before f b k) ≡ sum_before f b (k + 1)
unfolding sum_before summed
sum_next f b zero = refl
sum_next f b (suc k) = rw add-one

pub sum_all : (f : ℕ → ℕ) (b k r : ℕ) → k ≡ r + 1 → sum_before f b k ≡ summed t64 f b r
unfolding sum_before
sum_all f b k r e = ap (sum_before f b) (e ∙ add-one r)

-- The value at a place of a body of differences is the sum along its lane, up to its row.
pub summed-value : (w p : ℕ) (body : List ℕ) → p < 1024
    → get_or (undelta_pack_of t64 w (packed_from body 128 w) (words_from body 0 16)) p 0
    ≡ summed t64 (digit w (words_number t64 w (packed_from body 128 w) (p % 16))) (little body (p % 16 * 8) 8) (row t64 p)
unfolding undelta_pack_of lane numbers_of
summed-value w p body h =
    get_d_tab 1024 _ p 0 h
    ∙ ap (λ b. summed t64 (digit w (words_number t64 w (packed_from body 128 w) (p % 16))) b (row t64 p))
    (get_d_tab 16 (λ i. little body (i * 8) 8) (p % 16) 0 (omega arith))

-- ---- runs

-- The value at a place of a body of n run values, all of whose run indices are in range, is the one that its index says.
pub run_value : (n p : ℕ) (body : List ℕ) → length body ≡ 2048 + 8 * n → indexed n body ≡ true → p < 1024
    → little_or body (2048 + little_or body (p * 2) 2 * 8) 8 ≡ get_or (decode_of (words_from body 2048 n) (run_indices body)) p 0
unfolding decode_of numbers_of
run_value n p body long good h =
    let xs = run_indices body in
    let index : get_or xs p 0 ≡ little body (p * 2) 2 = get_d_tab 1024 (λ i. little body (i * 2) 2) p 0 h in
    let all = (first-beyond-none n xs).0 (eqb-true (first_beyond n xs) 1024 good ∙ sym (length-numbers 2 body 1024)) in
    let low : little body (p * 2) 2 < n = subst (λ k. k < n) index (all p (omega (arith, length-numbers 2 body 1024))) in
    ap (λ k. little_or body (2048 + k * 8) 8) (little-within body (p * 2) 2 (omega arith))
    ∙ little-within body (2048 + little body (p * 2) 2 * 8) 8 (omega arith)
    ∙ sym
    (get_d_tab 1024 _ p 0 h
    ∙ ap (λ k. get_or (words_from body 2048 n) k 0) index
    ∙ get_d_tab n (λ i. little (drop 2048 body) (i * 8) 8) (little body (p * 2) 2) 0 low
    ∙ little-drop body 2048 (little body (p * 2) 2 * 8) 8)
