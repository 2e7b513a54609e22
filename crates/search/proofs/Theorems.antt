-- The theorems on the search (R107 to R109): which blocks are opened, that skipping the others loses no row of an
-- accepted file, that the rows are listed once each and rising, and what is read off an answer.
-- Assumes nothing.
use Rattle.std.specs.Prelude.{Result, Ok, Err}
use Rattle.std.proofs.Common.{◌≡◌, ℕ, ◌/◌, ◌%◌, ◌<◌, ◌≤◌, min, max, Bool, true, false, eqb, leb, ◌↔◌, List, length, get_or, take, drop, sym, refl, ap, ◌∙◌, ap₂, inl, inr, ⊎_elim, arith, eq-eqb, eqb-true, le-leb, leb-true}
use Rattle.lists.specs.Numbers.{Elements}
use Rattle.lists.specs.Tab.{over}
use Rattle.lists.specs.Pick.{both, either}
use Rattle.lists.specs.Passing.{passing}
use Rattle.lists.specs.Members.{Stands, Rising}
use Rattle.lists.proofs.Overs.{over-front, over-rest}
use Rattle.lists.proofs.Tests.{both_true, either_true, not_then, false-true}
use Rattle.lists.proofs.Members.{stands-passes, passes-stands, passing-rises}
use Rattle.lists.proofs.Passing.{passing_ext}
use Rattle.contents.specs.declared.Range.{Range}
use Rattle.contents.specs.declared.FileRefusal.{FileRefusal}
use Rattle.contents.specs.Answers.{answer_of, giving, FileAnswer, file_answer, left, number_of}
use Rattle.contents.specs.Contents.{edition, count, range_of}
use Rattle.contents.proofs.Answers.{says_answer, left-refused, left-err}
use Rattle.files.specs.Files.{block_in, row_count, row_at, file_tests}
use Rattle.bodywise.proofs.Told.{whole}
use Rattle.files.proofs.Ranges.{contents-right, file-runs, file_spans}
use Rattle.search.specs.declared.Found.{Found}
use Rattle.search.specs.Reasons.{Common, Opened, RowBetween}
use Rattle.search.specs.Search.{between, meets, opens, opened, listed, found, search_tests, found_of, search_leaves, counts, rows_found, blocks_opened}
use Rattle.search.proofs.Answers.{search-done}
use Rattle.search.proofs.Blocks.{in_long}

-- The test of a range says that it has a number in common with the bounds.
pub meets_common : (r : Range) (low high : ℕ) → (meets r low high ≡ true) ↔ Common r low high
unfolding meets
meets_common r low high = (
  λ e.
      let h : max r.smallest low ≤ min r.largest high = leb-true (max r.smallest low) (min r.largest high) e in
      record {
        number = max r.smallest low;
        above_smallest = omega arith;
        below_largest = omega arith;
        above_low = omega arith;
        below_high = omega arith;
      },
  λ c.
      let a = c.above_smallest in
      let b = c.below_largest in
      let d = c.above_low in
      let f = c.below_high in
      le-leb (max r.smallest low) (min r.largest high) (omega arith),
)

-- So a block is opened exactly when its range and the bounds have a number in common, or the edition is 1.
pub opens_exactly : (l : List ℕ) (low high i : ℕ) → (opens l low high i ≡ true) ↔ Opened l low high i
unfolding opens
opens_exactly l low high i = (
  λ e. ⊎_elim (λ one. inl (eqb-true (edition l) 1 one)) (λ m. inr ((meets_common (range_of l i) low high).0 m)) (either_true _ _ e),
  ⊎_elim
      (λ one. ap (λ t. either t (meets (range_of l i) low high)) (eq-eqb (edition l) 1 one))
      (λ c. shown (eqb (edition l) 1) ((meets_common (range_of l i) low high).1 c)),
)
  where
    shown : (t : Bool) {m : Bool} → m ≡ true → either t m ≡ true
    shown true e = refl
    shown false e = e

-- A value lies between the bounds exactly when it is not below the one and not above the other.
pub between_exactly : (low high v : ℕ) → (between low high v ≡ true) ↔ ((low ≤ v) × (v ≤ high))
between_exactly low high v = (
  λ e. let t = both_true (leb low v) (leb v high) e in (leb-true low v t.0, leb-true v high t.1),
  λ h. ap₂ both (le-leb low v h.0) (le-leb v high h.1),
)

module _ (l : List ℕ) (low high : ℕ) (bytes : Elements 8 l) (done : file_answer (file_tests l) ≡ Ok tt) where
  -- In an accepted file of edition 2, a block whose range misses the bounds has no row between them.
  pub missed : edition l ≡ 2 → (i : ℕ) → i < count l → meets (range_of l i) low high ≡ false → (j : ℕ) → j < 1024
      → between low high (get_or (block_in l i) j 0) ≡ false
  missed second i h miss j g =
      not_then (between low high (get_or (block_in l i) j 0))
      (λ e.
      let at = (file_spans l bytes done second i h).between j (omega (arith, in_long l low high i)) in
      let b = (between_exactly low high (get_or (block_in l i) j 0)).0 e in
      let c : Common (range_of l i) low high = record {
        number = get_or (block_in l i) j 0;
        above_smallest = at.0;
        below_largest = at.1;
        above_low = b.0;
        below_high = b.1;
      } in
      false-true (sym miss ∙ (meets_common (range_of l i) low high).1 c))

  -- So a row is listed exactly when its value lies between the bounds,
  listed-is : (p : ℕ) → p < row_count l → listed l low high p ≡ between low high (row_at l p)
  unfolding listed row_at
  listed-is p h = go (opens l low high (p / 1024)) refl
    where
      go : (t : Bool) → opens l low high (p / 1024) ≡ t
          → both t (between low high (get_or (block_in l (p / 1024)) (p % 1024) 0)) ≡ between low high (get_or (block_in l (p / 1024)) (p % 1024) 0)
      go true e = refl
      go false e =
          let second : edition l ≡ 2 = ⊎_elim (λ one. absurd (false-true (sym e ∙ (opens_exactly l low high (p / 1024)).1 (inl one)))) (λ two. two) (whole l (contents-right l (file-runs l done))).first in
          let miss : meets (range_of l (p / 1024)) low high ≡ false = not_then _ (λ m. false-true (sym e ∙ (opens_exactly l low high (p / 1024)).1 (inr ((meets_common (range_of l (p / 1024)) low high).0 m)))) in
          sym (missed second (p / 1024) (omega arith) miss (p % 1024) (omega arith))

  -- and the rows are the same as without skipping.
  pub skips_nothing : found l low high ≡ passing 0 (row_count l) (λ p. between low high (row_at l p))
  unfolding found
  skips_nothing = passing_ext 0 (row_count l) (listed l low high) (λ p. between low high (row_at l p)) (λ p _ h. listed-is p (omega arith))

  -- The search lists exactly the rows between the bounds,
  pub lists_exactly : (p : ℕ) → Stands p (found l low high) ↔ RowBetween l low high p
  lists_exactly p = (to, from)
    where
      to : Stands p (found l low high) → RowBetween l low high p
      to s =
          let at = sym (ap (λ x. get_or x s.0 0) skips_nothing) ∙ s.2 in
          let is = stands-passes 0 (λ p. between low high (row_at l p)) (row_count l) s.0 (omega (arith, s.1, ap length skips_nothing)) in
          let b = (between_exactly low high (row_at l p)).0 (sym (ap (λ p. between low high (row_at l p)) at) ∙ is.1.1) in
          (omega (arith, is.1.0), (b.0, b.1))

      from : RowBetween l low high p → Stands p (found l low high)
      from b =
          let s = passes-stands 0 (λ p. between low high (row_at l p)) (row_count l) p (omega arith) (omega (arith, b.0)) ((between_exactly low high (row_at l p)).1 b.1) in
          (s.0, omega (arith, s.1, ap length skips_nothing), ap (λ x. get_or x s.0 0) skips_nothing ∙ s.2)

-- each once, rising, whatever the file.
pub lists-rising : (l : List ℕ) (low high : ℕ) → Rising (found l low high)
unfolding found
lists-rising l low high = passing-rises 0 (listed l low high) (row_count l)

-- Of any file, what is listed are exactly the rows of opened blocks that lie between the bounds,
pub found_exactly : (l : List ℕ) (low high p : ℕ) → Stands p (found l low high) ↔ (RowBetween l low high p × Opened l low high (p / 1024))
unfolding found listed
found_exactly l low high p = (to, from)
  where
    to : Stands p (passing 0 (row_count l) (listed l low high)) → RowBetween l low high p × Opened l low high (p / 1024)
    to s =
        let is = stands-passes 0 (listed l low high) (row_count l) s.0 s.1 in
        let t = both_true (opens l low high (p / 1024)) (between low high (row_at l p)) (sym (ap (listed l low high) s.2) ∙ is.1.1) in
        ((omega (arith, is.1.0, s.2), (between_exactly low high (row_at l p)).0 t.1), (opens_exactly l low high (p / 1024)).0 t.0)

    from : RowBetween l low high p × Opened l low high (p / 1024) → Stands p (passing 0 (row_count l) (listed l low high))
    from h =
        passes-stands 0 (listed l low high) (row_count l) p (omega arith) (omega (arith, h.0.0))
        (ap₂ both ((opens_exactly l low high (p / 1024)).1 h.1) ((between_exactly low high (row_at l p)).1 h.0.1))

-- and the blocks that are counted are exactly the opened ones, once each.
pub opened_exactly : (l : List ℕ) (low high i : ℕ) → Stands i (opened l low high) ↔ ((i < count l) × Opened l low high i)
unfolding opened
opened_exactly l low high i = (
  λ s.
      let is = stands-passes 0 (opens l low high) (count l) s.0 s.1 in
      (omega (arith, is.1.0, s.2), (opens_exactly l low high i).0 (sym (ap (opens l low high) s.2) ∙ is.1.1)),
  λ h. passes-stands 0 (opens l low high) (count l) i (omega arith) (omega (arith, h.0)) ((opens_exactly l low high i).1 h.1),
)

pub opened-rising : (l : List ℕ) (low high : ℕ) → Rising (opened l low high)
unfolding opened
opened-rising l low high = passing-rises 0 (opens l low high) (count l)

-- A search that is done leaves the rows at the front of the room, and what stands behind them as it was.
module _ (l : List ℕ) (low high : ℕ) (rows : List ℕ) (done : file_answer (search_tests l low high rows) ≡ Ok tt) where
  pub search-front : take (length (found l low high)) (search_leaves l low high rows) ≡ found l low high
  search-front = ap (take (length (found l low high))) (search-done l low high rows done).1 ∙ over-front (found l low high) rows

  pub search-behind : drop (length (found l low high)) (search_leaves l low high rows) ≡ drop (length (found l low high)) rows
  search-behind = ap (drop (length (found l low high))) (search-done l low high rows done).1 ∙ over-rest (found l low high) rows

-- A refused search leaves the room for rows as it was.
pub search-unchanged : (l : List ℕ) (low high : ℕ) (rows : List ℕ) → (number_of (file_answer (search_tests l low high rows)) ≡ 0 → ⊥)
    → search_leaves l low high rows ≡ rows
unfolding search_leaves
search-unchanged l low high rows n = left-refused (file_answer (search_tests l low high rows)) (over 0 (found l low high) rows) rows n

-- What is given back says the answer of the tests, and how many rows and blocks where the search is done, and else 0.
module _ (l : List ℕ) (low high : ℕ) (rows : List ℕ) where
  abbrev answer : FileAnswer
  answer = file_answer (search_tests l low high rows)

  abbrev given : Found
  given = counts (length (found l low high)) (length (opened l low high))

  pub search_answers : answer_of (found_of l low high rows) ≡ answer
  unfolding found_of
  search_answers = says_answer answer given

  -- by whether the search is done
  read_off : (read : Result Found FileRefusal → ℕ) → ((r : FileRefusal) → read (Err r) ≡ 0) → read (found_of l low high rows) ≡ left answer (read (Ok given)) 0
  unfolding found_of
  read_off read none = go answer
    where
      go : (a : FileAnswer) → read (giving a given) ≡ left a (read (Ok given)) 0
      go (Ok _) = refl
      go (Err r) = none r ∙ sym (left-err r (read (Ok given)) 0)

  pub search-rows : rows_found (found_of l low high rows) ≡ left answer (length (found l low high)) 0
  search-rows = read_off rows_found (λ _. refl)

  pub search-opened : blocks_opened (found_of l low high rows) ≡ left answer (length (opened l low high)) 0
  search-opened = read_off blocks_opened (λ _. refl)
