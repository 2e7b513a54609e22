-- What the search answers by its tests, and what it leaves.
-- Assumes nothing.
use Rattle.std.specs.Prelude.{Ok, Err}
use Rattle.std.proofs.Common.{◌≡◌, ℕ, zero, suc, ◌+◌, ◌*◌, ◌<◌, ◌≤◌, Bool, true, false, eqb, leb, List, [], ◌∷◌, length, sym, refl, ap, ◌∙◌, ap₂, zero-add, add-one, arith, eq-eqb, ne_eqb, eqb-true, le-leb}
use Rattle.lists.specs.Pick.{pick}
use Rattle.lists.specs.Tab.{over}
use Rattle.lists.specs.Passing.{passing}
use Rattle.lists.proofs.Overs.{over_nothing}
use Rattle.lists.proofs.Search.{first_only, first_le}
use Rattle.lists.proofs.Passing.{passing-length}
use Rattle.contents.specs.declared.FileRefusal.{FileRefusal}
use Rattle.contents.specs.declared.FileRefusal.TheVariants.{Runs, Range, Room}
use Rattle.contents.specs.Answers.{FileAnswer, file_answer, left, giving}
use Rattle.contents.specs.Contents.{edition, count, range_of, contents_tests}
use Rattle.contents.proofs.Accepted.{done_first}
use Rattle.contents.proofs.Answers.{passed, stopped, none_left, in_front-done, in_front-refused, left-err}
use Rattle.bodies.specs.Ranges.{is_range}
use Rattle.files.specs.Files.{block_in, has_true_range}
use Rattle.search.specs.declared.Found.{Found}
use Rattle.search.specs.InnerBlocks.{asked, bad_in}
use Rattle.search.specs.Steps.{in_block}
use Rattle.search.specs.Search.{counts, opens, opened, found, bad_runs_in, bad_range_in, opened_tests, search_tests, found_of, search_leaves}
use Rattle.search.proofs.Blocks.{in_long}
use Rattle.search.proofs.Listing.{more_pass, same_pass, pass_mono}
use Rattle.search.proofs.Walks.{found_to, found-length, found_shut, found_all}

-- A list of no entries is empty.
nothing : (x : List ℕ) → length x ≡ 0 → x ≡ []
nothing [] e = refl
nothing (v ∷ x) e = absurd (omega arith)

-- What a call gives and leaves by its answer: the refusal, and what was there before,
pub given-refused : (x : Found) (new old : List ℕ) {a : FileAnswer} {r : FileRefusal} → a ≡ Err r → (giving a x ≡ Err r) × (left a new old ≡ old)
given-refused x new old {r = r} e = (ap (λ a. giving a x) e, ap (λ a. left a new old) e ∙ left-err r new old)

-- or what was found.
pub given-done : (x : Found) (new old : List ℕ) {a : FileAnswer} → a ≡ Ok tt → (giving a x ≡ Ok x) × (left a new old ≡ new)
given-done x new old e = (ap (λ a. giving a x) e, ap (λ a. left a new old) e)

module _ (l : List ℕ) (low high : ℕ) where
  -- The lowest bad block of each sort is the one that a walk finds.
  pub runs_are : bad_runs_in l low high ≡ bad_in l low high false
  unfolding bad_runs_in
  runs_are = refl

  pub ranges_are : bad_range_in l low high ≡ bad_in l low high true
  unfolding bad_range_in
  ranges_are = refl

  pub bad_le : (ranges : Bool) → bad_in l low high ranges ≤ count l
  bad_le ranges = first_le (count l) (λ i. pick (opens l low high i) (asked l ranges i) true)

  -- The tests of the opened blocks, by what the walks find.
  pub opened_runs : (bad : ℕ) → bad ≡ bad_in l low high false → (bad ≡ count l → ⊥) → file_answer (opened_tests l low high) ≡ Err (Runs bad)
  opened_runs bad e other =
      stopped _ _ (ne_eqb (bad_runs_in l low high) (count l) (λ f. other (e ∙ sym runs_are ∙ f))) ∙ ap (λ p. Err (Runs p)) (runs_are ∙ sym e)

  module _ (good : bad_in l low high false ≡ count l) where
    ranges_left : file_answer (opened_tests l low high) ≡ file_answer ((eqb (bad_range_in l low high) (count l), Err (Range (bad_range_in l low high))) ∷ [])
    ranges_left = passed _ _ (eq-eqb (bad_runs_in l low high) (count l) (runs_are ∙ good))

    pub opened_range : (bad : ℕ) → bad ≡ bad_in l low high true → (bad ≡ count l → ⊥) → file_answer (opened_tests l low high) ≡ Err (Range bad)
    opened_range bad e other =
        ranges_left ∙ stopped _ _ (ne_eqb (bad_range_in l low high) (count l) (λ f. other (e ∙ sym ranges_are ∙ f))) ∙ ap (λ p. Err (Range p)) (ranges_are ∙ sym e)

    pub opened-done : bad_in l low high true ≡ count l → file_answer (opened_tests l low high) ≡ Ok tt
    opened-done same = ranges_left ∙ passed _ _ (eq-eqb (bad_range_in l low high) (count l) (ranges_are ∙ same)) ∙ none_left

  -- Where they are passed, the opened blocks have their run indices in range,
  pub opened-good : file_answer (opened_tests l low high) ≡ Ok tt → bad_in l low high false ≡ count l
  opened-good done = sym runs_are ∙ eqb-true (bad_runs_in l low high) (count l) (done_first _ _ refl done).0

  -- and the ranges that their entries say.
  pub opened-true : file_answer (opened_tests l low high) ≡ Ok tt → bad_in l low high true ≡ count l
  opened-true done = sym ranges_are ∙ eqb-true (bad_range_in l low high) (count l) (done_first _ _ refl (done_first _ _ refl done).1).0

  -- Where every block is not opened or as asked, there is no bad one.
  pub none_bad : (ranges : Bool) → ((i : ℕ) → i < count l → pick (opens l low high i) (asked l ranges i) true ≡ true) → bad_in l low high ranges ≡ count l
  none_bad ranges all =
      sym (first_only (count l) (count l) (λ i. pick (opens l low high i) (asked l ranges i) true) (omega arith) all (λ h. absurd (omega arith)))

  picked_true : (t : Bool) → pick t true true ≡ true
  picked_true true = refl
  picked_true false = refl

  -- In edition 1 no range is a wrong one.
  pub first_edition : edition l ≡ 1 → bad_in l low high true ≡ count l
  unfolding has_true_range
  first_edition e =
      none_bad true
      (λ i h.
      ap (λ t. pick (opens l low high i) (pick t (is_range (range_of l i) (block_in l i)) true) true) (ne_eqb (edition l) 2 (λ f. absurd (omega arith)))
      ∙ picked_true (opens l low high i))

  -- Where nothing is opened, each block is not.
  pub all_shut : length (opened l low high) ≡ 0 → (i : ℕ) → i < count l → opens l low high i ≡ false
  unfolding opened
  all_shut none i h = go (opens l low high i) refl
    where
      go : (t : Bool) → opens l low high i ≡ t → t ≡ false
      go false e = refl
      go true e =
          absurd
          (omega (
            arith,
            more_pass 0 (opens l low high) i (ap (opens l low high) (zero-add i) ∙ e),
            pass_mono 0 (opens l low high) (i + 1) (count l) (omega arith),
          ))

  -- The opened blocks have at most 1,024 rows each.
  few : (n : ℕ) → length (found_to l low high n) ≤ length (passing 0 n (opens l low high)) * 1024
  unfolding passing
  few zero = omega arith
  few (suc n) = go (opens l low high n) refl (few n)
    where
      one_more : suc n ≡ n + 1
      one_more = sym (add-one n)

      go : (t : Bool) → opens l low high n ≡ t → length (found_to l low high n) ≤ length (passing 0 n (opens l low high)) * 1024
          → length (found_to l low high (suc n)) ≤ length (passing 0 (suc n) (opens l low high)) * 1024
      go true e before =
          omega (
            arith,
            ap (λ k. length (found_to l low high k)) one_more,
            ap (λ k. length (passing 0 k (opens l low high))) one_more,
            found-length l low high n e,
            more_pass 0 (opens l low high) n (ap (opens l low high) (zero-add n) ∙ e),
            passing-length (n * 1024) (length (block_in l n)) (in_block (block_in l n) (n * 1024) low high),
            in_long l low high n,
          )
      go false e before =
          omega (
            arith,
            ap (λ k. length (found_to l low high k)) one_more,
            ap (λ k. length (passing 0 k (opens l low high))) one_more,
            ap length (found_shut l low high n e),
            ap length (same_pass 0 (opens l low high) n (ap (opens l low high) (zero-add n) ∙ e)),
          )

  pub few-rows : length (found l low high) ≤ length (opened l low high) * 1024
  unfolding opened
  few-rows = omega (arith, few (count l), ap length (found_all l low high (count l) refl))

  pub few-opened : length (opened l low high) ≤ count l
  unfolding opened
  few-opened = passing-length 0 (count l) (opens l low high)

  module _ (rows : List ℕ) where
    -- A refused search gives its refusal and leaves the room as it was.
    pub search-refused : (r : FileRefusal) → file_answer (search_tests l low high rows) ≡ Err r
        → (found_of l low high rows ≡ Err r) × (search_leaves l low high rows ≡ rows)
    unfolding found_of search_leaves
    search-refused r e = given-refused (counts (length (found l low high)) (length (opened l low high))) (over 0 (found l low high) rows) rows e

    -- One that is done gives how many rows and blocks, and leaves the rows.
    pub search-done : file_answer (search_tests l low high rows) ≡ Ok tt
        → (found_of l low high rows ≡ Ok (counts (length (found l low high)) (length (opened l low high)))) × (search_leaves l low high rows ≡ over 0 (found l low high) rows)
    unfolding found_of search_leaves
    search-done e = given-done (counts (length (found l low high)) (length (opened l low high))) (over 0 (found l low high) rows) rows e

    -- The tests are made in their order.
    pub contents-first : (file_answer (contents_tests l (length l)) ≡ Ok tt → ⊥) → file_answer (search_tests l low high rows) ≡ file_answer (contents_tests l (length l))
    contents-first refused = in_front-refused (contents_tests l (length l)) _ refused

    module _ (right : file_answer (contents_tests l (length l)) ≡ Ok tt) where
      pub opened_second : (file_answer (opened_tests l low high) ≡ Ok tt → ⊥) → file_answer (search_tests l low high rows) ≡ file_answer (opened_tests l low high)
      opened_second refused = in_front-done (contents_tests l (length l)) _ refl right ∙ in_front-refused (opened_tests l low high) _ refused

      module _ (good : file_answer (opened_tests l low high) ≡ Ok tt) where
        room_last : file_answer (search_tests l low high rows) ≡ file_answer ((leb (length (found l low high)) (length rows), Err Room) ∷ [])
        room_last = in_front-done (contents_tests l (length l)) _ refl right ∙ in_front-done (opened_tests l low high) _ refl good

        pub no_room : leb (length (found l low high)) (length rows) ≡ false → file_answer (search_tests l low high rows) ≡ Err Room
        no_room short = room_last ∙ stopped _ _ short

        pub room_there : leb (length (found l low high)) (length rows) ≡ true → file_answer (search_tests l low high rows) ≡ Ok tt
        room_there there = room_last ∙ passed _ _ there ∙ none_left

    -- Where nothing is opened, nothing is listed.
    pub search_nothing : file_answer (contents_tests l (length l)) ≡ Ok tt → length (opened l low high) ≡ 0
        → (found_of l low high rows ≡ Ok (counts 0 0)) × (search_leaves l low high rows ≡ rows)
    search_nothing right none =
        let shut : (ranges : Bool) (i : ℕ) → i < count l → pick (opens l low high i) (asked l ranges i) true ≡ true =
        λ ranges i h. ap (λ t. pick t (asked l ranges i) true) (all_shut none i h) in
        let good = opened-done (none_bad false (shut false)) (none_bad true (shut true)) in
        let no_rows : length (found l low high) ≡ 0 = omega (arith, few-rows) in
        let done = search-done (room_there right good (le-leb (length (found l low high)) (length rows) (omega arith))) in (
          done.0 ∙ ap₂ (λ n k. Ok (counts n k)) no_rows none,
          done.1 ∙ ap (λ x. over 0 x rows) (nothing (found l low high) no_rows) ∙ over_nothing 0 rows,
        )
