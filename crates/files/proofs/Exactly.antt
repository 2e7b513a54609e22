-- A file gets an answer exactly when it has the reason for it: the refusals of the reader (R90), each exactly when
-- (R3), in both directions, for the check, for one block out and for the lookup of a row.
-- Assumes nothing.
use Rattle.std.specs.Prelude.{Ok, Err}
use Rattle.std.proofs.Common.{◌≡◌, ℕ, ◌*◌, ◌<◌, ◌≤◌, Bool, true, false, eqb, ltb, ◌≢◌, ◌⊎◌, ◌↔◌, List, [], ◌∷◌, ◌++◌, length, get_or, sym, refl, ap, ◌∙◌, subst, ap₂, inl, inr, ⊎_elim, arith, le-ltb, lt-ltb, eq-eqb, ne_eqb, eqb-true}
use native.Mathlib.Decide.{dec_le, dec_lt, ℕ_discrete}
use borrow.Author.Tests.{eqb-false}
use Rattle.lists.specs.Pick.{pick, both}
use Rattle.lists.specs.Search.{first_beyond, first_bad}
use Rattle.lists.specs.Tab.{tab}
use Rattle.lists.specs.Ends.{lowest_of, highest_of}
use Rattle.lists.proofs.Search.{first-beyond-none, first_only, first-before, first-at}
use Rattle.lists.proofs.Tabs.{get_d_tab, length-tab}
use Rattle.lists.proofs.Tests.{not_then, false-true, both_true}
use Rattle.little.specs.Little.{little, numbers_of}
use Rattle.contents.specs.declared.Entry.{Entry}
use Rattle.contents.specs.declared.FileRefusal.TheVariants.{Block, Cut, Edition, BadEntry, Over, Beyond, Runs, Range}
use Rattle.contents.specs.Answers.{FileAnswer, FileTest, file_answer, number_of}
use Rattle.contents.specs.Contents.{edition, count, contents_size, entry_of, range_of, is_right, bad_entry, body_start, entries_tests, contents_tests}
use Rattle.contents.proofs.Accepted.{accepted, accepts}
use Rattle.contents.proofs.Answers.{passed, stopped, none_left, in_front-done, in_front-refused, number-done}
use Rattle.contents.proofs.Checks as Checks
use Rattle.contents.proofs.Laid.{laid_plain, taken-plain, both_is, leb-is}
use Rattle.bodies.specs.Bodies.{has_good_runs, value_count}
use Rattle.bodies.specs.Ranges.{is_range}
use Rattle.files.specs.Files.{body_of, block_in, has_true_range, bad_runs, bad_range, row_count, file_tests, block_out_tests, row_tests}
use Rattle.files.specs.Reasons.{GoodRuns, TrueRange, Headed, EntryRight, RightTo, GoodTo, TrueTo, Right, Reason, BlockReason, RowReason}
use Rattle.files.specs.Reasons.{short_head, other_edition, short_entries, of_bad_entry, short_bodies, left_over, of_bad_runs, of_bad_range, none}
use Rattle.files.specs.Reasons.{bad_output, of_file_block, no_block, block_there, of_file_row, no_row, row_there}
use Rattle.files.proofs.Files.{good_in}
use Rattle.files.proofs.Ranges.{ranges_done, range_at}

-- ---- a search by a test that says something

-- The test of each number says that something holds of it. So the search for the lowest that fails is for the lowest of
-- which it does not hold.
module _ (n : ℕ) (test : ℕ → Bool) (Holds : ℕ → Type 0) (plain : (i : ℕ) → (test i ≡ true) ↔ Holds i) where
  pub lowest-found : (p : ℕ) → p < n → (Holds p → ⊥) → ((i : ℕ) → i < p → Holds i) → first_bad n test ≡ p
  lowest-found p h bad before =
      sym (first_only n p test (omega arith) (λ i b. (plain i).1 (before i b)) (λ _. not_then (test p) (λ e. bad ((plain p).0 e))))

  pub none_found : ((i : ℕ) → i < n → Holds i) → first_bad n test ≡ n
  none_found all = sym (first_only n n test (omega arith) (λ i b. (plain i).1 (all i b)) (λ h. absurd (omega arith)))

  pub before-holds : (i : ℕ) → i < first_bad n test → Holds i
  before-holds i h = (plain i).0 (first-before n test i h)

  pub at-fails : first_bad n test < n → Holds (first_bad n test) → ⊥
  at-fails h holds = false-true (sym (first-at n test h) ∙ (plain (first_bad n test)).1 holds)

  pub all_hold : (first_bad n test < n → ⊥) → (i : ℕ) → i < n → Holds i
  all_hold h i b =
      elim (dec_lt (first_bad n test) n) [
        | yes some ↦ absurd (h some)
        | no all ↦ before-holds i (omega arith)
      ]

-- ---- the tests, in plain arithmetic

-- The test of a body's run indices says what its reason says.
pub runs-plain : (e : Entry) (body : List ℕ) → (has_good_runs e body ≡ true) ↔ GoodRuns e body
unfolding has_good_runs numbers_of
runs-plain e body = go (eqb e.kind 3) refl
  where
    index : (i : ℕ) → i < 1024 → get_or (tab 1024 (λ i. little body (i * 2) 2)) i 0 ≡ little body (i * 2) 2
    index i h = get_d_tab 1024 (λ i. little body (i * 2) 2) i 0 h

    long : length (tab 1024 (λ i. little body (i * 2) 2)) ≡ 1024
    long = length-tab 1024 (λ i. little body (i * 2) 2)

    go : (t : Bool) → eqb e.kind 3 ≡ t → (pick t (eqb (first_beyond (value_count e) (tab 1024 (λ i. little body (i * 2) 2))) 1024) true ≡ true) ↔ GoodRuns e body
    go true k = (
      (λ h _ i l. subst (λ n. n < value_count e) (index i l)
          ((first-beyond-none (value_count e) (tab 1024 (λ i. little body (i * 2) 2))).0 (eqb-true _ 1024 h ∙ sym long) i (omega (arith, long)))),
      (λ g. eq-eqb _ 1024 ((first-beyond-none (value_count e) (tab 1024 (λ i. little body (i * 2) 2))).1
          (λ i l. subst (λ n. n < value_count e) (sym (index i (omega (arith, long)))) (g (eqb-true e.kind 3 k) i (omega (arith, long)))) ∙ long)),
    )
    go false k = ((λ _ q. absurd (eqb-false e.kind 3 k q)), (λ _. refl))

module _ (l : List ℕ) where
  -- So does that of the run indices of block i,
  pub good-plain : (i : ℕ) → (good_in l i ≡ true) ↔ GoodRuns (entry_of l i) (body_of l i)
  good-plain i = runs-plain (entry_of l i) (body_of l i)

  -- that of an entry,
  pub entry-plain : (i : ℕ) → (is_right l i ≡ true) ↔ EntryRight l i
  unfolding is_right
  entry-plain i =
      both_is _ _ (laid_plain (entry_of l i)) (both_is _ _ (taken-plain (edition l) (entry_of l i)) (leb-is (range_of l i).smallest (range_of l i).largest))

  -- and that of a range.
  pub range-plain : (i : ℕ) → (has_true_range l i ≡ true) ↔ TrueRange l i
  unfolding has_true_range
  range-plain i = go (eqb (edition l) 2) refl
    where
      go : (t : Bool) → eqb (edition l) 2 ≡ t → (pick t (is_range (range_of l i) (block_in l i)) true ≡ true) ↔ TrueRange l i
      go true k = (
        (λ e _. let t = both_true (eqb (range_of l i).smallest (lowest_of (block_in l i))) (eqb (range_of l i).largest (highest_of (block_in l i))) e in
            (eqb-true (range_of l i).smallest (lowest_of (block_in l i)) t.0, eqb-true (range_of l i).largest (highest_of (block_in l i)) t.1)),
        (λ r. let t = r (eqb-true (edition l) 2 k) in
            ap₂ both (eq-eqb (range_of l i).smallest (lowest_of (block_in l i)) t.0) (eq-eqb (range_of l i).largest (highest_of (block_in l i)) t.1)),
      )
      go false k = ((λ _ q. absurd (eqb-false (edition l) 2 k q)), (λ _. refl))

  entry_found : (p : ℕ) → p < count l → (EntryRight l p → ⊥) → RightTo l p → bad_entry l ≡ p
  unfolding bad_entry
  entry_found = lowest-found (count l) (is_right l) (EntryRight l) entry-plain

  entries-found : RightTo l (count l) → bad_entry l ≡ count l
  unfolding bad_entry
  entries-found = none_found (count l) (is_right l) (EntryRight l) entry-plain

  runs-found : (p : ℕ) → p < count l → (GoodRuns (entry_of l p) (body_of l p) → ⊥) → GoodTo l p → bad_runs l ≡ p
  unfolding bad_runs
  runs-found = lowest-found (count l) (good_in l) (λ i. GoodRuns (entry_of l i) (body_of l i)) good-plain

  all_runs-found : GoodTo l (count l) → bad_runs l ≡ count l
  unfolding bad_runs
  all_runs-found = none_found (count l) (good_in l) (λ i. GoodRuns (entry_of l i) (body_of l i)) good-plain

  range-found : (p : ℕ) → p < count l → (TrueRange l p → ⊥) → TrueTo l p → bad_range l ≡ p
  unfolding bad_range
  range-found = lowest-found (count l) (has_true_range l) (TrueRange l) range-plain

  all_ranges_found : TrueTo l (count l) → bad_range l ≡ count l
  unfolding bad_range
  all_ranges_found = none_found (count l) (has_true_range l) (TrueRange l) range-plain

  -- ---- a reason gives its answer

  -- no refusal says that the call is done
  apart : (a : FileAnswer) → (number_of a ≡ 0 → ⊥) → a ≡ Ok tt → ⊥
  apart a h e = h (ap number_of e)

  of_contents : (a : FileAnswer) → file_answer (contents_tests l (length l)) ≡ a → (number_of a ≡ 0 → ⊥) → file_answer (file_tests l) ≡ a
  of_contents a e h =
      in_front-refused (contents_tests l (length l)) ((eqb (bad_runs l) (count l), Err (Runs (bad_runs l))) ∷ (eqb (bad_range l) (count l), Err (Range (bad_range l))) ∷ []) (λ d. apart a h (sym e ∙ d))
      ∙ e

  of-entries : (a : FileAnswer) → Headed l → file_answer (entries_tests l (length l)) ≡ a → (number_of a ≡ 0 → ⊥) → file_answer (file_tests l) ≡ a
  of-entries a w e h = of_contents a (Checks.entries_there l (length l) w.head w.first w.few w.room ∙ e) h

  pub right-done : Right l → file_answer (contents_tests l (length l)) ≡ Ok tt
  right-done r =
      accepts l (length l)
      (record {
        head = r.headed.head;
        first = r.headed.first;
        few = r.headed.few;
        room = r.headed.room;
        right = λ i h. (entry-plain i).1 (r.entries i h);
        end = r.end;
      })

  pub done-right : file_answer (contents_tests l (length l)) ≡ Ok tt → Right l
  done-right done =
      let w = accepted l (length l) done in
      record {
        headed = record { head = w.head; first = w.first; few = w.few; room = w.room };
        entries = λ i h. (entry-plain i).0 (w.right i h);
        end = w.end;
      }

  of-runs : Right l → file_answer (file_tests l) ≡ file_answer ((eqb (bad_runs l) (count l), Err (Runs (bad_runs l))) ∷ (eqb (bad_range l) (count l), Err (Range (bad_range l))) ∷ [])
  of-runs r = in_front-done (contents_tests l (length l)) ((eqb (bad_runs l) (count l), Err (Runs (bad_runs l))) ∷ (eqb (bad_range l) (count l), Err (Range (bad_range l))) ∷ []) refl (right-done r)

  of_ranges : Right l → GoodTo l (count l) → file_answer (file_tests l) ≡ file_answer ((eqb (bad_range l) (count l), Err (Range (bad_range l))) ∷ [])
  of_ranges r good = of-runs r ∙ passed _ _ (eq-eqb (bad_runs l) (count l) (all_runs-found good))

  pub reason_gives : {a : FileAnswer} → Reason l a → file_answer (file_tests l) ≡ a
  reason_gives (short_head h) = of_contents (Err Cut) (Checks.short_head l (length l) h) (λ e. omega arith)
  reason_gives (other_edition h (inl o)) = of_contents (Err Edition) (Checks.other_edition l (length l) h o.0 o.1) (λ e. omega arith)
  reason_gives (other_edition h (inr m)) = of_contents (Err Edition) (Checks.many_blocks l (length l) h m) (λ e. omega arith)
  reason_gives (short_entries h f m s) = of_contents (Err Cut) (Checks.short_entries l (length l) h f m s) (λ e. omega arith)
  reason_gives (of_bad_entry p w h bad before) =
      let found : bad_entry l ≡ p = entry_found p h bad before in
      of-entries (Err (BadEntry p)) w (Checks.bad_entries l (length l) (omega arith) ∙ ap (λ p. Err (BadEntry p)) found) (λ e. omega arith)
  reason_gives (short_bodies w all s) = of-entries (Err Cut) w (Checks.short_bodies l (length l) (entries-found all) s) (λ e. omega arith)
  reason_gives (left_over w all s) = of-entries (Err Over) w (Checks.left_over l (length l) (entries-found all) (omega arith) s) (λ e. omega arith)
  reason_gives (of_bad_runs p r h bad before) =
      let found : bad_runs l ≡ p = runs-found p h bad before in
      of-runs r ∙ stopped _ _ (ne_eqb (bad_runs l) (count l) (λ e. omega arith)) ∙ ap (λ p. Err (Runs p)) found
  reason_gives (of_bad_range p r good h bad before) =
      let found : bad_range l ≡ p = range-found p h bad before in
      of_ranges r good ∙ range_at l p (sym found) (λ e. omega arith)
  reason_gives (none r good all) = of_ranges r good ∙ ranges_done l (all_ranges_found all)

  -- ---- every file has a reason

  from_ranges : Right l → GoodTo l (count l) → (a : FileAnswer) × Reason l a
  unfolding bad_range
  from_ranges r good =
      elim (dec_lt (bad_range l) (count l)) [
        | yes h ↦ (
          Err (Range (bad_range l)),
          of_bad_range (bad_range l) r good h
              (at-fails (count l) (has_true_range l) (TrueRange l) range-plain h)
              (before-holds (count l) (has_true_range l) (TrueRange l) range-plain),
        )
        | no h ↦ (Ok tt, none r good (all_hold (count l) (has_true_range l) (TrueRange l) range-plain h))
      ]

  from_runs : Right l → (a : FileAnswer) × Reason l a
  unfolding bad_runs
  from_runs r =
      elim (dec_lt (bad_runs l) (count l)) [
        | yes h ↦ (
          Err (Runs (bad_runs l)),
          of_bad_runs (bad_runs l) r h
              (at-fails (count l) (good_in l) (λ i. GoodRuns (entry_of l i) (body_of l i)) good-plain h)
              (before-holds (count l) (good_in l) (λ i. GoodRuns (entry_of l i) (body_of l i)) good-plain),
        )
        | no h ↦ from_ranges r (all_hold (count l) (good_in l) (λ i. GoodRuns (entry_of l i) (body_of l i)) good-plain h)
      ]

  from_entries : Headed l → (a : FileAnswer) × Reason l a
  unfolding bad_entry
  from_entries w =
      elim (dec_lt (bad_entry l) (count l)) [
        | yes h ↦ (
          Err (BadEntry (bad_entry l)),
          of_bad_entry (bad_entry l) w h
              (at-fails (count l) (is_right l) (EntryRight l) entry-plain h)
              (before-holds (count l) (is_right l) (EntryRight l) entry-plain),
        )
        | no h ↦ sizes (all_hold (count l) (is_right l) (EntryRight l) entry-plain h)
      ]
    where
      sizes : RightTo l (count l) → (a : FileAnswer) × Reason l a
      sizes all =
          elim (dec_lt (length l) (body_start l (count l))) [
            | yes s ↦ (Err Cut, short_bodies w all s)
            | no s ↦ elim (dec_lt (body_start l (count l)) (length l)) [
              | yes m ↦ (Err Over, left_over w all m)
              | no m ↦ from_runs (record { headed = w; entries = all; end = omega arith })
            ]
          ]

  from_head : (a : FileAnswer) × Reason l a
  from_head =
      elim (dec_le 4 (length l)) [
        | no h ↦ (Err Cut, short_head (omega arith))
        | yes h ↦ ⊎_elim
            (λ f. elim (dec_le (count l) 256) [
              | no m ↦ (Err Edition, other_edition h (inr (omega arith)))
              | yes m ↦ elim (dec_le (contents_size (edition l) (count l)) (length l)) [
                | no s ↦ (Err Cut, short_entries h f m (omega arith))
                | yes s ↦ from_entries (record { head = h; first = f; few = m; room = s })
              ]
            ])
            (λ o. (Err Edition, other_edition h (inl o)))
            (Checks.known_or_not (edition l))
      ]

  -- Each answer is given exactly when the file has the reason for it.
  pub file_exactly : (a : FileAnswer) → (file_answer (file_tests l) ≡ a) ↔ Reason l a
  file_exactly a = (
    (λ e. subst (Reason l) (sym (reason_gives from_head.1) ∙ e) from_head.1),
    (λ r. reason_gives r),
  )

  -- In edition 2 no block has runs, so that 13 is never given.
  pub second_runs : edition l ≡ 2 → (p : ℕ) → file_answer (file_tests l) ≡ Err (Runs p) → ⊥
  second_runs second p e = go ((file_exactly (Err (Runs p))).0 e)
    where
      go : Reason l (Err (Runs p)) → ⊥
      go (of_bad_runs p r h bad before) = bad (λ k. absurd (omega (arith, (r.entries p h).1.0 second)))

  -- ---- one block out, and the lookup of a row

  -- a file that is refused is refused in front of the last test, and a file that is right leaves it to that test
  refused-front : (x : FileTest) (a : FileAnswer) → a ≢ Ok tt → Reason l a → file_answer (file_tests l ++ (x ∷ [])) ≡ a
  refused-front x a n r = in_front-refused (file_tests l) (x ∷ []) (λ d. n (sym (reason_gives r) ∙ d)) ∙ reason_gives r

  right-front : (x : FileTest) → Reason l (Ok tt) → file_answer (file_tests l ++ (x ∷ [])) ≡ file_answer (x ∷ [])
  right-front x r = in_front-done (file_tests l) (x ∷ []) refl (reason_gives r)

  number_there : (n m : ℕ) → n < m → file_answer ((ltb n m, Err Beyond) ∷ []) ≡ Ok tt
  number_there n m h = passed _ _ (lt-ltb n m h) ∙ none_left

  number-beyond : (n m : ℕ) → m ≤ n → file_answer ((ltb n m, Err Beyond) ∷ []) ≡ Err Beyond
  number-beyond n m h = stopped _ _ (le-ltb n m h)

  -- whether a file is done
  done_or_not : (a : FileAnswer) → (a ≡ Ok tt) ⊎ (a ≢ Ok tt)
  done_or_not a =
      elim (ℕ_discrete (number_of a) 0) [
        | yes zero ↦ inl (number-done a zero)
        | no other ↦ inr (λ e. other (ap number_of e))
      ]

  module _ (p : ℕ) where
    row_gives : {a : FileAnswer} → RowReason l p a → file_answer (row_tests l p) ≡ a
    row_gives (of_file_row a n r) = refused-front ((ltb p (row_count l), Err Beyond)) a n r
    row_gives (no_row r h) = right-front ((ltb p (row_count l), Err Beyond)) r ∙ number-beyond p (row_count l) h
    row_gives (row_there r h) = right-front ((ltb p (row_count l), Err Beyond)) r ∙ number_there p (row_count l) h

    from_row : (a : FileAnswer) × RowReason l p a
    from_row =
        ⊎_elim
        (λ d. let r : Reason l (Ok tt) = subst (Reason l) d from_head.1 in
        elim (dec_lt p (row_count l)) [
          | yes h ↦ (Ok tt, row_there r h)
          | no h ↦ (Err Beyond, no_row r (omega arith))
        ])
        (λ n. (from_head.0, of_file_row from_head.0 n from_head.1))
        (done_or_not from_head.0)

    -- Each answer of the lookup is given exactly when it has the reason for it.
    pub row_exactly : (a : FileAnswer) → (file_answer (row_tests l p) ≡ a) ↔ RowReason l p a
    row_exactly a = ((λ e. subst (RowReason l p) (sym (row_gives from_row.1) ∙ e) from_row.1), (λ r. row_gives r))

  module _ (b : ℕ) (output : List ℕ) where
    sized : length output ≡ 1024 → file_answer (block_out_tests l b output) ≡ file_answer (file_tests l ++ ((ltb b (count l), Err Beyond) ∷ []))
    sized e = passed _ _ (eq-eqb (length output) 1024 e)

    block_gives : {a : FileAnswer} → BlockReason l b output a → file_answer (block_out_tests l b output) ≡ a
    block_gives (bad_output h) = stopped _ _ (ne_eqb (length output) 1024 h)
    block_gives (of_file_block a e n r) = sized e ∙ refused-front ((ltb b (count l), Err Beyond)) a n r
    block_gives (no_block e r h) = sized e ∙ right-front ((ltb b (count l), Err Beyond)) r ∙ number-beyond b (count l) h
    block_gives (block_there e r h) = sized e ∙ right-front ((ltb b (count l), Err Beyond)) r ∙ number_there b (count l) h

    from_block : (a : FileAnswer) × BlockReason l b output a
    from_block =
        elim (ℕ_discrete (length output) 1024) [
          | no h ↦ (Err Block, bad_output h)
          | yes e ↦ ⊎_elim
              (λ d. let r : Reason l (Ok tt) = subst (Reason l) d from_head.1 in
              elim (dec_lt b (count l)) [
                | yes h ↦ (Ok tt, block_there e r h)
                | no h ↦ (Err Beyond, no_block e r (omega arith))
              ])
              (λ n. (from_head.0, of_file_block from_head.0 e n from_head.1))
              (done_or_not from_head.0)
        ]

    -- Each answer of one block out is given exactly when it has the reason for it.
    pub block_exactly : (a : FileAnswer) → (file_answer (block_out_tests l b output) ≡ a) ↔ BlockReason l b output a
    block_exactly a = ((λ e. subst (BlockReason l b output) (sym (block_gives from_block.1) ∙ e) from_block.1), (λ r. block_gives r))
