-- What a renumbering does, of an accepted file of bytes and lists of numbers of 64 bits: the new file is accepted and has
-- as many rows, each of which is as said; a row differs exactly when its number is listed with another new one, so the
-- changes of the old file and the new one are exactly these rows; and no block is too narrow. A refused call leaves the
-- output as it was, and empty lists leave every row as it is.
-- Assumes nothing.
use mathlib.Core.Bool.{true}
use mathlib.Core.List.{List, [], map}
use mathlib.Core.Logic.{◌↔◌, ◌≢◌, inr}
use mathlib.Core.Path.{◌≡◌, refl, sym, ap, subst, ◌∙◌}
use Prim.Native.Nat.{ℕ, ◌^◌, ◌≤◌, ◌<◌}
use native.Mathlib.Decide.{dec_lt, dec_le, ℕ_discrete}
use native.Mathlib.Omega.{arith}
use borrow.Author.Tests.{eq-eqb, ne_eqb}
use lib.Dec.{eqb}
use lib.ListN.{length, get_or, take, drop, length-map}
use lib.Seq.{ext_get_or}
use Rattle.std.specs.Prelude.{Ok, Err}
use Rattle.lists.specs.Members.{Stands, Rising}
use Rattle.lists.specs.Numbers.{Elements}
use Rattle.lists.specs.Passing.{failing_from}
use Rattle.lists.specs.Pick.{pick}
use Rattle.lists.specs.Tab.{over}
use Rattle.lists.proofs.Digits.{elements-of}
use Rattle.lists.proofs.Failing.{failing_ext, failing_none, map_failing}
use Rattle.lists.proofs.Overs.{over-front, over-rest}
use Rattle.lists.proofs.Tabs.{get_d_tab}
use Rattle.places.specs.Sizes.{t64, lanes}
use Rattle.contents.specs.declared.Entry.{Entry}
use Rattle.contents.specs.Answers as Answers
use Rattle.contents.specs.Answers.{answer_of, file_answer}
use Rattle.contents.specs.Contents.{edition, count, entry_of}
use Rattle.contents.proofs.Answers as Files
use Rattle.bodies.specs.Bodies.{block_of, words_from}
use Rattle.candidates.specs.Candidates.{chosen, base_of}
use Rattle.candidates.proofs.Choice.{chosen_kind}
use Rattle.files.specs.Files.{block_in, row_at, row_count, rows_of, file_tests}
use Rattle.files.proofs.Ranges.{file-runs}
use Rattle.files.proofs.Rows.{rows-count, rows_fit}
use Rattle.writer.specs.Writer.{file_of}
use Rattle.writer.proofs.FileRows as Old
use Rattle.writer.proofs.FileWritten.{block_least}
use Rattle.writer.proofs.ReadBack.{edition-is, count-is, entry_read, file-accepted, rows-read}
use Rattle.compare.specs.Changes.{rows_in_both, is_same_row, change_of, changes_of}
use Rattle.compare.proofs.Lists.{get_d_map_in}
use Rattle.renumber.specs.InnerBlocks.{new_block}
use Rattle.renumber.specs.InnerPairs.{Paired}
use Rattle.contents.proofs.Answers.{says_answer}
use Rattle.renumber.specs.Pairs.{place_in, renumbered, is_free}
use Rattle.renumber.specs.Renumber.{RenumberAnswer, sizes, number_of, new_rows, new_file, changed_rows, taken_at, list_answer, renumber_answer, renumbered_of, renumber_leaves, length_of, changed_of, refusal_number, given_by, left_by}
use Rattle.renumber.proofs.Becoming.{becomes_new, stays}
use Rattle.renumber.proofs.Calls.{same-number, file-stops, lists_stop, row-stops, room-stops, written, taken_le}
use Rattle.renumber.proofs.Exactly.{none-fails, free-tested}
use Rattle.renumber.proofs.Lists.{number-done, lists-taken, lists_paired, lists-done}
use Rattle.renumber.proofs.Places.{place_is, place_only}
use Rattle.renumber.proofs.Stops.{unrising_le, disordered_le, twice_le}
use Rattle.renumber.proofs.Rows.{length-rows, get_d_rows, rows_long, block_at_lem}

-- Place p of the rows is row p.
pub row_is : (l : List ℕ) (p : ℕ) → p < row_count l → get_or (rows_of l) p 0 ≡ row_at l p
unfolding rows_of
row_is l p h = get_d_tab (row_count l) (row_at l) p 0 h

-- ---- what an answer that is done says

module _ (l old new order output : List ℕ) where
  -- Nothing stood in the way.
  pub record AllTaken : Type 0 where
    pub file : file_answer (file_tests l) ≡ Ok tt
    pub lists : list_answer old new order ≡ Ok tt
    pub free : taken_at old new l ≡ row_count l
    pub room : length (new_file old new l) ≤ length output

  pub all_taken : renumber_answer l old new order output ≡ Ok tt → AllTaken
  all_taken e = record { file = file; lists = lists; free = free; room = room }
    where
      file : file_answer (file_tests l) ≡ Ok tt
      file =
          elim (ℕ_discrete (Answers.number_of (file_answer (file_tests l))) 0) [
            | yes z ↦ Files.number-done (file_answer (file_tests l)) z
            | no n ↦ absurd (n (sym (same-number (file_answer (file_tests l))) ∙ ap number_of (sym (file-stops l old new order output (file_answer (file_tests l)) refl n) ∙ e)))
          ]

      lists : list_answer old new order ≡ Ok tt
      lists =
          elim (ℕ_discrete (number_of (list_answer old new order)) 0) [
            | yes z ↦ number-done (list_answer old new order) z
            | no n ↦ absurd (n (ap number_of (sym (lists_stop l old new order output file (list_answer old new order) refl n) ∙ e)))
          ]

      free : taken_at old new l ≡ row_count l
      free =
          elim (dec_lt (taken_at old new l) (row_count l)) [
            | yes h ↦ absurd (omega (arith, ap number_of (sym (row-stops l old new order output file lists (taken_at old new l) refl h) ∙ e)))
            | no h ↦ omega (arith, taken_le old new l)
          ]

      room : length (new_file old new l) ≤ length output
      room =
          elim (dec_le (length (new_file old new l)) (length output)) [
            | yes h ↦ h
            | no h ↦ absurd (omega (arith, ap number_of (sym (room-stops l old new order output file lists free (omega arith)) ∙ e)))
          ]

  -- So the lists are paired.
  pub all_paired : AllTaken → Paired old new order
  all_paired t = lists_paired old new order (lists-taken old new order t.lists)

  -- What the call gives says the answer; a refused call gives lengths of 0 and leaves the output as it was, and one that is
  -- done gives the length and the count, leaves the new file at the front, and behind it the bytes that were there.
  pub record Outcome : Type 0 where
    pub answers : answer_of (renumbered_of l old new order output) ≡ renumber_answer l old new order output
    pub nothing : (number_of (renumber_answer l old new order output) ≡ 0 → ⊥)
        → (length_of (renumbered_of l old new order output) ≡ 0)
        × (changed_of (renumbered_of l old new order output) ≡ 0)
        × (renumber_leaves l old new order output ≡ output)
    pub whole : renumber_answer l old new order output ≡ Ok tt
        → (length_of (renumbered_of l old new order output) ≡ length (new_file old new l))
        × (changed_of (renumbered_of l old new order output) ≡ length (changed_rows old new l))
    pub front : renumber_answer l old new order output ≡ Ok tt
        → take (length (new_file old new l)) (renumber_leaves l old new order output) ≡ new_file old new l
    pub behind : renumber_answer l old new order output ≡ Ok tt
        → drop (length (new_file old new l)) (renumber_leaves l old new order output) ≡ drop (length (new_file old new l)) output

  nothing-given : (number_of (renumber_answer l old new order output) ≡ 0 → ⊥)
      → (length_of (renumbered_of l old new order output) ≡ 0)
      × (changed_of (renumbered_of l old new order output) ≡ 0)
      × (renumber_leaves l old new order output ≡ output)
  unfolding renumbered_of renumber_leaves
  nothing-given n = go (renumber_answer l old new order output) n
    where
      go : (a : RenumberAnswer) → (number_of a ≡ 0 → ⊥)
          → (length_of (given_by a (new_file old new l) (length (changed_rows old new l))) ≡ 0)
          × (changed_of (given_by a (new_file old new l) (length (changed_rows old new l))) ≡ 0)
          × (left_by a (new_file old new l) output ≡ output)
      go (Ok _) n = absurd (n refl)
      go (Err r) n = (refl, refl, ap (λ b. pick b (over 0 (new_file old new l) output) output) (ne_eqb (refusal_number r) 0 n))

  answer-given : answer_of (renumbered_of l old new order output) ≡ renumber_answer l old new order output
  unfolding renumbered_of
  answer-given = says_answer (renumber_answer l old new order output) (sizes (length (new_file old new l)) (length (changed_rows old new l)))

  pub renumber-outcome : Outcome
  renumber-outcome = record {
    answers = answer-given;
    nothing = nothing-given;
    whole = λ e. let by = written l old new order output e in (sym (ap length_of by.0), sym (ap changed_of by.0));
    front = λ e. sym (ap (take (length (new_file old new l))) (written l old new order output e).1) ∙ over-front (new_file old new l) output;
    behind = λ e. sym (ap (drop (length (new_file old new l))) (written l old new order output e).1) ∙ over-rest (new_file old new l) output;
  }

-- ---- the rows

-- What becomes of a number of 64 bits is one.
becomes_small : (old new : List ℕ) → Elements t64 new → (x : ℕ) → x < 2 ^ t64 → renumbered old new x < 2 ^ t64
becomes_small old new news x small =
    elim (dec_lt (place_in old x) (length old)) [
      | yes h ↦ subst (λ y. y < 2 ^ t64) (becomes_new old new x (place_in old x) refl h) (news (place_in old x))
      | no h ↦ subst (λ y. y < 2 ^ t64) (stays old new x (place_in old x) refl (omega arith)) small
    ]

module _ (old new l : List ℕ) (bytes : Elements 8 l) (news : Elements t64 new) (done : file_answer (file_tests l) ≡ Ok tt) where
  pub new-fits : Elements t64 (new_rows old new l)
  new-fits =
      elements-of t64 (length (rows_of l)) (new_rows old new l) (length-rows old new l)
      (λ p h. subst (λ v. v < 2 ^ t64) (sym (get_d_rows old new l p h)) (becomes_small old new news (get_or (rows_of l) p 0) (rows_fit l bytes done p)))

  -- The new file is accepted, it is of edition 2 and has as many blocks,
  pub new-accepted : file_answer (file_tests (new_file old new l)) ≡ Ok tt
  new-accepted = file-accepted (new_rows old new l) (count l) (rows_long old new l) (Old.few l done) new-fits

  pub new-edition : edition (new_file old new l) ≡ 2
  new-edition = edition-is (new_rows old new l) (count l) (rows_long old new l) (Old.few l done) new-fits

  pub new-count : count (new_file old new l) ≡ count l
  new-count = count-is (new_rows old new l) (count l) (rows_long old new l) (Old.few l done) new-fits

  -- and its rows are those of the old one, renumbered.
  pub new-rows : rows_of (new_file old new l) ≡ new_rows old new l
  new-rows = rows-read (new_rows old new l) (count l) (rows_long old new l) (Old.few l done) new-fits

  pub new_row : (p : ℕ) → p < row_count l → row_at (new_file old new l) p ≡ renumbered old new (row_at l p)
  new_row p h =
      sym (row_is (new_file old new l) p (omega (arith, new-count)))
      ∙ ap (λ r. get_or r p 0) new-rows
      ∙ get_d_rows old new l p (omega (arith, rows-count l))
      ∙ ap (renumbered old new) (row_is l p h)

  -- A row is the new number of its pair where it is listed, and else it stays.
  pub listed-row : Rising old → (p i : ℕ) → p < row_count l → i < length old → get_or old i 0 ≡ row_at l p → row_at (new_file old new l) p ≡ get_or new i 0
  listed-row rising p i h m e =
      new_row p h ∙ sym (becomes_new old new (row_at l p) i (place_only old (row_at l p) i (omega arith) (λ k b s. omega (arith, rising k i b m)) (λ _. e)) m)

  pub other_row : (p : ℕ) → p < row_count l → (Stands (row_at l p) old → ⊥) → row_at (new_file old new l) p ≡ row_at l p
  other_row p h none =
      new_row p h
      ∙ sym (stays old new (row_at l p) (place_in old (row_at l p)) refl
      (elim (dec_lt (place_in old (row_at l p)) (length old)) [
        | yes m ↦ absurd (none (place_in old (row_at l p), m, place_is old (row_at l p) m))
        | no m ↦ omega arith
      ]))

  -- A row differs exactly when its number is listed with another new one.
  pub row-differs : Rising old → (p : ℕ) → p < row_count l
      → (row_at l p ≢ row_at (new_file old new l) p) ↔ ((i : ℕ) × (i < length old) × (get_or old i 0 ≡ row_at l p) × (get_or new i 0 ≢ row_at l p))
  row-differs rising p h = (
    (λ n.
        let i : ℕ = place_in old (row_at l p) in
        elim (dec_lt i (length old)) [
          | yes m ↦ (i, m, place_is old (row_at l p) m, (λ e. n (sym (listed-row rising p i h m (place_is old (row_at l p) m) ∙ e))))
          | no m ↦ absurd (n (stays old new (row_at l p) i refl (omega arith) ∙ sym (new_row p h)))
        ]),
    (λ s e. s.3 (sym (listed-row rising p s.0 h s.1 s.2) ∙ sym e)),
  )

  -- So the changes of the two files are exactly the rows that change, each with both numbers.
  pub changes_are : changes_of l (new_file old new l)
      ≡ map (λ p. record { row = p; left = row_at l p; right = renumbered old new (row_at l p) }) (changed_rows old new l)
  unfolding changes_of changed_rows
  changes_are =
      let both : rows_in_both l (new_file old new l) ≡ row_count l = omega (arith, new-count) in
      ap (λ n. map (change_of l (new_file old new l)) (failing_from 0 n (is_same_row l (new_file old new l)))) both
      ∙ ap (map (change_of l (new_file old new l)))
      (failing_ext 0 (row_count l) (is_same_row l (new_file old new l)) (λ p. eqb (row_at l p) (renumbered old new (row_at l p)))
      (λ p _ h. ap (eqb (row_at l p)) (new_row p (omega arith))))
      ∙ map_failing (change_of l (new_file old new l)) (λ p. record { row = p; left = row_at l p; right = renumbered old new (row_at l p) })
      (λ p. eqb (row_at l p) (renumbered old new (row_at l p))) 0 (row_count l)
      (λ p _ h. ap (λ v. record { row = p; left = row_at l p; right = v }) (new_row p (omega arith)))

  pub changes_many : length (changes_of l (new_file old new l)) ≡ length (changed_rows old new l)
  changes_many =
      ap length changes_are ∙ length-map (changed_rows old new l) (λ p. record { row = p; left = row_at l p; right = renumbered old new (row_at l p) })

  -- No block is too narrow: each has the entry that the writer chooses for its renumbered numbers, of kind 0, 1 or 2, and
  -- no body of less width gives them back.
  module _ (i : ℕ) (h : i < count l) where
    pub new-entry : entry_of (new_file old new l) i ≡ (chosen (new_block old new (block_in l i))).entry
    new-entry =
        entry_read (new_rows old new l) (count l) (rows_long old new l) (Old.few l done) new-fits i h
        ∙ ap (λ b. (chosen b).entry) (block_at_lem old new l (file-runs l done) bytes i h)

    pub new_kind : (entry_of (new_file old new l) i).kind ≤ 2
    new_kind = subst (λ e. e.kind ≤ 2) (sym new-entry) (chosen_kind (new_block old new (block_in l i)))

    pub new-least : (e : Entry) (body : List ℕ) → e.kind ≡ (entry_of (new_file old new l) i).kind → e.reference ≡ (entry_of (new_file old new l) i).reference
        → (e.kind ≡ 2 → words_from body 0 (lanes t64) ≡ base_of (new_block old new (block_in l i))) → block_of e body ≡ new_block old new (block_in l i)
        → (entry_of (new_file old new l) i).width ≤ e.width
    new-least e body kind reference base same =
        let at = block_at_lem old new l (file-runs l done) bytes i h in
        block_least (new_rows old new l) (record { n = count l; whole = rows_long old new l; few = Old.few l done }) new-fits i h e body kind reference (λ k. base k ∙ ap base_of (sym at)) (same ∙ sym at)

-- A call that is done counts exactly the rows that `changes` lists.
pub counts_changes : (l old new order output : List ℕ) → Elements 8 l → Elements t64 new → renumber_answer l old new order output ≡ Ok tt
    → changed_of (renumbered_of l old new order output) ≡ length (changes_of l (new_file old new l))
counts_changes l old new order output bytes news e =
    ((renumber-outcome l old new order output).whole e).1 ∙ sym (changes_many old new l bytes news (all_taken l old new order output e).file)

-- ---- empty lists

empty_stays : (x : ℕ) → renumbered [] [] x ≡ x
empty_stays x = sym (stays [] [] x (place_in [] x) refl (omega arith))

pub empty_rows : (l : List ℕ) → new_rows [] [] l ≡ rows_of l
unfolding new_rows
empty_rows l =
    ext_get_or 0 (map (renumbered [] []) (rows_of l)) (rows_of l) (length-map (rows_of l) (renumbered [] []))
    (λ p h. get_d_map_in (renumbered [] []) (rows_of l) p 0 0 (omega (arith, length-map (rows_of l) (renumbered [] []))) ∙ empty_stays (get_or (rows_of l) p 0))

-- Of a file and no pairs:
module _ (l : List ℕ) where
  -- the new file is the writer's for the rows as they are,
  pub empty_file : new_file [] [] l ≡ file_of (rows_of l)
  empty_file = ap file_of (empty_rows l)

  -- no row changes and none is taken,
  pub empty_changed : changed_rows [] [] l ≡ []
  unfolding changed_rows
  empty_changed = failing_none (row_count l) (λ p. eqb (row_at l p) (renumbered [] [] (row_at l p))) (λ p h. eq-eqb _ _ (sym (empty_stays (row_at l p))))

  pub empty_free : taken_at [] [] l ≡ row_count l
  unfolding taken_at
  empty_free = none-fails (row_count l) (λ p. is_free [] [] (row_at l p)) (λ p h. free (row_at l p))
    where
      free : (x : ℕ) → is_free [] [] x ≡ true
      free x = free-tested [] [] x (inr (λ s. omega (arith, s.1)))

-- and the lists are not refused.
pub empty_lists : list_answer [] [] [] ≡ Ok tt
empty_lists =
    sym (lists-done [] [] [] refl refl (omega (arith, unrising_le [])) (omega (arith, disordered_le [] [])) (omega (arith, twice_le [])))

-- So the count is 0, whatever the answer is.
pub empty_counts : (l output : List ℕ) → changed_of (renumbered_of l [] [] [] output) ≡ 0
unfolding renumbered_of
empty_counts l output = go (renumber_answer l [] [] [] output)
  where
    go : (a : RenumberAnswer) → changed_of (given_by a (new_file [] [] l) (length (changed_rows [] [] l))) ≡ 0
    go (Ok _) = ap length (empty_changed l)
    go (Err r) = refl
