-- What the renumbering answers and leaves, by its tests.
-- Assumes nothing.
use mathlib.Core.List.{List}
use mathlib.Core.Path.{◌≡◌, refl, sym, ap, ◌∙◌}
use Prim.Native.Nat.{ℕ, ◌≤◌, ◌<◌}
use native.Mathlib.Omega.{arith}
use borrow.Author.Tests.{eq-eqb, ne_eqb, le-leb, lt-leb}
use lib.Dec.{eqb, leb}
use lib.ListN.{length}
use Rattle.std.specs.Prelude.{Ok, Err}
use Rattle.lists.specs.Pick.{pick}
use Rattle.lists.specs.Tab.{over}
use Rattle.lists.proofs.Search.{first_le}
use Rattle.contents.specs.declared.FileRefusal.{FileRefusal}
use Rattle.contents.specs.declared.FileRefusal.TheVariants.{Room}
use Rattle.contents.specs.Answers as Answers
use Rattle.contents.specs.Answers.{FileAnswer, file_answer}
use Rattle.contents.proofs.Answers as FileAnswers
use Rattle.files.specs.Files.{row_at, row_count, runs_tests, file_tests}
use Rattle.files.proofs.Ranges.{file-refused}
use Rattle.renumber.specs.declared.RenumberRefusal.{RenumberRefusal}
use Rattle.renumber.specs.declared.RenumberRefusal.TheVariants.{File, Taken}
use Rattle.renumber.specs.InnerBlocks.{first_of}
use Rattle.renumber.specs.Pairs.{is_free}
use Rattle.renumber.specs.Renumber.{RenumberAnswer, refusal_number, from_file, sizes, number_of, is_done, new_file, changed_rows, taken_at, list_answer, renumber_answer, given_by, left_by, renumbered_of, renumber_leaves}
use Rattle.renumber.proofs.Lists.{refusal_numbered}

-- The file's own answer keeps its number.
pub same-number : (a : FileAnswer) → number_of (from_file a) ≡ Answers.number_of a
same-number (Ok _) = refl
same-number (Err r) = refl

pub taken_le : (old new l : List ℕ) → taken_at old new l ≤ row_count l
unfolding taken_at
taken_le old new l = first_le (row_count l) (λ p. is_free old new (row_at l p))

module _ (l old new order output : List ℕ) where
  -- The answer behind each test.
  abbrev behind-taken : RenumberAnswer
  behind-taken = pick (leb (length (new_file old new l)) (length output)) (Ok tt) (Err (File Room))

  abbrev behind-lists : RenumberAnswer
  behind-lists = pick (eqb (taken_at old new l) (row_count l)) behind-taken (Err (Taken (taken_at old new l)))

  abbrev behind-file : RenumberAnswer
  behind-file = pick (is_done (list_answer old new order)) behind-lists (list_answer old new order)

  -- An answer decides what is given and left.
  by_answer : (a : RenumberAnswer) → renumber_answer l old new order output ≡ a
      → (given_by a (new_file old new l) (length (changed_rows old new l)) ≡ renumbered_of l old new order output)
      × (left_by a (new_file old new l) output ≡ renumber_leaves l old new order output)
  unfolding renumbered_of renumber_leaves
  by_answer a e = (
    sym (ap (λ x. given_by x (new_file old new l) (length (changed_rows old new l))) e),
    sym (ap (λ x. left_by x (new_file old new l) output) e),
  )

  -- After a refusal the refusal is given, and the output stays.
  pub refused : (r : RenumberRefusal) → renumber_answer l old new order output ≡ Err r
      → (Err r ≡ renumbered_of l old new order output) × (output ≡ renumber_leaves l old new order output)
  refused r e =
      let by = by_answer (Err r) e in
      (by.0, sym (ap (λ b. pick b (over 0 (new_file old new l) output) output) (ne_eqb (refusal_number r) 0 (refusal_numbered r))) ∙ by.1)

  -- The reader's refusals come first.
  pub file-stops : (a : FileAnswer) → a ≡ file_answer (file_tests l) → (Answers.number_of a ≡ 0 → ⊥) → renumber_answer l old new order output ≡ from_file a
  unfolding renumber_answer
  file-stops a is bad =
      ap (λ b. pick b behind-file (from_file (file_answer (file_tests l)))) (ne_eqb (Answers.number_of (file_answer (file_tests l))) 0 (λ e. bad (ap Answers.number_of is ∙ e)))
      ∙ ap from_file (sym is)

  -- Those up to the run indices come first of these,
  pub runs_stop : (r : FileRefusal) → Err r ≡ file_answer (runs_tests l) → renumber_answer l old new order output ≡ Err (File r)
  runs_stop r is =
      file-stops (Err r) (is ∙ sym (file-refused l (λ e. FileAnswers.refusal_numbered r (ap Answers.number_of is ∙ e)))) (FileAnswers.refusal_numbered r)

  -- and where they do not stop the call, what else stops it does so unless a range is false.
  pub else_stops : (r : RenumberRefusal) → (file_answer (file_tests l) ≡ Ok tt → renumber_answer l old new order output ≡ Err r)
      → (Err (first_of (file_answer (file_tests l)) r) ≡ renumbered_of l old new order output)
      × (output ≡ renumber_leaves l old new order output)
  else_stops r is = go (file_answer (file_tests l)) refl
    where
      go : (a : FileAnswer) → file_answer (file_tests l) ≡ a
          → (Err (first_of a r) ≡ renumbered_of l old new order output) × (output ≡ renumber_leaves l old new order output)
      go (Ok _) e = refused r (is e)
      go (Err f) e = refused (File f) (file-stops (Err f) (sym e) (FileAnswers.refusal_numbered f))

  module _ (done : file_answer (file_tests l) ≡ Ok tt) where
    file-passes : renumber_answer l old new order output ≡ behind-file
    unfolding renumber_answer
    file-passes =
        ap (λ b. pick b behind-file (from_file (file_answer (file_tests l)))) (eq-eqb (Answers.number_of (file_answer (file_tests l))) 0 (ap Answers.number_of done))

    -- Then those of the lists,
    pub lists_stop : (a : RenumberAnswer) → a ≡ list_answer old new order → (number_of a ≡ 0 → ⊥) → renumber_answer l old new order output ≡ a
    lists_stop a is bad =
        file-passes
        ∙ ap (λ b. pick b behind-lists (list_answer old new order)) (ne_eqb (number_of (list_answer old new order)) 0 (λ e. bad (ap number_of is ∙ e)))
        ∙ sym is

    module _ (good : list_answer old new order ≡ Ok tt) where
      lists_pass : renumber_answer l old new order output ≡ behind-lists
      lists_pass =
          file-passes ∙ ap (λ b. pick b behind-lists (list_answer old new order)) (eq-eqb (number_of (list_answer old new order)) 0 (ap number_of good))

      -- 22: then a row that is taken,
      pub row-stops : (p : ℕ) → p ≡ taken_at old new l → p < row_count l → renumber_answer l old new order output ≡ Err (Taken p)
      row-stops p is some =
          lists_pass
          ∙ ap (λ b. pick b behind-taken (Err (Taken (taken_at old new l)))) (ne_eqb (taken_at old new l) (row_count l) (λ e. omega arith))
          ∙ ap (λ p. Err (Taken p)) (sym is)

      module _ (free : taken_at old new l ≡ row_count l) where
        rows_pass : renumber_answer l old new order output ≡ behind-taken
        rows_pass = lists_pass ∙ ap (λ b. pick b behind-taken (Err (Taken (taken_at old new l)))) (eq-eqb (taken_at old new l) (row_count l) free)

        -- 14: and then an output that is shorter than the new file.
        pub room-stops : length output < length (new_file old new l) → renumber_answer l old new order output ≡ Err (File Room)
        room-stops short = rows_pass ∙ ap (λ b. pick b (Ok tt) (Err (File Room))) (lt-leb (length (new_file old new l)) (length output) short)

        -- 0: else the new file is written.
        pub nothing_stops : length (new_file old new l) ≤ length output → renumber_answer l old new order output ≡ Ok tt
        nothing_stops room = rows_pass ∙ ap (λ b. pick b (Ok tt) (Err (File Room))) (le-leb (length (new_file old new l)) (length output) room)

  pub written : renumber_answer l old new order output ≡ Ok tt
      → (Ok (sizes (length (new_file old new l)) (length (changed_rows old new l))) ≡ renumbered_of l old new order output)
      × (over 0 (new_file old new l) output ≡ renumber_leaves l old new order output)
  written e = by_answer (Ok tt) e
