-- R112 to R114 of the call: each number exactly when R114 gives it, a refused call leaves the output as it was, and a
-- call that is done leaves the new file at the front and the bytes behind it. The outcome is that of a write of the
-- file's rows. The new file has these rows and is of edition 2 with no kind 3, a file that the writer wrote is rewritten
-- as it is, and so a second rewrite changes nothing.
-- Assumes nothing.
use mathlib.Core.List.{List}
use mathlib.Core.Logic.{◌↔◌}
use mathlib.Core.Path.{◌≡◌, refl, sym, ap, ◌∙◌, subst}
use Prim.Native.Nat.{ℕ, ◌≤◌, ◌<◌}
use native.Mathlib.Decide.{dec_le, ℕ_discrete}
use native.Mathlib.Omega.{arith}
use lib.ListN.{length, take}
use Rattle.std.specs.Prelude.{Ok, Err}
use Rattle.lists.specs.Numbers.{Elements}
use Rattle.lists.proofs.Tabs.{is-tab}
use Rattle.places.specs.Sizes.{t64}
use Rattle.contents.specs.declared.FileRefusal.TheVariants.{Room}
use Rattle.contents.specs.Answers.{FileAnswer, file_answer, number_of}
use Rattle.contents.specs.Contents.{edition, count, entry_of}
use Rattle.contents.proofs.Answers.{number-done}
use Rattle.candidates.specs.Candidates.{chosen}
use Rattle.candidates.proofs.Choice.{chosen_kind}
use Rattle.files.specs.Files.{block_in, rows_of, file_tests}
use Rattle.files.specs.Reasons.{Reason}
use Rattle.files.proofs.Exactly.{reason_gives, file_exactly}
use Rattle.files.proofs.Rows as Rows
use Rattle.writer.specs.Reasons.{Blocks}
use Rattle.writer.specs.Writer.{file_of, given_by, left_by, write_tests, written_of, file_leaves}
use Rattle.writer.proofs.Calls.{blocks_short, blocks_room}
use Rattle.writer.proofs.FileWritten as FileWritten
use Rattle.writer.proofs.Outcomes.{Outcome, outcome}
use Rattle.writer.proofs.ReadBack.{edition-is, count-is, entry_read, file-accepted, rows-read}
use Rattle.rewrite.specs.Reasons.{RewriteReason, of_file, short_output, room_there}
use Rattle.rewrite.specs.Rewrite.{new_file, rewrite_tests, rewritten_of, rewrite_leaves}
use Rattle.rewrite.proofs.Calls.{bad_file, new_short, new-room}
use Rattle.writer.proofs.FileRows.{few, rows_long, rows_whole, block_at_lem}

module _ (l output : List ℕ) where
  -- The reason gives the answer,
  gives : {a : FileAnswer} → RewriteReason l output a → file_answer (rewrite_tests l output) ≡ a
  gives (of_file a refused r) = bad_file l output a (reason_gives l r) (λ z. refused (number-done a z))
  gives (short_output r short) = new_short l output (reason_gives l r) short
  gives (room_there r room) = new-room l output (reason_gives l r) room

  -- and there always is one.
  reason : (a : FileAnswer) × RewriteReason l output a
  reason =
      elim (ℕ_discrete (number_of (file_answer (file_tests l))) 0) [
        | no bad ↦ (file_answer (file_tests l), of_file (file_answer (file_tests l)) (λ e. bad (ap number_of e)) ((file_exactly l (file_answer (file_tests l))).0 refl))
        | yes zero ↦ let r : Reason l (Ok tt) = (file_exactly l (Ok tt)).0 (number-done (file_answer (file_tests l)) zero) in
            elim (dec_le (length (new_file l)) (length output)) [
              | yes room ↦ (Ok tt, room_there r room)
              | no short ↦ (Err Room, short_output r (omega arith))
            ]
      ]

  -- Each answer is given exactly when it has its reason.
  pub rewrite_exactly : (a : FileAnswer) → (file_answer (rewrite_tests l output) ≡ a) ↔ RewriteReason l output a
  rewrite_exactly a = ((λ e. subst (RewriteReason l output) (sym (gives reason.1) ∙ e) reason.1), gives)

  -- What the call gives back says that answer, and it is done or refused as a write is.
  pub rewrite-outcome : Outcome (file_answer (rewrite_tests l output)) (new_file l) output (rewritten_of l output) (rewrite_leaves l output)
  unfolding rewritten_of rewrite_leaves
  rewrite-outcome = outcome (file_answer (rewrite_tests l output)) (new_file l) output

  -- A file that is its own new file is left at the front as it is.
  pub rewrite_keeps : file_answer (rewrite_tests l output) ≡ Ok tt → new_file l ≡ l → take (length l) (rewrite_leaves l output) ≡ l
  rewrite_keeps done same = subst (λ f. take (length f) (rewrite_leaves l output) ≡ f) same (rewrite-outcome.front done)

  -- Of an accepted file the outcome is that of a write of its rows.
  pub rewrite-writes : file_answer (file_tests l) ≡ Ok tt
      → (rewritten_of l output ≡ written_of (rows_of l) output) × (rewrite_leaves l output ≡ file_leaves (rows_of l) output)
  unfolding rewritten_of rewrite_leaves written_of file_leaves
  rewrite-writes done =
      (ap (λ a. given_by a (new_file l)) same, ap (λ a. left_by a (new_file l) output) same)
    where
      whole : Blocks (rows_of l)
      whole = rows_whole l done

      same : file_answer (rewrite_tests l output) ≡ file_answer (write_tests (rows_of l) output)
      same =
          elim (dec_le (length (new_file l)) (length output)) [
            | yes room ↦ new-room l output done room
                ∙ sym (blocks_room (rows_of l) output (FileWritten.remainder_none (rows_of l) whole) (FileWritten.numbers-few (rows_of l) whole) room)
            | no short ↦ new_short l output done (omega arith)
                ∙ sym (blocks_short (rows_of l) output (FileWritten.remainder_none (rows_of l) whole) (FileWritten.numbers-few (rows_of l) whole) (omega arith))
          ]

-- A file that the writer wrote is its own new file: it is rewritten as it is, byte for byte.
pub rewrite-same : (values : List ℕ) → Blocks values → Elements t64 values → new_file (file_of values) ≡ file_of values
rewrite-same values b fits = ap file_of (rows-read values b.n b.whole b.few fits)

-- Of an accepted file of bytes:
module _ (l : List ℕ) (bytes : Elements 8 l) (done : file_answer (file_tests l) ≡ Ok tt) where
  fits : Elements t64 (rows_of l)
  fits = Rows.rows_fit l bytes done

  -- the new file is accepted, and every row is the same,
  pub new-accepted : file_answer (file_tests (new_file l)) ≡ Ok tt
  new-accepted = file-accepted (rows_of l) (count l) (rows_long l done) (few l done) fits

  pub new-rows : rows_of (new_file l) ≡ rows_of l
  new-rows = rows-read (rows_of l) (count l) (rows_long l done) (few l done) fits

  -- it is of edition 2 and has as many blocks,
  pub new-edition : edition (new_file l) ≡ 2
  new-edition = edition-is (rows_of l) (count l) (rows_long l done) (few l done) fits

  pub new-count : count (new_file l) ≡ count l
  new-count = count-is (rows_of l) (count l) (rows_long l done) (few l done) fits

  -- each block has the entry that is chosen for it, so that none is of kind 3,
  pub new-entry : (i : ℕ) → i < count l → entry_of (new_file l) i ≡ (chosen (block_in l i)).entry
  new-entry i h =
      entry_read (rows_of l) (count l) (rows_long l done) (few l done) fits i h ∙ ap (λ b. (chosen b).entry) (block_at_lem l done bytes i h)

  pub new_kind : (i : ℕ) → i < count l → (entry_of (new_file l) i).kind ≤ 2
  new_kind i h = subst (λ e. e.kind ≤ 2) (sym (new-entry i h)) (chosen_kind (block_in l i))

  -- and it is its own new file: to rewrite twice is to rewrite once.
  pub rewrite-twice : new_file (new_file l) ≡ new_file l
  rewrite-twice = ap file_of new-rows

-- ---- the worked files, which are of edition 1

pub rewrites-none : new_file Rows.no_blocks_lem ≡ FileWritten.no_blocks_lem
rewrites-none = ap file_of Rows.worked_none ∙ FileWritten.writes-none

pub rewrites-sevens : new_file Rows.one_of_sevens ≡ FileWritten.one_of_sevens
rewrites-sevens = ap file_of (is-tab (rows_of Rows.one_of_sevens) 1024 (λ _. 7) 0 (Rows.worked_sevens).0 (Rows.worked_sevens).1) ∙ FileWritten.writes-sevens
