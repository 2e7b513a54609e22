-- What the writer answers and leaves, by its tests.
-- Assumes nothing.
use mathlib.Core.List.{List, [], ◌∷◌}
use mathlib.Core.Path.{◌≡◌, sym, ap, ap₂, ◌∙◌}
use Prim.Native.Nat.{ℕ, ◌%◌, ◌≤◌, ◌<◌}
use borrow.Author.Tests.{eq-eqb, ne_eqb, le-leb, lt-leb}
use lib.Dec.{leb}
use lib.ListN.{length}
use Rattle.std.specs.Prelude.{Ok, Err}
use Rattle.lists.specs.Pick.{both}
use Rattle.lists.specs.Tab.{over}
use Rattle.contents.specs.declared.FileRefusal.TheVariants.{Block, Room}
use Rattle.contents.specs.Answers.{FileAnswer, file_answer}
use Rattle.contents.proofs.Answers.{passed, stopped, none_left}
use Rattle.writer.specs.Writer.{file_of, given_by, left_by, write_tests, written_of, file_leaves}

module _ (values output : List ℕ) where
  -- An answer decides what is given and left.
  by_answer : (a : FileAnswer) → file_answer (write_tests values output) ≡ a
      → (given_by a (file_of values) ≡ written_of values output) × (left_by a (file_of values) output ≡ file_leaves values output)
  unfolding written_of file_leaves
  by_answer a e = (sym (ap (λ x. given_by x (file_of values)) e), sym (ap (λ x. left_by x (file_of values) output) e))

  -- 2: the numbers are no whole blocks,
  pub not-whole : (length values % 1024 ≡ 0 → ⊥) → file_answer (write_tests values output) ≡ Err Block
  not-whole bad = stopped _ _ (ap (λ b. both b (leb (length values) 262144)) (ne_eqb (length values % 1024) 0 bad))

  pub refused_blocks : (length values % 1024 ≡ 0 → ⊥) → (Err Block ≡ written_of values output) × (output ≡ file_leaves values output)
  refused_blocks bad = by_answer (Err Block) (not-whole bad)

  module _ (whole : length values % 1024 ≡ 0) where
    -- or too many.
    pub over_many : 262144 < length values → file_answer (write_tests values output) ≡ Err Block
    over_many many = stopped _ _ (ap₂ both (eq-eqb (length values % 1024) 0 whole) (lt-leb (length values) 262144 many))

    pub refused_many : 262144 < length values → (Err Block ≡ written_of values output) × (output ≡ file_leaves values output)
    refused_many many = by_answer (Err Block) (over_many many)

    module _ (few : length values ≤ 262144) where
      blocks : file_answer (write_tests values output) ≡ file_answer ((leb (length (file_of values)) (length output), Err Room) ∷ [])
      blocks = passed _ _ (ap₂ both (eq-eqb (length values % 1024) 0 whole) (le-leb (length values) 262144 few))

      -- 14: the output is shorter than the file.
      pub blocks_short : length output < length (file_of values) → file_answer (write_tests values output) ≡ Err Room
      blocks_short short = blocks ∙ stopped _ _ (lt-leb (length (file_of values)) (length output) short)

      pub refused-room : length output < length (file_of values) → (Err Room ≡ written_of values output) × (output ≡ file_leaves values output)
      refused-room short = by_answer (Err Room) (blocks_short short)

      -- 0: else the file is written.
      pub blocks_room : length (file_of values) ≤ length output → file_answer (write_tests values output) ≡ Ok tt
      blocks_room room = blocks ∙ passed _ _ (le-leb (length (file_of values)) (length output) room) ∙ none_left

      pub written : length (file_of values) ≤ length output
          → (Ok (length (file_of values)) ≡ written_of values output) × (over 0 (file_of values) output ≡ file_leaves values output)
      written room = by_answer (Ok tt) (blocks_room room)
