-- What the call for the rows of one block answers by its tests, and what it leaves.
-- Assumes nothing.
use Rattle.std.specs.Prelude.{Ok, Err}
use Rattle.std.proofs.Common.{◌≡◌, ℕ, ◌*◌, ◌<◌, ◌≤◌, true, false, leb, List, [], ◌∷◌, length, ap, ◌∙◌, le-ltb, lt-ltb, eq-eqb, ne_eqb}
use Rattle.lists.specs.Tab.{over}
use Rattle.contents.specs.declared.FileRefusal.{FileRefusal}
use Rattle.contents.specs.declared.FileRefusal.TheVariants.{Block, Beyond, Room}
use Rattle.contents.specs.Answers.{file_answer}
use Rattle.contents.proofs.Answers.{passed, stopped, none_left}
use Rattle.search.specs.Search.{counts}
use Rattle.search.specs.Steps.{found_in, rows_in, listed_tests, listed_of, listed_leaves}
use Rattle.search.proofs.Answers.{given-refused, given-done}
use Rattle.search.proofs.Blocks.{found_shift}

module _ (block : List ℕ) (i low high : ℕ) (rows : List ℕ) where
  pub listed-refused : {r : FileRefusal} → file_answer (listed_tests block i low high rows) ≡ Err r
      → (listed_of block i low high rows ≡ Err r) × (listed_leaves block i low high rows ≡ rows)
  unfolding listed_of listed_leaves
  listed-refused e = given-refused (counts (length (rows_in block i low high)) 1) (over 0 (rows_in block i low high) rows) rows e

  pub listed-done : file_answer (listed_tests block i low high rows) ≡ Ok tt
      → (listed_of block i low high rows ≡ Ok (counts (length (rows_in block i low high)) 1)) × (listed_leaves block i low high rows ≡ over 0 (rows_in block i low high) rows)
  unfolding listed_of listed_leaves
  listed-done e = given-done (counts (length (rows_in block i low high)) 1) (over 0 (rows_in block i low high) rows) rows e

  -- The tests are made in their order: that of the block,
  pub no_block : (length block ≡ 1024 → ⊥) → file_answer (listed_tests block i low high rows) ≡ Err Block
  no_block n = stopped _ _ (ne_eqb (length block) 1024 n)

  module _ (long : length block ≡ 1024) where
    -- of its number,
    pub no_number : 256 ≤ i → file_answer (listed_tests block i low high rows) ≡ Err Beyond
    no_number h = passed _ _ (eq-eqb (length block) 1024 long) ∙ stopped _ _ (le-ltb i 256 h)

    module _ (h : i < 256) where
      -- and of the room, for as many rows as there are wherever the block begins.
      room-left : file_answer (listed_tests block i low high rows) ≡ file_answer ((leb (length (found_in block 0 low high)) (length rows), Err Room) ∷ [])
      room-left =
          passed _ _ (eq-eqb (length block) 1024 long)
          ∙ passed _ _ (lt-ltb i 256 h)
          ∙ ap (λ n. file_answer ((leb n (length rows), Err Room) ∷ [])) (found_shift block (i * 1024) low high)

      pub no_place : leb (length (found_in block 0 low high)) (length rows) ≡ false → file_answer (listed_tests block i low high rows) ≡ Err Room
      no_place short = room-left ∙ stopped _ _ short

      pub place_there : leb (length (found_in block 0 low high)) (length rows) ≡ true → file_answer (listed_tests block i low high rows) ≡ Ok tt
      place_there there = room-left ∙ passed _ _ there ∙ none_left
