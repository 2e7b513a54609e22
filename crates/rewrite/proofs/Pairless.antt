-- A renumbering without pairs answers, gives and leaves what a rewrite does.
-- Assumes nothing.
use mathlib.Core.List.{List, []}
use mathlib.Core.Path.{◌≡◌, refl, sym, ap, ap₂, ◌∙◌}
use Prim.Native.Nat.{ℕ}
use native.Mathlib.Decide.{dec_le, ℕ_discrete}
use native.Mathlib.Omega.{arith}
use lib.Dec.{eqb}
use lib.ListN.{length}
use Rattle.std.specs.Prelude.{Ok, Err}
use Rattle.lists.specs.Pick.{pick}
use Rattle.lists.specs.Tab.{over}
use Rattle.contents.specs.Answers as Answers
use Rattle.contents.specs.Answers.{FileAnswer, file_answer, giving}
use Rattle.contents.proofs.Answers.{number-done}
use Rattle.files.specs.Files.{file_tests}
use Rattle.renumber.specs.Renumber.{from_file, sizes, is_done, changed_rows, renumber_answer, renumbered_of, renumber_leaves}
use Rattle.renumber.proofs.Calls.{same-number, file-stops, room-stops, nothing_stops}
use Rattle.renumber.proofs.FileRenumbered.{empty_file, empty_free, empty_lists}
use Rattle.rewrite.specs.InnerPairless.{as_written}
use Rattle.rewrite.specs.Rewrite.{new_file, rewrite_tests, rewritten_of, rewrite_leaves}
use Rattle.rewrite.proofs.Calls.{bad_file, new_short, new-room}

module _ (l output : List ℕ) where
  -- The answer is that of the rewrite,
  pub pairless_answer : renumber_answer l [] [] [] output ≡ from_file (file_answer (rewrite_tests l output))
  pairless_answer =
      elim (ℕ_discrete (Answers.number_of (file_answer (file_tests l))) 0) [
        | no bad ↦ file-stops l [] [] [] output (file_answer (file_tests l)) refl bad
            ∙ ap from_file (sym (bad_file l output (file_answer (file_tests l)) refl bad))
        | yes z ↦
            let done = number-done (file_answer (file_tests l)) z in
            elim (dec_le (length (new_file l)) (length output)) [
              | yes room ↦ nothing_stops l [] [] [] output done empty_lists (empty_free l) (omega (arith, ap length (empty_file l)))
                  ∙ ap from_file (sym (new-room l output done room))
              | no short ↦ room-stops l [] [] [] output done empty_lists (empty_free l) (omega (arith, ap length (empty_file l)))
                  ∙ ap from_file (sym (new_short l output done (omega arith)))
            ]
      ]

  -- and so is what is left
  pub pairless_leaves : renumber_leaves l [] [] [] output ≡ rewrite_leaves l output
  unfolding renumber_leaves rewrite_leaves
  pairless_leaves =
      ap₂ (λ a f. pick (is_done a) (over 0 f output) output) pairless_answer (empty_file l)
      ∙ ap (λ n. pick (eqb n 0) (over 0 (new_file l) output) output) (same-number (file_answer (rewrite_tests l output)))

  -- and what is given.
  pub pairless_given : as_written (renumbered_of l [] [] [] output) ≡ rewritten_of l output
  unfolding renumbered_of rewritten_of
  pairless_given =
      ap₂ (λ a f. as_written (giving a (sizes (length f) (length (changed_rows [] [] l))))) pairless_answer (empty_file l)
      ∙ go (file_answer (rewrite_tests l output))
    where
      go : (a : FileAnswer)
          → as_written (giving (from_file a) (sizes (length (new_file l)) (length (changed_rows [] [] l)))) ≡ giving a (length (new_file l))
      go (Ok _) = refl
      go (Err r) = refl
