-- What the rewrite answers, by its tests.
-- Assumes nothing.
use mathlib.Core.List.{List, [], ◌∷◌}
use mathlib.Core.Path.{◌≡◌, refl, sym, ap, ◌∙◌}
use Prim.Native.Nat.{ℕ, ◌≤◌, ◌<◌}
use borrow.Author.Tests.{le-leb, lt-leb}
use lib.Dec.{leb}
use lib.ListN.{length}
use Rattle.std.specs.Prelude.{Ok, Err}
use Rattle.contents.specs.declared.FileRefusal.TheVariants.{Room}
use Rattle.contents.specs.Answers.{FileAnswer, file_answer, number_of}
use Rattle.contents.proofs.Answers.{passed, stopped, none_left, in_front-done, in_front-refused}
use Rattle.files.specs.Files.{file_tests}
use Rattle.rewrite.specs.Rewrite.{new_file, rewrite_tests}

module _ (l output : List ℕ) where
  -- The reader's refusals come first.
  pub bad_file : (a : FileAnswer) → file_answer (file_tests l) ≡ a → (number_of a ≡ 0 → ⊥) → file_answer (rewrite_tests l output) ≡ a
  bad_file a e bad = in_front-refused (file_tests l) ((leb (length (new_file l)) (length output), Err Room) ∷ []) (λ d. bad (ap number_of (sym e ∙ d))) ∙ e

  module _ (done : file_answer (file_tests l) ≡ Ok tt) where
    good-file : file_answer (rewrite_tests l output) ≡ file_answer ((leb (length (new_file l)) (length output), Err Room) ∷ [])
    good-file = in_front-done (file_tests l) ((leb (length (new_file l)) (length output), Err Room) ∷ []) refl done

    -- 14: the output is shorter than the new file.
    pub new_short : length output < length (new_file l) → file_answer (rewrite_tests l output) ≡ Err Room
    new_short short = good-file ∙ stopped _ _ (lt-leb (length (new_file l)) (length output) short)

    -- 0: else nothing stands in the way.
    pub new-room : length (new_file l) ≤ length output → file_answer (rewrite_tests l output) ≡ Ok tt
    new-room room = good-file ∙ passed _ _ (le-leb (length (new_file l)) (length output) room) ∙ none_left
