-- The check of some of the bodies of a file, in their order (R95, R111), for a program that holds the contents of the
-- file and one body at a time: of the others nothing is read. Where every body is chosen this is the check of the whole
-- file.
--
-- `front` is the front of the file, which has the contents.
-- Assumes nothing.
use Rattle.std.specs.Prelude.{ℕ, zero, suc, Bool, List}
use Rattle.lists.specs.Pick.{pick}
use Rattle.contents.specs.Answers.{FileAnswer, file_answer}
use Rattle.contents.specs.Contents.{contents_tests}
use Rattle.bodywise.specs.Steps.{step_of}

-- This is the answer after n bodies, in a file of `size` bytes. Before the first body it is that to the contents. A
-- body that is chosen may refuse the file, and one that is not changes nothing.
unfoldable pub chosen_after : (which : ℕ → Bool) (front : List ℕ) (size : ℕ) (bodies : ℕ → List ℕ) (n : ℕ) → FileAnswer
chosen_after which front size bodies zero = file_answer (contents_tests front size)
chosen_after which front size bodies (suc n) =
    pick (which n) (step_of (chosen_after which front size bodies n) front n (bodies n)) (chosen_after which front size bodies n)
