-- What a call that lays a file down gives and leaves, by its answer: a length or a refusal, and the bytes over the
-- front. The write and the rewrite are such calls.
-- Assumes nothing.
use mathlib.Core.List.{List}
use mathlib.Core.Path.{◌≡◌, refl, ap, ◌∙◌}
use Prim.Native.Nat.{ℕ}
use lib.ListN.{length, take, drop}
use Rattle.std.specs.Prelude.{Result, Ok, Err}
use Rattle.lists.specs.Tab.{over}
use Rattle.lists.proofs.Overs.{over-front, over-rest}
use Rattle.contents.specs.declared.FileRefusal.{FileRefusal}
use Rattle.contents.specs.Answers.{FileAnswer, number_of, answer_of}
use Rattle.contents.proofs.Answers.{left-refused, says_answer}
use Rattle.writer.specs.Writer.{given_by, left_by, length_of}

-- So it is with a call that has this answer, was to lay down this file, gave this and left this.
pub record Outcome (a : FileAnswer) (file output : List ℕ) (given : Result ℕ FileRefusal) (after : List ℕ) : Type 0 where
  -- What it gives back says the answer,
  pub answers : answer_of given ≡ a
  -- and a length of 0 where it is refused.
  pub no_length : (number_of a ≡ 0 → ⊥) → length_of given ≡ 0
  -- A refused call leaves the output as it was.
  pub refused : (number_of a ≡ 0 → ⊥) → after ≡ output
  -- A call that is done gives the file's length,
  pub whole : a ≡ Ok tt → length_of given ≡ length file
  -- leaves the file at the front,
  pub front : a ≡ Ok tt → take (length file) after ≡ file
  -- and behind it the bytes that were there.
  pub behind : a ≡ Ok tt → drop (length file) after ≡ drop (length file) output

module _ (a : FileAnswer) (file : List ℕ) where
  -- After a refusal the refusal is given,
  pub given-refused : {r : FileRefusal} → a ≡ Err r → given_by a file ≡ Err r
  given-refused e = ap (λ a. given_by a file) e

  -- so there is no length.
  no-length : (number_of a ≡ 0 → ⊥) → length_of (given_by a file) ≡ 0
  no-length bad = go a bad
    where
      go : (a : FileAnswer) → (number_of a ≡ 0 → ⊥) → length_of (given_by a file) ≡ 0
      go (Ok _) bad = absurd (bad refl)
      go (Err r) bad = refl

  pub outcome : (output : List ℕ) → Outcome a file output (given_by a file) (left_by a file output)
  outcome output = record {
    answers = says_answer a (length file);
    no_length = no-length;
    refused = left-refused a (over 0 file output) output;
    whole = ap (λ a. length_of (given_by a file));
    front = λ done. ap (λ a. take (length file) (left_by a file output)) done ∙ over-front file output;
    behind = λ done. ap (λ a. drop (length file) (left_by a file output)) done ∙ over-rest file output;
  }
