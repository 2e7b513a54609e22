-- What the check of the contents answers, by the tests that it makes.
-- Assumes nothing.
use mathlib.Core.Bool.{Bool, true, false}
use mathlib.Core.List.{List, [], ◌∷◌}
use mathlib.Core.Logic.{◌⊎◌, inl, inr, ⊎_elim}
use mathlib.Core.Path.{◌≡◌, refl, ap, ap₂, ◌∙◌}
use Prim.Native.Nat.{ℕ, ◌≤◌, ◌<◌}
use native.Mathlib.Omega.{arith}
use lib.Dec.{eqb, leb}
use lib.ListN.{length}
use borrow.Author.Tests.{le-leb, lt-leb, eq-eqb, ne_eqb, eqb-true, eqb-false}
use Rattle.std.specs.Prelude.{Ok, Err}
use Rattle.lists.specs.Pick.{both, either}
use Rattle.lists.proofs.Tests.{false-true}
use Rattle.contents.specs.declared.FileRefusal.TheVariants.{Cut, Edition, BadEntry, Over}
use Rattle.contents.specs.Answers.{file_answer}
use Rattle.contents.specs.Contents.{edition, count, contents_size, bad_entry, body_start, entries_tests, contents_tests}
use Rattle.contents.proofs.Answers.{passed, stopped, none_left}

both_second_false : (a : Bool) → both a false ≡ false
both_second_false true = refl
both_second_false false = refl

-- An edition that is read is 1 or 2.
abbrev pub Known : (edition : ℕ) → Type 0
Known e = (e ≡ 1) ⊎ (e ≡ 2)

abbrev is_edition : (edition : ℕ) → Bool
is_edition e = either (eqb e 1) (eqb e 2)

known_true : (e : ℕ) → Known e → is_edition e ≡ true
known_true e = ⊎_elim (λ h. rw h) (λ h. rw h)

pub true_known : (e : ℕ) → is_edition e ≡ true → Known e
true_known e h = go (eqb e 1) (eqb e 2) refl refl h
  where
    go : (a b : Bool) → eqb e 1 ≡ a → eqb e 2 ≡ b → either a b ≡ true → Known e
    go true b p q h = inl (eqb-true e 1 p)
    go false true p q h = inr (eqb-true e 2 q)
    go false false p q h = absurd (false-true h)

pub known_or_not : (e : ℕ) → Known e ⊎ ((e ≡ 1 → ⊥) × (e ≡ 2 → ⊥))
known_or_not e = go (eqb e 1) (eqb e 2) refl refl
  where
    go : (a b : Bool) → eqb e 1 ≡ a → eqb e 2 ≡ b → Known e ⊎ ((e ≡ 1 → ⊥) × (e ≡ 2 → ⊥))
    go true b p q = inl (inl (eqb-true e 1 p))
    go false true p q = inl (inr (eqb-true e 2 q))
    go false false p q = inr (eqb-false e 1 p, eqb-false e 2 q)

module _ (l : List ℕ) (size : ℕ) where
  pub short_head : length l < 4 → file_answer (contents_tests l size) ≡ Err Cut
  short_head h = stopped _ _ (lt-leb 4 (length l) h)

  module _ (h : 4 ≤ length l) where
    head_there : file_answer (contents_tests l size)
        ≡ file_answer
        ((both (is_edition (edition l)) (leb (count l) 256), Err Edition)
        ∷ (leb (contents_size (edition l) (count l)) (length l), Err Cut)
        ∷ entries_tests l size)
    head_there = passed _ _ (le-leb 4 (length l) h)

    pub other_edition : (edition l ≡ 1 → ⊥) → (edition l ≡ 2 → ⊥) → file_answer (contents_tests l size) ≡ Err Edition
    other_edition o p = head_there ∙ stopped _ _ (ap₂ (λ a b. both (either a b) (leb (count l) 256)) (ne_eqb (edition l) 1 o) (ne_eqb (edition l) 2 p))

    pub many_blocks : 256 < count l → file_answer (contents_tests l size) ≡ Err Edition
    many_blocks m =
        head_there
        ∙ stopped _ _ (ap (both (is_edition (edition l))) (lt-leb (count l) 256 m) ∙ both_second_false (is_edition (edition l)))

    module _ (e : Known (edition l)) (few : count l ≤ 256) where
      edition-right : file_answer (contents_tests l size) ≡ file_answer ((leb (contents_size (edition l) (count l)) (length l), Err Cut) ∷ entries_tests l size)
      edition-right = head_there ∙ passed _ _ (ap₂ both (known_true (edition l) e) (le-leb (count l) 256 few))

      pub short_entries : length l < contents_size (edition l) (count l) → file_answer (contents_tests l size) ≡ Err Cut
      short_entries s = edition-right ∙ stopped _ _ (lt-leb (contents_size (edition l) (count l)) (length l) s)

      pub entries_there : contents_size (edition l) (count l) ≤ length l → file_answer (contents_tests l size) ≡ file_answer (entries_tests l size)
      entries_there s = edition-right ∙ passed _ _ (le-leb (contents_size (edition l) (count l)) (length l) s)

  pub bad_entries : bad_entry l < count l → file_answer (entries_tests l size) ≡ Err (BadEntry (bad_entry l))
  bad_entries h = stopped _ _ (ne_eqb (bad_entry l) (count l) (λ e. omega arith))

  module _ (good : bad_entry l ≡ count l) where
    entries-good : file_answer (entries_tests l size)
        ≡ file_answer ((leb (body_start l (count l)) size, Err Cut) ∷ (leb size (body_start l (count l)), Err Over) ∷ [])
    entries-good = passed _ _ (eq-eqb (bad_entry l) (count l) good)

    pub short_bodies : size < body_start l (count l) → file_answer (entries_tests l size) ≡ Err Cut
    short_bodies h = entries-good ∙ stopped _ _ (lt-leb (body_start l (count l)) size h)

    module _ (h : body_start l (count l) ≤ size) where
      bodies_there : file_answer (entries_tests l size) ≡ file_answer ((leb size (body_start l (count l)), Err Over) ∷ [])
      bodies_there = entries-good ∙ passed _ _ (le-leb (body_start l (count l)) size h)

      pub left_over : body_start l (count l) < size → file_answer (entries_tests l size) ≡ Err Over
      left_over m = bodies_there ∙ stopped _ _ (lt-leb size (body_start l (count l)) m)

      pub entries-done : size ≤ body_start l (count l) → file_answer (entries_tests l size) ≡ Ok tt
      entries-done m = bodies_there ∙ passed _ _ (le-leb size (body_start l (count l)) m) ∙ none_left
