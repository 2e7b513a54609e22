-- A front of a file tells of its contents what the whole file does, if it has them, or all of the file where that has
-- fewer bytes. Where there are more than 256 blocks the first four bytes are enough. So a program that holds no more
-- than that gets the whole file's answer, its count and its entries.
-- Assumes nothing.
use mathlib.Core.Bool.{Bool, true, false}
use mathlib.Core.List.{List, [], ◌∷◌}
use mathlib.Core.Logic.{inl, inr}
use mathlib.Core.Path.{◌≡◌, refl, sym, ap, ap₂, subst, ◌∙◌}
use Prim.Native.Nat.{ℕ, zero, suc, ◌+◌, ◌*◌, ◌≤◌, ◌<◌}
use native.Mathlib.Decide.{dec_le}
use native.Mathlib.Numerals.{add-one}
use native.Mathlib.Omega.{arith}
use lib.Dec.{eqb, leb}
use lib.ListN.{length, take, length-take}
use lib.Seq.{get_or-take}
use borrow.Author.Tests.{eqb-true}
use Rattle.std.specs.Prelude.{Err}
use Rattle.lists.specs.Pick.{pick, both}
use Rattle.lists.specs.Search.{first_bad}
use Rattle.lists.proofs.Search.{first_ext}
use Rattle.little.specs.Little.{little}
use Rattle.contents.specs.declared.FileRefusal.TheVariants.{BadEntry, Cut, Over}
use Rattle.contents.specs.Answers.{file_answer}
use Rattle.contents.specs.Contents.{edition, count, contents_size, entry_at, entry_of, entry_or, range_at_lem, any_range, range_of, range_or, is_laid_out, is_taken_in, is_ordered, is_right, has_right_entry, bad_entry, bodies_size, body_start, entries_tests, contents_tests}
use Rattle.contents.proofs.Checks.{Known, known_or_not, short_head, other_edition, many_blocks, short_entries, entries_there}
use Rattle.contents.proofs.Entries.{entry_there, range_there, right_there}
use Rattle.contents.proofs.Sizes.{size-entry, size-range, size-before}

-- A number is the same in a front that has its bytes.
pub little-front : (l : List ℕ) (k at n : ℕ) → at + n ≤ k → little (take k l) at n ≡ little l at n
unfolding little
little-front l k at zero h = refl
little-front l k at (suc n) h = ap₂ (λ x y. x + y * 256) (get_or-take k l at 0 (omega arith)) (little-front l k (suc at) n (omega arith))

module _ (l : List ℕ) (k : ℕ) (four : 4 ≤ k) (all : count l ≤ 256 → contents_size (edition l) (count l) ≤ k) where
  -- a front is as long as the file, or has k bytes
  front_length : (n : ℕ) → n ≤ k → (n ≤ length (take k l) → n ≤ length l) × (n ≤ length l → n ≤ length (take k l))
  front_length n m = ((λ e. omega (arith, length-take k l)), (λ e. omega (arith, length-take k l)))

  pub edition-front : edition (take k l) ≡ edition l
  edition-front = little-front l k 0 2 (omega arith)

  pub count-front : count (take k l) ≡ count l
  count-front = little-front l k 2 2 (omega arith)

  -- an entry stands within the front
  within : count l ≤ 256 → (i : ℕ) → i < count l → contents_size (edition l) (i + 1) ≤ k
  within few i b = omega (arith, all few, size-before (edition l) i (count l) b)

  pub entry-front : count l ≤ 256 → (i : ℕ) → i < count l → entry_of (take k l) i ≡ entry_of l i
  unfolding entry_of
  entry-front few i b =
      let at : ℕ = contents_size (edition l) i in
      let end : at + 16 ≤ k = omega (arith, within few i b, size-entry (edition l) i) in
      ap (λ e. entry_at (take k l) (contents_size e i)) edition-front
      ∙ (λ j. record {
        kind = get_or-take k l at 0 (omega arith) j;
        width = get_or-take k l (at + 1) 0 (omega arith) j;
        zero = little-front l k (at + 2) 2 (omega arith) j;
        length = little-front l k (at + 4) 4 (omega arith) j;
        reference = little-front l k (at + 8) 8 (omega arith) j;
      })

  pub range_front : count l ≤ 256 → (i : ℕ) → i < count l → range_of (take k l) i ≡ range_of l i
  unfolding range_of
  range_front few i b =
      ap (λ e. pick (eqb e 2) (range_at_lem (take k l) (contents_size e i + 16)) any_range) edition-front ∙ go (eqb (edition l) 2) refl
    where
      go : (t : Bool) → eqb (edition l) 2 ≡ t
          → pick t (range_at_lem (take k l) (contents_size (edition l) i + 16)) any_range ≡ pick t (range_at_lem l (contents_size (edition l) i + 16)) any_range
      go true e =
          let at : ℕ = contents_size (edition l) i + 16 in
          let end : at + 16 ≤ k = omega (arith, within few i b, size-range (edition l) i (eqb-true (edition l) 2 e)) in
          λ j. record { smallest = little-front l k at 8 (omega arith) j; largest = little-front l k (at + 8) 8 (omega arith) j }
      go false e = refl

  module _ (few : count l ≤ 256) where
    right-front : (i : ℕ) → i < count l → is_right (take k l) i ≡ is_right l i
    unfolding is_right
    right-front i b =
        ap₂ (λ e r. both (is_laid_out e) (both (is_taken_in (edition (take k l)) e) (is_ordered r))) (entry-front few i b) (range_front few i b)
        ∙ ap (λ n. both (is_laid_out (entry_of l i)) (both (is_taken_in n (entry_of l i)) (is_ordered (range_of l i)))) edition-front

    sizes_front : (n : ℕ) → n ≤ count l → bodies_size (take k l) n ≡ bodies_size l n
    unfolding bodies_size
    sizes_front zero m = refl
    sizes_front (suc n) m = ap₂ ◌+◌ (sizes_front n (omega arith)) (ap (λ e. e.length) (entry-front few n (omega arith)))

    start-front : body_start (take k l) (count (take k l)) ≡ body_start l (count l)
    unfolding body_start
    start-front =
        ap₂ (λ e n. contents_size e n + bodies_size (take k l) (count (take k l))) edition-front count-front
        ∙ ap (λ s. contents_size (edition l) (count l) + s) (ap (bodies_size (take k l)) count-front ∙ sizes_front (count l) (omega arith))

    bad_front : bad_entry (take k l) ≡ bad_entry l
    unfolding bad_entry
    bad_front =
        ap (λ n. first_bad n (is_right (take k l))) count-front
        ∙ first_ext (count l) (is_right (take k l)) (is_right l) right-front

    entries-front : (size : ℕ) → file_answer (entries_tests (take k l) size) ≡ file_answer (entries_tests l size)
    entries-front size =
        ap₂ (λ b s. file_answer ((eqb b (count (take k l)), Err (BadEntry b)) ∷ (leb s size, Err Cut) ∷ (leb size s, Err Over) ∷ [])) bad_front start-front
        ∙ ap (λ c. file_answer
        ((eqb (bad_entry l) c, Err (BadEntry (bad_entry l)))
        ∷ (leb (body_start l (count l)) size, Err Cut)
        ∷ (leb size (body_start l (count l)), Err Over)
        ∷ [])) count-front

  contents-size : contents_size (edition (take k l)) (count (take k l)) ≡ contents_size (edition l) (count l)
  contents-size = ap₂ contents_size edition-front count-front

  -- The front gets the file's answer,
  pub contents-front : (size : ℕ) → file_answer (contents_tests (take k l) size) ≡ file_answer (contents_tests l size)
  contents-front size =
      elim (dec_le 4 (length l)) [
        | no s ↦ short_head (take k l) size (omega (arith, length-take k l)) ∙ sym (short_head l size (omega arith))
        | yes s ↦ let there : 4 ≤ length (take k l) = (front_length 4 (omega arith)).1 s in
            elim (known_or_not (edition l)) [
              | inr o ↦ other_edition (take k l) size there (λ e. o.0 (sym edition-front ∙ e)) (λ e. o.1 (sym edition-front ∙ e)) ∙ sym (other_edition l size s o.0 o.1)
              | inl f ↦ let first : Known (edition (take k l)) = subst Known (sym edition-front) f in
                  elim (dec_le (count l) 256) [
                    | no m ↦ many_blocks (take k l) size there (omega (arith, count-front)) ∙ sym (many_blocks l size s (omega arith))
                    | yes few ↦ let few' : count (take k l) ≤ 256 = omega (arith, count-front) in
                        elim (dec_le (contents_size (edition l) (count l)) (length l)) [
                          | no c ↦ short_entries (take k l) size there first few' (omega (arith, contents-size, all few, length-take k l)) ∙ sym (short_entries l size s f few (omega arith))
                          | yes c ↦ entries_there (take k l) size there first few' (omega (arith, contents-size, all few, length-take k l)) ∙ entries-front few size ∙ sym (entries_there l size s f few c)
                        ]
                  ]
            ]
      ]

  there_front : count l ≤ 256 → contents_size (edition l) (count l) ≤ length l → (i : ℕ) → i < count l → contents_size (edition (take k l)) (suc i) ≤ length (take k l)
  there_front few room i b =
      let size = ap₂ contents_size edition-front (sym (add-one i)) in
      omega (arith, size, size-before (edition l) i (count l) b, all few, length-take k l)

  -- and each entry of a file whose entries are there,
  pub entry_or-front : count l ≤ 256 → contents_size (edition l) (count l) ≤ length l → (i : ℕ) → i < count l → entry_or (take k l) i ≡ entry_of l i
  entry_or-front few room i b =
      entry_there (take k l) i (there_front few room i b) ∙ entry-front few i b

  -- with its range.
  pub range_or-front : count l ≤ 256 → contents_size (edition l) (count l) ≤ length l → (i : ℕ) → i < count l → range_or (take k l) i ≡ range_of l i
  range_or-front few room i b = range_there (take k l) i (there_front few room i b) ∙ range_front few i b

  -- An entry is right there exactly when it is in the file.
  pub right_or_front : (few : count l ≤ 256) → contents_size (edition l) (count l) ≤ length l → (i : ℕ) → i < count l → has_right_entry (take k l) i ≡ is_right l i
  right_or_front few room i b = right_there (take k l) i (there_front few room i b) ∙ right-front few i b
