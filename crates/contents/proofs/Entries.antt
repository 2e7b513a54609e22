-- The laws of entries and of the bodies' lengths: an entry that is there, and that each body ends within all of them.
-- Assumes nothing.
use mathlib.Core.Bool.{Bool, true, false}
use mathlib.Core.Path.{◌≡◌, refl, sym, ap, ap₂, ◌∙◌}
use mathlib.Core.List.{List}
use Prim.Native.Nat.{ℕ, zero, suc, ◌+◌, ◌-◌, ◌≤◌, ◌<◌}
use native.Mathlib.Decide.{dec_le}
use native.Mathlib.Nat.{add-zero, add-suc}
use native.Mathlib.Numerals.{add-one}
use native.Mathlib.Omega.{arith}
use lib.Dec.{leb, ltb}
use lib.ListN.{length}
use borrow.Author.Tests.{le-leb, lt-leb, eq-eqb, ne_eqb, leb-true, leb-false}
use Rattle.lists.specs.Pick.{pick, both}
use Rattle.lists.proofs.Tests.{both_true}
use Rattle.contents.specs.Contents.{edition, contents_size, entry_of, no_entry, entry_or, range_at_lem, any_range, range_of, range_or, is_laid_out, is_ordered, is_right, has_right_entry, edition_or, bodies_size}
use Rattle.little.proofs.Little.{little-within}
use Rattle.contents.proofs.Sizes.{size-least}

module _ (l : List ℕ) (i : ℕ) where
  pub entry_there : contents_size (edition l) (suc i) ≤ length l → entry_or l i ≡ entry_of l i
  unfolding entry_or
  entry_there h = simp (le-leb (contents_size (edition l) (suc i)) (length l) h)

  pub entry_missing : length l < contents_size (edition l) (suc i) → entry_or l i ≡ no_entry
  unfolding entry_or
  entry_missing h = simp (lt-leb (contents_size (edition l) (suc i)) (length l) h)

  pub range_there : contents_size (edition l) (suc i) ≤ length l → range_or l i ≡ range_of l i
  unfolding range_or
  range_there h = simp (le-leb (contents_size (edition l) (suc i)) (length l) h)

  pub range_missing : length l < contents_size (edition l) (suc i) → range_or l i ≡ any_range
  unfolding range_or
  range_missing h = simp (lt-leb (contents_size (edition l) (suc i)) (length l) h)

  pub right_there : contents_size (edition l) (suc i) ≤ length l → has_right_entry l i ≡ is_right l i
  unfolding has_right_entry
  right_there h = simp (le-leb (contents_size (edition l) (suc i)) (length l) h)

  pub right_missing : length l < contents_size (edition l) (suc i) → has_right_entry l i ≡ false
  unfolding has_right_entry
  right_missing h = simp (lt-leb (contents_size (edition l) (suc i)) (length l) h)

  -- An entry that is right is as laid out.
  pub right_laid : has_right_entry l i ≡ true → is_laid_out (entry_or l i) ≡ true
  unfolding has_right_entry is_right
  right_laid e =
      let t = both_true (leb (contents_size (edition l) (suc i)) (length l)) _ e in
      ap is_laid_out (entry_there (leb-true (contents_size (edition l) (suc i)) (length l) t.0))
      ∙ (both_true (is_laid_out (entry_of l i)) _ t.1).0

  -- In edition 2 the range stands behind the first sixteen bytes, and in edition 1 there is none.
  pub range_second : edition l ≡ 2 → range_of l i ≡ range_at_lem l (contents_size (edition l) i + 16)
  unfolding range_of
  range_second h = simp (eq-eqb (edition l) 2 h)

  pub range_other : (edition l ≡ 2 → ⊥) → range_of l i ≡ any_range
  unfolding range_of
  range_other h = simp (ne_eqb (edition l) 2 h)

  -- So in edition 2 an entry is right by three tests,
  pub right_second : edition l ≡ 2
      → is_right l i ≡ both (is_laid_out (entry_of l i)) (both (ltb (entry_of l i).kind 3) (is_ordered (range_at_lem l (contents_size (edition l) i + 16))))
  unfolding is_right
  right_second h =
      ap₂ (λ b r. both (is_laid_out (entry_of l i)) (both (pick b (ltb (entry_of l i).kind 3) true) (is_ordered r))) (eq-eqb (edition l) 2 h) (range_second h)

  -- and in edition 1 where it is as laid out.
  pub right-other : (edition l ≡ 2 → ⊥) → is_right l i ≡ is_laid_out (entry_of l i)
  unfolding is_right
  right-other h =
      ap₂ (λ b r. both (is_laid_out (entry_of l i)) (both (pick b (ltb (entry_of l i).kind 3) true) (is_ordered r))) (ne_eqb (edition l) 2 h) (range_other h)
      ∙ alone (is_laid_out (entry_of l i))
    where
      alone : (b : Bool) → both b true ≡ b
      alone true = refl
      alone false = refl

-- The edition that is read is that of the file, where its bytes are there.
pub edition_there : (l : List ℕ) → 2 ≤ length l → edition_or l ≡ edition l
edition_there l h = little-within l 0 2 (omega arith)

-- Whether an entry is there does not hang on that: a file of less than two bytes has none.
pub entry_test_lem : (l : List ℕ) (i : ℕ) → leb (contents_size (edition_or l) (i + 1)) (length l) ≡ leb (contents_size (edition l) (suc i)) (length l)
entry_test_lem l i =
    elim (dec_le 2 (length l)) [
      | yes h ↦ ap₂ (λ e k. leb (contents_size e k) (length l)) (edition_there l h) (add-one i)
      | no h ↦
          lt-leb (contents_size (edition_or l) (i + 1)) (length l) (omega (arith, size-least (edition_or l) (i + 1)))
          ∙ sym (lt-leb (contents_size (edition l) (suc i)) (length l) (omega (arith, size-least (edition l) (suc i))))
    ]

-- By the test with the edition that was read an entry is there, and then that is the file's edition, or it is not
-- there.
module _ (l : List ℕ) (i : ℕ) {e : ℕ} (read : e ≡ edition_or l) {test : Bool} (tests : test ≡ leb (contents_size e (i + 1)) (length l)) where
  same_test : test ≡ leb (contents_size (edition l) (suc i)) (length l)
  same_test = tests ∙ ap (λ e. leb (contents_size e (i + 1)) (length l)) read ∙ entry_test_lem l i

  pub entry_found : test ≡ true → contents_size (edition l) (suc i) ≤ length l
  entry_found h = leb-true (contents_size (edition l) (suc i)) (length l) (sym same_test ∙ h)

  pub entry_lost : test ≡ false → length l < contents_size (edition l) (suc i)
  entry_lost h = leb-false (contents_size (edition l) (suc i)) (length l) (sym same_test ∙ h)

  pub edition-found : test ≡ true → e ≡ edition l
  edition-found h = read ∙ edition_there l (omega (arith, entry_found h, size-least (edition l) (suc i)))

grow : (l : List ℕ) (k m : ℕ) → bodies_size l k ≤ bodies_size l (k + m)
unfolding bodies_size
grow l k zero = rw add-zero (omega arith)
grow l k (suc m) = rw add-suc (omega (arith, grow l k m))

-- The body of a block ends within all of them.
pub bodies-within : (l : List ℕ) (b n : ℕ) → b < n → bodies_size l b + (entry_of l b).length ≤ bodies_size l n
unfolding bodies_size
bodies-within l b n h =
    let e : suc b + (n - suc b) ≡ n = omega arith in
    let g : bodies_size l (suc b) ≤ bodies_size l (suc b + (n - suc b)) = grow l (suc b) (n - suc b) in
    let q : bodies_size l (suc b + (n - suc b)) ≡ bodies_size l n = ap (bodies_size l) e in
    omega arith
