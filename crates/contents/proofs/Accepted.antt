-- What holds of contents that are accepted, and that nothing else is accepted.
-- Assumes nothing.
use mathlib.Core.Bool.{Bool, true, false}
use mathlib.Core.List.{List, [], ◌∷◌, ◌++◌}
use mathlib.Core.Path.{◌≡◌, refl, sym, ap, ◌∙◌}
use Prim.Native.Nat.{ℕ, ◌≤◌, ◌<◌}
use native.Mathlib.Omega.{arith}
use lib.Dec.{eqb, leb}
use lib.ListN.{length}
use borrow.Author.Tests.{leb-true, eqb-true}
use Rattle.std.specs.Prelude.{Ok}
use Rattle.lists.specs.Pick.{both, either}
use Rattle.lists.proofs.Tests.{both_true, false-true}
use Rattle.lists.proofs.Search.{first_only, first-before}
use Rattle.contents.specs.Answers.{FileTest, file_answer, is_done}
use Rattle.contents.specs.Contents.{edition, count, contents_size, entry_of, range_of, is_laid_out, is_taken_in, is_ordered, is_right, bad_entry, body_start, contents_tests}
use Rattle.contents.proofs.Answers.{passed, stopped, none_left, refuses, refuses-first, in_front-done}
use Rattle.contents.proofs.Checks.{Known, true_known, entries_there, entries-done}

-- A call that is done has passed its first test, and is done with the others.
pub done_first : (x : FileTest) (xs : List FileTest) → is_done x.1 ≡ false → file_answer (x ∷ xs) ≡ Ok tt → (x.0 ≡ true) × (file_answer xs ≡ Ok tt)
done_first x xs other e = go x.0 refl
  where
    go : (b : Bool) → x.0 ≡ b → (x.0 ≡ true) × (file_answer xs ≡ Ok tt)
    go true p = (p, sym (passed x xs p) ∙ e)
    go false p = absurd (false-true (sym other ∙ ap is_done (sym (stopped x xs p) ∙ e)))

-- A call that is done is done with the tests in front and with those behind them, and the other way round.
pub done-front : (xs ys : List FileTest) → refuses xs ≡ true → file_answer (xs ++ ys) ≡ Ok tt → (file_answer xs ≡ Ok tt) × (file_answer ys ≡ Ok tt)
done-front [] ys r e = (none_left, e)
done-front (x ∷ xs) ys r e = go x.0 refl (done-front xs ys (refuses-first x xs r).1)
  where
    go : (b : Bool) → x.0 ≡ b → (file_answer (xs ++ ys) ≡ Ok tt → (file_answer xs ≡ Ok tt) × (file_answer ys ≡ Ok tt))
        → (file_answer (x ∷ xs) ≡ Ok tt) × (file_answer ys ≡ Ok tt)
    go true p rest = let parts = rest (sym (passed x (xs ++ ys) p) ∙ e) in (passed x xs p ∙ parts.0, parts.1)
    go false p rest = absurd ((refuses-first x xs r).0 (sym (stopped x (xs ++ ys) p) ∙ e))

pub done-both : (xs ys : List FileTest) → refuses xs ≡ true → file_answer xs ≡ Ok tt → file_answer ys ≡ Ok tt → file_answer (xs ++ ys) ≡ Ok tt
done-both xs ys r e f = in_front-done xs ys r e ∙ f

-- The contents in l are those of a file of `size` bytes.
pub record Whole (l : List ℕ) (size : ℕ) : Type 0 where
  pub head : 4 ≤ length l
  pub first : Known (edition l)
  pub few : count l ≤ 256
  pub room : contents_size (edition l) (count l) ≤ length l
  pub right : (i : ℕ) → i < count l → is_right l i ≡ true
  pub end : body_start l (count l) ≡ size

-- Every entry is as laid out, its kind is one that the edition takes, and its smallest value is not above its largest.
module _ {l : List ℕ} {size : ℕ} (w : Whole l size) (i : ℕ) (h : i < count l) where
  laid_taken : (is_laid_out (entry_of l i) ≡ true) × (both (is_taken_in (edition l) (entry_of l i)) (is_ordered (range_of l i)) ≡ true)
  unfolding is_right
  laid_taken = both_true (is_laid_out (entry_of l i)) (both (is_taken_in (edition l) (entry_of l i)) (is_ordered (range_of l i))) (w.right i h)

  pub whole_laid : is_laid_out (entry_of l i) ≡ true
  whole_laid = laid_taken.0

  pub whole-taken : is_taken_in (edition l) (entry_of l i) ≡ true
  whole-taken = (both_true (is_taken_in (edition l) (entry_of l i)) (is_ordered (range_of l i)) laid_taken.1).0

module _ (l : List ℕ) (size : ℕ) where
  -- Where every entry is right, none is the lowest bad one, and the other way round.
  none_bad : ((i : ℕ) → i < count l → is_right l i ≡ true) → bad_entry l ≡ count l
  unfolding bad_entry
  none_bad right = sym (first_only (count l) (count l) (is_right l) (omega arith) right (λ h. absurd (omega arith)))

  all_right : bad_entry l ≡ count l → (i : ℕ) → i < count l → is_right l i ≡ true
  unfolding bad_entry
  all_right e i h = first-before (count l) (is_right l) i (omega arith)

  pub accepted : file_answer (contents_tests l size) ≡ Ok tt → Whole l size
  accepted done =
      let t0 = done_first _ _ refl done in
      let t1 = done_first _ _ refl t0.1 in
      let t2 = done_first _ _ refl t1.1 in
      let t3 = done_first _ _ refl t2.1 in
      let t4 = done_first _ _ refl t3.1 in
      let t5 = done_first _ _ refl t4.1 in
      let e = both_true (either (eqb (edition l) 1) (eqb (edition l) 2)) (leb (count l) 256) t1.0 in
      let low : body_start l (count l) ≤ size = leb-true (body_start l (count l)) size t4.0 in
      let high : size ≤ body_start l (count l) = leb-true size (body_start l (count l)) t5.0 in
      record {
        head = leb-true 4 (length l) t0.0;
        first = true_known (edition l) e.0;
        few = leb-true (count l) 256 e.1;
        room = leb-true (contents_size (edition l) (count l)) (length l) t2.0;
        right = all_right (eqb-true (bad_entry l) (count l) t3.0);
        end = omega arith;
      }

  pub accepts : Whole l size → file_answer (contents_tests l size) ≡ Ok tt
  accepts w =
      entries_there l size w.head w.first w.few w.room
      ∙ entries-done l size (none_bad w.right) (omega (arith, w.end)) (omega (arith, w.end))
