-- The front of a file that is read by its first four bytes tells of the contents what the whole file does.
-- Assumes nothing.
use mathlib.Core.Bool.{Bool, true, false}
use mathlib.Core.List.{List}
use mathlib.Core.Path.{◌≡◌, refl, sym, ap, ap₂, subst, ◌∙◌}
use Prim.Native.Nat.{ℕ, ◌≤◌, ◌<◌}
use native.Mathlib.Decide.{dec_le}
use native.Mathlib.Numerals.{add-one}
use native.Mathlib.Omega.{arith}
use lib.Dec.{leb}
use lib.ListN.{length, take, length-take}
use lib.Seq.{take_all, length-take-le}
use borrow.Author.Tests.{le-leb}
use Rattle.std.specs.Prelude.{Ok}
use Rattle.lists.specs.Pick.{pick}
use Rattle.little.proofs.Little.{little-within}
use Rattle.contents.specs.Answers.{file_answer}
use Rattle.contents.specs.Contents.{edition, count, edition_or, count_or, contents_size, entry_of, entry_or, range_of, range_or, has_right_entry, contents_tests}
use Rattle.contents.proofs.Entries.{edition_there, right_there}
use Rattle.contents.proofs.Sizes.{size-least, size-most, size-before}
use Rattle.contents.proofs.Fronts as Fronts
use Rattle.bodywise.specs.Steps.{front_size, front_of}
use Rattle.bodywise.proofs.Told.{whole, edition-read, count-read, entry_read, range-read}

-- A front that tells of the contents what the file does.
pub record Front (l front : List ℕ) : Type 0 where
  pub answer : file_answer (contents_tests front (length l)) ≡ file_answer (contents_tests l (length l))
  pub edition-is : file_answer (contents_tests l (length l)) ≡ Ok tt → edition_or front ≡ edition l
  pub count-is : file_answer (contents_tests l (length l)) ≡ Ok tt → count_or front ≡ count l
  pub entry-is : file_answer (contents_tests l (length l)) ≡ Ok tt → (i : ℕ) → i < count l → entry_or front i ≡ entry_of l i
  pub range-is : file_answer (contents_tests l (length l)) ≡ Ok tt → (i : ℕ) → i < count l → range_or front i ≡ range_of l i
  pub right_is : file_answer (contents_tests l (length l)) ≡ Ok tt → (i : ℕ) → i < count l → has_right_entry front i ≡ true

-- The whole file is one.
pub whole-front : (l : List ℕ) → Front l l
whole-front l = record {
  answer = refl;
  edition-is = λ done. edition-read l done;
  count-is = λ done. count-read l done;
  entry-is = λ done. entry_read l done;
  range-is = λ done. range-read l done;
  right_is = λ done i h.
      let w = whole l done in
      right_there l i (omega (arith, w.room, size-before (edition l) i (count l) h, ap (contents_size (edition l)) (add-one i))) ∙ w.right i h;
}

-- A front of k bytes that has four bytes, and the entries where there are at most 256 blocks.
module _ (l : List ℕ) (k : ℕ) (four : 4 ≤ k) (all : count l ≤ 256 → contents_size (edition l) (count l) ≤ k) where
  pub taken-front : Front l (take k l)
  taken-front = record {
    answer = Fronts.contents-front l k four all (length l);
    edition-is = λ done.
        edition_there (take k l) (omega (arith, length-take k l, (whole l done).head)) ∙ Fronts.edition-front l k four all;
    count-is = λ done.
        little-within (take k l) 2 2 (omega (arith, length-take k l, (whole l done).head)) ∙ Fronts.count-front l k four all;
    entry-is = λ done. Fronts.entry_or-front l k four all (whole l done).few (whole l done).room;
    range-is = λ done. Fronts.range_or-front l k four all (whole l done).few (whole l done).room;
    right_is = λ done i h. Fronts.right_or_front l k four all (whole l done).few (whole l done).room i h ∙ (whole l done).right i h;
  }

-- A front has the first four bytes, and by these the contents.
pub by_size : (head : List ℕ) (t : Bool) → leb (contents_size (edition_or head) (count_or head)) 8196 ≡ t
    → front_size head ≡ pick t (contents_size (edition_or head) (count_or head)) 4
unfolding front_size
by_size head t e = ap (λ t. pick t (contents_size (edition_or head) (count_or head)) 4) e

size_four : (head : List ℕ) → 4 ≤ front_size head
size_four head = go (leb (contents_size (edition_or head) (count_or head)) 8196) refl
  where
    go : (t : Bool) → leb (contents_size (edition_or head) (count_or head)) 8196 ≡ t → 4 ≤ front_size head
    go true e = omega (arith, by_size head true e, size-least (edition_or head) (count_or head))
    go false e = omega (arith, by_size head false e)

module _ (l : List ℕ) where
  module _ (there : 4 ≤ length l) where
    head-size : contents_size (edition_or (take 4 l)) (count_or (take 4 l)) ≡ contents_size (edition l) (count l)
    head-size =
        let long : length (take 4 l) ≡ 4 = length-take-le 4 l there in
        ap₂ contents_size
        (edition_there (take 4 l) (omega arith) ∙ Fronts.little-front l 4 0 2 (omega arith))
        (little-within (take 4 l) 2 2 (omega arith) ∙ Fronts.little-front l 4 2 2 (omega arith))

    size_all : count l ≤ 256 → contents_size (edition l) (count l) ≤ front_size (take 4 l)
    size_all few =
        let small : contents_size (edition_or (take 4 l)) (count_or (take 4 l)) ≤ 8196 = omega (arith, head-size, size-most (edition l) (count l)) in
        omega (arith, by_size (take 4 l) true (le-leb _ 8196 small), head-size)

  -- The front that is read tells of the contents what the file does.
  pub front-right : Front l (front_of l)
  unfolding front_of
  front-right =
      elim (dec_le 4 (length l)) [
        | yes there ↦ taken-front l (front_size (take 4 l)) (size_four (take 4 l)) (size_all there)
        | no short ↦ subst (Front l) (sym (take_all (front_size (take 4 l)) l (omega (arith, size_four (take 4 l))))) (whole-front l)
      ]
