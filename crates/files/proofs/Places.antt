-- The lookup of a row in one body, test by test, and what it gives in a file whose contents are right.
-- Assumes nothing.
use Rattle.std.specs.Prelude.{Ok, Err, is_err}
use Rattle.std.proofs.Common.{◌≡◌, ℕ, suc, ◌+◌, ◌-◌, ◌/◌, ◌%◌, ◌<◌, ◌≤◌, Bool, true, false, leb, List, [], ◌∷◌, length, get_or, take, drop, sym, refl, ap, ◌∙◌, ap₂, arith, le-ltb, lt-ltb, eq-eqb, ne_eqb, le-leb}
use native.Mathlib.Nat.{add-sub_cancel_left}
use native.Mathlib.Decide.{dec_le}
use Rattle.lists.specs.Pick.{pick, both}
use Rattle.lists.proofs.Tests.{false-true}
use Rattle.places.specs.Sizes.{t64}
use Rattle.access.specs.Counts.{count_at}
use Rattle.contents.specs.declared.Entry.{Entry}
use Rattle.contents.specs.declared.FileRefusal.TheVariants.{Cut, BadEntry, Beyond, Runs}
use Rattle.contents.specs.Answers.{FileAnswer, file_answer, giving}
use Rattle.contents.specs.Contents.{edition, edition_or, count, contents_size, entry_of, entry_or, range_of, range_or, is_laid_out, is_of_kind, is_taken_in, is_ordered, is_right, has_right_entry, body_start, contents_tests}
use Rattle.contents.proofs.Answers.{passed, stopped, none_left}
use Rattle.contents.proofs.Entries.{entry_there, entry_missing, range_there, right_there, right_missing, edition_there}
use Rattle.bodies.specs.Bodies.{block_of, has_good_runs}
use Rattle.bodywise.proofs.Fronts.{whole-front}
use Rattle.bodywise.proofs.Told.{entry_read, body-ends}
use Rattle.files.specs.declared.Row.{Row}
use Rattle.files.specs.Files.{block_in}
use Rattle.files.specs.Froms.{body_from}
use Rattle.files.specs.Rows.{counted, uncounted, given, row_from_tests, row_from_lem}
use Rattle.files.proofs.Files.{good_in}
use Rattle.files.proofs.Froms.{body_from-is}

-- A value of kind 0 or 1 is given with its count, and one of kind 2 or 3 without.
pub given_counted : (e : Entry) (place v : ℕ) → e.kind < 2 → given e place v ≡ counted v (count_at t64 e.width place)
given_counted e place v k = ap (λ b. pick b (counted v (count_at t64 e.width place)) (uncounted v)) (lt-ltb e.kind 2 k)

pub given_uncounted : (e : Entry) (place v : ℕ) → 2 ≤ e.kind → given e place v ≡ uncounted v
given_uncounted e place v k = ap (λ b. pick b (counted v (count_at t64 e.width place)) (uncounted v)) (le-ltb e.kind 2 k)

-- What the answer to one body, of which only the run indices are left to test, tells of them.
pub runs_wrong : (b : Bool) {a : FileAnswer} → a ≡ pick b (Ok tt) (Err (Runs 0)) → is_err a ≡ true → b ≡ false
runs_wrong true e refused = absurd (false-true (sym (ap is_err e) ∙ refused))
runs_wrong false e refused = refl

pub runs-right : (b : Bool) {a : FileAnswer} → a ≡ pick b (Ok tt) (Err (Runs 0)) → is_err a ≡ false → b ≡ true
runs-right true e done = refl
runs-right false e done = absurd (false-true (sym done ∙ ap is_err e))

four_first : (edition n : ℕ) → 4 ≤ contents_size edition n
unfolding contents_size
four_first edition n = omega arith

-- Whether an entry is right is told by what is read of it: where it is not there, an entry of no kind stands for it.
pub right-read : (l : List ℕ) (i : ℕ)
    → both (is_laid_out (entry_or l i)) (both (is_taken_in (edition_or l) (entry_or l i)) (is_ordered (range_or l i))) ≡ has_right_entry l i
unfolding is_right is_laid_out is_of_kind
right-read l i =
    elim (dec_le (contents_size (edition l) (suc i)) (length l)) [
      | yes there ↦
          let head = edition_there l (omega (arith, four_first (edition l) (suc i))) in
          ap₂ (λ e r. both (is_laid_out e) (both (is_taken_in (edition_or l) e) (is_ordered r))) (entry_there l i there) (range_there l i there)
          ∙ ap (λ n. both (is_laid_out (entry_of l i)) (both (is_taken_in n (entry_of l i)) (is_ordered (range_of l i)))) head
          ∙ sym (right_there l i there)
      | no missing ↦
          ap (λ e. both (is_laid_out e) (both (is_taken_in (edition_or l) e) (is_ordered (range_or l i)))) (entry_missing l i (omega arith))
          ∙ sym (right_missing l i (omega arith))
    ]

module _ (l : List ℕ) (i at p : ℕ) where
  -- the value, where nothing is refused
  found : Row
  found = given (entry_or l i) (p % 1024) (get_or (block_of (entry_or l i) (body_from l i at)) (p % 1024) 0)

  looked : {a : FileAnswer} → file_answer (row_from_tests l i at p) ≡ a → row_from_lem l i at p ≡ giving a found
  unfolding row_from_lem found
  looked e = ap (λ a. giving a found) e

  -- The body does not stand whole in the bytes.
  pub from_cut : leb (at + (entry_or l i).length) (length l) ≡ false → row_from_lem l i at p ≡ Err Cut
  from_cut f = looked (stopped _ _ f)

  module _ (whole : leb (at + (entry_or l i).length) (length l) ≡ true) where
    -- The entry is not right.
    pub from_wrong : has_right_entry l i ≡ false → row_from_lem l i at p ≡ Err (BadEntry i)
    from_wrong f = looked (passed _ _ whole ∙ stopped _ _ f)

    -- The body that is lent is the one of the tests.
    pub from_lent : take (at + (entry_or l i).length - at) (drop at l) ≡ body_from l i at
    unfolding body_from
    from_lent =
        ap (λ n. take n (drop at l)) (add-sub_cancel_left at (entry_or l i).length)
        ∙ sym (ap (λ t. pick t (take (entry_or l i).length (drop at l)) []) whole)

    module _ (right : has_right_entry l i ≡ true) where
      -- The row is not of that block.
      pub from_beyond : (p / 1024 ≡ i → ⊥) → row_from_lem l i at p ≡ Err Beyond
      from_beyond f = looked (passed _ _ whole ∙ passed _ _ right ∙ stopped _ _ (ne_eqb (p / 1024) i f))

      -- The run indices decide.
      pub from_runs : p / 1024 ≡ i
          → row_from_lem l i at p
          ≡ pick (has_good_runs (entry_or l i) (body_from l i at))
          (Ok (given (entry_or l i) (p % 1024) (get_or (block_of (entry_or l i) (body_from l i at)) (p % 1024) 0))) (Err (Runs i))
      unfolding found
      from_runs e =
          looked (passed _ _ whole ∙ passed _ _ right ∙ passed _ _ (eq-eqb (p / 1024) i e) ∙ last (has_good_runs (entry_or l i) (body_from l i at)))
          ∙ go (has_good_runs (entry_or l i) (body_from l i at))
        where
          last : (b : Bool) → file_answer ((b, Err (Runs i)) ∷ []) ≡ pick b (Ok tt) (Err (Runs i))
          last true = passed _ _ refl ∙ none_left
          last false = stopped _ _ refl

          go : (b : Bool) → giving (pick b (Ok tt) (Err (Runs i))) found ≡ pick b (Ok found) (Err (Runs i))
          go true = refl
          go false = refl

-- In a file whose contents are right, a row of block i is looked up in body i.
pub from_file : (l : List ℕ) (right : file_answer (contents_tests l (length l)) ≡ Ok tt) (i at p : ℕ) → i < count l → at ≡ body_start l i → p / 1024 ≡ i
    → row_from_lem l i at p ≡ pick (good_in l i) (Ok (given (entry_of l i) (p % 1024) (get_or (block_in l i) (p % 1024) 0))) (Err (Runs i))
unfolding block_in
from_file l right i at p h start e =
    let entry = entry_read l right i h in
    let ends : at + (entry_or l i).length ≤ length l = omega (arith, body-ends l right i h, ap (λ e. e.length) entry) in
    from_runs l i at p (le-leb _ _ ends) ((whole-front l).right_is right i h) e
    ∙ ap₂ (λ e body. pick (has_good_runs e body) (Ok (given e (p % 1024) (get_or (block_of e body) (p % 1024) 0))) (Err (Runs i)))
    entry (body_from-is l right i h at start)
