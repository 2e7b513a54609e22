-- Each number of a search is given exactly when R110 says: the tests agree with the plain reasons.
-- Assumes nothing.
use Rattle.std.specs.Prelude.{Ok, Err}
use Rattle.std.proofs.Common.{◌≡◌, ℕ, ◌≤◌, Bool, true, false, eqb, ◌⊎◌, ◌↔◌, List, [], ◌∷◌, length, sym, refl, ap, ◌∙◌, subst, inl, inr, ⊎_elim, arith, le-leb}
use native.Mathlib.Decide.{dec_le, dec_lt, ℕ_discrete}
use borrow.Author.Tests.{lt-leb}
use Rattle.lists.specs.Pick.{pick}
use Rattle.lists.specs.Search.{first_bad}
use Rattle.lists.proofs.Tests.{false-true}
use Rattle.lists.proofs.Search.{first-at}
use Rattle.contents.specs.declared.FileRefusal.TheVariants.{Runs, Range, Room}
use Rattle.contents.specs.Answers.{FileAnswer, FileTest, file_answer, number_of}
use Rattle.contents.specs.Contents.{count, entry_of, contents_tests}
use Rattle.contents.proofs.Answers.{passed, stopped, none_left, in_front-done, in_front-refused, number-done}
use Rattle.files.specs.Files.{body_of, bad_runs, bad_range}
use Rattle.files.specs.Reasons.{GoodRuns, TrueRange, Right, Reason}
use Rattle.files.proofs.Exactly.{lowest-found, none_found, before-holds, at-fails, all_hold, good-plain, range-plain, reason_gives, file_exactly, right-done, done-right}
use Rattle.search.specs.InnerBlocks.{asked}
use Rattle.search.specs.Reasons.{Opened, OpenedGood, OpenedTrue, SearchReason, of_contents, opened_runs, opened_range, short_room, rows_there}
use Rattle.search.specs.Search.{opens, found, opened_tests, search_tests}
use Rattle.search.proofs.Answers as Answers
use Rattle.search.proofs.Theorems.{opens_exactly}

-- ---- the numbers of tests

-- The answer by these tests is done, or its number is from a to b.
abbrev Numbered : (a b : ℕ) → List FileTest → Type 0
Numbered a b xs = (file_answer xs ≡ Ok tt) ⊎ ((a ≤ number_of (file_answer xs)) × (number_of (file_answer xs) ≤ b))

no_tests : (a b : ℕ) → Numbered a b []
no_tests a b = inl none_left

one_test : (a b : ℕ) (x : FileTest) (xs : List FileTest) → a ≤ number_of x.1 → number_of x.1 ≤ b → Numbered a b xs → Numbered a b (x ∷ xs)
one_test a b x xs low high rest = go x.0 refl
  where
    go : (t : Bool) → x.0 ≡ t → Numbered a b (x ∷ xs)
    go true e = subst (λ r. (r ≡ Ok tt) ⊎ ((a ≤ number_of r) × (number_of r ≤ b))) (sym (passed x xs e)) rest
    go false e = inr (omega (arith, ap number_of (stopped x xs e)), omega (arith, ap number_of (stopped x xs e)))

contents-numbered : (l : List ℕ) (size : ℕ) → Numbered 8 11 (contents_tests l size)
contents-numbered l size =
    one_test 8 11 _ _ (omega arith) (omega arith)
    (one_test 8 11 _ _ (omega arith) (omega arith)
    (one_test 8 11 _ _ (omega arith) (omega arith)
    (one_test 8 11 _ _ (omega arith) (omega arith)
    (one_test 8 11 _ _ (omega arith) (omega arith) (one_test 8 11 _ _ (omega arith) (omega arith) (no_tests 8 11))))))

bodies-numbered : (bad other n : ℕ) → Numbered 13 15 ((eqb bad n, Err (Runs bad)) ∷ (eqb other n, Err (Range other)) ∷ [])
bodies-numbered bad other n = one_test 13 15 _ _ (omega arith) (omega arith) (one_test 13 15 _ _ (omega arith) (omega arith) (no_tests 13 15))

module _ (l : List ℕ) where
  abbrev bodies_tests : List FileTest
  bodies_tests = (eqb (bad_runs l) (count l), Err (Runs (bad_runs l))) ∷ (eqb (bad_range l) (count l), Err (Range (bad_range l))) ∷ []

  -- A reason from 8 to 11 is one of the contents.
  contents_reason : {a : FileAnswer} → Reason l a → 8 ≤ number_of a → number_of a ≤ 11 → file_answer (contents_tests l (length l)) ≡ a
  contents_reason {a} r low high =
      elim (ℕ_discrete (number_of (file_answer (contents_tests l (length l)))) 0) [
        | no other ↦ sym (in_front-refused (contents_tests l (length l)) bodies_tests (λ d. other (ap number_of d))) ∙ reason_gives l r
        | yes zero ↦
            let done = number-done (file_answer (contents_tests l (length l))) zero in
            let same = sym (in_front-done (contents_tests l (length l)) bodies_tests refl done) ∙ reason_gives l r in
            absurd
            (⊎_elim
            (λ d. omega (arith, ap number_of (sym same ∙ d)))
            (λ n. omega (arith, n.0, ap number_of same))
            (bodies-numbered (bad_runs l) (bad_range l) (count l)))
      ]

  -- Contents that are refused have such a reason.
  reason_contents : (number_of (file_answer (contents_tests l (length l))) ≡ 0 → ⊥) → Reason l (file_answer (contents_tests l (length l)))
  reason_contents refused =
      (file_exactly l (file_answer (contents_tests l (length l)))).0
      (in_front-refused (contents_tests l (length l)) bodies_tests (λ d. refused (ap number_of d)))

  module _ (low high : ℕ) where
    -- The tests of the opened blocks, in plain arithmetic.
    opened-plain : (i : ℕ) (t : Bool) (Holds : Type 0) → (t ≡ true) ↔ Holds → (pick (opens l low high i) t true ≡ true) ↔ (Opened l low high i → Holds)
    opened-plain i t Holds plain = (to, from)
      where
        to : pick (opens l low high i) t true ≡ true → Opened l low high i → Holds
        to e o = plain.0 (sym (ap (λ b. pick b t true) ((opens_exactly l low high i).1 o)) ∙ e)

        from : (Opened l low high i → Holds) → pick (opens l low high i) t true ≡ true
        from f = go (opens l low high i) refl
          where
            go : (b : Bool) → opens l low high i ≡ b → pick b t true ≡ true
            go true e = plain.1 (f ((opens_exactly l low high i).0 e))
            go false e = refl

    runs_test : ℕ → Bool
    runs_test i = pick (opens l low high i) (asked l false i) true

    range_test : ℕ → Bool
    range_test i = pick (opens l low high i) (asked l true i) true

    abbrev Runs_hold : ℕ → Type 0
    Runs_hold i = Opened l low high i → GoodRuns (entry_of l i) (body_of l i)

    abbrev Range-holds : ℕ → Type 0
    Range-holds i = Opened l low high i → TrueRange l i

    runs-opened : (i : ℕ) → (runs_test i ≡ true) ↔ Runs_hold i
    unfolding runs_test
    runs-opened i = opened-plain i (asked l false i) (GoodRuns (entry_of l i) (body_of l i)) (good-plain l i)

    range-opened : (i : ℕ) → (range_test i ≡ true) ↔ Range-holds i
    unfolding range_test
    range-opened i = opened-plain i (asked l true i) (TrueRange l i) (range-plain l i)

    module _ (rows : List ℕ) where
      tests_done : Right l → OpenedGood l low high (count l) → OpenedTrue l low high (count l) → file_answer (opened_tests l low high) ≡ Ok tt
      unfolding runs_test range_test
      tests_done r good all =
          Answers.opened-done l low high (none_found (count l) runs_test Runs_hold runs-opened good) (none_found (count l) range_test Range-holds range-opened all)

      -- A reason gives its answer,
      search_gives : {a : FileAnswer} → SearchReason l low high rows a → file_answer (search_tests l low high rows) ≡ a
      unfolding runs_test range_test
      search_gives (of_contents a r from to) =
          let is = contents_reason r from to in
          Answers.contents-first l low high rows (λ d. absurd (omega (arith, ap number_of (sym is ∙ d)))) ∙ is
      search_gives (opened_runs p r h o bad before) =
          let lowest = lowest-found (count l) runs_test Runs_hold runs-opened p h (λ f. bad (f o)) before in
          let is = Answers.opened_runs l low high p (sym lowest) (λ e. absurd (omega arith)) in
          Answers.opened_second l low high rows (right-done l r) (λ d. absurd (omega (arith, ap number_of (sym is ∙ d)))) ∙ is
      search_gives (opened_range p r good h o bad before) =
          let runs = none_found (count l) runs_test Runs_hold runs-opened good in
          let lowest = lowest-found (count l) range_test Range-holds range-opened p h (λ f. bad (f o)) before in
          let is = Answers.opened_range l low high runs p (sym lowest) (λ e. absurd (omega arith)) in
          Answers.opened_second l low high rows (right-done l r) (λ d. absurd (omega (arith, ap number_of (sym is ∙ d)))) ∙ is
      search_gives (short_room r good all h) =
          Answers.no_room l low high rows (right-done l r) (tests_done r good all) (lt-leb (length (found l low high)) (length rows) h)
      search_gives (rows_there r good all h) =
          Answers.room_there l low high rows (right-done l r) (tests_done r good all) (le-leb (length (found l low high)) (length rows) h)

      -- and every search has one.
      from_room : Right l → OpenedGood l low high (count l) → OpenedTrue l low high (count l) → (a : FileAnswer) × SearchReason l low high rows a
      from_room r good all =
          elim (dec_le (length (found l low high)) (length rows)) [
            | yes h ↦ (Ok tt, rows_there r good all h)
            | no h ↦ (Err Room, short_room r good all (omega arith))
          ]

      -- a block that is not as asked is opened
      bad_opened : (ranges : Bool) (p : ℕ) → pick (opens l low high p) (asked l ranges p) true ≡ false → Opened l low high p
      bad_opened ranges p bad = go (opens l low high p) refl
        where
          go : (b : Bool) → opens l low high p ≡ b → Opened l low high p
          go true e = (opens_exactly l low high p).0 e
          go false e = absurd (false-true (sym bad ∙ ap (λ t. pick t (asked l ranges p) true) e))

      from_range : Right l → OpenedGood l low high (count l) → (a : FileAnswer) × SearchReason l low high rows a
      unfolding range_test
      from_range r good =
          let bad = first_bad (count l) range_test in
          elim (dec_lt bad (count l)) [
            | yes h ↦
                let fails = at-fails (count l) range_test Range-holds range-opened h in (
                  Err (Range bad),
                  opened_range bad r good h (bad_opened true bad (first-at (count l) range_test h)) (λ t. fails (λ _. t))
                      (before-holds (count l) range_test Range-holds range-opened),
                )
            | no h ↦ from_room r good (all_hold (count l) range_test Range-holds range-opened h)
          ]

      from_right : Right l → (a : FileAnswer) × SearchReason l low high rows a
      unfolding runs_test
      from_right r =
          let bad = first_bad (count l) runs_test in
          elim (dec_lt bad (count l)) [
            | yes h ↦
                let fails = at-fails (count l) runs_test Runs_hold runs-opened h in (
                  Err (Runs bad),
                  opened_runs bad r h (bad_opened false bad (first-at (count l) runs_test h)) (λ t. fails (λ _. t))
                      (before-holds (count l) runs_test Runs_hold runs-opened),
                )
            | no h ↦ from_range r (all_hold (count l) runs_test Runs_hold runs-opened h)
          ]

      from_contents : (a : FileAnswer) × SearchReason l low high rows a
      from_contents =
          let a = file_answer (contents_tests l (length l)) in
          elim (ℕ_discrete (number_of a) 0) [
            | yes zero ↦ from_right (done-right l (number-done a zero))
            | no other ↦ ⊎_elim
                (λ d. absurd (other (ap number_of d)))
                (λ n. (a, of_contents a (reason_contents other) n.0 n.1))
                (contents-numbered l (length l))
          ]

      -- So each answer is given exactly when the search has the reason for it.
      pub search_exactly : (a : FileAnswer) → (file_answer (search_tests l low high rows) ≡ a) ↔ SearchReason l low high rows a
      search_exactly a = ((λ e. subst (SearchReason l low high rows) (sym (search_gives from_contents.1) ∙ e) from_contents.1), (λ r. search_gives r))
