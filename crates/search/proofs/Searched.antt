-- The contents of a file, then its opened bodies in their order, and then the rows of the opened blocks one after
-- another give what the search of the file gives: number, place, how many rows and blocks, and the rows. A program that
-- holds no more than the front of the file and one body so gets the same answer.
-- Assumes nothing.
use Rattle.std.specs.Prelude.{Ok, Err}
use Rattle.std.proofs.Common.{◌≡◌, ℕ, zero, suc, ◌<◌, ◌≤◌, Bool, true, false, eqb, leb, List, [], ◌∷◌, ◌++◌, length, sym, refl, ap, ◌∙◌, ap₂, append-nil, add-one, arith}
use native.Mathlib.Decide.{ℕ_discrete}
use Rattle.lists.specs.Pick.{pick}
use Rattle.lists.specs.Tab.{over}
use Rattle.lists.specs.Passing.{passing}
use Rattle.lists.proofs.Search.{first_ext}
use Rattle.lists.proofs.Passing.{passing-none_yet, passing_ext}
use Rattle.contents.specs.declared.FileRefusal.TheVariants.{Range, Room, Runs}
use Rattle.contents.specs.Answers.{giving, FileAnswer, file_answer, number_of, left}
use Rattle.contents.specs.Contents.{count, count_or, entry_or, contents_tests}
use Rattle.contents.proofs.Answers.{in_front-done, in_front-refused, left-refused, refused-same, number-done}
use Rattle.bodies.specs.Bodies.{block_of}
use Rattle.bodywise.specs.Steps.{front_of}
use Rattle.bodywise.proofs.Fronts.{Front, front-right}
use Rattle.files.specs.Chosen.{chosen_after}
use Rattle.files.specs.Files.{body_of, has_true_range}
use Rattle.files.proofs.Files.{good_in}
use Rattle.files.proofs.Held.{block_is, chosen-refused, chosen-bodies}
use Rattle.search.specs.Search.{counts, opens, opened, listed, found, bad_runs_in, bad_range_in, opened_tests, search_tests, found_of, search_leaves}
use Rattle.search.specs.Steps.{opens_by, rows_in, rows_after, rows_by, answer_by, searched_by, left_by}
use Rattle.search.proofs.Answers.{contents-first}
use Rattle.search.proofs.Walks.{found_to, front-opens, found_open, found_shut, found_all}

module _ (l front : List ℕ) (held : Front l front) (low high : ℕ) where
  -- the answer after all opened bodies
  abbrev bodies-answer : FileAnswer
  bodies-answer = chosen_after (opens_by front low high) front (length l) (body_of l) (count_or front)

  -- ---- contents that are right

  module _ (done : file_answer (contents_tests l (length l)) ≡ Ok tt) where
    count-is : count_or front ≡ count l
    count-is = held.count-is done

    same-opens : (i : ℕ) → i < count l → opens_by front low high i ≡ opens l low high i
    same-opens i h = front-opens l low high done i h held

    bodies_are : bodies-answer ≡ file_answer (opened_tests l low high)
    unfolding bad_runs_in bad_range_in
    bodies_are =
        ap (chosen_after (opens_by front low high) front (length l) (body_of l)) count-is
        ∙ chosen-bodies l front held (opens_by front low high) done
        ∙ ap₂ (λ r t. file_answer ((eqb r (count l), Err (Runs r)) ∷ (eqb t (count l), Err (Range t)) ∷ []))
        (first_ext (count l) (λ i. pick (opens_by front low high i) (good_in l i) true) (λ i. pick (opens l low high i) (good_in l i) true)
        (λ i h. ap (λ t. pick t (good_in l i) true) (same-opens i h)))
        (first_ext (count l) (λ i. pick (opens_by front low high i) (has_true_range l i) true) (λ i. pick (opens l low high i) (has_true_range l i) true)
        (λ i h. ap (λ t. pick t (has_true_range l i) true) (same-opens i h)))

    -- the rows of the first n blocks
    rows_to : (n : ℕ) → n ≤ count l → rows_after front (body_of l) low high n ≡ found_to l low high n
    unfolding rows_after
    rows_to zero h = sym (passing-none_yet 0 (listed l low high))
    rows_to (suc n) h = go (opens l low high n) refl (rows_to n (omega arith))
      where
        there : n < count l
        there = omega arith

        block : List ℕ
        block = block_of (entry_or front n) (body_of l n)

        go : (t : Bool) → opens l low high n ≡ t → rows_after front (body_of l) low high n ≡ found_to l low high n
            → rows_after front (body_of l) low high n ++ pick (opens_by front low high n) (rows_in block n low high) [] ≡ found_to l low high (suc n)
        go true e before =
            ap₂ ◌++◌ before (ap₂ (λ t b. pick t (rows_in b n low high) []) (same-opens n there ∙ e) (block_is l front held done n there))
            ∙ sym (found_open l low high n e)
            ∙ ap (found_to l low high) (add-one n)
        go false e before =
            ap₂ ◌++◌ before (ap (λ t. pick t (rows_in block n low high) []) (same-opens n there ∙ e))
            ∙ append-nil (found_to l low high n)
            ∙ sym (found_shut l low high n e)
            ∙ ap (found_to l low high) (add-one n)

    rows_are : rows_by front (body_of l) low high ≡ found l low high
    rows_are =
        ap (rows_after front (body_of l) low high) count-is ∙ rows_to (count l) (omega arith) ∙ found_all l low high (count l) refl

    blocks_are : passing 0 (count_or front) (opens_by front low high) ≡ opened l low high
    unfolding opened
    blocks_are =
        ap (λ n. passing 0 n (opens_by front low high)) count-is
        ∙ passing_ext 0 (count l) (opens_by front low high) (opens l low high) (λ k _ h. same-opens k (omega arith))

    module _ (rows : List ℕ) where
      abbrev room : FileAnswer
      room = file_answer ((leb (length (found l low high)) (length rows), Err Room) ∷ [])

      -- behind the opened blocks the room decides
      behind : left (file_answer (opened_tests l low high)) room (file_answer (opened_tests l low high)) ≡ file_answer (search_tests l low high rows)
      behind =
          let o = file_answer (opened_tests l low high) in
          elim (ℕ_discrete (number_of o) 0) [
            | yes z ↦ let good = number-done o z in
                ap (λ a. left a room a) good ∙ sym (in_front-done (opened_tests l low high) _ refl good) ∙ sym (in_front-done (contents_tests l (length l)) _ refl done)
            | no n ↦ left-refused o room o n
                ∙ sym (in_front-refused (opened_tests l low high) _ (λ d. n (ap number_of d)))
                ∙ sym (in_front-done (contents_tests l (length l)) _ refl done)
          ]

      answer-is : answer_by front (length l) (body_of l) low high rows ≡ file_answer (search_tests l low high rows)
      unfolding answer_by
      answer-is = ap₂ (λ a r. left a (file_answer ((leb (length r) (length rows), Err Room) ∷ [])) a) bodies_are rows_are ∙ behind

      right-found : searched_by front (length l) (body_of l) low high rows ≡ found_of l low high rows
      unfolding searched_by found_of
      right-found =
          ap₂ (λ r b. giving (answer_by front (length l) (body_of l) low high rows) (counts (length r) (length b))) rows_are blocks_are
          ∙ ap (λ a. giving a (counts (length (found l low high)) (length (opened l low high)))) answer-is

      right-left : left_by front (length l) (body_of l) low high rows ≡ search_leaves l low high rows
      unfolding left_by search_leaves
      right-left = ap₂ (λ a r. left a (over 0 r rows) rows) answer-is rows_are

  -- ---- contents that are refused

  module _ (n : number_of (file_answer (contents_tests l (length l))) ≡ 0 → ⊥) (rows : List ℕ) where
    abbrev refusal : FileAnswer
    refusal = file_answer (contents_tests l (length l))

    refused : refusal ≡ Ok tt → ⊥
    refused d = n (ap number_of d)

    answer-stays : answer_by front (length l) (body_of l) low high rows ≡ refusal
    unfolding answer_by
    answer-stays =
        ap (λ a. left a (file_answer ((leb (length (rows_by front (body_of l) low high)) (length rows), Err Room) ∷ [])) a)
        (chosen-refused l front held (opens_by front low high) refused (count_or front))
        ∙ left-refused refusal _ refusal n

    both-refused : (searched_by front (length l) (body_of l) low high rows ≡ found_of l low high rows)
        × (left_by front (length l) (body_of l) low high rows ≡ search_leaves l low high rows)
    unfolding searched_by left_by found_of search_leaves
    both-refused =
        let first = contents-first l low high rows refused in
        let mine = counts (length (rows_by front (body_of l) low high)) (length (passing 0 (count_or front) (opens_by front low high))) in
        let its = counts (length (found l low high)) (length (opened l low high)) in (
          ap (λ a. giving a mine) answer-stays ∙ refused-same refusal n mine its ∙ sym (ap (λ a. giving a its) first),
          ap (λ a. left a (over 0 (rows_by front (body_of l) low high) rows) rows) answer-stays
              ∙ left-refused refusal _ rows n
              ∙ sym (left-refused refusal _ rows n)
              ∙ sym (ap (λ a. left a (over 0 (found l low high) rows) rows) first),
        )

  -- The contents and the opened bodies, in their order, give the search's answer and its rows.
  pub searched_is : (rows : List ℕ)
      → (searched_by front (length l) (body_of l) low high rows ≡ found_of l low high rows)
      × (left_by front (length l) (body_of l) low high rows ≡ search_leaves l low high rows)
  searched_is rows =
      elim (ℕ_discrete (number_of (file_answer (contents_tests l (length l)))) 0) [
        | yes z ↦ let done = number-done (file_answer (contents_tests l (length l))) z in (right-found done rows, right-left done rows)
        | no n ↦ both-refused n rows
      ]

-- So does a program that reads the front of a file, and then each opened body.
pub searched_by-bodies : (l : List ℕ) (low high : ℕ) (rows : List ℕ)
    → (searched_by (front_of l) (length l) (body_of l) low high rows ≡ found_of l low high rows)
    × (left_by (front_of l) (length l) (body_of l) low high rows ≡ search_leaves l low high rows)
searched_by-bodies l low high rows = searched_is l (front_of l) (front-right l) low high rows
