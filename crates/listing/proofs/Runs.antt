-- The theorem: a run of the machine on two files, whatever they are, ends, and writes the text of R118 to R121 (R128).
-- And no wish of the machine, in any state, is for more than its buffer has room for (R129).
-- Assumes nothing.
use mathlib.Core.Bool.{Bool, true, false}
use mathlib.Core.List.{List, [], ◌++◌, append-nil, append_assoc}
use mathlib.Core.Path.{◌≡◌, refl, sym, ap, ap₂, ◌∙◌}
use Prim.Native.Nat.{ℕ, zero, suc, ◌+◌, ◌*◌, ◌-◌, ◌≤◌, ◌<◌, min, zero-le}
use native.Mathlib.Nat.{zero-add, add-zero}
use native.Mathlib.Numerals.{add-one}
use native.Mathlib.Omega.{arith}
use lib.ListN.{length, take, replicate, length-append, length-replicate}
use borrow.Author.Tests.{eqb-true}
use Rattle.std.specs.Prelude.{Ok}
use Rattle.lists.specs.Pick.{pick}
use Rattle.lists.specs.Tab.{over}
use Rattle.lists.proofs.Overs.{over-front}
use Rattle.places.specs.Sizes.{largest_u64}
use Rattle.contents.specs.Answers.{file_answer, number_of, is_done}
use Rattle.contents.specs.Contents.{count, count_or, entry_or, body_start, contents_tests}
use Rattle.contents.proofs.Accepted.{done_first}
use Rattle.contents.proofs.Answers.{number-done}
use Rattle.bodies.specs.Bodies.{block_of}
use Rattle.bodywise.specs.Cursor.{body_at, first_body, next_body}
use Rattle.bodywise.specs.Steps.{body_tests, range_tests, front_of}
use Rattle.bodywise.proofs.Fronts.{front-right}
use Rattle.bodywise.proofs.Told.{whole}
use Rattle.bodywise.proofs.Walking.{first_walking, next_walking, next-number}
use Rattle.files.specs.Files.{body_of, block_in, row_count}
use Rattle.files.proofs.Held.{again-answer, again-range}
use Rattle.files.proofs.Ranges.{contents-right, file-runs}
use Rattle.compare.specs.declared.Change.{Change}
use Rattle.compare.specs.Changes.{differing, changes_in, changes_of, changes_to}
use Rattle.compare.proofs.Lists.{blocks_list}
use Rattle.wishes.specs.declared.Side.TheVariants.{Left, Right}
use Rattle.wishes.specs.declared.Part.TheVariants.{Body as OfBody}
use Rattle.wishes.specs.declared.Wish.TheVariants.{Write}
use Rattle.wishes.specs.Runs.{Held, filled, part_at, before, runs_by}
use Rattle.wishes.proofs.Turn.{wrote, did_read}
use Rattle.listing.specs.declared.Stage.TheVariants.{Checked, Again}
use Rattle.listing.specs.declared.State.{State}
use Rattle.listing.specs.Text.{lines_of, last_lines, changes_text, answer_to, unless_refused, listing_of, blocks_of, turns_of}
use Rattle.listing.specs.Machine.{given, turn_to, body_wish, at_bodies, between, past, begin, ask_again, listed, compared, both_there, start_of, most_turns, next_of}
use Rattle.listing.proofs.Stages.{over-text, over-room, at_checked, at-between, at-left-again, at-right-again, on_more, on_over, there_both, laid_good, compared-taken}
use Rattle.listing.proofs.Lines.{lines_none, lines_append}
use Rattle.listing.proofs.Listed.{changes-long, differ_few}
use Rattle.listing.proofs.Checks.{body-read, again_walking, printed, last_text_lem, checks_file}

-- ---- the changes, from a block on

-- The changes of b blocks from block i on.
changes_from : (l m : List ℕ) (i b : ℕ) → List Change
changes_from l m i zero = []
changes_from l m i (suc b) = changes_in i (block_in l i) (block_in m i) ++ changes_from l m (suc i) b

to_from : (l m : List ℕ) (b i : ℕ) → changes_to l m (i + b) ≡ changes_to l m i ++ changes_from l m i b
unfolding changes_to changes_from
to_from l m zero i = ap (changes_to l m) (add-zero i) ∙ sym (append-nil (changes_to l m i))
to_from l m (suc b) i =
    let e : i + suc b ≡ suc i + b = omega arith in
    ap (changes_to l m) e ∙ to_from l m b (suc i) ∙ append_assoc (changes_to l m i) (changes_in i (block_in l i) (block_in m i)) (changes_from l m (suc i) b)

all_from : (l m : List ℕ) → changes_from l m 0 (min (count l) (count m)) ≡ changes_of l m
unfolding changes_to
all_from l m =
    sym (to_from l m (min (count l) (count m)) 0) ∙ ap (changes_to l m) (zero-add (min (count l) (count m))) ∙ blocks_list l m

-- ---- one file that is taken

module _ (l : List ℕ) (accepted : answer_to l ≡ Ok tt) where
  contents-done : file_answer (contents_tests l (length l)) ≡ Ok tt
  contents-done = contents-right l (file-runs l accepted)

  blocks_taken : blocks_of l ≡ count l
  unfolding blocks_of
  blocks_taken = ap (λ a. pick (is_done a) (count l) 0) contents-done

  module _ (i : ℕ) (h : i < count l) where
    body-taken : file_answer (body_tests (front_of l) i (body_of l i)) ≡ Ok tt
    body-taken =
        let zeros : List ℕ = replicate 1024 0 in
        (done_first _ _ refl (again-answer l (front_of l) (front-right l) accepted i h zeros (length-replicate {A = ℕ} 1024 0))).1

    block_read : block_of (entry_or (front_of l) i) (body_of l i) ≡ block_in l i
    unfolding block_in
    block_read = ap (λ e. block_of e (body_of l i)) ((front-right l).entry-is contents-done i h)

    range-taken : file_answer (range_tests (front_of l) i (block_in l i)) ≡ Ok tt
    range-taken = again-range l (front_of l) (front-right l) accepted i h

  -- where the next body begins
  next-at : (i at : ℕ) → length l < 18446744073709551616 → i < count l → at ≡ body_start l i
      → ((next_body (front_of l) (body_at (front_of l) i at)).number ≡ suc i) × ((next_body (front_of l) (body_at (front_of l) i at)).at ≡ body_start l (suc i))
  next-at i at fits h e =
      let walk = again_walking l contents-done i at (omega arith) e in
      let number = next-number l (front_of l) (front-right l) contents-done fits (body_at (front_of l) i at) walk h ∙ add-one i in
      (number, (next_walking l (front_of l) (front-right l) contents-done fits (body_at (front_of l) i at) walk h).start ∙ ap (body_start l) number)

  first-at : (first_body (front_of l)).at ≡ body_start l 0
  unfolding first_body
  first-at = (first_walking l (front_of l) (front-right l) contents-done).start

-- ---- the list

module _ (l m : List ℕ) (left-taken : answer_to l ≡ Ok tt) (right-taken : answer_to m ≡ Ok tt)
    (left-fits : length l < 18446744073709551616) (right-fits : length m < 18446744073709551616) where
  abbrev n : ℕ
  n = min (count l) (count m)

  few : n ≤ 256
  few = omega (arith, (whole l (contents-done l left-taken)).few)

  blocks_both : min (count_or (front_of l)) (count_or (front_of m)) ≡ n
  blocks_both = ap₂ min ((front-right l).count-is (contents-done l left-taken)) ((front-right m).count-is (contents-done m right-taken))

  -- The state is before block i, and the buffers hold both fronts.
  record Before (i : ℕ) (s : State) (h : Held) : Type 0 where
    number_is : s.number ≡ i
    left_is : s.left.at ≡ body_start l i
    right_is : s.right.at ≡ body_start m i
    left-front : h.left_front_lem ≡ front_of l
    right-front : h.right_front_lem ≡ front_of m

  -- Both bodies are there: the block is listed.
  block_listed : (i : ℕ) (s : State) (out : List ℕ) → s.number ≡ i → i < n
      → both_there s (front_of l) (front_of m) (body_of l i) (body_of m i) out ≡ listed s (front_of l) (front_of m) (block_in l i) (block_in m i) out
  block_listed i s out e h =
      there_both s (front_of l) (front_of m) out (body_of l i) (body_of m i) (omega (arith, blocks_both))
      ∙ laid_good s (front_of l) (front_of m) out (body_of l i) (body_of m i) {a = file_answer (body_tests (front_of l) s.number (body_of l i))} {b = file_answer (body_tests (front_of m) s.number (body_of m i))}
      refl (ap number_of (ap (λ k. file_answer (body_tests (front_of l) k (body_of l i))) e ∙ body-taken l left-taken i (omega arith)))
      refl (ap number_of (ap (λ k. file_answer (body_tests (front_of m) k (body_of m i))) e ∙ body-taken m right-taken i (omega arith)))
      ∙ ap₂ (λ x y. compared s (front_of l) (front_of m) x y out)
      (ap (λ k. block_of (entry_or (front_of l) k) (body_of l i)) e ∙ block_read l left-taken i (omega arith))
      (ap (λ k. block_of (entry_or (front_of m) k) (body_of m i)) e ∙ block_read m right-taken i (omega arith))
      ∙ compared-taken s (front_of l) (front_of m) out (block_in l i) (block_in m i)
      (ap (λ k. file_answer (range_tests (front_of l) k (block_in l i))) e ∙ range-taken l left-taken i (omega arith))
      (ap (λ k. file_answer (range_tests (front_of m) k (block_in m i))) e ∙ range-taken m right-taken i (omega arith))

  -- What is written from block i on, with so many rows before it that differ.
  rest : (i b d : ℕ) → List ℕ
  rest i b d = lines_of (changes_from l m i b) ++ last_lines (row_count l) (row_count m) (d + length (changes_from l m i b))

  rest-none : (i d : ℕ) → rest i 0 d ≡ last_lines (row_count l) (row_count m) d
  unfolding rest changes_from
  rest-none i d = ap₂ (λ x k. x ++ last_lines (row_count l) (row_count m) k) lines_none (add-zero d)

  rest_more : (i b d : ℕ) → lines_of (changes_in i (block_in l i) (block_in m i)) ++ rest (suc i) b (d + length (differing (block_in l i) (block_in m i))) ≡ rest i (suc b) d
  unfolding rest changes_from
  rest_more i b d =
      let c = changes_in i (block_in l i) (block_in m i) in
      let r = changes_from l m (suc i) b in
      let k : d + length (differing (block_in l i) (block_in m i)) + length r ≡ d + length (c ++ r) =
      omega (arith, length-append c r, changes-long i (block_in l i) (block_in m i)) in
      sym (append_assoc (lines_of c) (lines_of r) _)
      ∙ ap₂ (λ x k. x ++ last_lines (row_count l) (row_count m) k) (sym (lines_append c r)) k

  last_are : (d : ℕ) → last_lines (count_or (front_of l) * 1024) (count_or (front_of m) * 1024) d ≡ last_lines (row_count l) (row_count m) d
  last_are d =
      let a : count_or (front_of l) * 1024 ≡ row_count l = omega (arith, (front-right l).count-is (contents-done l left-taken)) in
      let b : count_or (front_of m) * 1024 ≡ row_count m = omega (arith, (front-right m).count-is (contents-done m right-taken)) in
      ap₂ (λ a b. last_lines a b d) a b

  -- The three turns of a block: what the run does behind them is given.
  one_block : (k i d w : ℕ) (s : State) (h : Held) (out text : List ℕ) → Before i s h → i < n → d ≤ 1024 * i → w ≤ length out → 65536 ≤ length out → 3 ≤ k
      → ((s : State) (h : Held) (out : List ℕ) → Before (suc i) s h → 65536 ≤ length out
      → length (lines_of (changes_in i (block_in l i) (block_in m i))) ≤ length out
      → take (length (lines_of (changes_in i (block_in l i) (block_in m i)))) out ≡ lines_of (changes_in i (block_in l i) (block_in m i))
      → runs_by next_of l m (k - 1 - 1 - 1)
      (given (between s (d + length (differing (block_in l i) (block_in m i))) (length (lines_of (changes_in i (block_in l i) (block_in m i))))) out) h
      ≡ before (lines_of (changes_in i (block_in l i) (block_in m i))) (printed text))
      → runs_by next_of l m k (given (between s d w) out) h ≡ before (take w out) (before (lines_of (changes_in i (block_in l i) (block_in m i))) (printed text))
  unfolding listed
  one_block k i d w s h out text is more small pending room some next =
      let lf = front_of l in
      let rf = front_of m in
      let lines = lines_of (changes_in i (block_in l i) (block_in m i)) in
      let s₀ : State = (between s d w).state in
      let left = body_at lf s.number s.left.at in
      let right = body_at rf s.number s.right.at in
      let s₁ : State = (turn_to s₀ (Again Left) (body_wish Left left)).state in
      let left-bytes = part_at l left.at (min left.entry.length 10240) in
      let h₁ = filled h Left OfBody left-bytes in
      let s₂ : State = (turn_to s₁ (Again Right) (body_wish Right right)).state in
      let right-bytes = part_at m right.at (min right.entry.length 10240) in
      let h₂ = filled h₁ Right OfBody right-bytes in
      let left-start : s.left.at ≡ body_start l s.number = is.left_is ∙ ap (body_start l) (sym is.number_is) in
      let right-start : s.right.at ≡ body_start m s.number = is.right_is ∙ ap (body_start m) (sym is.number_is) in
      let in_left : s.number < count l = omega (arith, is.number_is) in
      let in_right : s.number < count m = omega (arith, is.number_is) in
      let left_body : left-bytes ≡ body_of l i =
      body-read l (contents-done l left-taken) left (again_walking l (contents-done l left-taken) s.number s.left.at (omega arith) left-start) in_left
      ∙ ap (body_of l) is.number_is in
      let right-body : right-bytes ≡ body_of m i =
      body-read m (contents-done m right-taken) right (again_walking m (contents-done m right-taken) s.number s.right.at (omega arith) right-start) in_right
      ∙ ap (body_of m) is.number_is in
      let out' = over 0 lines out in
      let s₃ : State = past s₂ lf rf in
      let left-next = next-at l left-taken s.number s.left.at left-fits in_left left-start in
      let right-next = next-at m right-taken s.number s.right.at right-fits in_right right-start in
      let many : min (d + length (differing (block_in l i) (block_in m i))) largest_u64 ≡ d + length (differing (block_in l i) (block_in m i)) =
      omega (arith, few, differ_few (block_in l i) (block_in m i)) in
      wrote next_of l m k w s₀ h out (given (ask_again s₀ Left s.left.at lf) out) (omega arith) pending
      (at-between s₀ h out room refl
      ∙ on_more s₀ h.left_front_lem h.right_front_lem out (omega (arith, blocks_both, is.number_is, ap₂ (λ x y. min (count_or x) (count_or y)) is.left-front is.right-front))
      ∙ ap (λ f. given (ask_again s₀ Left s.left.at f) out) is.left-front)
      ∙ ap (before (take w out))
      (did_read next_of l m (k - 1) Left OfBody left.at (min left.entry.length 10240) s₁ h out (given (ask_again s₁ Right s.right.at rf) out) (omega arith) (omega arith)
      (at-left-again s₁ h₁ out room refl ∙ ap (λ f. given (ask_again s₁ Right s.right.at f) out) is.right-front)
      ∙ did_read next_of l m (k - 1 - 1) Right OfBody right.at (min right.entry.length 10240) s₂ h₁ out
      (given (between s₃ (d + length (differing (block_in l i) (block_in m i))) (length lines)) out') (omega arith) (omega arith)
      (at-right-again s₂ h₂ out room refl
      ∙ (λ j. both_there s₂ (is.left-front j) (is.right-front j) (left_body j) (right-body j) out)
      ∙ block_listed i s₂ out is.number_is more
      ∙ (λ j. given (between s₃ (many j) (length (lines_of (changes_in (is.number_is j) (block_in l i) (block_in m i)))))
      (over 0 (lines_of (changes_in (is.number_is j) (block_in l i) (block_in m i))) out)))
      ∙ next s₃ h₂ out'
      (record {
        number_is = left-next.0 ∙ ap suc is.number_is;
        left_is = left-next.1 ∙ ap (λ i. body_start l (suc i)) is.number_is;
        right_is = right-next.1 ∙ ap (λ i. body_start m (suc i)) is.number_is;
        left-front = is.left-front;
        right-front = is.right-front;
      })
      (omega (arith, over-room lines out)) (over-text lines out) (over-front lines out))

  -- All blocks from block i on, and the last lines.
  lists : (b k i d w : ℕ) (s : State) (h : Held) (out : List ℕ) → Before i s h → i + b ≡ n → d ≤ 1024 * i → w ≤ length out → 65536 ≤ length out → 3 * b + 3 ≤ k
      → runs_by next_of l m k (given (between s d w) out) h ≡ before (take w out) (printed (rest i b d))
  lists zero k i d w s h out is all small pending room some =
      let s₀ : State = (between s d w).state in
      wrote next_of l m k w s₀ h out _ (omega arith) pending
      (at-between s₀ h out room refl
      ∙ on_over s₀ h.left_front_lem h.right_front_lem out (omega (arith, blocks_both, is.number_is, ap₂ (λ x y. min (count_or x) (count_or y)) is.left-front is.right-front)))
      ∙ ap (before (take w out))
      (last_text_lem l m (k - 1) s₀ (last_lines (count_or h.left_front_lem * 1024) (count_or h.right_front_lem * 1024) d) out h (omega arith) room
      ∙ ap printed (ap₂ (λ x y. last_lines (count_or x * 1024) (count_or y * 1024) d) is.left-front is.right-front ∙ last_are d ∙ sym (rest-none i d)))
  lists (suc b) k i d w s h out is all small pending room some =
      let x = differing (block_in l i) (block_in m i) in
      let lines = lines_of (changes_in i (block_in l i) (block_in m i)) in
      one_block k i d w s h out (rest (suc i) b (d + length x)) is (omega arith) small pending room (omega arith)
      (λ s h out is room fits laid.
      lists b (k - 1 - 1 - 1) (suc i) (d + length x) (length lines) s h out is (omega arith) (omega (arith, differ_few (block_in l i) (block_in m i))) fits room (omega arith)
      ∙ ap (λ x. before x (printed (rest (suc i) b (d + length (differing (block_in l i) (block_in m i)))))) laid)
      ∙ ap (λ x. before (take w out) (printed x)) (rest_more i b d)

  -- Both files are checked: the list is printed.
  pub lists_all : (k : ℕ) (s : State) (h : Held) (out : List ℕ) → h.left_front_lem ≡ front_of l → h.right_front_lem ≡ front_of m → 65536 ≤ length out → 3 * n + 4 ≤ k
      → runs_by next_of l m k (given (turn_to s Checked (Write 0)) out) h ≡ printed (changes_text l m)
  unfolding changes_text rest
  lists_all k s h out left-front right-front room some =
      let s₀ : State = (turn_to s Checked (Write 0)).state in
      let s₁ : State = at_bodies s₀ 0 (first_body (front_of l)).at (first_body (front_of m)).at in
      wrote next_of l m k 0 s₀ h out (given (between s₁ 0 0) out) (omega arith) (omega arith)
      (at_checked s₀ h out room refl ∙ ap₂ (λ x y. given (begin s₀ x y) out) left-front right-front)
      ∙ lists n (k - 1) 0 0 0 s₁ h out
      (record { number_is = refl; left_is = first-at l left-taken; right_is = first-at m right-taken; left-front = left-front; right-front = right-front })
      (omega arith) (omega arith) (omega arith) room (omega arith)
      ∙ ap printed
      (ap₂ (λ x k. lines_of x ++ last_lines (row_count l) (row_count m) k) (all_from l m) (zero-add (length (changes_from l m 0 n)) ∙ ap length (all_from l m)))

-- ---- the theorem

-- A run on two files, whatever they are and whatever stands in the buffers at first, of as many turns as are said for
-- them or of more, ends and writes what is to be printed of them, where the output has room for the lines of a block.
pub prints : (l m : List ℕ) (h : Held) (out : List ℕ) (k : ℕ) → length l < 18446744073709551616 → length m < 18446744073709551616 → 65536 ≤ length out
    → turns_of l m ≤ k → runs_by next_of l m k (given (start_of (length l) (length m)) out) h ≡ printed (listing_of l m)
unfolding listing_of turns_of
prints l m h out k left-fits right-fits room enough =
    let last : ℕ = 4 + 3 * min (blocks_of l) (blocks_of m) in
    checks_file l m Left (2 + blocks_of m + last) h.right_front_lem (unless_refused Right m (changes_text l m)) out room (omega arith) left-fits
    (λ k s h some sized left-front _ left-taken.
    checks_file l m Right last (front_of l) (changes_text l m) out room (omega arith) right-fits
    (λ k s h some sized right-front left-front right-taken.
    lists_all l m left-taken right-taken left-fits right-fits k s h out left-front right-front room
    (omega (arith, blocks_taken l left-taken, blocks_taken m right-taken)))
    k s h sized left-front (omega arith))
    k (start_of (length l) (length m)).state h (record { left-long = refl; right-long = refl }) refl (omega arith)

-- The program counts its turns down from a number that is enough for all files.
few_blocks : (l : List ℕ) → blocks_of l ≤ 256
unfolding blocks_of
few_blocks l = go (is_done (file_answer (contents_tests l (length l)))) refl
  where
    go : (t : Bool) → is_done (file_answer (contents_tests l (length l))) ≡ t → pick t (count l) 0 ≤ 256
    go true e = (whole l (number-done (file_answer (contents_tests l (length l))) (eqb-true (number_of (file_answer (contents_tests l (length l)))) 0 e))).few
    go false e = zero-le

pub turns-enough : (l m : List ℕ) → turns_of l m ≤ most_turns
unfolding turns_of
turns-enough l m = omega (arith, few_blocks l, few_blocks m)
