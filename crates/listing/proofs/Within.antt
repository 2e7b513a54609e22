-- No wish of the machine, in any state, is for more than its buffer or the output has.
-- Assumes nothing.
use mathlib.Core.Bool.{Bool, true, false}
use mathlib.Core.List.{List}
use mathlib.Core.Path.{◌≡◌, refl}
use Prim.Native.Nat.{ℕ, ◌*◌, min}
use native.Mathlib.Omega.{arith}
use lib.Dec.{eqb, leb, ltb}
use lib.ListN.{length}
use borrow.Author.Tests.{le-leb}
use Rattle.std.specs.Prelude.{Ok}
use Rattle.lists.specs.Pick.{pick, both}
use Rattle.lists.specs.Tab.{over}
use Rattle.contents.specs.Answers.{FileAnswer, file_answer, is_done}
use Rattle.contents.specs.Contents.{count_or, entry_or, contents_tests}
use Rattle.bodies.specs.Bodies.{block_of}
use Rattle.bodywise.specs.declared.Body.{Body}
use Rattle.bodywise.specs.Cursor.{body_at, first_body, next_body}
use Rattle.bodywise.specs.Steps.{body_tests, range_tests, step_of, front_size}
use Rattle.compare.specs.Changes.{differing, changes_in}
use Rattle.compare.specs.Ranges.{same_range}
use Rattle.wishes.specs.declared.Side.{Side}
use Rattle.wishes.specs.declared.Side.TheVariants.{Left, Right}
use Rattle.wishes.specs.Runs.{Held, Given, is_within}
use Rattle.listing.specs.declared.Stage.{Stage}
use Rattle.listing.specs.declared.Stage.TheVariants.{Head, Front, Checking, Checked, Between, Again, End}
use Rattle.listing.specs.declared.State.{State}
use Rattle.listing.specs.Text.{lines_of, refusal_line, last_lines}
use Rattle.listing.specs.Machine.{given, done_turn, last_text, refusal, blocks_in_both, body_wish, ask_body, behind, go_to, checked_by, check_front, check_body, go_on, ask_again, listed, still_taken, compared, both_laid, both_there, by_stage, next_of}
use Rattle.listing.proofs.Stages.{over-text}
use Rattle.listing.proofs.Checks.{front-most}

-- A wish of the machine, in any state and with anything in the buffers, is for no more than its buffer or the output
-- has.
refusal-within : (s : State) (side : Side) (a : FileAnswer) (out : List ℕ) → is_within (refusal s side a out).wish (refusal s side a out).out ≡ true
unfolding refusal
refusal-within s side a out = le-leb (length (refusal_line side a)) (length (over 0 (refusal_line side a) out)) (over-text (refusal_line side a) out)

body-within : (side : Side) (b : Body) (out : List ℕ) → is_within (body_wish side b) out ≡ true
body-within side b out = le-leb (min b.entry.length 10240) 10240 (omega arith)

pick-within : (t : Bool) (g h : Given State) → is_within g.wish g.out ≡ true → is_within h.wish h.out ≡ true
    → is_within (pick t g h).wish (pick t g h).out ≡ true
pick-within true g h a b = a
pick-within false g h a b = b

go_within : (s : State) (side : Side) (front : List ℕ) (b : Body) (out : List ℕ) → is_within (go_to s side front b).wish out ≡ true
unfolding go_to
go_within s side front b out = go (ltb b.number (count_or front)) side
  where
    go : (t : Bool) (side : Side) → is_within (pick t (ask_body s side b) (behind s side)).wish out ≡ true
    go true side = body-within side b out
    go false Left = refl
    go false Right = le-leb 0 (length out) (omega arith)

checked_within : (a : FileAnswer) (s : State) (side : Side) (front : List ℕ) (b : Body) (out : List ℕ)
    → is_within (checked_by a s side front b out).wish (checked_by a s side front b out).out ≡ true
checked_within a s side front b out = pick-within (is_done a) (given (go_to s side front b) out) (refusal s side a out) (go_within s side front b out) (refusal-within s side a out)

still_within : (a : FileAnswer) (s : State) (side : Side) (out : List ℕ) (g : Given State) → is_within g.wish g.out ≡ true
    → is_within (still_taken a s side out g).wish (still_taken a s side out g).out ≡ true
still_within a s side out g e = pick-within (is_done a) g (refusal s side a out) e (refusal-within s side a out)

module _ (s : State) (lf rf : List ℕ) where
  listed-within : (left right out : List ℕ) → is_within (listed s lf rf left right out).wish (listed s lf rf left right out).out ≡ true
  unfolding listed
  listed-within left right out =
      let text = lines_of (changes_in s.number left right) in
      le-leb (length text) (length (over 0 text out)) (over-text text out)

  compared-within : (left right out : List ℕ) → is_within (compared s lf rf left right out).wish (compared s lf rf left right out).out ≡ true
  unfolding compared
  compared-within left right out =
      pick-within (both (eqb (length (differing left right)) 0) (same_range lf rf s.number)) (listed s lf rf left right out)
      (still_taken (file_answer (range_tests lf s.number left)) s Left out (still_taken (file_answer (range_tests rf s.number right)) s Right out (listed s lf rf left right out)))
      (listed-within left right out)
      (still_within (file_answer (range_tests lf s.number left)) s Left out (still_taken (file_answer (range_tests rf s.number right)) s Right out (listed s lf rf left right out))
      (still_within (file_answer (range_tests rf s.number right)) s Right out (listed s lf rf left right out) (listed-within left right out)))

  laid_within : (lb rb out : List ℕ) → is_within (both_laid s lf rf lb rb out).wish (both_laid s lf rf lb rb out).out ≡ true
  unfolding both_laid
  laid_within lb rb out =
      let left = block_of (entry_or lf s.number) lb in
      let right = block_of (entry_or rf s.number) rb in
      still_within (file_answer (body_tests lf s.number lb)) s Left out
      (still_taken (file_answer (body_tests rf s.number rb)) s Right out (compared s lf rf left right out))
      (still_within (file_answer (body_tests rf s.number rb)) s Right out (compared s lf rf left right out) (compared-within left right out))

  there_within : (lb rb out : List ℕ) → is_within (both_there s lf rf lb rb out).wish (both_there s lf rf lb rb out).out ≡ true
  unfolding both_there
  there_within lb rb out =
      pick-within (leb (blocks_in_both lf rf) s.number) (given (done_turn s) out) (both_laid s lf rf lb rb out) refl (laid_within lb rb out)

  on_within : (out : List ℕ) → is_within (go_on s lf rf out).wish (go_on s lf rf out).out ≡ true
  unfolding go_on
  on_within out =
      let text = last_lines (count_or lf * 1024) (count_or rf * 1024) s.differences in
      pick-within (ltb s.number (blocks_in_both lf rf)) (given (ask_again s Left s.left.at lf) out) (last_text s text out)
      (body-within Left (body_at lf s.number s.left.at) out) (le-leb (length text) (length (over 0 text out)) (over-text text out))

stage_within : (g : Stage) (s : State) (h : Held) (out : List ℕ) → is_within (by_stage g s h out).wish (by_stage g s h out).out ≡ true
unfolding by_stage check_front check_body
stage_within (Head Left) s h out = le-leb (front_size h.left_front_lem) 8196 (front-most h.left_front_lem)
stage_within (Head Right) s h out = le-leb (front_size h.right_front_lem) 8196 (front-most h.right_front_lem)
stage_within (Front Left) s h out =
    checked_within (file_answer (contents_tests h.left_front_lem s.left.size)) s Left h.left_front_lem (first_body h.left_front_lem) out
stage_within (Front Right) s h out =
    checked_within (file_answer (contents_tests h.right_front_lem s.right.size)) s Right h.right_front_lem (first_body h.right_front_lem) out
stage_within (Checking Left) s h out =
    checked_within (step_of (Ok tt) h.left_front_lem s.number h.left_body_lem) s Left h.left_front_lem (next_body h.left_front_lem (body_at h.left_front_lem s.number s.left.at)) out
stage_within (Checking Right) s h out =
    checked_within (step_of (Ok tt) h.right_front_lem s.number h.right_body_lem) s Right h.right_front_lem (next_body h.right_front_lem (body_at h.right_front_lem s.number s.right.at)) out
stage_within Checked s h out = le-leb 0 (length out) (omega arith)
stage_within Between s h out = on_within s h.left_front_lem h.right_front_lem out
stage_within (Again Left) s h out = body-within Right (body_at h.right_front_lem s.number s.right.at) out
stage_within (Again Right) s h out = there_within s h.left_front_lem h.right_front_lem h.left_body_lem h.right_body_lem out
stage_within End s h out = refl

pub wish-within : (s : State) (h : Held) (out : List ℕ) → is_within (next_of s h out).wish (next_of s h out).out ≡ true
unfolding next_of
wish-within s h out = pick-within (leb 65536 (length out)) (by_stage s.stage s h out) (given (done_turn s) out) (stage_within s.stage s h out) refl
