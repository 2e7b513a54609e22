-- The check of one file: a run that begins with its first four bytes writes the refusal of the file, or goes on behind
-- it. Left and right are one law, and what comes behind is a premise of it.
-- Assumes nothing.
use mathlib.Core.Bool.{Bool, true, false}
use mathlib.Core.List.{List, append-nil}
use mathlib.Core.Path.{◌≡◌, refl, sym, ap, ap₂, ◌∙◌}
use Prim.Native.Nat.{ℕ, zero, suc, ◌+◌, ◌-◌, ◌≤◌, ◌<◌, min}
use native.Mathlib.Decide.{ℕ_discrete}
use native.Mathlib.Nat.{zero-add}
use native.Mathlib.Numerals.{add-one}
use native.Mathlib.Omega.{arith}
use lib.Dec.{leb}
use lib.ListN.{length, take, drop}
use borrow.Author.Tests.{eqb-true, eqb-false, leb-true}
use Rattle.std.specs.Prelude.{Ok}
use Rattle.lists.specs.Pick.{pick}
use Rattle.lists.specs.Tab.{over}
use Rattle.lists.proofs.Overs.{over-front}
use Rattle.contents.specs.declared.Entry.{Entry}
use Rattle.contents.specs.Answers.{FileAnswer, file_answer, number_of, is_done}
use Rattle.contents.specs.Contents.{edition_or, count_or, count, contents_size, entry_of, body_start, is_laid_out, contents_tests}
use Rattle.contents.proofs.Answers.{number-done, in_front-refused}
use Rattle.contents.proofs.Laid.{laid_packed, laid_frame, laid_differences, laid_runs, laid_kind}
use Rattle.bodywise.specs.declared.Body.{Body}
use Rattle.bodywise.specs.Cursor.{body_at, first_body, next_body}
use Rattle.bodywise.specs.Steps.{step_of, answer_after, front_size, front_of}
use Rattle.bodywise.proofs.Fronts.{front-right, by_size}
use Rattle.bodywise.proofs.Steps.{step_settled}
use Rattle.bodywise.proofs.Told.{body_laid}
use Rattle.bodywise.proofs.Walking.{Walking, first_walking, next_walking, next-number}
use Rattle.files.specs.Files.{body_of}
use Rattle.files.proofs.Held.{held-answer}
use Rattle.wishes.specs.declared.Side.{Side}
use Rattle.wishes.specs.declared.Side.TheVariants.{Left, Right}
use Rattle.wishes.specs.declared.Part.TheVariants.{Front as OfFront, Body as OfBody}
use Rattle.wishes.specs.declared.Wish.TheVariants.{Read, Write}
use Rattle.wishes.specs.Runs.{Held, Ran, filled, file_on, part_at, before, runs_by}
use Rattle.wishes.proofs.Turn.{wrote, did_read, ended}
use Rattle.listing.specs.declared.Stage.TheVariants.{Head, Front as AtFront, Checking, End}
use Rattle.listing.specs.declared.State.{State}
use Rattle.listing.specs.Text.{refusal_line, answer_to, unless_refused, blocks_of}
use Rattle.listing.specs.Machine.{given, turn_to, last_text, refusal, ask_head, ask_front, body_wish, at_body_lem, behind, go_to, checked_by, check_front, next_of}
use Rattle.listing.proofs.Stages.{over-text, over-room, front_in, other, size_in, read-front, read-other, kept_front, kept_other, at-end, at_head, at_front, at_body, to_more, to_over}

-- ---- a body as it is read

-- No body is longer than its buffer.
pub laid_most : (e : Entry) → is_laid_out e ≡ true → e.length ≤ 10240
laid_most e good =
    elim (ℕ_discrete e.kind 0) [
      | yes k ↦ let p = laid_packed e good k in omega (arith, p.0, p.1)
      | no a ↦ elim (ℕ_discrete e.kind 1) [
        | yes k ↦ let p = laid_frame e good k in omega (arith, p.0, p.1)
        | no b ↦ elim (ℕ_discrete e.kind 2) [
          | yes k ↦ let p = laid_differences e good k in omega (arith, p.0, p.1)
          | no c ↦ let p = laid_runs e good (omega (arith, laid_kind e good)) in omega (arith, p.0, p.2)
        ]
      ]
    ]

-- The part of the file that is wished for is the body.
pub body-read : (l : List ℕ) → file_answer (contents_tests l (length l)) ≡ Ok tt → (b : Body) → Walking l b → b.number < count l
    → part_at l b.at (min b.entry.length 10240) ≡ body_of l b.number
unfolding body_of
body-read l done b walk more =
    let long : b.entry.length ≡ (entry_of l b.number).length = ap (λ e. e.length) (walk.entry more) in
    let most : (entry_of l b.number).length ≤ 10240 = laid_most (entry_of l b.number) (body_laid l done b.number more) in
    let n : min b.entry.length 10240 ≡ (entry_of l b.number).length = omega arith in
    ap₂ (λ n at. take n (drop at l)) n walk.start

-- A body of the walk with its number and its place alone.
pub again_walking : (l : List ℕ) → file_answer (contents_tests l (length l)) ≡ Ok tt → (n at : ℕ) → n ≤ count l → at ≡ body_start l n
    → Walking l (body_at (front_of l) n at)
again_walking l done n at within start = record { within = within; start = start; entry = λ h. (front-right l).entry-is done n h }

-- The front is no longer than its buffer.
pub front-most : (head : List ℕ) → front_size head ≤ 8196
front-most head = go (leb (contents_size (edition_or head) (count_or head)) 8196) refl
  where
    go : (t : Bool) → leb (contents_size (edition_or head) (count_or head)) 8196 ≡ t → front_size head ≤ 8196
    go true e = omega (arith, by_size head true e, leb-true (contents_size (edition_or head) (count_or head)) 8196 e)
    go false e = omega (arith, by_size head false e)

-- ---- the answer

-- A refusal stays to the end.
refused_on : (front : List ℕ) (size : ℕ) (bodies : ℕ → List ℕ) (a : FileAnswer) → (number_of a ≡ 0 → ⊥) → (n : ℕ) → answer_after front size bodies n ≡ a
    → (j : ℕ) → answer_after front size bodies (j + n) ≡ a
unfolding answer_after
refused_on front size bodies a refused n e zero = ap (answer_after front size bodies) (zero-add n) ∙ e
refused_on front size bodies a refused n e (suc j) =
    let k : suc j + n ≡ suc (j + n) = omega arith in
    let before = refused_on front size bodies a refused n e j in
    ap (answer_after front size bodies) k
    ∙ step_settled front (j + n) (bodies (j + n)) (answer_after front size bodies (j + n)) (λ z. refused (sym (ap number_of before) ∙ z))
    ∙ before

-- What is printed of a file that is taken, and of one that is refused.
taken : (side : Side) (l rest : List ℕ) → answer_to l ≡ Ok tt → unless_refused side l rest ≡ rest
taken side l rest e = ap (λ a. pick (is_done a) rest (refusal_line side a)) e

turned_away : (side : Side) (l rest : List ℕ) (a : FileAnswer) → answer_to l ≡ a → is_done a ≡ false → unless_refused side l rest ≡ refusal_line side a
turned_away side l rest a e refused = ap (λ a. pick (is_done a) rest (refusal_line side a)) e ∙ ap (λ t. pick t rest (refusal_line side a)) refused

-- ---- runs

-- A run has ended and has written this.
abbrev pub printed : List ℕ → Ran
printed text = record { written = text; ended = true }

-- The state has the sizes of both files.
pub record Sized (l m : List ℕ) (s : State) : Type 0 where
  pub left-long : s.left.size ≡ length l
  pub right-long : s.right.size ≡ length m

module _ (l m : List ℕ) where
  -- The last text is written, and nothing behind it.
  pub last_text_lem : (k : ℕ) (s : State) (text out : List ℕ) (h : Held) → 2 ≤ k → 65536 ≤ length out → runs_by next_of l m k (last_text s text out) h ≡ printed text
  last_text_lem k s text out h some room =
      let e : State = (turn_to s End (Write (length text))).state in
      wrote next_of l m k (length text) e h (over 0 text out) _ (omega arith) (over-text text out)
      (at-end e h (over 0 text out) (omega (arith, over-room text out)) refl)
      ∙ ap₂ before (over-front text out) (ended next_of l m (k - 1) e h (over 0 text out) (omega arith))
      ∙ ap printed (append-nil text)

  size_on : (side : Side) (s : State) → Sized l m s → size_in side s ≡ length (file_on side l m)
  size_on Left s sized = sized.left-long
  size_on Right s sized = sized.right-long

  sized_at : (side : Side) (s : State) (b : Body) → Sized l m s → Sized l m (at_body_lem s side b)
  sized_at Left s b sized = record { left-long = sized.left-long; right-long = sized.right-long }
  sized_at Right s b sized = record { left-long = sized.left-long; right-long = sized.right-long }

  -- A file with what comes behind its check, where it is taken: whatever stands in the bodies' buffers.
  module _ (side : Side) (need : ℕ) (rest text out : List ℕ) (room : 65536 ≤ length out) (two : 2 ≤ need) (fits : length (file_on side l m) < 18446744073709551616)
      (on : (k : ℕ) (s : State) (h : Held) → need ≤ k → Sized l m s → front_in side h ≡ front_of (file_on side l m) → front_in (other side) h ≡ rest
      → answer_to (file_on side l m) ≡ Ok tt → runs_by next_of l m k (given (behind s side) out) h ≡ printed text) where
    abbrev file : List ℕ
    file = file_on side l m

    abbrev front : List ℕ
    front = front_of file

    abbrev after : ℕ → FileAnswer
    after n = answer_after front (length file) (body_of file) n

    -- An answer that is done goes on, and a refusal is the answer to the file and the last text.
    by_answer : (k : ℕ) (s : State) (h : Held) (a : FileAnswer) (d : Body) → 2 ≤ k → (is_done a ≡ false → answer_to file ≡ a)
        → (a ≡ Ok tt → runs_by next_of l m k (given (go_to s side front d) out) h ≡ printed (unless_refused side file text))
        → (t : Bool) → is_done a ≡ t → runs_by next_of l m k (checked_by a s side front d out) h ≡ printed (unless_refused side file text)
    unfolding refusal
    by_answer k s h a d some refused next true e =
        ap (λ t. runs_by next_of l m k (pick t (given (go_to s side front d) out) (refusal s side a out)) h) e ∙ next (number-done a (eqb-true (number_of a) 0 e))
    by_answer k s h a d some refused next false e =
        ap (λ t. runs_by next_of l m k (pick t (given (go_to s side front d) out) (refusal s side a out)) h) e
        ∙ last_text_lem k s (refusal_line side a) out h some room
        ∙ ap printed (sym (turned_away side file text a (refused e) e))

    module _ (done : file_answer (contents_tests file (length file)) ≡ Ok tt) where
      -- A refusal of a body is the answer to the file.
      body_refused : (n : ℕ) (a : FileAnswer) → n < count file → after (suc n) ≡ a → is_done a ≡ false → answer_to file ≡ a
      body_refused n a h e refused =
          let j : count file ≡ count file - suc n + suc n = omega arith in
          sym (held-answer file) ∙ ap after j ∙ refused_on front (length file) (body_of file) a (eqb-false (number_of a) 0 refused) (suc n) e (count file - suc n)

      -- One body: what the run does behind it is given for the next.
      one-body : (k : ℕ) (s : State) (h : Held) (c : Body) → Walking file c → c.number < count file → after c.number ≡ Ok tt → Sized l m s
          → front_in side h ≡ front → 3 ≤ k
          → ((s : State) (h' : Held) (d : Body) → Sized l m s → front_in side h' ≡ front → front_in (other side) h' ≡ front_in (other side) h
          → Walking file d → d.number ≡ suc c.number → after (suc c.number) ≡ Ok tt
          → runs_by next_of l m (k - 1) (given (go_to s side front d) out) h' ≡ printed (unless_refused side file text))
          → runs_by next_of l m k (given (go_to s side front c) out) h ≡ printed (unless_refused side file text)
      unfolding answer_after
      one-body k s h c walk more before sized is_front some next =
          let s' : State = (turn_to (at_body_lem s side c) (Checking side) (body_wish side c)).state in
          let bytes = part_at file c.at (min c.entry.length 10240) in
          let h' = filled h side OfBody bytes in
          let a = step_of (Ok tt) front c.number (body_of file c.number) in
          let d = next_body front (body_at front c.number c.at) in
          let walk' = again_walking file done c.number c.at walk.within walk.start in
          let same : after (suc c.number) ≡ a = ap (λ a. step_of a front c.number (body_of file c.number)) before in
          let sized' = sized_at side s c sized in
          ap (λ g. runs_by next_of l m k (given g out) h) (to_more s side front c (omega (arith, (front-right file).count-is done)))
          ∙ did_read next_of l m k side OfBody c.at (min c.entry.length 10240) s' h out (checked_by a s' side front d out) (omega arith) (omega arith)
          (at_body s h out room side c bytes
          ∙ ap₂ (λ f b. checked_by (step_of (Ok tt) f c.number b) s' side f (next_body f (body_at f c.number c.at)) out) is_front (body-read file done c walk more))
          ∙ by_answer (k - 1) s' h' a d (omega arith) (body_refused c.number a more same)
          (λ accepted. next s' h' d (record { left-long = sized'.left-long; right-long = sized'.right-long })
          (kept_front side h bytes ∙ is_front) (kept_other side h bytes)
          (next_walking file front (front-right file) done fits (body_at front c.number c.at) walk' more)
          (next-number file front (front-right file) done fits (body_at front c.number c.at) walk' more ∙ add-one c.number)
          (same ∙ accepted))
          (is_done a) refl

      -- The bodies from one on.
      checks : (b k : ℕ) (s : State) (h : Held) (c : Body) → Walking file c → c.number + b ≡ count file → after c.number ≡ Ok tt → Sized l m s
          → front_in side h ≡ front → front_in (other side) h ≡ rest → b + need ≤ k
          → runs_by next_of l m k (given (go_to s side front c) out) h ≡ printed (unless_refused side file text)
      checks zero k s h c walk all before sized is_front is-rest enough =
          let e : c.number ≡ count file = omega arith in
          let accepted : answer_to file ≡ Ok tt = sym (held-answer file) ∙ ap after (sym e) ∙ before in
          ap (λ g. runs_by next_of l m k (given g out) h) (to_over s side front c (omega (arith, (front-right file).count-is done)))
          ∙ on k s h (omega arith) sized is_front is-rest accepted
          ∙ ap printed (sym (taken side file text accepted))
      checks (suc b) k s h c walk all before sized is_front is-rest enough =
          one-body k s h c walk (omega arith) before sized is_front (omega arith)
          (λ s h d sized is_front kept walk number before.
          checks b (k - 1) s h d walk (omega arith) (ap after number ∙ before) sized is_front (kept ∙ is-rest) (omega arith))

      -- All of them.
      first-number : (first_body front).number ≡ 0
      unfolding first_body
      first-number = refl

      checks_all : (k : ℕ) (s : State) (h : Held) → Sized l m s → front_in side h ≡ front → front_in (other side) h ≡ rest → count file + need ≤ k
          → runs_by next_of l m k (given (go_to s side front (first_body front)) out) h ≡ printed (unless_refused side file text)
      unfolding answer_after
      checks_all k s h sized is_front is-rest enough =
          checks (count file) k s h (first_body front) (first_walking file front (front-right file) done) (omega (arith, first-number))
          (ap after first-number ∙ (front-right file).answer ∙ done) sized is_front is-rest enough

    -- A front that is refused is the answer to the file too.
    front-refused : is_done (file_answer (contents_tests front (length file))) ≡ false → answer_to file ≡ file_answer (contents_tests front (length file))
    front-refused refused =
        let same = (front-right file).answer in
        in_front-refused (contents_tests file (length file)) _ (λ d. eqb-false (number_of (file_answer (contents_tests front (length file)))) 0 refused (ap number_of (same ∙ d)))
        ∙ sym same

    blocks_are : file_answer (contents_tests file (length file)) ≡ Ok tt → blocks_of file ≡ count file
    unfolding blocks_of
    blocks_are done = ap (λ a. pick (is_done a) (count file) 0) done

    -- The whole check, from the first four bytes on.
    pub checks_file : (k : ℕ) (s : State) (h : Held) → Sized l m s → front_in (other side) h ≡ rest → 2 + blocks_of file + need ≤ k
        → runs_by next_of l m k (given (ask_head s side) out) h ≡ printed (unless_refused side file text)
    unfolding front_of check_front
    checks_file k s h sized is-rest enough =
        let n = front_size (take 4 file) in
        let s₁ : State = (turn_to s (Head side) (Read side OfFront 0 4)).state in
        let h₁ = filled h side OfFront (part_at file 0 4) in
        let s₂ : State = (turn_to s₁ (AtFront side) (Read side OfFront 0 n)).state in
        let h₂ = filled h₁ side OfFront (part_at file 0 n) in
        let a = file_answer (contents_tests front (length file)) in
        let sized₂ : Sized l m s₂ = record { left-long = sized.left-long; right-long = sized.right-long } in
        did_read next_of l m k side OfFront 0 4 s₁ h out (given (ask_front s₁ side (take 4 file)) out) (omega arith) (omega arith)
        (at_head s₁ h₁ out room side refl ∙ ap (λ x. given (ask_front s₁ side x) out) (read-front side h (part_at file 0 4)))
        ∙ did_read next_of l m (k - 1) side OfFront 0 n s₂ h₁ out (checked_by a s₂ side front (first_body front) out) (omega arith) (front-most (take 4 file))
        (at_front s₂ h₂ out room side refl
        ∙ ap₂ (λ n f. check_front s₂ side n f out) (size_on side s₂ sized₂) (read-front side h₁ (part_at file 0 n)))
        ∙ by_answer (k - 1 - 1) s₂ h₂ a (first_body front) (omega arith) front-refused
        (λ accepted.
        let done = sym (front-right file).answer ∙ accepted in
        checks_all done (k - 1 - 1) s₂ h₂ sized₂ (read-front side h₁ (part_at file 0 n))
        (read-other side h₁ (part_at file 0 n) ∙ read-other side h (part_at file 0 4) ∙ is-rest) (omega (arith, blocks_are done)))
        (is_done a) refl
