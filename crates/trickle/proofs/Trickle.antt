-- The theorems on bodies that trickle in, said of what the calls give and leave: the cuts make no difference (R73); a
-- full state takes no more (R71); when the body is full, ask gives what unpack gives (R72); the bytes past those held
-- play no part (R74); feed and ask go by what a state counts as; when each number is given (R75); and a state that
-- cannot be is answered as that of a refused start. The room of a state has 8,192 bytes; the laws ask for this where
-- they need it, and of a state in a program the prover knows it.
-- Assumes nothing.
use mathlib.Core.Bool.{false}
use mathlib.Core.List.{List, [], ◌++◌}
use mathlib.Core.Logic.{◌↔◌, ◌⊎◌, ⊎_elim}
use mathlib.Core.Path.{◌≡◌, sym, ap, ap₂, subst, ◌∙◌}
use Prim.Native.Nat.{ℕ, ◌+◌, ◌-◌, ◌*◌, ◌≤◌, ◌<◌, min}
use native.Mathlib.Decide.{dec_le, ℕ_discrete}
use native.Mathlib.Omega.{arith}
use lib.ListN.{length, take, length-replicate}
use lib.Seq.{length-take-le, take_all}
use borrow.Author.Tests.{lt-leb}
use Rattle.lists.specs.Tab.{over}
use Rattle.places.specs.Answers.{number_of as number_in, left as left_in}
use Rattle.places.specs.Sizes.{t64, lanes}
use Rattle.places.specs.Takes.{answer_for}
use Rattle.places.proofs.Answers.{number-apart}
use Rattle.packing.specs.Calls.{pack_takes, unpack_leaves}
use Rattle.packing.specs.Packed.{unpack_of}
use Rattle.packing.proofs.Answers.{bad_block, good_block}
use Rattle.little.specs.Little.{numbers_of}
use Rattle.little.proofs.Little.{length-numbers}
use Rattle.trickle.specs.declared.State.{State}
use Rattle.trickle.specs.declared.TrickleAnswer.{TrickleAnswer}
use Rattle.trickle.specs.declared.TrickleAnswer.TheVariants.{Done, Width, Early}
use Rattle.trickle.specs.Answers.{trickle_answer, number_of, left}
use Rattle.trickle.specs.Reasons.{Reason, no_block, early, whole, wide, overfull}
use Rattle.trickle.specs.Trickle.{body_size, can_be, width_of, count_of, held_of, counts_as, start_answer, started_of, taken_of, state_after, fed_of, ask_tests, ask_answer, words_of, values_of, ask_leaves, fed_all, bytes_of_all, Same}
use Rattle.trickle.proofs.Answers.{start-wide, start-done, ask_block, ask-early, ask-done, left-refused}
use Rattle.trickle.proofs.Feeds.{after_nothing, after_held, after_width, all_taken, all_after, all_long}
use Rattle.trickle.proofs.States.{counted, length-held, itself, counts_twice, too_many, cannot_be, cannot_width}

-- ---- the cuts make no difference

-- Two lists of chunks that are the same bytes cut in two ways: from one state they come to the same state, to the last
-- byte of its room, and take the same number of bytes in all.
module _ (s : State) (long : length s.room ≡ 8192) (xs ys : List (List ℕ)) (same : bytes_of_all xs ≡ bytes_of_all ys) where
  pub cuts_state : counts_as (fed_all s xs).state ≡ counts_as (fed_all s ys).state
  cuts_state = all_after s long xs ∙ ap (state_after s) same ∙ sym (all_after s long ys)

  pub cuts_taken : (fed_all s xs).taken ≡ (fed_all s ys).taken
  cuts_taken = all_taken s xs ∙ ap (taken_of s) same ∙ sym (all_taken s ys)

-- the bytes held are those of the state that counts
counts_held : (s : State) → held_of (counts_as s) ≡ held_of s
unfolding held_of
counts_held s = ap (λ c. take c.held c.room) (counts_twice s)

-- However they are cut, the bytes held after all chunks are those held before with all the bytes behind them, up to the
-- length of the body.
pub all_held : (s : State) → length s.room ≡ 8192 → (chunks : List (List ℕ))
    → (width_of (fed_all s chunks).state ≡ width_of s) × (held_of (fed_all s chunks).state ≡ take (body_size (width_of s)) (held_of s ++ bytes_of_all chunks))
all_held s long chunks =
    let last = (fed_all s chunks).state in (
      ap (λ c. c.width) (sym (counts_twice last)) ∙ ap width_of (all_after s long chunks) ∙ after_width s (bytes_of_all chunks),
      sym (counts_held last) ∙ ap held_of (all_after s long chunks) ∙ after_held s (bytes_of_all chunks) long,
    )

-- ---- a full state takes no more

-- Feeding a full state takes nothing, and gives the state that it counts as.
pub full_fed : (s : State) → count_of s ≡ body_size (width_of s) → (chunk : List ℕ) → ((fed_of s chunk).taken ≡ 0) × ((fed_of s chunk).state ≡ counts_as s)
unfolding fed_of taken_of
full_fed s full chunk =
    let nothing : taken_of s chunk ≡ 0 = omega (arith, full) in
    (nothing, after_nothing s chunk nothing)

-- Of a state that can be, that is the state itself: nothing is changed.
pub full_kept : (s : State) → s.width ≤ 64 → s.held ≡ body_size s.width → (chunk : List ℕ) → ((fed_of s chunk).taken ≡ 0) × ((fed_of s chunk).state ≡ s)
full_kept s narrow full chunk =
    let same = itself s (narrow, omega arith) in
    let fed = full_fed s (ap (λ c. c.held) same ∙ full ∙ ap (λ c. body_size c.width) (sym same)) chunk in
    (fed.0, fed.1 ∙ same)

-- ---- ask gives what unpack gives

-- there are as many words as unpack asks for
length-words : (s : State) → length (words_of s) ≡ lanes t64 * width_of s
unfolding words_of
length-words s = length-numbers 8 (held_of s) (lanes t64 * width_of s)

-- When the bytes of the body are all there, ask answers as unpack does on the body's words, and leaves what unpack
-- leaves.
module _ (s : State) (full : count_of s ≡ body_size (width_of s)) (output : List ℕ) where
  pub full-answer : number_of (ask_answer s output) ≡ number_in (answer_for (pack_takes t64 (width_of s) output (words_of s)))
  full-answer =
      elim (ℕ_discrete (length output) 1024) [
        | yes o ↦
            ap number_of (ask-done s output o (omega (arith, full)))
            ∙ sym (ap number_in (good_block t64 (width_of s) output (words_of s) (counted s).0 o (length-words s)))
        | no o ↦ ap number_of (ask_block s output o) ∙ sym (ap number_in (bad_block t64 (width_of s) output (words_of s) (counted s).0 o))
      ]

  pub full-leaves : ask_leaves s output ≡ unpack_leaves t64 (width_of s) output (words_of s)
  unfolding ask_leaves unpack_leaves values_of
  full-leaves =
      elim (ℕ_discrete (length output) 1024) [
        | yes o ↦
            ap (λ a. left a (values_of s) output) (ask-done s output o (omega (arith, full)))
            ∙ sym (ap (λ a. left_in a (values_of s) output) (good_block t64 (width_of s) output (words_of s) (counted s).0 o (length-words s)))
        | no o ↦
            ap (λ a. left a (values_of s) output) (ask_block s output o)
            ∙ sym (ap (λ a. left_in a (values_of s) output) (bad_block t64 (width_of s) output (words_of s) (counted s).0 o))
      ]

-- After every refusal the output holds what it held.
pub ask-refused : (s : State) (output : List ℕ) → (number_of (ask_answer s output) ≡ 0 → ⊥) → ask_leaves s output ≡ output
unfolding ask_leaves
ask-refused s output n = left-refused (ask_answer s output) (values_of s) output n

-- ---- the bytes past those held play no part

-- Two states that hold the same, whatever stands behind it in their rooms, are answered the same: by feed, which leaves
-- them holding the same,
module _ (a b : State) (la : length a.room ≡ 8192) (lb : length b.room ≡ 8192) (same : Same a b) where
  same_count : count_of a ≡ count_of b
  same_count = sym (length-held a la) ∙ ap length same.bytes ∙ length-held b lb

  pub same_taken : (chunk : List ℕ) → (fed_of a chunk).taken ≡ (fed_of b chunk).taken
  unfolding fed_of taken_of
  same_taken chunk = omega (arith, same.width, same_count)

  pub same_fed : (chunk : List ℕ) → Same (fed_of a chunk).state (fed_of b chunk).state
  unfolding fed_of
  same_fed chunk = record {
    width = after_width a chunk ∙ same.width ∙ sym (after_width b chunk);
    bytes = after_held a chunk la ∙ ap₂ (λ w l. take (body_size w) (l ++ chunk)) same.width same.bytes ∙ sym (after_held b chunk lb);
  }

  -- and by ask.
  pub same_answer : (output : List ℕ) → ask_answer a output ≡ ask_answer b output
  unfolding ask_answer
  same_answer output = ap₂ (λ w n. trickle_answer (ask_tests output (body_size w) n)) same.width same_count

  pub same-leaves : (output : List ℕ) → ask_leaves a output ≡ ask_leaves b output
  unfolding ask_leaves values_of words_of
  same-leaves output = λ i. left (same_answer output i) (unpack_of t64 (same.width i) (numbers_of 8 (same.bytes i) (lanes t64 * same.width i))) output

-- ---- feed and ask go by what a state counts as

-- A state and the one that it counts as are answered the same: by feed, to the last byte of the room,
module _ (s : State) where
  pub counts_fed : (chunk : List ℕ) → fed_of (counts_as s) chunk ≡ fed_of s chunk
  unfolding fed_of state_after taken_of
  counts_fed chunk =
      let taken : State → ℕ = λ c. min (length chunk) (body_size c.width - c.held) in
      λ i. record {
        taken = taken (counts_twice s i);
        state = record {
          width = (counts_twice s i).width;
          held = (counts_twice s i).held + taken (counts_twice s i);
          room = over (counts_twice s i).held (take (taken (counts_twice s i)) chunk) (counts_twice s i).room;
        };
      }

  -- and by ask.
  pub counts_answer : (output : List ℕ) → ask_answer (counts_as s) output ≡ ask_answer s output
  unfolding ask_answer
  counts_answer output = ap (λ c. trickle_answer (ask_tests output (body_size c.width) c.held)) (counts_twice s)

  pub counts_leaves : (output : List ℕ) → ask_leaves (counts_as s) output ≡ ask_leaves s output
  unfolding ask_leaves values_of words_of held_of
  counts_leaves output =
      ap₂ (λ a c. left a (unpack_of t64 c.width (numbers_of 8 (take c.held c.room) (lanes t64 * c.width))) output)
      (counts_answer output) (counts_twice s)

-- ---- when each number is given

-- A start is done exactly when the width is at most 64, and else refused,
module _ (w : ℕ) where
  pub start-is-done : (start_answer w ≡ Done) ↔ (w ≤ 64)
  start-is-done = (decided, start-done w)
    where
      decided : start_answer w ≡ Done → w ≤ 64
      decided e =
          elim (dec_le w 64) [
            | yes h ↦ h
            | no h ↦ absurd (number-apart (ap number_of (sym (start-wide w (omega arith)) ∙ e)))
          ]

  pub start-is-refused : (start_answer w ≡ Width) ↔ (64 < w)
  start-is-refused = (decided, start-wide w)
    where
      decided : start_answer w ≡ Width → 64 < w
      decided e =
          elim (dec_le w 64) [
            | yes h ↦ absurd (number-apart (ap number_of (sym e ∙ start-done w h)))
            | no h ↦ omega arith
          ]

  -- and then it gives the state of width 0.
  pub refused-start : 64 < w → (started_of w).state ≡ (started_of 0).state
  unfolding started_of trickle_answer
  refused-start h = λ i. record { width = ap (λ a. left a w 0) (start-wide w h) i; held = 0; room = (started_of 0).state.room }

-- An ask has the answer for which it has the reason, and no other.
module _ (s : State) (output : List ℕ) where
  -- a state that cannot be counts as one of width 0, which is full
  cannot : length output ≡ 1024 → can_be s.width s.held ≡ false → ask_answer s output ≡ Done
  cannot o e = ask-done s output o (omega (arith, cannot_width s e))

  by_reason : {a : TrickleAnswer} → Reason s output a → ask_answer s output ≡ a
  by_reason (no_block o) = ask_block s output o
  by_reason (early o w h) =
      let same = itself s (w, omega arith) in
      ask-early s output o (omega (arith, ap (λ c. c.width) same, ap (λ c. c.held) same)) ∙ ap (λ c. Early c.held) same
  by_reason (whole o w h) =
      let same = itself s (w, omega arith) in
      ask-done s output o (omega (arith, ap (λ c. c.width) same, ap (λ c. c.held) same))
  by_reason (wide o w) = cannot o (simp (lt-leb s.width 64 w))
  by_reason (overfull o h) = cannot o (too_many s.width s.held h)

  reason : Reason s output (ask_answer s output)
  reason =
      elim (ℕ_discrete (length output) 1024) [
        | no o ↦ given (no_block o)
        | yes o ↦
            elim (dec_le s.width 64) [
              | no w ↦ given (wide o (omega arith))
              | yes w ↦
                  elim (dec_le s.held (128 * s.width)) [
                    | no h ↦ given (overfull o (omega arith))
                    | yes h ↦
                        elim (dec_le (128 * s.width) s.held) [
                          | yes g ↦ given (whole o w (omega arith))
                          | no g ↦ given (early o w (omega arith))
                        ]
                  ]
            ]
      ]
    where
      given : {a : TrickleAnswer} → Reason s output a → Reason s output (ask_answer s output)
      given r = subst (Reason s output) (sym (by_reason r)) r

  pub ask_reason : (a : TrickleAnswer) → (ask_answer s output ≡ a) ↔ Reason s output a
  ask_reason a = (λ e. subst (Reason s output) e reason, by_reason)

-- ---- a state that cannot be

-- A state handed in with a width above 64, or with more bytes held than its body has, counts as the state of a refused
-- start,
module _ (s : State) (bad : (64 < s.width) ⊎ (128 * s.width < s.held)) (w : ℕ) (refused : 64 < w) where
  pub bad_counts : counts_as s ≡ (started_of w).state
  bad_counts =
      cannot_be s (⊎_elim (λ h. simp (lt-leb s.width 64 h)) (too_many s.width s.held) bad) ∙ sym (refused-start w refused)

  -- so both are fed the same, in what is taken and in every field of the state that is given back,
  pub bad_fed : (chunk : List ℕ) → fed_of s chunk ≡ fed_of (started_of w).state chunk
  bad_fed chunk = sym (counts_fed s chunk) ∙ ap (λ c. fed_of c chunk) bad_counts

  -- and an ask gives and leaves the same.
  pub bad_answer : (output : List ℕ) → ask_answer s output ≡ ask_answer (started_of w).state output
  bad_answer output = sym (counts_answer s output) ∙ ap (λ c. ask_answer c output) bad_counts

  pub bad_leaves : (output : List ℕ) → ask_leaves s output ≡ ask_leaves (started_of w).state output
  bad_leaves output = sym (counts_leaves s output) ∙ ap (λ c. ask_leaves c output) bad_counts

-- ---- from the start to the values

-- A body of width w comes in chunks: this is the state after all of them.
abbrev pub trickled : (w : ℕ) (chunks : List (List ℕ)) → State
trickled w chunks = (fed_all (started_of w).state chunks).state

module _ (w : ℕ) (narrow : w ≤ 64) where
  started_width : (started_of w).state.width ≡ w
  unfolding started_of
  started_width = ap (λ a. left a w 0) (start-done w narrow)

  started_long : length (started_of w).state.room ≡ 8192
  unfolding started_of
  started_long = length-replicate {A = ℕ} 8192 0

  started : (width_of (started_of w).state ≡ w) × (held_of (started_of w).state ≡ [])
  unfolding started_of held_of
  started =
      let s = (started_of w).state in
      let same = itself s (omega (arith, started_width, narrow), omega arith) in
      (ap (λ c. c.width) same ∙ started_width, ap (λ c. take c.held c.room) same)

  module _ (chunks : List (List ℕ)) where
    -- It holds the first 128·w bytes of the chunks.
    pub trickled_holds : (width_of (trickled w chunks) ≡ w) × (held_of (trickled w chunks) ≡ take (body_size w) (bytes_of_all chunks))
    trickled_holds =
        let all = all_held (started_of w).state started_long chunks in
        (all.0 ∙ started.0, all.1 ∙ ap₂ (λ w l. take (body_size w) (l ++ bytes_of_all chunks)) started.0 started.1)

    trickled_count : count_of (trickled w chunks) ≡ length (take (body_size w) (bytes_of_all chunks))
    trickled_count = sym (length-held (trickled w chunks) (all_long (started_of w).state started_long chunks)) ∙ ap length trickled_holds.1

    module _ (output : List ℕ) (block : length output ≡ 1024) where
      -- Where these are all there, an ask gives the values of the packed words that the bytes make,
      pub trickled_values : body_size w ≤ length (bytes_of_all chunks)
          → (ask_answer (trickled w chunks) output ≡ Done)
          × (ask_leaves (trickled w chunks) output ≡ unpack_of t64 w (numbers_of 8 (take (body_size w) (bytes_of_all chunks)) (lanes t64 * w)))
      unfolding ask_leaves values_of words_of
      trickled_values enough =
          let s = trickled w chunks in
          let done = ask-done s output block (omega (arith, trickled_count, trickled_holds.0, length-take-le (body_size w) (bytes_of_all chunks) enough)) in (
            done,
            ap (λ a. left a (values_of s) output) done
                ∙ ap₂ (λ w l. unpack_of t64 w (numbers_of 8 l (lanes t64 * w))) trickled_holds.0 trickled_holds.1,
          )

      -- and where they are not, the place of its refusal is how many came.
      pub trickled_early : length (bytes_of_all chunks) < body_size w → ask_answer (trickled w chunks) output ≡ Early (length (bytes_of_all chunks))
      trickled_early few =
          let s = trickled w chunks in
          let came : count_of s ≡ length (bytes_of_all chunks) = trickled_count ∙ ap length (take_all (body_size w) (bytes_of_all chunks) (omega arith)) in
          ask-early s output block (omega (arith, came, trickled_holds.0)) ∙ ap Early came
