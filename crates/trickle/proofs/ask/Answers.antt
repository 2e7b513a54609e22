-- `trickle::ask` meets its contract: by what the state counts as, test by test.
-- Assumes nothing.
use mathlib.Core.Path.{◌≡◌, sym, ap, ◌∙◌}
use Prim.Native.Nat.{◌*◌, ◌≤◌}
use native.Mathlib.Omega.{arith}
use lib.ListN.{length, take}
use lib.Seq.{length-take-le}
use borrow.Author.Rules.{rules}
use Rattle.places.specs.Sizes.{t64}
use Rattle.places.proofs.Answers.{number-apart}
use Rattle.packing.specs.Packed.{unpack_of}
use Rattle.little.specs.Little.{numbers_of}
use Rattle.trickle.specs.declared.TrickleAnswer.TheVariants.{Early}
use Rattle.trickle.specs.Trickle.{held_of, words_of, values_of}
use Rattle.trickle.proofs.States.{Limits, counted-as}
use Rattle.trickle.proofs.Answers.{ask_block, ask-early, ask-done, refused, done}
use Rattle.trickle.proofs.ask.Goals as goal
use Rattle.trickle.proofs.ask.Goals.{After-counted-counts}

-- the limits of the state that counts,
known : (c : After-counted-counts) → Limits c.counted-counts.result
known c = counted-as c.args.state c.counted-counts.ensures

-- and that its room has place for the bytes held
held-within : (c : After-counted-counts) → c.counted-counts.result.held ≤ length c.counted-counts.result.room
held-within c =
    let long : length c.counted-counts.result.room ≡ 8192 = search rules in
    omega (arith, long, (known c).0, (known c).1)

pub returns-then-output-ne1024 : goal.returns-then-output-ne1024
returns-then-output-ne1024 c =
    let args = c.args in
    let both = refused args.state args.output.now (ask_block args.state args.output.now c.if-output-ne1024.true) number-apart in record { value = both.0; output_after = both.1 }

pub overflow_mul-width : goal.overflow_mul-width
overflow_mul-width c = omega (arith, (known (goal.at.overflow_mul-width c).After-counted-counts).0)

pub returns-then-held-width : goal.returns-then-held-width
returns-then-held-width c =
    let args = c.args in
    let few = ap (λ s. s.held) c.counted-counts.ensures in
    let given = refused args.state args.output.now
    (ask-early args.state args.output.now c.if-output-ne1024.false (omega (arith, c.if-held-width.true, few, ap (λ s. s.width) c.counted-counts.ensures))) number-apart in
    record { value = ap Early few ∙ given.0; output_after = given.1 }

pub slice_bounds-room-end : goal.slice_bounds-room-end
slice_bounds-room-end c = held-within (goal.at.slice_bounds-room-end c).After-counted-counts

pub slice_bounds-values_out-end : goal.slice_bounds-values_out-end
slice_bounds-values_out-end c =
    sym (length-take-le _ _ (held-within (goal.at.slice_bounds-values_out-end c).After-counted-counts))

pub values_out-requires : goal.values_out-requires
values_out-requires c =
    let all : c.counted-counts.result.held ≡ 128 * c.counted-counts.result.width = omega (arith, (known (goal.at.values_out-requires c).After-counted-counts).1, c.if-held-width.false) in
    record { width_bound = (known (goal.at.values_out-requires c).After-counted-counts).0; body_len = length-take-le _ _ (held-within (goal.at.values_out-requires c).After-counted-counts) ∙ all; output_len = search rules }

pub returns : goal.returns
unfolding values_of words_of held_of
returns c =
    let args = c.args in
    let both = done args.state args.output.now
    (ask-done args.state args.output.now c.if-output-ne1024.false
    (omega (arith, c.if-held-width.false, ap (λ s. s.held) c.counted-counts.ensures, ap (λ s. s.width) c.counted-counts.ensures)))
    (c.values_out.ensures ∙ ap (λ s. unpack_of t64 s.width (numbers_of 8 (take s.held s.room) (16 * s.width))) c.counted-counts.ensures) in record { value = both.0; output_after = both.1 }
