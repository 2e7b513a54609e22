-- `writer::measure_blocks` meets its contract: after each block the sum is what the file has up to there, and what the
-- blocks up to there are laid down by is kept.
-- Assumes nothing.
use mathlib.Core.Path.{◌≡◌, refl, ap, ◌∙◌}
use Prim.Native.Nat.{◌*◌}
use native.Mathlib.Numerals.{add-one}
use native.Mathlib.Omega.{arith}
use lib.ListN.{length}
use Rattle.lists.proofs.Parts.{length_cut}
use Rattle.contents.specs.Contents.{entry_size, contents_size}
use Rattle.bodies.specs.Ranges.{true_range}
use Rattle.candidates.specs.Calls.{measured_of}
use Rattle.candidates.specs.Candidates.{chosen, differences}
use Rattle.candidates.specs.Widths.{width_of}
use Rattle.candidates.proofs.Calls.{measured_there}
use Rattle.candidates.proofs.Choice.{chosen_short}
use Rattle.writer.specs.Writer.{block_count, block_at, bodies_for}
use Rattle.writer.proofs.Keeping.{kept_none, kept_next, kept_length}
use Rattle.writer.proofs.Laying.{bodies-none, bodies_longer, bodies_short, length-file, block_lent}
use Rattle.writer.proofs.measure_blocks.Goals as goal
use Rattle.writer.proofs.measure_blocks.Goals.{After-measure-m}

pub overflow_mul-size : goal.overflow_mul-size
unfolding contents_size entry_size
overflow_mul-size c = omega arith

pub overflow_add-size : goal.overflow_add-size
unfolding contents_size entry_size
overflow_add-size c = omega arith

pub loop-i-init : goal.loop-i-init
unfolding contents_size entry_size
loop-i-init c =
    let args = c.args in
    (refl, omega (arith, ap length (bodies-none args.values.now)), omega arith, kept_none (block_at args.values.now) args.kept.now)

pub keep-requires : goal.keep-requires
keep-requires c = record { i_bound = omega arith; kept_len = c.loop-i.invariant.2 }

-- what was measured
measured-is : (c : After-measure-m)
    → let block = block_at c.args.values.now c.loop-i.i in
    c.measure-m.result ≡ record { entry = (chosen block).entry; range = true_range block; steps = width_of (differences block) }
measured-is c =
    let values = c.args.values.now in
    let i = c.loop-i.i in
    c.measure-m.ensures ∙ ap measured_of (block_lent values i) ∙ measured_there (block_at values i) (length_cut 1024 values i (omega arith))

pub overflow_add-size-in-loop-i : goal.overflow_add-size-in-loop-i
unfolding contents_size entry_size
overflow_add-size-in-loop-i c =
    let values = c.args.values.now in
    let i = c.loop-i.i in
    omega (arith, bodies_short values i, chosen_short (block_at values i), ap (λ m. m.entry.length) (measured-is (goal.at.overflow_add-size-in-loop-i c).After-measure-m))

pub loop-i-preserved : goal.loop-i-preserved
unfolding contents_size entry_size
loop-i-preserved c =
    let values = c.args.values.now in
    let i = c.loop-i.i in
    let inv = c.loop-i.invariant in
    let is = measured-is (goal.at.loop-i-preserved c).After-measure-m in (
      inv.0,
      omega (arith, inv.1, ap (λ m. m.entry.length) is, bodies_longer values i, ap (λ k. length (bodies_for values k)) (add-one i)),
      ap length c.keep.ensures ∙ kept_length c.loop-i.kept (i * 3) _ _ _ ∙ inv.2,
      kept_next inv.3 inv.2 (omega arith) (ap (λ m. m.range.smallest) is) (ap (λ m. m.range.largest) is) (ap (λ m. m.steps) is) c.keep.ensures,
    )

pub returns : goal.returns
unfolding contents_size entry_size
returns c =
    let values = c.args.values.now in
    let all : c.loop-i.i ≡ block_count values = omega arith in record { value = omega (arith, c.loop-i.invariant.1, length-file values, ap (λ k. length (bodies_for values k)) all); kept = λ k h. c.loop-i.invariant.3 k (omega arith) }
