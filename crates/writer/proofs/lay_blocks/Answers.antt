-- `writer::lay_blocks` meets its contract: after each block the output holds the entries and the bodies up to there.
-- Assumes nothing.
use mathlib.Core.Path.{◌≡◌, sym, ap, subst, ◌∙◌}
use Prim.Native.Nat.{◌+◌, ◌≤◌, suc}
use native.Mathlib.Numerals.{add-one}
use native.Mathlib.Omega.{arith}
use lib.ListN.{length}
use borrow.Author.Rules.{rules}
use Rattle.lists.specs.Tab.{over}
use Rattle.lists.proofs.Parts.{length_cut}
use Rattle.contents.specs.Contents.{entry_size, contents_size}
use Rattle.candidates.specs.Candidates.{chosen, body_for}
use Rattle.candidates.proofs.Choice.{chosen_short}
use Rattle.writer.specs.InnerKept.{KeptAt}
use Rattle.writer.specs.Writer.{block_count, block_at, bodies_for}
use Rattle.writer.proofs.Laying.{written_entry, laid_to, laid_none, laid_next, laid_length, laid_all, bodies-none, bodies_longer, bodies_short, bodies-within, length-file, block_lent}
use Rattle.writer.proofs.lay_blocks.Goals as goal
use Rattle.writer.proofs.lay_blocks.Goals.{After-lay_one-at}

pub overflow_mul-at : goal.overflow_mul-at
unfolding contents_size entry_size
overflow_mul-at c = omega arith

pub overflow_add-at : goal.overflow_add-at
unfolding contents_size entry_size
overflow_add-at c = omega arith

pub loop-i-init : goal.loop-i-init
unfolding contents_size entry_size
loop-i-init c =
    let args = c.args in
    let values = args.values.now in (
      omega (arith, ap length (bodies-none values)),
      laid_none values (block_count values) args.output.now,
      (search rules, (search rules, search rules)),
    )

pub slice_bounds-lay_one-end-in-loop-i : goal.slice_bounds-lay_one-end-in-loop-i
slice_bounds-lay_one-end-in-loop-i c = omega (arith, c.loop-i.invariant.2)

pub slice_bounds-lay_one-end-in-loop-i-2 : goal.slice_bounds-lay_one-end-in-loop-i-2
slice_bounds-lay_one-end-in-loop-i-2 c = omega (arith, c.loop-i.invariant.2)

pub slice_bounds-lay_one-end-in-loop-i-3 : goal.slice_bounds-lay_one-end-in-loop-i-3
slice_bounds-lay_one-end-in-loop-i-3 c = omega (arith, c.loop-i.invariant.2)

pub lay_one-at-requires : goal.lay_one-at-requires
unfolding contents_size entry_size
lay_one-at-requires c =
    let loop = c.loop-i in
    let args = c.args in
    let values = args.values.now in
    let n = block_count values in
    let room : contents_size 2 n + length (bodies_for values n) ≤ length args.output.now = omega (arith, length-file values) in
    let i = loop.i in
    let same = ap length loop.invariant.1 ∙ laid_length values n args.output.now room i (omega arith) in
    let lent = block_lent values i in
    let long = ap length lent ∙ length_cut 1024 values i (omega arith) in
    let as_long = ap (λ b. (chosen b).entry.length) lent in record { block_len = long; i_bound = (omega arith, c.requires.kept_len.0); kept_at = subst (λ b. KeptAt b args.kept.now i) (sym lent) (c.requires.kept_len.1 i (omega arith)); rooms = loop.invariant.2; i_bound_2 = (omega arith, omega (arith, as_long, same, bodies_longer values i, bodies-within values (suc i) n (omega arith))) }

-- the body that was laid
one-long : (c : After-lay_one-at)
    → c.lay_one-at.result ≡ (chosen (block_at c.args.values.now c.loop-i.i)).entry.length
one-long c =
    c.lay_one-at.ensures.value ∙ ap (λ b. (chosen b).entry.length) (block_lent c.args.values.now c.loop-i.i)

pub overflow_add-at-in-loop-i : goal.overflow_add-at-in-loop-i
unfolding contents_size entry_size
overflow_add-at-in-loop-i c =
    let values = c.args.values.now in
    omega (arith, one-long (goal.at.overflow_add-at-in-loop-i c).After-lay_one-at, bodies_short values c.loop-i.i, chosen_short (block_at values c.loop-i.i), c.loop-i.invariant.0)

pub loop-i-preserved : goal.loop-i-preserved
unfolding contents_size entry_size
loop-i-preserved c =
    let loop = c.loop-i in
    let args = c.args in
    let values = args.values.now in
    let n = block_count values in
    let i = loop.i in
    let room : contents_size 2 n + length (bodies_for values n) ≤ length args.output.now = omega (arith, length-file values) in (
      omega (arith, loop.invariant.0, one-long (goal.at.loop-i-preserved c).After-lay_one-at, bodies_longer values i, ap (λ k. length (bodies_for values k)) (add-one i)),
      c.lay_one-at.ensures.output_after
          ∙ ap (λ b. over (contents_size 2 i) (written_entry b) (over loop.at (body_for b) loop.output)) (block_lent values i)
          ∙ ap (λ l. over (contents_size 2 i) (written_entry (block_at values i)) (over loop.at (body_for (block_at values i)) l)) loop.invariant.1
          ∙ laid_next values n args.output.now room i loop.at (omega arith) loop.invariant.0
          ∙ ap (λ k. laid_to values n k args.output.now) (sym (add-one i)),
      (search rules, (search rules, search rules)),
    )

pub returns : goal.returns
unfolding contents_size entry_size
returns c =
    let loop = c.loop-i in
    let args = c.args in
    let values = args.values.now in
    let n = block_count values in
    let room : contents_size 2 n + length (bodies_for values n) ≤ length args.output.now = omega (arith, length-file values) in
    let all : loop.i ≡ n = omega arith in
    loop.invariant.1 ∙ ap (λ k. laid_to values n k args.output.now) all ∙ laid_all values n args.output.now room
