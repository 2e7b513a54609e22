-- `canonical::check_blocks` meets its contract: every block that the walk has passed has its true range, and the lowest
-- of them that is not the writer's is known.
-- Assumes nothing.
use mathlib.Core.Path.{◌≡◌, sym, subst, ◌∙◌}
use Prim.Native.Nat.{◌+◌, ◌<◌}
use native.Mathlib.Omega.{arith}
use borrow.Author.Rules.{rules}
use borrow.Author.Tests.{not-true, not-false}
use Rattle.lists.proofs.Search.{first_only}
use Rattle.contents.specs.Contents.{count}
use Rattle.bodywise.proofs.Told.{count-read}
use Rattle.bodywise.proofs.Walking.{file-first, file-zero, file-none, file-number, file-next, file-passed}
use Rattle.files.specs.Files.{has_true_range, bad_range}
use Rattle.files.proofs.Ranges.{contents-right}
use Rattle.canonical.specs.Canonical.{foreign}
use Rattle.canonical.proofs.Calls.{false-range, all_ours, one-foreign, Lowest, lowest-none, lowest-next, lowest_all}
use Rattle.canonical.proofs.check_blocks.Goals as goal
use Rattle.canonical.proofs.check_blocks.Goals.{After-look-seen, After-loop-body, After-next-next}

pub loop-body-init : goal.loop-body-init
loop-body-init c =
    let l = c.args.file.now in
    let right = contents-right l c.requires.file_value in (
      file-first l right c.first-body.ensures,
      c.count-n.ensures ∙ count-read l right,
      file-none l right c.first-body.ensures _,
      search rules,
      lowest-none (file-zero l right c.first-body.ensures),
    )

pub slice_bounds-look-end : goal.slice_bounds-look-end
slice_bounds-look-end c = omega (arith, c.loop-body.invariant.3)

pub look-seen-requires : goal.look-seen-requires
look-seen-requires c =
    let inv = c.loop-body.invariant in
    record { file_value = c.requires.file_value; file_value_2 = c.requires.file_value_2; i_bound = omega (arith, inv.1); at_value = inv.0.start; block_len = inv.3 }

there : (c : After-look-seen) → c.loop-body.body.number < count c.args.file.now
there c = omega (arith, c.loop-body.invariant.1)

pub returns-then-not-seen : goal.returns-then-not-seen
unfolding bad_range
returns-then-not-seen c =
    let l = c.args.file.now in
    let inv = c.loop-body.invariant in
    let found : c.loop-body.body.number ≡ bad_range l =
    first_only (count l) c.loop-body.body.number (has_true_range l) inv.0.within inv.2 (λ _. sym c.look-seen.ensures.ranged_value ∙ (not-true _ c.if-not-seen.true)) in
    false-range l c.loop-body.body.number found (there (goal.at.returns-then-not-seen c).After-look-seen)

next-number : (c : After-next-next) → c.next-next.result.number ≡ c.loop-body.body.number + 1
next-number c =
    let l = c.args.file.now in
    file-number l (contents-right l c.requires.file_value) (omega arith) c.loop-body.invariant.0 (let it : c.loop-body.body.number < count c.args.file.now = omega (arith, c.loop-body.invariant.1) in it) c.next-next.ensures

pub loop-body-smaller : goal.loop-body-smaller
loop-body-smaller c =
    omega (arith, next-number (goal.at.loop-body-smaller c).After-next-next, there (goal.at.loop-body-smaller c).After-look-seen, c.loop-body.invariant.1)

pub loop-body-preserved : goal.loop-body-preserved
loop-body-preserved c =
    let l = c.args.file.now in
    let right = contents-right l c.requires.file_value in
    let inv = c.loop-body.invariant in (
      file-next l right (omega arith) inv.0 (there (goal.at.loop-body-preserved c).After-look-seen) c.next-next.ensures,
      inv.1,
      file-passed l right (omega arith) inv.0 (there (goal.at.loop-body-preserved c).After-look-seen) c.next-next.ensures inv.2 (sym c.look-seen.ensures.ranged_value ∙ (not-false _ c.if-not-seen.false)),
      search rules,
      subst (λ k. Lowest l c.count-n.result k c.next-next.result.number) (sym c.lower-lowest.ensures)
          (lowest-next inv.4 (omega (arith, there (goal.at.loop-body-preserved c).After-look-seen, inv.1)) (next-number (goal.at.loop-body-preserved c).After-next-next) c.look-seen.result.ours c.look-seen.ensures.ours_value),
    )

-- behind the last block
ranged : (c : After-loop-body) → bad_range c.args.file.now ≡ count c.args.file.now
unfolding bad_range
ranged c =
    let l = c.args.file.now in
    let inv = c.loop-body.invariant in
    let all : c.loop-body.body.number ≡ count l = omega (arith, inv.0.within, inv.1) in
    sym (first_only (count l) (count l) (has_true_range l) (omega arith) (λ k h. inv.2 k (omega arith)) (λ h. absurd (omega arith)))

lowest-is : (c : After-loop-body) → c.loop-body.lowest ≡ foreign c.args.file.now
lowest-is c =
    let inv = c.loop-body.invariant in
    lowest_all inv.4 inv.1 (omega (arith, inv.0.within, inv.1))

pub returns-then-lowest-n : goal.returns-then-lowest-n
returns-then-lowest-n c =
    all_ours c.args.file.now (ranged (goal.at.returns-then-lowest-n c).After-loop-body) (sym (lowest-is (goal.at.returns-then-lowest-n c).After-loop-body) ∙ c.if-lowest-n.true ∙ c.loop-body.invariant.1)

pub returns : goal.returns
returns c =
    one-foreign c.args.file.now (ranged (goal.at.returns c).After-loop-body) c.loop-body.lowest (lowest-is (goal.at.returns c).After-loop-body) (λ e. c.if-lowest-n.false (e ∙ sym c.loop-body.invariant.1))
