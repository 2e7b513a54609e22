-- `contents::is_of_kind` meets its contract: each arm is the tests of its kind.
-- Assumes nothing.
use native.Mathlib.Omega.{arith}
use borrow.Author.Tests.{ne_eqb}
use Rattle.contents.specs.Contents.{is_of_kind}
use Rattle.contents.proofs.is_of_kind.Goals as goal

pub returns-in-0 : goal.returns-in-0
unfolding is_of_kind
returns-in-0 c = simp (c.in-0.is, c.is_packed.ensures)

pub returns-in-1 : goal.returns-in-1
unfolding is_of_kind
returns-in-1 c = simp (c.in-1.is, c.is_packed-in-1.ensures)

pub returns-in-2 : goal.returns-in-2
unfolding is_of_kind
returns-in-2 c = simp (c.in-2.is, c.is_packed-in-2.ensures)

pub returns-in-3 : goal.returns-in-3
unfolding is_of_kind
returns-in-3 c = simp (c.in-3.is, c.is_runs.ensures)

pub returns-in_default : goal.returns-in_default
unfolding is_of_kind
returns-in_default c =
    let kind = c.args.e.kind in
    simp (
      ne_eqb kind 0 (λ e. omega arith),
      ne_eqb kind 1 (λ e. omega arith),
      ne_eqb kind 2 (λ e. omega arith),
      ne_eqb kind 3 (λ e. omega arith),
    )
