-- `plain::row_of` meets its contract. The loop's invariant: no row beyond the one that is looked for is passed.
-- Assumes nothing.
use mathlib.Core.Path.{sym, ◌∙◌}
use Prim.Native.Nat.{◌<◌}
use native.Mathlib.Omega.{arith}
use Rattle.places.specs.Places as Places
use Rattle.plain.proofs.Words.{row-few, passed_on, found}
use Rattle.plain.proofs.row_of.Goals as goal
use Rattle.plain.proofs.row_of.Goals.{In-loop-row}

pub stands_in-requires : goal.stands_in-requires
stands_in-requires c =
    record { size = c.requires.size; row_bound = omega (arith, row-few c.requires.size _ c.requires.p_bound) }

-- where the place does not stand in this row, its row is a later one
later : (c : In-loop-row) → c.loop-row.row < Places.row c.args.t c.args.p
later c =
    passed_on c.requires.size _ c.requires.p_bound _ c.loop-row.invariant (sym c.stands_in.ensures ∙ c.loop-row-test.true)

pub overflow_add-row : goal.overflow_add-row
overflow_add-row c =
    omega (arith, later (goal.at.overflow_add-row c).In-loop-row, row-few c.requires.size _ c.requires.p_bound)

pub loop-row-smaller : goal.loop-row-smaller
loop-row-smaller c = omega (arith, later (goal.at.loop-row-smaller c).In-loop-row)

pub loop-row-preserved : goal.loop-row-preserved
loop-row-preserved c = omega (arith, later (goal.at.loop-row-preserved c).In-loop-row)

pub returns : goal.returns
returns c =
    found c.requires.size _ c.requires.p_bound _ c.loop-row.invariant (sym c.stands_in.ensures ∙ c.loop-row-test.false)
