-- `trickle::counted` meets its contract: by the test.
-- Assumes nothing.
use mathlib.Core.Path.{sym, ap, ◌∙◌}
use Rattle.lists.specs.Pick.{pick}
use Rattle.trickle.specs.Trickle.{counts_as, started_of}
use Rattle.trickle.proofs.counted.Goals as goal

pub returns-then-can_be : goal.returns-then-can_be
unfolding counts_as
returns-then-can_be c =
    ap (λ b. pick b c.args.state (started_of 0).state) (sym c.if-can_be.true ∙ c.can_be.ensures)

pub returns : goal.returns
unfolding counts_as
returns c =
    ap (λ started. started.state) c.start-none.ensures
    ∙ ap (λ b. pick b c.args.state (started_of 0).state) (sym c.if-can_be.false ∙ c.can_be.ensures)
