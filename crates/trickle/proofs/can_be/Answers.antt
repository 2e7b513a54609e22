-- `trickle::can_be` meets its contract: two tests as one.
-- Assumes nothing.
use mathlib.Core.Path.{sym, ap, ◌∙◌}
use Prim.Native.Nat.{◌*◌}
use lib.Dec.{leb}
use borrow.Author.Tests.{le-leb, lt-leb}
use Rattle.lists.specs.Pick.{both}
use Rattle.trickle.proofs.can_be.Goals as goal

pub returns-then-width-le64 : goal.returns-then-width-le64
returns-then-width-le64 c =
    let args = c.args in
    sym (ap (λ b. both b (leb args.held (128 * args.width))) (le-leb args.width 64 c.if-width-le64.true))

pub returns-else-width-le64 : goal.returns-else-width-le64
returns-else-width-le64 c =
    let args = c.args in
    let wide = lt-leb args.width 64 c.if-width-le64.false in
    wide ∙ sym (ap (λ b. both b (leb args.held (128 * args.width))) wide)
