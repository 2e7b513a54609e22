-- `listing::go_to` meets its contract, by whether a body is left.
-- Assumes nothing.
use mathlib.Core.Path.{sym, ◌∙◌}
use native.Mathlib.Omega.{arith}
use Rattle.listing.proofs.Stages.{to_more, to_over}
use Rattle.listing.proofs.go_to.Goals as goal

pub returns-then-body-count : goal.returns-then-body-count
returns-then-body-count c =
    let args = c.args in
    c.ask_body.ensures
    ∙ sym (to_more args.state args.side args.front.now args.body (omega (arith, c.count.ensures, c.if-body-count.true)))

pub returns : goal.returns
returns c =
    let args = c.args in
    c.behind.ensures
    ∙ sym (to_over args.state args.side args.front.now args.body (omega (arith, c.count.ensures, c.if-body-count.false)))
