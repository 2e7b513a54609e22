-- `trickle::start` meets its contract: by the test of the width.
-- Assumes nothing.
use mathlib.Core.Path.{sym, ap}
use lib.ListN.{replicate}
use Rattle.trickle.specs.Answers.{left}
use Rattle.trickle.specs.Trickle.{started_of}
use Rattle.trickle.proofs.Answers.{start-wide, start-done}
use Rattle.trickle.proofs.start.Goals as goal

pub returns-then-width-gt64 : goal.returns-then-width-gt64
unfolding started_of
returns-then-width-gt64 c =
    let e = start-wide c.args.width c.if-width-gt64.true in
    λ i. record { answer = sym e i; state = record { width = ap (λ a. left a c.args.width 0) (sym e) i; held = 0; room = replicate 8192 0 } }

pub returns : goal.returns
unfolding started_of
returns c =
    let e = start-done c.args.width c.if-width-gt64.false in
    λ i. record { answer = sym e i; state = record { width = ap (λ a. left a c.args.width 0) (sym e) i; held = 0; room = replicate 8192 0 } }
