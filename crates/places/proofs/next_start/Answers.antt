-- `places::next_start` meets its contract: at every eighth row by `row_start`, and else by the sum.
-- Assumes nothing.
use mathlib.Core.Path.{sym, ap, ◌∙◌}
use Prim.Native.Nat.{◌*◌, ◌/◌, ◌%◌}
use native.Mathlib.Nat.{add-zero}
use borrow.Author.Tests.{eq-eqb, ne_eqb}
use Rattle.places.specs.Places.{place, next_start_lem}
use Rattle.places.proofs.next_start.Goals as goal

pub returns-then-r-eq0 : goal.returns-then-r-eq0
unfolding next_start_lem
returns-then-r-eq0 c =
    let r = c.args.r in
    c.row_start.ensures ∙ ap (λ n. place n 0) (add-zero (r / 8 % 8 * 8)) ∙ sym (simp (eq-eqb (r % 8) 0 c.if-r-eq0.true))

pub returns : goal.returns
unfolding next_start_lem
returns c = sym (simp (ne_eqb (c.args.r % 8) 0 c.if-r-eq0.false))
