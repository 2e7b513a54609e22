-- `stream::same_numbers` meets its contract. The loop's invariant: the first i numbers are the same.
-- Assumes nothing.
use Rattle.std.proofs.Common.{◌≡◌, arith, below_none, below_more}
use Rattle.stream.proofs.Compared.{no, yes}
use Rattle.stream.proofs.same_numbers.Goals as goal

pub loop-i-init : goal.loop-i-init
loop-i-init c = below_none _

pub returns-then-x-i : goal.returns-then-x-i
returns-then-x-i c =
    let both = no (λ nx ny a. c.if-x-i.true (a _ (omega arith))) in record { n_in_bounds = both.0; value = both.1 }

pub loop-i-preserved : goal.loop-i-preserved
loop-i-preserved c = below_more _ _ c.loop-i.invariant c.if-x-i.false

pub returns : goal.returns
returns c =
    let e : c.loop-i.i ≡ c.args.n = omega arith in
    let both = yes (omega arith) (omega arith) (rw e at c.loop-i.invariant) in record { n_in_bounds = both.0; value = both.1 }
