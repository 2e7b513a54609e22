-- `bits::lay_out` meets its contract. The loop's invariant: the first w words of the output are gathered.
-- Assumes nothing.
use Rattle.lists.proofs.Tabs.{Written}
use Rattle.bits.specs.InnerSteps.{gather_of, round_start}
use Rattle.bits.proofs.lay_out.Given as goal

abbrev pub invariant-loop-w : goal.invariant-loop-w
invariant-loop-w l =
    Written 0 l.w (λ w. gather_of l.bytes (round_start l.turns l.near l.far w) 8) l.initial.out l.out
