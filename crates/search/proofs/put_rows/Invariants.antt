-- `search::put_rows` meets its contract. The loop's invariant: the first q rows are written.
-- Assumes nothing.
use Rattle.std.proofs.Common.{get_or}
use Rattle.lists.specs.Numbers.{plus}
use Rattle.lists.proofs.Tabs.{Written}
use Rattle.search.proofs.put_rows.Given as goal

abbrev pub invariant-loop-q : goal.invariant-loop-q
invariant-loop-q l =
    Written l.k l.q (λ i. plus 64 l.first (get_or l.places i 0)) l.initial.rows l.rows
