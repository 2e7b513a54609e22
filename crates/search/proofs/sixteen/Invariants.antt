-- `search::sixteen` meets its contract. The loop's invariant: the first l rows are there.
-- Assumes nothing.
use Rattle.std.proofs.Common.{◌+◌, replicate}
use Rattle.lists.proofs.Tabs.{Written}
use Rattle.search.proofs.sixteen.Given as goal

abbrev pub invariant-loop-l : goal.invariant-loop-l
invariant-loop-l l = Written 0 l.l (λ k. l.first + k) (replicate 16 0) l.x
