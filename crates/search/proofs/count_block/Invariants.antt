-- `search::count_block` meets its contract. The loop's invariant: k of the places passed lie between the bounds.
-- Assumes nothing.
use Rattle.std.proofs.Common.{◌≡◌, length}
use Rattle.lists.specs.Passing.{passing}
use Rattle.search.specs.Steps.{in_block}
use Rattle.search.proofs.count_block.Given as goal

abbrev pub invariant-loop-value : goal.invariant-loop-value
invariant-loop-value l = l.k ≡ length (passing 0 l.value-index (in_block l.block 0 l.low l.high))
