-- `search::gather` meets its contract. The loops' invariant: the places among those passed that lie between the bounds
-- stand at the front.
-- Assumes nothing.
use Rattle.std.proofs.Common.{◌≡◌, ◌+◌, ◌*◌, ◌≤◌, length}
use Rattle.search.specs.Steps.{in_block}
use Rattle.search.proofs.Within.{Gathered}
use Rattle.search.proofs.gather.Given as goal

abbrev pub invariant-loop-i : goal.invariant-loop-i
invariant-loop-i l =
    (l.n ≤ l.o * 8 + l.i) × (length l.found ≡ 1024) × Gathered 0 (l.o * 8 + l.i) (in_block l.block 0 l.low l.high) l.n l.found

abbrev pub invariant-loop-o : goal.invariant-loop-o
invariant-loop-o l =
    (l.n ≤ l.o * 8) × (length l.found ≡ 1024) × Gathered 0 (l.o * 8) (in_block l.block 0 l.low l.high) l.n l.found
