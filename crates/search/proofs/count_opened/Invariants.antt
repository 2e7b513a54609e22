-- `search::count_opened` meets its contract. The loop's invariant: k of the blocks passed are opened.
-- Assumes nothing.
use Rattle.std.proofs.Common.{◌≡◌, length}
use Rattle.lists.specs.Passing.{passing}
use Rattle.contents.specs.Contents.{count}
use Rattle.search.specs.Search.{opens}
use Rattle.search.proofs.count_opened.Given as goal

abbrev pub invariant-loop-i : goal.invariant-loop-i
invariant-loop-i l =
    (l.n ≡ count l.file) × (l.k ≡ length (passing 0 l.i (opens l.file l.low l.high)))
