-- `listing::put_lines` meets its contract: the lines of the first k places are laid.
-- Assumes nothing.
use Rattle.compare.specs.Changes.{changes_in}
use Rattle.listing.proofs.Lines.{LaidTo}
use Rattle.listing.proofs.put_lines.Given as goal

abbrev pub invariant-loop-k : goal.invariant-loop-k
invariant-loop-k l = LaidTo (changes_in l.i l.left l.right) l.k l.initial.out l.out l.at
