-- `listing::text::put_text` meets its contract: the bytes below i are laid.
-- Assumes nothing.
use mathlib.Core.Path.{◌≡◌}
use lib.ListN.{length, take}
use Rattle.lists.specs.Tab.{over}
use Rattle.listing.proofs.text.put_text.Given as goal

abbrev pub invariant-loop-i : goal.invariant-loop-i
invariant-loop-i l =
    (l.out ≡ over l.at (take l.i l.text) l.initial.out) × (length l.out ≡ length l.initial.out)
