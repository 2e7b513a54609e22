-- `listing::same_bytes` meets its contract: what is joined is 0 only where the bytes are the same.
-- Assumes nothing.
use Rattle.listing.proofs.Same.{Agree}
use Rattle.listing.proofs.same_bytes.Given as goal

abbrev pub invariant-loop-i : goal.invariant-loop-i
invariant-loop-i l = Agree l.a l.b l.any l.i
