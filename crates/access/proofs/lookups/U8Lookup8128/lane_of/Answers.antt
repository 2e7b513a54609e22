-- `<u8 as Lookup>::lane_of` meets its contract: the arithmetic is the rule for the lane.
-- Assumes nothing.
use Rattle.std.proofs.Common.{refl}
use Rattle.places.specs.Places.{lane}
use Rattle.access.proofs.lookups.U8Lookup8128.lane_of.Goals as goal

pub returns : goal.returns
unfolding lane
returns c = refl
