-- Written by tools/sizes from the text of size 64: edit that one, and run tools/sizes.
-- `exports::t8::fascjoldi_unpack_single_u8` meets its contract: what is handed over is what the call gives.
-- Assumes nothing.
use Rattle.exports.proofs.t8.fascjoldi_unpack_single_u8.Goals as goal

pub returns : goal.returns
returns c = rw c.unpack_single.ensures at c.hand_single.ensures
