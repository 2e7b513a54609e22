-- `exports::t64::fascjoldi_unpack_single_u64` meets its contract: what is handed over is what the call gives.
-- Assumes nothing.
use Rattle.exports.proofs.t64.fascjoldi_unpack_single_u64.Goals as goal

pub returns : goal.returns
returns c = rw c.unpack_single.ensures at c.hand_single.ensures
