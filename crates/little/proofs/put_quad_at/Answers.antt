-- `little::put_quad_at` meets its contract: by its two halves.
-- Assumes nothing.
use Rattle.little.proofs.Bytes.{put_halves}
use Rattle.little.proofs.put_quad_at.Goals as goal

pub returns : goal.returns
returns c =
    put_halves 2 c.args.x _ _ _ _ c.requires c.put_pair_at.ensures c.put_pair_at-2.ensures
