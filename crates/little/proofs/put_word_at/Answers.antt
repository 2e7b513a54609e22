-- `little::put_word_at` meets its contract: by its two halves.
-- Assumes nothing.
use Rattle.little.proofs.Bytes.{put_halves}
use Rattle.little.proofs.put_word_at.Goals as goal

pub returns : goal.returns
returns c =
    put_halves 4 c.args.x _ _ _ _ c.requires c.put_quad_at.ensures c.put_quad_at-2.ensures
