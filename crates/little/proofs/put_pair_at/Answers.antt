-- `little::put_pair_at` meets its contract: two stores come to one write.
-- Assumes nothing.
use native.Mathlib.Omega.{arith}
use lib.ListN.{length-set}
use Rattle.little.proofs.Bytes.{put_two}
use Rattle.little.proofs.put_pair_at.Goals as goal

pub bounds-bytes-at-2 : goal.bounds-bytes-at-2
bounds-bytes-at-2 c = simp length-set (omega arith)

pub returns : goal.returns
returns c = put_two c.args.x c.args.at c.args.bytes.now (omega arith) c.requires
