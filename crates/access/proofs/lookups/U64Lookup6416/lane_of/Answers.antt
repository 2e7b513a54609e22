-- `<u64 as Lookup>::lane_of` meets its contract: the table is the one that is compared with its rule.
-- Assumes nothing.
use Rattle.std.proofs.Common.{◌%◌, arith}
use Rattle.std.proofs.Common.{ap, ◌∙◌, get_or}
use Rattle.lists.proofs.Tabs.{get_d_tab}
use Rattle.places.specs.Places.{lane}
use Rattle.places.specs.Sizes.{t64}
use Rattle.access.proofs.Tables.{lanes-t64, lanes_rule_t64}
use Rattle.access.proofs.lookups.U64Lookup6416.lane_of.Goals as goal

pub returns : goal.returns
unfolding lanes-t64
returns c = ap (λ l. get_or l (c.args.place % 1024) 0) lanes_rule_t64 ∙ get_d_tab 1024 (lane t64) (c.args.place % 1024) 0 (omega arith)
