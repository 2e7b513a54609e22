-- `<u64 as Lookup>::row_of` meets its contract: the table is the one that is compared with its rule.
-- Assumes nothing.
use Rattle.std.proofs.Common.{◌%◌, arith}
use Rattle.std.proofs.Common.{ap, ◌∙◌, get_or}
use Rattle.lists.proofs.Tabs.{get_d_tab}
use Rattle.places.specs.Places.{row}
use Rattle.places.specs.Sizes.{t64}
use Rattle.access.proofs.Tables.{rows-t64, rows_rule_t64}
use Rattle.access.proofs.lookups.U64Lookup6416.row_of.Goals as goal

pub returns : goal.returns
unfolding rows-t64
returns c = ap (λ l. get_or l (c.args.place % 1024) 0) rows_rule_t64 ∙ get_d_tab 1024 (row t64) (c.args.place % 1024) 0 (omega arith)
