-- `<u32 as Lookup>::row_of` meets its contract: the table is the one that is compared with its rule.
-- Assumes nothing.
use Rattle.std.proofs.Common.{◌%◌, arith}
use Rattle.std.proofs.Common.{ap, ◌∙◌, get_or}
use Rattle.lists.proofs.Tabs.{get_d_tab}
use Rattle.places.specs.Places.{row}
use Rattle.places.specs.Sizes.{t32}
use Rattle.access.proofs.Tables.{rows-t32, rows_rule_t32}
use Rattle.access.proofs.lookups.U32Lookup3232.row_of.Goals as goal

pub returns : goal.returns
unfolding rows-t32
returns c = ap (λ l. get_or l (c.args.place % 1024) 0) rows_rule_t32 ∙ get_d_tab 1024 (row t32) (c.args.place % 1024) 0 (omega arith)
