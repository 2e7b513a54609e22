-- `<u16 as Lookup>::row_of` meets its contract: the arithmetic gives the row, without the order list.
-- Assumes nothing.
use Rattle.std.proofs.Common.{◌%◌, arith}
use Rattle.access.proofs.LanesAndRows.{row-t16}
use Rattle.access.proofs.lookups.U16Lookup1664.row_of.Goals as goal

pub returns : goal.returns
returns c = row-t16 (c.args.place % 1024) (omega arith)
