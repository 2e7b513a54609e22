-- `search::block_fits` meets its contract: a block has no more rows than 1,024.
-- Assumes nothing.
use Rattle.std.proofs.Common.{leb, length, sym, ap, arith, le-leb}
use Rattle.lists.proofs.Passing.{passing-length}
use Rattle.search.specs.Steps.{in_block, found_in}
use Rattle.search.proofs.block_fits.Goals as goal

pub returns-then-room-ge1024 : goal.returns-then-room-ge1024
returns-then-room-ge1024 c =
    let block = c.args.block.now in
    let low = c.args.low in
    let high = c.args.high in
    sym (le-leb (length (found_in block 0 low high)) c.args.room (omega (arith, passing-length 0 (length block) (in_block block 0 low high), c.requires, c.if-room-ge1024.true)))

pub returns : goal.returns
returns c = ap (λ n. leb n c.args.room) c.count_block.ensures
