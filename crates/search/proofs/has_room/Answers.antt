-- `search::has_room` meets its contract: the opened blocks have no more rows than 1,024 each.
-- Assumes nothing.
use Rattle.std.proofs.Common.{leb, length, sym, ap, arith, le-leb}
use Rattle.bodywise.proofs.Told.{whole}
use Rattle.search.specs.Search.{found}
use Rattle.search.proofs.Answers.{few-rows, few-opened}
use Rattle.search.proofs.has_room.Goals as goal

pub overflow_mul-k : goal.overflow_mul-k
overflow_mul-k c =
    let l = c.args.file.now in
    omega (arith, (whole l c.requires.contents_taken).few, few-opened l c.args.low c.args.high, c.requires.k_value)

pub returns-then-k-room : goal.returns-then-k-room
returns-then-k-room c =
    let l = c.args.file.now in
    let rows = length (found l c.args.low c.args.high) in
    sym (le-leb rows c.args.room (omega (arith, few-rows l c.args.low c.args.high, c.requires.k_value, c.if-k-room.true)))

pub returns : goal.returns
returns c = ap (λ n. leb n c.args.room) c.count_rows.ensures
