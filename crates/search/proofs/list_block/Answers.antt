-- `search::list_block` meets its contract: the places are gathered, and their rows written from place k on.
-- Assumes nothing.
use Rattle.std.proofs.Common.{◌≡◌, ◌+◌, map, length, sym, ap, ◌∙◌, arith}
use Rattle.lists.specs.Numbers.{plus}
use Rattle.lists.specs.Tab.{over}
use Rattle.lists.proofs.Passing.{passing-length}
use Rattle.search.specs.Steps.{in_block, found_in}
use Rattle.search.proofs.Blocks.{found_shift}
use Rattle.search.proofs.Within.{rows-of-places}
use Rattle.search.proofs.list_block.Goals as goal
use Rattle.search.proofs.list_block.Goals.{After-gather-n}

-- as many places are gathered as there are rows to list
as_many : (c : After-gather-n) → c.gather-n.result ≡ length (found_in c.args.block.now c.args.first c.args.low c.args.high)
as_many c =
    let args = c.args in
    c.gather-n.ensures.value ∙ sym (found_shift args.block.now args.first args.low args.high)

pub slice_bounds-put_rows-end : goal.slice_bounds-put_rows-end
slice_bounds-put_rows-end c =
    let args = c.args in
    omega (
      arith,
      c.gather-n.ensures.value,
      c.gather-n.ensures.found_len_2,
      passing-length 0 (length args.block.now) (in_block args.block.now 0 args.low args.high),
    )

pub slice_bounds-put_rows-end-2 : goal.slice_bounds-put_rows-end-2
slice_bounds-put_rows-end-2 c = c.gather-n.ensures.value ∙ sym (ap length c.gather-n.ensures.found_after)

pub put_rows-requires : goal.put_rows-requires
put_rows-requires c =
    omega (arith, ap length c.gather-n.ensures.found_after, c.gather-n.ensures.value, as_many (goal.at.put_rows-requires c).After-gather-n, c.requires.high_in_bounds)

pub overflow_add-result : goal.overflow_add-result
overflow_add-result c =
    omega (arith, as_many (goal.at.overflow_add-result c).After-gather-n, c.requires.high_in_bounds)

pub returns : goal.returns
returns c =
    let args = c.args in
    let rows =
    ap (map (plus 64 args.first)) c.gather-n.ensures.found_after
    ∙ rows-of-places args.block.now args.first args.low args.high c.requires.block_len c.requires.first_bound in record { value = ap (λ n. args.k + n) (as_many (goal.at.returns c).After-gather-n); found_len_2 = c.gather-n.ensures.found_len_2; rows_after = c.put_rows.ensures ∙ ap (λ l. over args.k l args.rows.now) rows }
