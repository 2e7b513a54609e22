-- `search::rows_in` meets its contract: each refusal by its test, and the rows by what `list_block` ensures.
-- Assumes nothing.
use Rattle.std.specs.Prelude.{Ok}
use Rattle.std.proofs.Common.{◌≡◌, ◌*◌, true, leb, length, sym, refl, ap, ◌∙◌, zero-add, arith, leb-true}
use Rattle.search.specs.Search.{counts}
use Rattle.search.specs.Steps.{found_in}
use Rattle.search.proofs.Blocks.{found_shift}
use Rattle.search.proofs.OneBlock.{listed-refused, listed-done, no_block, no_number, no_place, place_there}
use Rattle.search.proofs.rows_in.Goals as goal
use Rattle.search.proofs.rows_in.Goals.{Else-not-block_fits}

pub returns-then-block-ne1024 : goal.returns-then-block-ne1024
returns-then-block-ne1024 c =
    let args = c.args in
    let is =
    listed-refused args.block.now args.i args.low args.high args.rows.now
    (no_block args.block.now args.i args.low args.high args.rows.now c.if-block-ne1024.true) in
    record { value = sym is.0; rows_after = sym is.1 }

pub returns-then-i-ge256 : goal.returns-then-i-ge256
returns-then-i-ge256 c =
    let args = c.args in
    let is =
    listed-refused args.block.now args.i args.low args.high args.rows.now
    (no_number args.block.now args.i args.low args.high args.rows.now c.if-block-ne1024.false c.if-i-ge256.true) in
    record { value = sym is.0; rows_after = sym is.1 }

pub block_fits-requires : goal.block_fits-requires
block_fits-requires c = c.if-block-ne1024.false

pub returns-then-not-block_fits : goal.returns-then-not-block_fits
returns-then-not-block_fits c =
    let long = c.if-block-ne1024.false in
    let args = c.args in
    let is =
    listed-refused args.block.now args.i args.low args.high args.rows.now
    (no_place args.block.now args.i args.low args.high args.rows.now long (omega (arith, c.if-i-ge256.false)) (sym c.block_fits.ensures ∙ c.if-not-block_fits.true)) in
    record { value = sym is.0; rows_after = sym is.1 }

-- there is room for the rows
there : (c : Else-not-block_fits) → leb (length (found_in c.args.block.now 0 c.args.low c.args.high)) (length c.args.rows.now) ≡ true
there c = sym c.block_fits.ensures ∙ c.if-not-block_fits.false

pub overflow_mul-i : goal.overflow_mul-i
overflow_mul-i c = omega (arith, c.if-i-ge256.false)

pub list_block-n-requires : goal.list_block-n-requires
list_block-n-requires c =
    let args = c.args in
    let block = args.block.now in
    let low = args.low in
    let high = args.high in record { block_len = c.if-block-ne1024.false; found_len = refl; first_bound = omega (arith, c.if-i-ge256.false); high_in_bounds = omega (arith, leb-true (length (found_in block 0 low high)) (length args.rows.now) (there (goal.at.list_block-n-requires c).Else-not-block_fits), found_shift block (args.i * 1024) low high) }

pub returns : goal.returns
returns c =
    let args = c.args in
    let block = args.block.now in
    let is =
    listed-done block args.i args.low args.high args.rows.now
    (place_there block args.i args.low args.high args.rows.now c.if-block-ne1024.false (omega (arith, c.if-i-ge256.false)) (there (goal.at.returns c).Else-not-block_fits)) in record { value = ap (λ n. Ok (counts n 1)) (c.list_block-n.ensures.value ∙ zero-add (length (found_in block (args.i * 1024) args.low args.high))) ∙ sym is.0; rows_after = c.list_block-n.ensures.rows_after ∙ sym is.1 }
