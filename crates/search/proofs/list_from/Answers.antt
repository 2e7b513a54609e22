-- `search::list_from` meets its contract: a block whose range lies within the bounds is listed whole, and of another
-- one that is laid down the rows are listed.
-- Assumes nothing.
use Rattle.std.proofs.Common.{◌≡◌, ◌+◌, ◌*◌, ◌≤◌, length, sym, ap, ◌∙◌, arith}
use Rattle.lists.specs.Tab.{tab, over}
use Rattle.lists.proofs.Tabs.{length-tab}
use Rattle.files.specs.Files.{block_in}
use Rattle.bodywise.proofs.Told.{whole}
use Rattle.files.proofs.Froms.{from_block}
use Rattle.search.specs.Steps.{found_in}
use Rattle.search.proofs.Blocks.{in_long}
use Rattle.search.proofs.Within.{all_found}
use Rattle.search.proofs.list_from.Goals as goal
use Rattle.search.proofs.list_from.Goals.{After-block_from, Then-is_within}

-- a block whose range lies within the bounds has all of its rows found
all_there : (c : Then-is_within) → found_in (block_in c.args.file.now c.args.i) (c.args.i * 1024) c.args.low c.args.high ≡ tab 1024 (λ j. c.args.i * 1024 + j)
all_there c =
    all_found c.args.file.now c.args.low c.args.high c.args.i c.requires.contents_taken c.requires.i_bound c.requires.i_value_2 (sym c.is_within.ensures ∙ c.if-is_within.true)

-- and so there is room for 1,024
room : (c : Then-is_within) → c.args.k + 1024 ≤ length c.args.rows.now
room c =
    omega (arith, ap length (all_there c), length-tab 1024 (λ j. c.args.i * 1024 + j), c.requires.high_in_bounds)

pub overflow_mul-i : goal.overflow_mul-i
overflow_mul-i c =
    omega (arith, (whole c.args.file.now c.requires.contents_taken).few, c.requires.i_bound)

pub list_all-requires : goal.list_all-requires
list_all-requires c =
    record { k_in_bounds = room (goal.at.list_all-requires c).Then-is_within; first_bound = omega (arith, (whole c.args.file.now c.requires.contents_taken).few, c.requires.i_bound) }

pub overflow_add-result : goal.overflow_add-result
overflow_add-result c = omega (arith, room (goal.at.overflow_add-result c).Then-is_within)

pub returns-then-is_within : goal.returns-then-is_within
returns-then-is_within c =
    let all = all_there (goal.at.returns-then-is_within c).Then-is_within in record { value = ap (λ n. c.args.k + n) (sym (ap length all ∙ length-tab 1024 (λ j. c.args.i * 1024 + j))); block_len_2 = c.requires.block_len; found_len_2 = c.requires.found_len; rows_after = c.list_all.ensures ∙ ap (λ l. over c.args.k l c.args.rows.now) (sym all) }

-- the block that was laid down is block i
block_is : (c : After-block_from) → c.block_from.new.output ≡ block_in c.args.file.now c.args.i
block_is c =
    c.block_from.ensures.output_after
    ∙ from_block c.args.file.now c.requires.contents_taken c.args.i c.requires.i_bound c.args.at c.requires.at_value c.args.block.now c.requires.block_len c.requires.i_value

pub overflow_mul-i-2 : goal.overflow_mul-i-2
overflow_mul-i-2 c =
    omega (arith, (whole c.args.file.now c.requires.contents_taken).few, c.requires.i_bound)

pub list_block-requires : goal.list_block-requires
list_block-requires c =
    let l = c.args.file.now in
    let i = c.args.i in record { block_len = omega (arith, ap length (block_is (goal.at.list_block-requires c).After-block_from), in_long l c.args.low c.args.high i); found_len = c.requires.found_len; first_bound = omega (arith, (whole l c.requires.contents_taken).few, c.requires.i_bound); high_in_bounds = rw (block_is (goal.at.list_block-requires c).After-block_from) c.requires.high_in_bounds }

pub returns : goal.returns
returns c =
    let i = c.args.i in
    let low = c.args.low in
    let high = c.args.high in record { value = c.list_block.ensures.value ∙ ap (λ b. c.args.k + length (found_in b (i * 1024) low high)) (block_is (goal.at.returns c).After-block_from); block_len_2 = ap length (block_is (goal.at.returns c).After-block_from) ∙ in_long c.args.file.now low high i; found_len_2 = c.list_block.ensures.found_len_2; rows_after = c.list_block.ensures.rows_after ∙ ap (λ b. over c.args.k (found_in b (i * 1024) low high) c.args.rows.now) (block_is (goal.at.returns c).After-block_from) }
