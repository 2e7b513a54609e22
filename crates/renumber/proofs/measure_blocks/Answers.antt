-- `renumber::measure_blocks` meets its contract: by what is known after each body of the walk.
-- Assumes nothing.
use mathlib.Core.Path.{◌≡◌, refl, ◌∙◌}
use Prim.Native.Nat.{◌≤◌, ◌<◌}
use native.Mathlib.Omega.{arith}
use lib.ListN.{length}
use borrow.Author.Tests.{not-true, not-false}
use Rattle.lists.specs.Numbers.{Elements}
use Rattle.contents.specs.Contents.{count}
use Rattle.files.proofs.Ranges.{contents-right}
use Rattle.bodywise.proofs.Told.{count-read}
use Rattle.bodywise.proofs.Walking.{file-number}
use Rattle.writer.proofs.FileRows.{runs-few}
use Rattle.renumber.proofs.Measuring.{measuring_first, measuring_next, measuring_stops, measuring_all, size_small, changed-small, number_small, one_sized, one-changed, one-taken}
use Rattle.renumber.proofs.measure_blocks.Goals as goal
use Rattle.renumber.proofs.measure_blocks.Goals.{After-count-n, After-measure_one-one, At-loop-body}

count-is : (c : After-count-n) → c.count-n.result ≡ count c.args.file.now
count-is c = let l = c.args.file.now in c.count-n.ensures ∙ count-read l (contents-right l c.requires.file_value)

few-are : (c : After-count-n) → c.count-n.result ≤ 256
few-are c = omega (arith, count-is c, runs-few c.args.file.now c.requires.file_value)

pub overflow_mul-size : goal.overflow_mul-size
overflow_mul-size c = omega (arith, few-are (goal.at.overflow_mul-size c).After-count-n)

pub overflow_add-size : goal.overflow_add-size
overflow_add-size c = omega (arith, few-are (goal.at.overflow_add-size c).After-count-n)

pub loop-body-init : goal.loop-body-init
loop-body-init c =
    measuring_first c.args.old.now c.args.new.now c.args.file.now c.requires.file_value c.first-body.ensures (count-is (goal.at.loop-body-init c).After-count-n) refl c.requires.kept_len.0 c.requires.kept_len.1

pub slice_bounds-measure_one-end : goal.slice_bounds-measure_one-end
slice_bounds-measure_one-end c = omega (arith, c.loop-body.invariant.block_long)

pub measure_one-one-requires : goal.measure_one-one-requires
measure_one-one-requires c =
    let inv = c.loop-body.invariant in
    record { file_value = c.requires.file_value; i_bound = omega (arith, inv.all); from_value = inv.walk.start; paired = c.requires.paired; block_len = inv.block_long; kept_len = (inv.kept_long, inv.counts_long) }

elements : (c : After-measure_one-one) → Elements 8 c.args.file.now
elements c k = omega (arith, c.type_inv.file k)

more : (c : After-measure_one-one) → c.loop-body.body.number < c.count-n.result
more c = c.loop-body-test.true

there : (c : After-measure_one-one) → c.loop-body.body.number < count c.args.file.now
there c = omega (arith, more c, c.loop-body.invariant.all)

taken-small : (c : After-measure_one-one) → c.measure_one-one.result.taken ≤ 1024
taken-small c =
    let args = c.args in
    one-taken args.old.now args.new.now args.file.now c.requires.file_value c.loop-body.invariant (elements c) (more c) c.measure_one-one.ensures.block_found

small : (c : After-measure_one-one) → c.loop-body.body.number ≤ 256
small c =
    let args = c.args in
    number_small args.old.now args.new.now args.file.now c.requires.file_value c.loop-body.invariant

pub overflow_mul-result : goal.overflow_mul-result
overflow_mul-result c = omega (arith, small (goal.at.overflow_mul-result c).After-measure_one-one)

pub overflow_add-result : goal.overflow_add-result
overflow_add-result c =
    omega (arith, small (goal.at.overflow_add-result c).After-measure_one-one, taken-small (goal.at.overflow_add-result c).After-measure_one-one)

pub returns-then-not-one : goal.returns-then-not-one
returns-then-not-one c =
    measuring_stops c.args.old.now c.args.new.now c.args.file.now c.requires.file_value c.loop-body.invariant (elements (goal.at.returns-then-not-one c).After-measure_one-one) (more (goal.at.returns-then-not-one c).After-measure_one-one) c.measure_one-one.ensures.block_found (not-true _ c.if-not-one.true)

pub overflow_add-size-in-loop-body : goal.overflow_add-size-in-loop-body
overflow_add-size-in-loop-body c =
    let old = c.args.old.now in
    let new = c.args.new.now in
    let l = c.args.file.now in
    let inv = c.loop-body.invariant in
    omega (arith, size_small old new l c.requires.file_value inv, one_sized old new l c.requires.file_value inv (elements (goal.at.overflow_add-size-in-loop-body c).After-measure_one-one) (more (goal.at.overflow_add-size-in-loop-body c).After-measure_one-one) c.measure_one-one.ensures.block_found)

pub overflow_add-changed : goal.overflow_add-changed
overflow_add-changed c =
    let old = c.args.old.now in
    let new = c.args.new.now in
    let l = c.args.file.now in
    let inv = c.loop-body.invariant in
    omega (arith, changed-small old new l c.requires.file_value inv, one-changed old new l c.requires.file_value inv (elements (goal.at.overflow_add-changed c).After-measure_one-one) (more (goal.at.overflow_add-changed c).After-measure_one-one) c.measure_one-one.ensures.block_found)

-- one body further
short : (c : At-loop-body) → length c.args.file.now < 18446744073709551616
short c = omega arith

pub loop-body-smaller : goal.loop-body-smaller
loop-body-smaller c =
    let l = c.args.file.now in
    omega (arith, more (goal.at.loop-body-smaller c).After-measure_one-one, file-number l (contents-right l c.requires.file_value) (short (goal.at.loop-body-smaller c).At-loop-body) c.loop-body.invariant.walk (there (goal.at.loop-body-smaller c).After-measure_one-one) c.next-next.ensures)

pub loop-body-preserved : goal.loop-body-preserved
loop-body-preserved c =
    measuring_next c.args.old.now c.args.new.now c.args.file.now c.requires.file_value c.loop-body.invariant (elements (goal.at.loop-body-preserved c).After-measure_one-one) (more (goal.at.loop-body-preserved c).After-measure_one-one) c.measure_one-one.ensures.block_found (not-false _ c.if-not-one.false) (short (goal.at.loop-body-preserved c).At-loop-body) c.next-next.ensures (omega (arith, c.block-in-loop-body-1.given)) c.measure_one-one.ensures.kept_after c.measure_one-one.ensures.counts_after

pub overflow_mul-result-2 : goal.overflow_mul-result-2
overflow_mul-result-2 c = omega (arith, few-are (goal.at.overflow_mul-result-2 c).After-count-n)

pub returns : goal.returns
returns c =
    measuring_all c.args.old.now c.args.new.now c.args.file.now c.requires.file_value c.loop-body.invariant c.requires.paired (omega arith)
