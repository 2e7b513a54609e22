-- `renumber::lay_blocks` meets its contract: after each body of the walk the output holds the entries and the new bodies
-- up to there.
-- Assumes nothing.
use mathlib.Core.List.{List, ◌++◌}
use mathlib.Core.Path.{◌≡◌, sym, ap, subst, ◌∙◌}
use Prim.Native.Nat.{ℕ, ◌+◌, ◌≤◌, ◌<◌}
use native.Mathlib.Numerals.{add-one}
use native.Mathlib.Omega.{arith}
use lib.ListN.{length}
use borrow.Author.Rules.{rules}
use Rattle.lists.specs.Numbers.{Elements}
use Rattle.lists.specs.Tab.{over}
use Rattle.contents.specs.Contents.{count, entry_size, contents_size}
use Rattle.candidates.specs.Candidates.{chosen, body_for}
use Rattle.files.specs.Files.{block_in}
use Rattle.files.proofs.Ranges.{file-runs}
use Rattle.bodywise.proofs.Told.{count-read}
use Rattle.bodywise.proofs.Walking.{file-first, file-zero, file-number, file-next}
use Rattle.writer.specs.InnerKept.{KeptAt}
use Rattle.writer.specs.Writer.{block_at, entries_for, bodies_for}
use Rattle.writer.proofs.Laying.{written_entry, bodies-none, bodies_short, bodies-within, laid_to, laid_none, laid_next, laid_length, laid_all}
use Rattle.writer.proofs.FileRows.{right, few}
use Rattle.renumber.specs.InnerBlocks.{new_block}
use Rattle.renumber.specs.Renumber.{new_rows}
use Rattle.renumber.proofs.Rows.{length-new, block_long, block_at_lem, body-next}
use Rattle.renumber.proofs.lay_blocks.Goals as goal
use Rattle.renumber.proofs.lay_blocks.Goals.{After-count-n, After-lay_one-at, After-new_block, After-next-next, At-loop-body, Start}

-- the rows of the new file
abbrev rows : (c : Start) → List ℕ
rows c = new_rows c.args.old.now c.args.new.now c.args.file.now

count-is : (c : After-count-n) → c.count-n.result ≡ count c.args.file.now
count-is c = c.count-n.ensures ∙ count-read c.args.file.now (right c.args.file.now c.requires.ready.file)

few-are : (c : After-count-n) → c.count-n.result ≤ 256
few-are c = omega (arith, count-is c, few c.args.file.now c.requires.ready.file)

-- there is room for all bodies
room : (c : After-count-n) → contents_size 2 c.count-n.result + length (bodies_for (let it : List ℕ = new_rows c.args.old.now c.args.new.now c.args.file.now in it) c.count-n.result) ≤ length c.args.output.now
room c =
    omega (arith, c.requires.file_in_bounds, length-new c.args.old.now c.args.new.now c.args.file.now, ap (λ n. contents_size 2 n + length (bodies_for (let it : List ℕ = new_rows c.args.old.now c.args.new.now c.args.file.now in it) n)) (count-is c))

pub overflow_mul-at : goal.overflow_mul-at
overflow_mul-at c = omega (arith, few-are (goal.at.overflow_mul-at c).After-count-n)

pub overflow_add-at : goal.overflow_add-at
overflow_add-at c = omega (arith, few-are (goal.at.overflow_add-at c).After-count-n)

pub loop-body-init : goal.loop-body-init
unfolding contents_size entry_size
loop-body-init c =
    let l = c.args.file.now in
    let n = c.count-n.result in
    let zero = file-zero l (right l c.requires.ready.file) c.first-body.ensures in (
      file-first l (right l c.requires.ready.file) c.first-body.ensures,
      count-is (goal.at.loop-body-init c).After-count-n,
      omega (arith, ap (λ i. length (bodies_for (rows (goal.at.loop-body-init c).Start) i)) zero, ap length (bodies-none (rows (goal.at.loop-body-init c).Start))),
      laid_none (rows (goal.at.loop-body-init c).Start) n c.args.output.now ∙ ap (λ i. laid_to (rows (goal.at.loop-body-init c).Start) n i c.args.output.now) (sym zero),
      search rules,
      (search rules, (search rules, search rules)),
    )

pub slice_bounds-new_block-end : goal.slice_bounds-new_block-end
slice_bounds-new_block-end c = omega (arith, c.loop-body.invariant.4)

pub new_block-requires : goal.new_block-requires
new_block-requires c =
    let inv = c.loop-body.invariant in
    let here : c.loop-body.body.number < count c.args.file.now = omega (arith, inv.1) in
    record { file_taken = c.requires.ready.file; i_bound = here; from_value = inv.0.start; rising = c.requires.ready.rising; len = c.requires.ready.new_long; counts_len = (c.requires.ready.counts_long, inv.4); i_value = c.requires.ready.counts_of c.loop-body.body.number here }

there : (c : After-new_block) → c.loop-body.body.number < count c.args.file.now
there c = omega (arith, c.loop-body.invariant.1)

elements : (c : After-new_block) → Elements 8 c.args.file.now
elements c k = omega (arith, c.type_inv.file k)

abbrev here : (c : After-new_block) → List ℕ
here c =
    let args = c.args in
    new_block args.old.now args.new.now (block_in args.file.now c.loop-body.body.number)

is-long : (c : After-new_block) → length c.new_block.new.block ≡ 1024
is-long c =
    let l = c.args.file.now in
    ap length c.new_block.ensures ∙ block_long c.args.old.now c.args.new.now l (file-runs l c.requires.ready.file) (elements c) c.loop-body.body.number (there c)

grows : (c : After-new_block) → length (bodies_for (let it : List ℕ = new_rows c.args.old.now c.args.new.now c.args.file.now in it) (c.loop-body.body.number + 1))
    ≡ length (bodies_for (let it : List ℕ = new_rows c.args.old.now c.args.new.now c.args.file.now in it) c.loop-body.body.number) + (chosen (here c)).entry.length
grows c =
    let l = c.args.file.now in
    body-next c.args.old.now c.args.new.now l (file-runs l c.requires.ready.file) (elements c) c.loop-body.body.number (there c)

pub slice_bounds-lay_one-end : goal.slice_bounds-lay_one-end
slice_bounds-lay_one-end c = omega (arith, is-long (goal.at.slice_bounds-lay_one-end c).After-new_block)

pub slice_bounds-lay_one-end-in-loop-body : goal.slice_bounds-lay_one-end-in-loop-body
slice_bounds-lay_one-end-in-loop-body c = omega (arith, c.loop-body.invariant.5)

pub slice_bounds-lay_one-end-in-loop-body-2 : goal.slice_bounds-lay_one-end-in-loop-body-2
slice_bounds-lay_one-end-in-loop-body-2 c = omega (arith, c.loop-body.invariant.5)

pub slice_bounds-lay_one-end-in-loop-body-3 : goal.slice_bounds-lay_one-end-in-loop-body-3
slice_bounds-lay_one-end-in-loop-body-3 c = omega (arith, c.loop-body.invariant.5)

pub lay_one-at-requires : goal.lay_one-at-requires
unfolding contents_size entry_size
lay_one-at-requires c =
    let l = c.args.file.now in
    let n = c.count-n.result in
    let loop = c.loop-body in
    let i = loop.body.number in
    let same = ap length loop.invariant.3 ∙ laid_length (rows (goal.at.lay_one-at-requires c).Start) n c.args.output.now (room (goal.at.lay_one-at-requires c).After-count-n) i (omega (arith, there (goal.at.lay_one-at-requires c).After-new_block, loop.invariant.1)) in
    let within = bodies-within (rows (goal.at.lay_one-at-requires c).Start) (i + 1) n (omega (arith, there (goal.at.lay_one-at-requires c).After-new_block, loop.invariant.1)) in
    let as_long = ap (λ b. (chosen b).entry.length) c.new_block.ensures in record { block_len = is-long (goal.at.lay_one-at-requires c).After-new_block; i_bound = (omega (arith, there (goal.at.lay_one-at-requires c).After-new_block, few l c.requires.ready.file), c.requires.ready.kept_long); kept_at = subst (λ b. KeptAt b c.args.kept.now i) (sym c.new_block.ensures) (c.requires.ready.kept_of i (there (goal.at.lay_one-at-requires c).After-new_block)); rooms = loop.invariant.5; i_bound_2 = (omega (arith, loop.invariant.2, there (goal.at.lay_one-at-requires c).After-new_block, loop.invariant.1), omega (arith, as_long, loop.invariant.2, same, room (goal.at.lay_one-at-requires c).After-count-n, within, grows (goal.at.lay_one-at-requires c).After-new_block)) }

grown : (c : After-lay_one-at) → c.loop-body.at + c.lay_one-at.result
    ≡ contents_size 2 c.count-n.result + length (bodies_for (let it : List ℕ = new_rows c.args.old.now c.args.new.now c.args.file.now in it) (c.loop-body.body.number + 1))
grown c =
    let loop = c.loop-body in
    omega (
      arith,
      loop.invariant.2,
      c.lay_one-at.ensures.value ∙ ap (λ b. (chosen b).entry.length) c.new_block.ensures,
      (let it : length (bodies_for (let it : List ℕ = new_rows c.args.old.now c.args.new.now c.args.file.now in it) (c.loop-body.body.number + 1)) ≡ length (bodies_for (let it : List ℕ = new_rows c.args.old.now c.args.new.now c.args.file.now in it) c.loop-body.body.number) + (chosen (new_block c.args.old.now c.args.new.now (block_in c.args.file.now c.loop-body.body.number))).entry.length = let l = c.args.file.now in
          body-next c.args.old.now c.args.new.now l (file-runs l c.requires.ready.file) (let it : Elements 8 c.args.file.now = λ k. omega (arith, c.type_inv.file k) in it) c.loop-body.body.number (let it : c.loop-body.body.number < count c.args.file.now = omega (arith, c.loop-body.invariant.1) in it) in it),
    )

pub overflow_add-at-in-loop-body : goal.overflow_add-at-in-loop-body
unfolding contents_size entry_size
overflow_add-at-in-loop-body c =
    omega (arith, grown (goal.at.overflow_add-at-in-loop-body c).After-lay_one-at, few-are (goal.at.overflow_add-at-in-loop-body c).After-count-n, bodies_short (rows (goal.at.overflow_add-at-in-loop-body c).Start) (c.loop-body.body.number + 1), there (goal.at.overflow_add-at-in-loop-body c).After-new_block, c.loop-body.invariant.1)

-- one body further
short : (c : At-loop-body) → length c.args.file.now < 18446744073709551616
short c = omega arith

next-number : (c : After-next-next) → c.next-next.result.number ≡ c.loop-body.body.number + 1
next-number c =
    let l = c.args.file.now in
    file-number l (right l c.requires.ready.file) (let it : length c.args.file.now < 18446744073709551616 = omega arith in it) c.loop-body.invariant.0 (let it : c.loop-body.body.number < count c.args.file.now = omega (arith, c.loop-body.invariant.1) in it) c.next-next.ensures

pub loop-body-smaller : goal.loop-body-smaller
loop-body-smaller c =
    omega (arith, next-number (goal.at.loop-body-smaller c).After-next-next, there (goal.at.loop-body-smaller c).After-new_block, c.loop-body.invariant.1)

pub loop-body-preserved : goal.loop-body-preserved
loop-body-preserved c =
    let l = c.args.file.now in
    let n = c.count-n.result in
    let loop = c.loop-body in
    let i = loop.body.number in
    let old = c.args.output.now in
    let block = block_at_lem c.args.old.now c.args.new.now l (file-runs l c.requires.ready.file) (elements (goal.at.loop-body-preserved c).After-new_block) i (there (goal.at.loop-body-preserved c).After-new_block) in (
      file-next l (right l c.requires.ready.file) (short (goal.at.loop-body-preserved c).At-loop-body) loop.invariant.0 (there (goal.at.loop-body-preserved c).After-new_block) c.next-next.ensures,
      loop.invariant.1,
      grown (goal.at.loop-body-preserved c).After-lay_one-at ∙ ap (λ k. contents_size 2 n + length (bodies_for (rows (goal.at.loop-body-preserved c).Start) k)) (sym (next-number (goal.at.loop-body-preserved c).After-next-next)),
      c.lay_one-at.ensures.output_after
          ∙ ap (λ b. over (contents_size 2 i) (written_entry b) (over loop.at (body_for b) loop.output)) (c.new_block.ensures ∙ sym block)
          ∙ ap (λ x. over (contents_size 2 i) (written_entry (block_at (rows (goal.at.loop-body-preserved c).Start) i)) (over loop.at (body_for (block_at (rows (goal.at.loop-body-preserved c).Start) i)) x)) loop.invariant.3
          ∙ laid_next (rows (goal.at.loop-body-preserved c).Start) n old (room (goal.at.loop-body-preserved c).After-count-n) i loop.at (omega (arith, there (goal.at.loop-body-preserved c).After-new_block, loop.invariant.1)) loop.invariant.2
          ∙ ap (λ k. laid_to (rows (goal.at.loop-body-preserved c).Start) n k old) (sym (next-number (goal.at.loop-body-preserved c).After-next-next ∙ add-one i)),
      is-long (goal.at.loop-body-preserved c).After-new_block,
      (omega (arith, c.plain-in-loop-body-1.given), (omega (arith, c.frame-in-loop-body-1.given), omega (arith, c.rest-in-loop-body-1.given))),
    )

pub returns : goal.returns
returns c =
    let l = c.args.file.now in
    let loop = c.loop-body in
    let old = c.args.output.now in
    let n = c.count-n.result in
    let all : loop.body.number ≡ n = omega (arith, loop.invariant.0.within, loop.invariant.1) in
    loop.invariant.3
    ∙ ap (λ k. laid_to (rows (goal.at.returns c).Start) n k old) all
    ∙ laid_all (rows (goal.at.returns c).Start) n old (room (goal.at.returns c).After-count-n)
    ∙ ap (λ k. over 4 (entries_for (rows (goal.at.returns c).Start) k ++ bodies_for (rows (goal.at.returns c).Start) k) old) (count-is (goal.at.returns c).After-count-n)
