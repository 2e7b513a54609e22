-- `renumber::lay_file` meets its contract: the blocks are laid down behind the first four bytes.
-- Assumes nothing.
use mathlib.Core.Path.{◌≡◌, sym, ap, ◌∙◌}
use Rattle.contents.specs.Bytes.{head_bytes, head_leaves}
use Rattle.contents.proofs.Bytes.{head-fits}
use Rattle.writer.proofs.FileRows.{right, few}
use Rattle.writer.proofs.Laying.{file_laid}
use Rattle.contents.specs.Contents.{count, entry_size, contents_size}
use mathlib.Core.List.{List, ◌++◌}
use Rattle.bodywise.proofs.Told.{count-read}
use Rattle.writer.specs.Writer.{entries_for, bodies_for}
use Rattle.renumber.specs.Renumber.{new_rows}
use Rattle.lists.specs.Tab.{over}
use Prim.Native.Nat.{ℕ}
use Rattle.renumber.proofs.Rows.{rows_blocks, length-new}
use borrow.Author.Rules.{rules}
use native.Mathlib.Omega.{arith}
use Rattle.renumber.proofs.lay_file.Goals as goal
use Rattle.renumber.proofs.lay_file.Goals.{After-count-n}

-- the count that was read
count-is : (c : After-count-n) → c.count-n.result ≡ count c.args.file.now
count-is c = c.count-n.ensures ∙ count-read c.args.file.now (right c.args.file.now c.requires.ready.file)

pub overflow_cast-n : goal.overflow_cast-n
overflow_cast-n c =
    omega (arith, count-is (goal.at.overflow_cast-n c).After-count-n, few c.args.file.now c.requires.ready.file)

pub lay_blocks-requires : goal.lay_blocks-requires
lay_blocks-requires c = record { ready = c.requires.ready; file_in_bounds = search rules }

pub returns : goal.returns
unfolding contents_size entry_size
returns c =
    let l = c.args.file.now in
    let rows : List ℕ = new_rows c.args.old.now c.args.new.now l in
    let old = c.args.output.now in
    c.lay_blocks.ensures
    ∙ ap (over 4 (entries_for rows (count l) ++ bodies_for rows (count l)))
    (c.put_head.ensures ∙ ap (λ n. head_leaves n old) (count-is (goal.at.returns c).After-count-n) ∙ head-fits (count l) old (omega (arith, c.requires.file_in_bounds, length-new c.args.old.now c.args.new.now l)))
    ∙ ap (λ n. over 4 (entries_for rows n ++ bodies_for rows n) (over 0 (head_bytes n) old)) (sym (rows_blocks c.args.old.now c.args.new.now l))
    ∙ file_laid rows old c.requires.file_in_bounds
