-- `files::lay_numbered` meets its contract: behind right contents the answer of `block_of` tells of the run indices
-- alone.
-- Assumes nothing.
use Rattle.std.specs.Prelude.{not, Ok, Err, is_err}
use Rattle.std.proofs.lemmas.Bool.{not-true, not-false}
use Rattle.std.proofs.Common.{◌≡◌, sym, ap, ◌∙◌}
use Rattle.lists.specs.Pick.{pick}
use Rattle.contents.specs.declared.FileRefusal.TheVariants.{Runs}
use Rattle.files.specs.Files.{block_in}
use Rattle.files.specs.Froms.{from_leaves}
use Rattle.files.proofs.Files.{good_in, refused_not}
use Rattle.files.proofs.Froms.{from_tested, from_left}
use Rattle.files.proofs.lay_numbered.Goals as goal
use Rattle.files.proofs.lay_numbered.Goals.{After-block_from, After-body_start-at}

-- the block is refused exactly where a run index is out of range,
answer-is : (c : After-block_from) → is_err c.block_from.result ≡ not (good_in c.args.file.now c.args.b)
answer-is c =
    let l = c.args.file.now in
    let b = c.args.b in
    ap is_err
    (c.block_from.ensures.value
    ∙ from_tested l c.requires.contents_taken b c.requires.b_bound _ c.body_start-at.ensures c.args.output.now c.requires.output_len)
    ∙ refused_not (good_in l b)

-- and then the block is in the output
left_is : (c : After-body_start-at) → from_leaves c.args.file.now c.args.b c.body_start-at.result c.args.output.now ≡ pick (good_in c.args.file.now c.args.b) (block_in c.args.file.now c.args.b) c.args.output.now
left_is c =
    from_left c.args.file.now c.requires.contents_taken c.args.b c.requires.b_bound _ c.body_start-at.ensures c.args.output.now c.requires.output_len

pub returns-then-is_err : goal.returns-then-is_err
returns-then-is_err c =
    let bad = not-true _ (sym (answer-is (goal.at.returns-then-is_err c).After-block_from) ∙ sym c.is_err.ensures.value ∙ c.if-is_err.true) in
    record { value = ap (λ t. pick t (Ok tt) (Err (Runs c.args.b))) (sym bad); output_after = c.block_from.ensures.output_after ∙ left_is (goal.at.returns-then-is_err c).After-body_start-at }

pub returns : goal.returns
returns c =
    let good = not-false _ (sym (answer-is (goal.at.returns c).After-block_from) ∙ sym c.is_err.ensures.value ∙ c.if-is_err.false) in
    record { value = ap (λ t. pick t (Ok tt) (Err (Runs c.args.b))) (sym good); output_after = c.block_from.ensures.output_after ∙ left_is (goal.at.returns c).After-body_start-at }
