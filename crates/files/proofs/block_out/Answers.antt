-- `files::block_out` meets its contract: each refusal by its test, and the block by what `lay_numbered` ensures.
-- Assumes nothing.
use Rattle.std.specs.Prelude.{Ok}
use Rattle.std.proofs.lemmas.Result.{err_from_is_err_and}
use Rattle.std.proofs.Common.{◌≡◌, ◌<◌, ◌≤◌, length, sym, refl, ◌∙◌, arith, rules}
use Rattle.contents.specs.Answers.{file_answer}
use Rattle.contents.specs.Contents.{count, contents_tests}
use Rattle.contents.proofs.Answers.{left-err}
use Rattle.files.specs.Files.{block_in, bad_range, block_out_leaves}
use Rattle.files.proofs.Calls.{bad_output, block_refused, block_beyond, file-done, block_decides, block_leaves_lem}
use Rattle.bodywise.proofs.Told.{count-read}
use Rattle.files.proofs.Others.{bad_but}
use Rattle.files.proofs.block_out.Goals as goal
use Rattle.files.proofs.block_out.Goals.{After-count, In_ok-check_for}

-- the contents are right where the check is done, every other block is good, and every range the true one
rest : (c : In_ok-check_for) → (file_answer (contents_tests c.args.file.now (length c.args.file.now)) ≡ Ok tt) × ((bad_but c.args.file.now c.args.b ≡ count c.args.file.now) × (bad_range c.args.file.now ≡ count c.args.file.now))
rest c =
    let known = c.in_ok-check_for.ensures in (known.file_value, (known.i_value, known.file_value_2))

-- the count that was read
count-is : (c : After-count) → c.count.result ≡ count c.args.file.now
count-is c =
    let l = c.args.file.now in
    c.count.ensures ∙ count-read l (let it : (file_answer (contents_tests c.args.file.now (length c.args.file.now)) ≡ Ok tt) × ((bad_but c.args.file.now c.args.b ≡ count c.args.file.now) × (bad_range c.args.file.now ≡ count c.args.file.now)) = let known = c.in_ok-check_for.ensures in (known.file_value, (known.i_value, known.file_value_2)) in it).0

pub returns-then-output-ne1024 : goal.returns-then-output-ne1024
unfolding block_out_leaves
returns-then-output-ne1024 c =
    rw (bad_output c.args.file.now _ _ c.if-output-ne1024.true) record { value = refl; output_after = refl }

pub returns-in_err-check_for : goal.returns-in_err-check_for
unfolding block_out_leaves
returns-in_err-check_for c =
    let l = c.args.file.now in
    let given = err_from_is_err_and c.from_residual.result c.from_residual.ensures.1 in
    rw (given.1, given.2, block_refused l c.args.b c.args.output.now (omega arith) c.in_err-check_for.ensures.refusal)
    record { value = refl; output_after = sym (left-err _ (block_in l c.args.b) c.args.output.now) }

pub returns-then-count-b : goal.returns-then-count-b
unfolding block_out_leaves
returns-then-count-b c =
    let l = c.args.file.now in
    let others = rest (goal.at.returns-then-count-b c).In_ok-check_for in
    let high : count l ≤ c.args.b = omega (arith, count-is (goal.at.returns-then-count-b c).After-count, c.if-count-b.true) in
    let done = file-done l c.args.b others.0 others.1.0 others.1.1 (λ h. absurd (omega arith)) in
    rw (block_beyond l c.args.b c.args.output.now (omega arith) done high) record { value = refl; output_after = refl }

pub lay_numbered-requires : goal.lay_numbered-requires
lay_numbered-requires c =
    record { contents_taken = (rest (goal.at.lay_numbered-requires c).In_ok-check_for).0; b_bound = omega (arith, count-is (goal.at.lay_numbered-requires c).After-count, c.if-count-b.false); output_len = search rules }

pub returns : goal.returns
returns c =
    let l = c.args.file.now in
    let b = c.args.b in
    let output = c.args.output.now in
    let others = rest (goal.at.returns c).In_ok-check_for in
    let low : b < count l = omega (arith, count-is (goal.at.returns c).After-count, c.if-count-b.false) in record { value = c.lay_numbered.ensures.value ∙ sym (block_decides l b others.0 others.1.0 others.1.1 output (omega arith) low); output_after = c.lay_numbered.ensures.output_after ∙ sym (block_leaves_lem l b others.0 others.1.0 others.1.1 output (omega arith) low) }
