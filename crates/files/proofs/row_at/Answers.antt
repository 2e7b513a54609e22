-- `files::row_at` meets its contract: each refusal by its test, and the value by the lookup in its body.
-- Assumes nothing.
use Rattle.std.specs.Prelude.{Ok, Err}
use Rattle.std.proofs.lemmas.Result.{err_from_is_err_and}
use Rattle.std.proofs.Common.{◌≡◌, ℕ, ◌/◌, ◌%◌, ◌<◌, ◌≤◌, List, length, replicate, sym, refl, ◌∙◌, arith}
use Rattle.lists.specs.Pick.{pick}
use Rattle.contents.specs.declared.FileRefusal.TheVariants.{Beyond, Runs}
use Rattle.contents.specs.Answers.{file_answer}
use Rattle.contents.specs.Contents.{count, entry_of, contents_tests}
use Rattle.files.specs.Files.{bad_range, row_at}
use Rattle.files.specs.Rows.{given, row_of}
use Rattle.files.proofs.Calls.{block_refused, block_beyond, file-done, row-as_block, row-refused, row_decides}
use Rattle.bodywise.proofs.Told.{count-read}
use Rattle.files.proofs.Files.{good_in}
use Rattle.files.proofs.Others.{bad_but}
use Rattle.files.proofs.Places.{from_file}
use Rattle.files.proofs.row_at.Goals as goal
use Rattle.files.proofs.row_at.Goals.{After-count, Else-count-b, In_ok-check_for}

-- an output, by which the lookup of a row is answered as one block out is
abbrev zeros : List ℕ
zeros = replicate 1024 0

-- the contents are right where the check is done, every other block is good, and every range the true one
rest : (c : In_ok-check_for) → (file_answer (contents_tests c.args.file.now (length c.args.file.now)) ≡ Ok tt) × ((bad_but c.args.file.now (c.args.p / 1024) ≡ count c.args.file.now) × (bad_range c.args.file.now ≡ count c.args.file.now))
rest c =
    let known = c.in_ok-check_for.ensures in (known.file_value, (known.i_value, known.file_value_2))

-- the count that was read
count-is : (c : After-count) → c.count.result ≡ count c.args.file.now
count-is c =
    let l = c.args.file.now in
    c.count.ensures ∙ count-read l (let it : (file_answer (contents_tests c.args.file.now (length c.args.file.now)) ≡ Ok tt) × ((bad_but c.args.file.now (c.args.p / 1024) ≡ count c.args.file.now) × (bad_range c.args.file.now ≡ count c.args.file.now)) = let known = c.in_ok-check_for.ensures in (known.file_value, (known.i_value, known.file_value_2)) in it).0

-- the block is there
there : (c : Else-count-b) → c.args.p / 1024 < count c.args.file.now
there c = omega (
  arith,
  (let it : c.count.result ≡ count c.args.file.now = let l = c.args.file.now in
      c.count.ensures ∙ count-read l (let it : (file_answer (contents_tests c.args.file.now (length c.args.file.now)) ≡ Ok tt) × ((bad_but c.args.file.now (c.args.p / 1024) ≡ count c.args.file.now) × (bad_range c.args.file.now ≡ count c.args.file.now)) = let known = c.in_ok-check_for.ensures in (known.file_value, (known.i_value, known.file_value_2)) in it).0 in it),
  c.if-count-b.false,
)

-- what the row gives, by its block
decides : (c : Else-count-b) → row_of c.args.file.now c.args.p ≡ pick (good_in c.args.file.now (c.args.p / 1024)) (Ok (given (entry_of c.args.file.now (c.args.p / 1024)) (c.args.p % 1024) (row_at c.args.file.now c.args.p))) (Err (Runs (c.args.p / 1024)))
decides c =
    let others = (let it : (file_answer (contents_tests c.args.file.now (length c.args.file.now)) ≡ Ok tt) × ((bad_but c.args.file.now (c.args.p / 1024) ≡ count c.args.file.now) × (bad_range c.args.file.now ≡ count c.args.file.now)) = let known = c.in_ok-check_for.ensures in (known.file_value, (known.i_value, known.file_value_2)) in it) in
    row_decides c.args.file.now c.args.p others.0 others.1.0 others.1.1 (there c)

pub returns-in_err-check_for : goal.returns-in_err-check_for
returns-in_err-check_for c =
    let l = c.args.file.now in
    let p = c.args.p in
    let given = err_from_is_err_and c.from_residual.result c.from_residual.ensures.1 in
    rw (given.1, given.2)
    (sym (row-refused l p _ (row-as_block l p zeros refl ∙ block_refused l (p / 1024) zeros refl c.in_err-check_for.ensures.refusal)))

pub returns-then-count-b : goal.returns-then-count-b
returns-then-count-b c =
    let l = c.args.file.now in
    let p = c.args.p in
    let others = rest (goal.at.returns-then-count-b c).In_ok-check_for in
    let high : count l ≤ p / 1024 = omega (arith, count-is (goal.at.returns-then-count-b c).After-count, c.if-count-b.true) in
    let done = file-done l (p / 1024) others.0 others.1.0 others.1.1 (λ h. absurd (omega arith)) in
    sym (row-refused l p Beyond (row-as_block l p zeros refl ∙ block_beyond l (p / 1024) zeros refl done high))

pub body_start-requires : goal.body_start-requires
body_start-requires c =
    record { contents_taken = (rest (goal.at.body_start-requires c).In_ok-check_for).0; b_bound = there (goal.at.body_start-requires c).Else-count-b }

pub returns : goal.returns
unfolding row_at
returns c =
    let p = c.args.p in
    c.row_from.ensures
    ∙ from_file c.args.file.now (rest (goal.at.returns c).In_ok-check_for).0 (p / 1024) _ p (there (goal.at.returns c).Else-count-b) c.body_start.ensures refl
    ∙ sym (decides (goal.at.returns c).Else-count-b)
