-- `files::check_but` meets its contract: the contents first, then the other bodies, and the body of block b only where
-- a later one is bad.
-- Assumes nothing.
use Rattle.std.specs.Prelude.{Ok, Err}
use Rattle.std.proofs.lemmas.Result.{err_from_is_err_and}
use Rattle.std.proofs.Common.{◌≡◌, ◌<◌, eqb, [], ◌∷◌, length, sym, ap, ◌∙◌, arith}
use Rattle.contents.specs.declared.FileRefusal.TheVariants.{Runs}
use Rattle.contents.specs.Answers.{file_answer, number_of}
use Rattle.contents.specs.Contents.{count, contents_tests}
use Rattle.contents.proofs.Answers.{in_front-refused, refusal_numbered}
use Rattle.files.specs.Files.{bad_runs}
use Rattle.bodywise.proofs.Told.{count-read}
use Rattle.files.proofs.Files.{good_in}
use Rattle.files.proofs.Others.{but_le, other_bad, asked_bad}
use Rattle.files.proofs.Froms.{good_from-is}
use Rattle.files.proofs.check_but.Goals as goal
use Rattle.files.proofs.check_but.Goals.{After-count-n, After-is_good_from, Else-bad-n, In_ok-check}

-- the contents are right where their check is done
contents-done : (c : In_ok-check) → file_answer (contents_tests c.args.file.now (length c.args.file.now)) ≡ Ok tt
contents-done c = sym c.in_ok-check.ensures

-- the count that was read
count-is : (c : After-count-n) → c.count-n.result ≡ count c.args.file.now
count-is c =
    c.count-n.ensures ∙ count-read c.args.file.now (let it : file_answer (contents_tests c.args.file.now (length c.args.file.now)) ≡ Ok tt = sym c.in_ok-check.ensures in it)

pub returns-in_err-check : goal.returns-in_err-check
returns-in_err-check c =
    let l = c.args.file.now in
    let given = err_from_is_err_and c.from_residual.result c.from_residual.ensures.1 in
    rw (given.1, given.2) record {
      refusal = c.in_err-check.ensures
          ∙ sym (in_front-refused (contents_tests l (length l)) ((eqb (bad_runs l) (count l), Err (Runs (bad_runs l))) ∷ [])
          (λ d. refusal_numbered _ (ap number_of (c.in_err-check.ensures ∙ d))));
      file_value = tt;
      i_value = tt;
    }

pub first_bad_but-bad-requires : goal.first_bad_but-bad-requires
first_bad_but-bad-requires c = contents-done (goal.at.first_bad_but-bad-requires c).In_ok-check

pub returns-then-bad-n : goal.returns-then-bad-n
returns-then-bad-n c =
    record { refusal = tt; file_value = contents-done (goal.at.returns-then-bad-n c).In_ok-check; i_value = sym c.first_bad_but-bad.ensures ∙ c.if-bad-n.true ∙ count-is (goal.at.returns-then-bad-n c).After-count-n }

-- a block is bad here
bad-below : (c : Else-bad-n) → c.first_bad_but-bad.result < count c.args.file.now
bad-below c =
    omega (arith, c.first_bad_but-bad.ensures, but_le c.args.file.now c.args.b, c.if-bad-n.false, (let it : c.count-n.result ≡ count c.args.file.now = c.count-n.ensures ∙ count-read c.args.file.now (let it : file_answer (contents_tests c.args.file.now (length c.args.file.now)) ≡ Ok tt = sym c.in_ok-check.ensures in it) in it))

pub body_start-requires : goal.body_start-requires
body_start-requires c =
    record { contents_taken = contents-done (goal.at.body_start-requires c).In_ok-check; b_bound = omega (arith, bad-below (goal.at.body_start-requires c).Else-bad-n, c.if-b-bad.true) }

-- what was asked of the body that begins where body b does is asked of block b
tested-is : (c : After-is_good_from) → c.is_good_from.result ≡ good_in c.args.file.now c.args.b
tested-is c =
    c.is_good_from.ensures
    ∙ good_from-is c.args.file.now (let it : file_answer (contents_tests c.args.file.now (length c.args.file.now)) ≡ Ok tt = sym c.in_ok-check.ensures in it) c.args.b (omega (arith, (let it : c.first_bad_but-bad.result < count c.args.file.now = omega (arith, c.first_bad_but-bad.ensures, but_le c.args.file.now c.args.b, c.if-bad-n.false, (let it : c.count-n.result ≡ count c.args.file.now = c.count-n.ensures ∙ count-read c.args.file.now (let it : file_answer (contents_tests c.args.file.now (length c.args.file.now)) ≡ Ok tt = sym c.in_ok-check.ensures in it) in it)) in it), c.if-b-bad.true)) _ c.body_start.ensures

pub returns-then-not-is_good_from : goal.returns-then-not-is_good_from
returns-then-not-is_good_from c =
    let worse = sym (tested-is (goal.at.returns-then-not-is_good_from c).After-is_good_from) ∙ c.if-not-is_good_from.true in
    let below = bad-below (goal.at.returns-then-not-is_good_from c).Else-bad-n in record { refusal = sym (asked_bad c.args.file.now (contents-done (goal.at.returns-then-not-is_good_from c).In_ok-check) c.args.b _ c.first_bad_but-bad.ensures (omega arith) (omega arith) worse); file_value = tt; i_value = tt }

pub returns-else-not-is_good_from : goal.returns-else-not-is_good_from
returns-else-not-is_good_from c =
    let good = sym (tested-is (goal.at.returns-else-not-is_good_from c).After-is_good_from) ∙ c.if-not-is_good_from.false in record { refusal = sym (other_bad c.args.file.now (contents-done (goal.at.returns-else-not-is_good_from c).In_ok-check) c.args.b _ c.first_bad_but-bad.ensures (bad-below (goal.at.returns-else-not-is_good_from c).Else-bad-n) (λ _. good)); file_value = tt; i_value = tt }

pub returns-else-b-bad : goal.returns-else-b-bad
returns-else-b-bad c =
    record { refusal = sym (other_bad c.args.file.now (contents-done (goal.at.returns-else-b-bad c).In_ok-check) c.args.b _ c.first_bad_but-bad.ensures (bad-below (goal.at.returns-else-b-bad c).Else-bad-n) (λ h. absurd (omega arith))); file_value = tt; i_value = tt }
