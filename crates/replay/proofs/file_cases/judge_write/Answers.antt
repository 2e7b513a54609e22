-- `replay::file_cases::judge_write` meets its contract, as `judge` does.
-- Assumes nothing.
use Rattle.stream.proofs.Expected.{judged}
use Rattle.replay.proofs.file_cases.judge_write.Goals as goal

pub returns : goal.returns
returns c =
    let args = c.args in
    let both = judged args.head args.reply args.c.now args.c_exit.now c.judge.ensures (c.same_bytes.ensures.n_in_bounds, c.same_bytes.ensures.value) in record { as_expected = both.0; value = both.1 }
