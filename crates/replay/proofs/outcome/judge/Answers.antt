-- `replay::outcome::judge` meets its contract: a case is the same exactly where what was given back and what both
-- buffers hold are as expected.
-- Assumes nothing.
use Rattle.std.proofs.Common.{sym, ◌∙◌, arith}
use Rattle.lists.proofs.Tests.{both_true}
use Rattle.stream.proofs.Expected.{step_same, same_step}
use Rattle.replay.proofs.outcome.judge.Goals as goal

pub returns : goal.returns
returns c =
    let args = c.args in
    record {
      as_expected = (λ h.
          let all = step_same args.head args.reply _ (sym c.judge.ensures ∙ h) in
          let both = both_true c.same_numbers-same_c.result c.same_numbers-same_d.result all.1 in
          (all.0, (c.same_numbers-same_c.ensures.n_in_bounds both.0).2, (c.same_numbers-same_d.ensures.n_in_bounds both.1).2));
      value = (λ nc nd e.
          let c-same = c.same_numbers-same_c.ensures.value (omega (arith, c.same_numbers-arg-1.given)) (omega (arith, c.same_numbers-arg-2-1.given)) e.1 in
          let d-same = c.same_numbers-same_d.ensures.value (omega (arith, c.same_numbers-arg-3-1.given)) (omega (arith, c.same_numbers-arg-4-1.given)) e.2 in
          c.judge.ensures ∙ same_step args.head args.reply _ e.0 (simp (c-same, d-same)));
    }
