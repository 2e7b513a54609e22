-- `candidates::widths_by` meets its contract: each width is that of its highest number.
-- Assumes nothing.
use Rattle.std.proofs.Common.{◌≡◌, ap, ◌∙◌, arith}
use Rattle.lists.specs.Numbers.{plus, minus}
use Rattle.places.specs.Sizes.{t64}
use Rattle.deltas.proofs.Lanes.{minus_only}
use Rattle.candidates.specs.Measures.{widths_by}
use Rattle.candidates.specs.Widths.{bits}
use Rattle.candidates.proofs.widths_by.Goals as goal

pub returns : goal.returns
unfolding widths_by plus
returns c =
    let range = c.args.range in
    let wraps : c.wrapping_sub_u64.result ≡ minus t64 range.largest range.smallest =
    minus_only t64 range.largest range.smallest c.wrapping_sub_u64.result (omega arith) (omega arith) c.wrapping_sub_u64.ensures.value in record {
      value = λ j. record {
        low = range.smallest;
        plain = c.width_of.ensures.0 j;
        frame = (c.width_of-2.ensures.0 ∙ ap bits wraps) j;
        steps = c.args.steps;
      };
      plain_bound = (c.width_of.ensures.1, c.width_of-2.ensures.1);
    }
