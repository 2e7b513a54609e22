-- `stream::Tally::same` meets its contract: field by field.
-- Assumes nothing.
use Rattle.stream.proofs.Tally.same.Goals as goal

pub returns : goal.returns
returns c =
    let self = c.args.self in
    λ i. record {
      cases = c.wrapping_add_u64.ensures.value i;
      differ = self.differ;
      first = self.first;
      op = self.op;
      t = self.t;
      width = self.width;
    }
