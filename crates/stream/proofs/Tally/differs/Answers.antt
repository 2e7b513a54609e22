-- `stream::Tally::differs` meets its contract: field by field, where no case differed yet and where one did.
-- Assumes nothing.
use Rattle.std.proofs.Common.{eq-eqb, ne_eqb}
use Rattle.stream.proofs.Tally.differs.Goals as goal

pub returns-then-self-ne0 : goal.returns-then-self-ne0
returns-then-self-ne0 c =
    let self = c.args.self in
    rw (ne_eqb self.differ 0 c.if-self-ne0.true) (λ i. record {
      cases = c.wrapping_add_u64-cases.ensures.value i;
      differ = c.wrapping_add_u64-differ.ensures.value i;
      first = self.first;
      op = self.op;
      t = self.t;
      width = self.width;
    })

pub returns : goal.returns
returns c =
    let self = c.args.self in
    let head = c.args.head in
    rw (eq-eqb self.differ 0 c.if-self-ne0.false) (λ i. record {
      cases = c.wrapping_add_u64-cases.ensures.value i;
      differ = c.wrapping_add_u64-differ.ensures.value i;
      first = self.cases;
      op = head.op;
      t = head.t;
      width = head.width;
    })
