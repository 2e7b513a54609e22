-- `stream::judge` meets its contract: by what the reply is known to be, and by one test.
-- Assumes nothing.
use Rattle.std.proofs.Common.{sym, ap, ◌∙◌}
use Rattle.lists.specs.Pick.{pick}
use Rattle.stream.specs.declared.Step.TheVariants.{Same, Differs}
use Rattle.stream.specs.Expected.{step_of}
use Rattle.stream.proofs.judge.Goals as goal

pub returns-then-given-buffers : goal.returns-then-given-buffers
returns-then-given-buffers c =
    let args = c.args in
    sym (ap (λ r. step_of args.head r args.buffers) c.in-Given.is
    ∙ ap (λ b. pick b Same (Differs args.head)) c.if-given-buffers.true)

pub returns : goal.returns
returns c =
    let args = c.args in
    sym (ap (λ r. step_of args.head r args.buffers) c.in-Given.is
    ∙ ap (λ b. pick b Same (Differs args.head)) c.if-given-buffers.false)
