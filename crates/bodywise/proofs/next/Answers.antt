-- `bodywise::next` meets its contract.
-- Assumes nothing.
use mathlib.Core.Path.{ap₂, ◌∙◌}
use Rattle.bodywise.specs.Cursor.{body_at, next_body}
use Rattle.bodywise.proofs.next.Goals as goal

pub returns : goal.returns
unfolding next_body
returns c = c.body_at.ensures ∙ ap₂ (body_at c.args.front.now) c.plus.ensures c.plus-2.ensures
