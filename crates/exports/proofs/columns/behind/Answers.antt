-- `behind` gives what `next` gives of the body that has this number and this beginning.
-- Assumes nothing.
use mathlib.Core.Path.{ap, ◌∙◌}
use Rattle.bodywise.specs.Cursor.{next_body}
use Rattle.exports.proofs.columns.behind.Goals as goal

pub returns : goal.returns
returns c = c.next.ensures ∙ ap (next_body c.args.front.now) c.body_at.ensures
