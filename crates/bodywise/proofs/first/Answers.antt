-- `bodywise::first` meets its contract.
-- Assumes nothing.
use mathlib.Core.Path.{ap, ◌∙◌}
use Rattle.bodywise.specs.Cursor.{body_at, first_body}
use Rattle.bodywise.proofs.first.Goals as goal

pub returns : goal.returns
unfolding first_body
returns c = c.body_at.ensures ∙ ap (body_at c.args.front.now 0) c.contents_length.ensures
