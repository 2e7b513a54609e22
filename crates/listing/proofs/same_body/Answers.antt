-- `listing::same_body` meets its contract, test by test.
-- Assumes nothing.
use mathlib.Core.Path.{sym, ◌∙◌}
use Rattle.lists.proofs.Tests.{false-true}
use Rattle.listing.proofs.same_body.Goals as goal

pub returns-then-not-has_right_entry : goal.returns-then-not-has_right_entry
returns-then-not-has_right_entry c = λ e. absurd (false-true e)

pub returns-then-not-has_right_entry-2 : goal.returns-then-not-has_right_entry-2
returns-then-not-has_right_entry-2 c = λ e. absurd (false-true e)

pub returns-then-not-same_entry : goal.returns-then-not-same_entry
returns-then-not-same_entry c = λ e. absurd (false-true e)

pub returns-then-not-same_range : goal.returns-then-not-same_range
returns-then-not-same_range c = λ e. absurd (false-true e)

pub returns : goal.returns
returns c =
    λ e. record {
      left_right = sym c.has_right_entry.ensures ∙ c.if-not-has_right_entry.false;
      right_right = sym c.has_right_entry-2.ensures ∙ c.if-not-has_right_entry-2.false;
      entry =
          sym c.entry_or.ensures
          ∙ c.same_entry.ensures (c.if-not-same_entry.false)
          ∙ c.entry_or-2.ensures;
      range = sym c.same_range.ensures ∙ c.if-not-same_range.false;
      body = c.same_bytes.ensures e;
    }
