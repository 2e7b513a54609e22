-- `search::is_within` meets its contract: the three tests, over what the contents say.
-- Assumes nothing.
use Rattle.std.proofs.Common.{eqb, leb, ap₂}
use Rattle.lists.specs.Pick.{both}
use Rattle.search.proofs.is_within.Goals as goal

pub returns : goal.returns
returns c =
    let args = c.args in
    ap₂ (λ e r. both (eqb e 2) (both (leb args.low r.smallest) (leb r.largest args.high))) c.edition-edition.ensures c.range_or-range.ensures
