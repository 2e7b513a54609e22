-- `search::opens` meets its contract: the edition decides first, and then the range that the entry says.
-- Assumes nothing.
use Rattle.std.proofs.Common.{sym, ap, ◌∙◌, eq-eqb, ne_eqb}
use Rattle.lists.specs.Pick.{either}
use Rattle.contents.specs.Contents.{edition_or, range_or}
use Rattle.search.specs.Search.{meets}
use Rattle.search.specs.Steps.{opens_by}
use Rattle.search.proofs.opens.Goals as goal

pub returns-then-edition-eq1 : goal.returns-then-edition-eq1
unfolding opens_by
returns-then-edition-eq1 c =
    let args = c.args in
    let front = args.front.now in
    sym (ap (λ t. either t (meets (range_or front args.i) args.low args.high)) (eq-eqb (edition_or front) 1 (sym c.edition-edition.ensures ∙ c.if-edition-eq1.true)))

pub returns : goal.returns
unfolding opens_by
returns c =
    let args = c.args in
    let front = args.front.now in
    c.meets.ensures
    ∙ ap (λ r. meets r args.low args.high) c.range_or.ensures
    ∙ sym (ap (λ t. either t (meets (range_or front args.i) args.low args.high)) (ne_eqb (edition_or front) 1 (λ e. c.if-edition-eq1.false (c.edition-edition.ensures ∙ e))))
