-- `renumber::replace` meets its contract: where the range has no old number nothing changes.
-- Assumes nothing.
use mathlib.Core.Path.{◌≡◌, sym, ap, ◌∙◌}
use Rattle.renumber.proofs.Blocks.{replace_skipped, changed_skipped}
use Rattle.renumber.specs.InnerPairs.{meets_in}
use mathlib.Core.Bool.{false}
use Rattle.lists.specs.Ends.{lowest_of, highest_of}
use Rattle.renumber.proofs.replace.Goals as goal

pub returns-then-not-meets : goal.returns-then-not-meets
returns-then-not-meets c =
    let old = c.args.old.now in
    let new = c.args.new.now in
    let block = c.args.block.now in
    let apart : meets_in old (lowest_of block) (highest_of block) ≡ false =
    ap (λ r. meets_in old r.smallest r.largest) (sym c.requires.range_value) ∙ sym c.meets.ensures ∙ c.if-not-meets.true in
    record { value = changed_skipped old new block c.requires.rising apart; block_after = replace_skipped old new block c.requires.rising apart }
