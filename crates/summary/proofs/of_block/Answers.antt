-- `summary::of_block` meets its contract: the entry is the one of the contents, and the range is that of the block.
-- Assumes nothing.
use mathlib.Core.Path.{ap, ap₂, ◌∙◌}
use Prim.Native.Nat.{ℕ}
use Rattle.contents.specs.declared.Entry.{Entry}
use Rattle.contents.specs.Contents.{entry_or}
use Rattle.summary.specs.declared.Summary.{Summary}
use Rattle.summary.proofs.of_block.Goals as goal

-- What an entry and two values are put together to.
abbrev shown : (e : Entry) (smallest largest : ℕ) → Summary
shown e a b = record { kind = e.kind; width = e.width; length = e.length; reference = e.reference; smallest = a; largest = b }

pub returns : goal.returns
returns c =
    let range = c.range_of-range in
    let args = c.args in
    ap (λ e. shown e range.result.smallest range.result.largest) c.entry_or-e.ensures
    ∙ ap₂ (shown (entry_or args.front.now args.i)) range.ensures.0 range.ensures.1
