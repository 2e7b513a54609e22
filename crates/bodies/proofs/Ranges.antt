-- The test of a range in plain arithmetic: every value is between its ends, and both ends stand in the block.
-- Assumes nothing.
use mathlib.Core.Bool.{true}
use mathlib.Core.List.{List}
use mathlib.Core.Logic.{◌↔◌}
use mathlib.Core.Path.{◌≡◌, ap₂}
use Prim.Native.Nat.{ℕ, ◌<◌}
use lib.Dec.{eqb}
use lib.ListN.{length}
use borrow.Author.Tests.{eq-eqb, eqb-true}
use Rattle.lists.specs.Ends.{lowest_of, highest_of, Spans}
use Rattle.lists.specs.Numbers.{Elements}
use Rattle.lists.specs.Pick.{both}
use Rattle.lists.proofs.Ends.{ends_span}
use Rattle.lists.proofs.Tests.{both_true}
use Rattle.places.specs.Sizes.{t64}
use Rattle.contents.specs.declared.Range.{Range}
use Rattle.bodies.specs.Ranges.{is_range}

-- The test of a range says just that.
pub range_spans : (r : Range) (block : List ℕ) → 0 < length block → Elements t64 block
    → (is_range r block ≡ true) ↔ Spans r.smallest r.largest block
range_spans r block some fits = (to, from)
  where
    to : is_range r block ≡ true → Spans r.smallest r.largest block
    to e =
        let t = both_true (eqb r.smallest (lowest_of block)) (eqb r.largest (highest_of block)) e in
        (ends_span r.smallest r.largest block some fits).0
        (eqb-true r.smallest (lowest_of block) t.0, eqb-true r.largest (highest_of block) t.1)

    from : Spans r.smallest r.largest block → is_range r block ≡ true
    from p =
        let ends = (ends_span r.smallest r.largest block some fits).1 p in
        ap₂ both (eq-eqb r.smallest (lowest_of block) ends.0) (eq-eqb r.largest (highest_of block) ends.1)
