-- What the summary of a block and the place of a row are good for: where the contents of a file say a range, it is the
-- one that a person is shown; and of the rows from a to before b block i has exactly those from the place of a to
-- before the place of b.
-- Assumes nothing.
use mathlib.Core.Bool.{true}
use mathlib.Core.List.{List}
use mathlib.Core.Logic.{◌↔◌}
use mathlib.Core.Path.{◌≡◌, sym}
use Prim.Native.Nat.{ℕ, ◌+◌, ◌*◌, ◌≤◌, ◌<◌}
use native.Mathlib.Omega.{arith}
use lib.Dec.{eqb}
use borrow.Author.Tests.{eqb-true}
use Rattle.lists.specs.Ends.{highest_of, lowest_of}
use Rattle.lists.proofs.Tests.{both_true}
use Rattle.contents.specs.declared.Entry.{Entry}
use Rattle.contents.specs.declared.Range.{Range}
use Rattle.bodies.specs.Ranges.{is_range}
use Rattle.summary.specs.Summary.{summary_of, place_in}

-- The range of a block that has its true one is the one that is shown.
pub range_shown : (e : Entry) (r : Range) (block : List ℕ) → is_range r block ≡ true
    → ((summary_of e block).smallest ≡ r.smallest) × ((summary_of e block).largest ≡ r.largest)
range_shown e r block h =
    let parts = both_true (eqb r.smallest (lowest_of block)) (eqb r.largest (highest_of block)) h in
    (sym (eqb-true r.smallest (lowest_of block) parts.0), sym (eqb-true r.largest (highest_of block) parts.1))

-- Place p of block i is listed exactly when its row is one of those that are asked for.
pub rows-listed : (a b i p : ℕ) → p < 1024
    → ((place_in a i ≤ p) × (p < place_in b i)) ↔ ((a ≤ i * 1024 + p) × (i * 1024 + p < b))
rows-listed a b i p h = ((λ l. (omega arith, omega arith)), (λ l. (omega arith, omega arith)))
