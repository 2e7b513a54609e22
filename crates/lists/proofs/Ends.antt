-- The lowest and the highest number of a list are what they are called: they span it, and no other two do.
-- Assumes nothing.
use mathlib.Core.List.{List}
use mathlib.Core.Logic.{◌↔◌}
use mathlib.Core.Path.{◌≡◌, sym, ◌∙◌}
use Prim.Native.Nat.{ℕ, ◌<◌}
use native.Mathlib.Omega.{arith}
use lib.ListN.{length}
use Rattle.lists.specs.Ends.{lowest_of, highest_of, Spans}
use Rattle.lists.specs.Numbers.{Elements}
use Rattle.lists.proofs.Highs.{highest_bound, highest-stands}
use Rattle.lists.proofs.Lows.{lowest_bound, lowest-stands}

module _ (low high : ℕ) (xs : List ℕ) (some : 0 < length xs) (fits : Elements 64 xs) where
  pub ends_span : ((low ≡ lowest_of xs) × (high ≡ highest_of xs)) ↔ Spans low high xs
  ends_span = (to, from)
    where
      to : (low ≡ lowest_of xs) × (high ≡ highest_of xs) → Spans low high xs
      to ends =
          let lowest = lowest-stands xs some fits in
          let highest = highest-stands xs some in
          record {
            between = λ i h. (omega (arith, ends.0, lowest_bound xs i h), omega (arith, ends.1, highest_bound xs i h));
            lowest = (lowest.0, lowest.1, lowest.2 ∙ sym ends.0);
            highest = (highest.0, highest.1, highest.2 ∙ sym ends.1);
          }

      from : Spans low high xs → (low ≡ lowest_of xs) × (high ≡ highest_of xs)
      from p =
          let lowest = lowest-stands xs some fits in
          let highest = highest-stands xs some in (
            omega (arith, (p.between lowest.0 lowest.1).0, lowest.2, lowest_bound xs p.lowest.0 p.lowest.1, p.lowest.2),
            omega (arith, (p.between highest.0 highest.1).1, highest.2, highest_bound xs p.highest.0 p.highest.1, p.highest.2),
          )
