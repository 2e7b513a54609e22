-- `bodies::range_of` meets its contract: the lowest and the highest number of the places passed, with those to come,
-- are those of all. A turn passes two places.
-- Assumes nothing.
use mathlib.Core.List.{List}
use mathlib.Core.Path.{◌≡◌, refl, ap, ◌∙◌}
use Prim.Native.Nat.{ℕ, ◌+◌, ◌*◌, ◌/◌, ◌<◌, min, max}
use native.Mathlib.Omega.{arith}
use lib.ListN.{length, get_or}
use Rattle.lists.proofs.Highs.{Passed as Highs, passed_none as highs-none, passed-next as highs-next, passed_all as highs-all}
use Rattle.lists.proofs.Lows.{Passed as Lows, passed_none as lows-none, passed-next as lows-next, passed_all as lows-all}
use Rattle.bodies.proofs.range_of.Goals as goal

-- two places in one turn
module _ (xs : List ℕ) (i : ℕ) (room : i * 2 + 1 < length xs) where
  lows-pair : {low next : ℕ} → Lows xs low (i * 2) → next ≡ min low (min (get_or xs (i * 2) 0) (get_or xs (i * 2 + 1) 0)) → Lows xs next ((i + 1) * 2)
  lows-pair {low} {next} p e =
      let on : i * 2 + 1 + 1 ≡ (i + 1) * 2 = omega arith in
      rw on at (lows-next next (lows-next (min low (get_or xs (i * 2) 0)) p (omega arith) refl) room (omega arith))

  highs-pair : {high next : ℕ} → Highs xs high (i * 2) → next ≡ max high (max (get_or xs (i * 2) 0) (get_or xs (i * 2 + 1) 0)) → Highs xs next ((i + 1) * 2)
  highs-pair {high} {next} p e =
      let on : i * 2 + 1 + 1 ≡ (i + 1) * 2 = omega arith in
      rw on at (highs-next next (highs-next (max high (get_or xs (i * 2) 0)) p (omega arith) refl) room (omega arith))

pub loop-i-init : goal.loop-i-init
loop-i-init c = (lows-none _, highs-none _)

pub loop-i-preserved : goal.loop-i-preserved
loop-i-preserved c =
    let values = c.args.values.now in
    let i = c.loop-i.i in
    let room : i * 2 + 1 < length values = omega arith in (
      lows-pair values i room c.loop-i.invariant.0 (c.lower-low.ensures ∙ ap (min _) c.lower.ensures),
      highs-pair values i room c.loop-i.invariant.1 (c.higher-high.ensures ∙ ap (max _) c.higher.ensures),
    )

pub returns-then-n-values : goal.returns-then-n-values
returns-then-n-values c =
    let values = c.args.values.now in
    let all : c.loop-i.i ≡ length values / 2 = omega arith in
    let last : length values / 2 * 2 < length values = omega arith in (
      lows-all (lows-next _ (rw all at c.loop-i.invariant.0) last c.lower-low-then-n-values.ensures) (omega arith),
      highs-all (highs-next _ (rw all at c.loop-i.invariant.1) last c.higher-high-then-n-values.ensures) (omega arith),
    )

pub returns-else-n-values : goal.returns-else-n-values
returns-else-n-values c =
    (lows-all c.loop-i.invariant.0 (omega arith), highs-all c.loop-i.invariant.1 (omega arith))
