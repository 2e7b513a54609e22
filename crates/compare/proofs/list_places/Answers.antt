-- `compare::list_places` meets its contract: the places that differ so far stand at the front of the list.
-- Assumes nothing.
use native.Mathlib.Omega.{arith}
use Rattle.compare.proofs.Noted.{noted-none, noted-few, noted-length, noted-same, noted_other, noted_all}
use Rattle.compare.proofs.list_places.Goals as goal
use Rattle.compare.proofs.list_places.Goals.{then-left-i, else-left-i}

pub loop-i-init : goal.loop-i-init
loop-i-init c = noted-none _ _ _ c.requires.places_len

pub offset_bounds-places-n : goal.offset_bounds-places-n
offset_bounds-places-n c = omega (arith, noted-few c.loop-i.invariant)

pub bounds-places-n : goal.bounds-places-n
bounds-places-n c = omega (arith, noted-few c.loop-i.invariant, noted-length c.loop-i.invariant)

pub overflow_add-n : goal.overflow_add-n
overflow_add-n c = omega (arith, noted-few c.loop-i.invariant)

pub loop-i-preserved : goal.loop-i-preserved
loop-i-preserved c =
    let inv = c.loop-i.invariant in
    elim c.if-left-i.branch [
      | then-left-i w ↦
          noted_other inv (omega arith) w.if-left-i.true w.places-is w.n-is
      | else-left-i w ↦
          noted-same inv (omega arith) w.if-left-i.false w.places-is w.n-is
    ]

pub returns : goal.returns
returns c =
    let both = noted_all c.loop-i.invariant (omega arith) in record { value = both.0; places_after = both.1 }
