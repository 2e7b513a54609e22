-- `renumber::replace_all` meets its contract: the front of the block is replaced, and what changed is counted.
-- Assumes nothing.
use Rattle.renumber.proofs.Blocks.{replaced_none, replaced_length, replaced_few, replaced_same, replaced_other, replaced_all}
use Prim.Native.Nat.{◌<◌}
use lib.ListN.{length}
use native.Mathlib.Omega.{arith}
use Rattle.renumber.proofs.replace_all.Goals as goal
use Rattle.renumber.proofs.replace_all.Goals.{then-y-x, else-y-x}

pub loop-k-init : goal.loop-k-init
loop-k-init c = replaced_none c.args.old.now c.args.new.now c.args.block.now

pub renumber_one-y-requires : goal.renumber_one-y-requires
renumber_one-y-requires c = record { rising = c.requires.rising; len = c.requires.len }

pub overflow_add-changed : goal.overflow_add-changed
overflow_add-changed c = omega (arith, replaced_few c.loop-k.invariant)

pub loop-k-smaller : goal.loop-k-smaller
loop-k-smaller c = omega (arith, replaced_length c.loop-k.invariant)

pub loop-k-preserved : goal.loop-k-preserved
loop-k-preserved c =
    let loop = c.loop-k in
    let there : loop.k < length c.args.block.now = omega (arith, replaced_length loop.invariant) in
    let one = c.renumber_one-y in
    elim c.if-y-x.branch [
      | then-y-x w ↦
          replaced_other loop.invariant there one.result one.ensures w.if-y-x.true w.changed-is
      | else-y-x w ↦
          replaced_same loop.invariant there one.result one.ensures w.if-y-x.false w.changed-is
    ]

pub returns : goal.returns
returns c =
    let both = replaced_all c.loop-k.invariant (omega (arith, replaced_length c.loop-k.invariant)) in record { value = both.0; block_after = both.1 }
