-- `files::lookup::sum_to` meets its contract. The loop's invariant: the sum is that of the rows before row k.
-- Assumes nothing.
use Rattle.std.proofs.Common.{◌+◌, ◌%◌, ◌^◌, refl, ◌∙◌, ap₂, arith}
use Rattle.lists.specs.Numbers.{plus}
use Rattle.files.proofs.Lookups.{sum_before, sum_next, sum_all}
use Rattle.files.proofs.lookup.sum_to.Goals as goal

pub loop-k-init : goal.loop-k-init
unfolding sum_before
loop-k-init c = refl

pub loop-k-preserved : goal.loop-k-preserved
unfolding plus
loop-k-preserved c =
    c.wrapping_add_u64-sum.ensures.value
    ∙ ap₂ (λ v s. (v + s) % 2 ^ 64) c.read-found.ensures.its_value c.loop-k.invariant
    ∙ sum_next _ _ c.loop-k.k

pub returns : goal.returns
returns c = c.loop-k.invariant ∙ sum_all _ _ c.loop-k.k _ (omega arith)
