-- `trickle::values_out` meets its contract: the part of the array that is lent is as long as the words of the body.
-- Assumes nothing.
use mathlib.Core.Path.{◌≡◌, sym, ◌∙◌}
use Prim.Native.Nat.{ℕ, ◌*◌, ◌≤◌}
use native.Mathlib.Omega.{arith}
use lib.ListN.{length, take, replicate, length-replicate}
use lib.Seq.{length-take-le}
use borrow.Author.Rules.{rules}
use Rattle.trickle.proofs.values_out.Goals as goal

lent : (w : ℕ) → w ≤ 64 → length (take (w * 16) (replicate {A = ℕ} 1024 0)) ≡ w * 16
lent w h = length-take-le (w * 16) (replicate 1024 0) (omega (arith, length-replicate {A = ℕ} 1024 0))

pub slice_bounds-values_through-end : goal.slice_bounds-values_through-end
slice_bounds-values_through-end c = sym (lent _ (omega arith))

pub values_through-requires : goal.values_through-requires
values_through-requires c =
    let w = c.args.width in
    record { width_bound = search rules; body_len = search rules; words_len = lent w (omega arith) ∙ omega arith; output_len = search rules }
