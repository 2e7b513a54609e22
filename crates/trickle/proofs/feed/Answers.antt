-- `trickle::feed` meets its contract: by what the state counts as, field by field.
-- Assumes nothing.
use mathlib.Core.Path.{◌≡◌, ap, ap₂, ◌∙◌}
use Prim.Native.Nat.{ℕ, ◌+◌, ◌-◌, ◌*◌, ◌≤◌, min}
use native.Mathlib.Omega.{arith}
use lib.ListN.{length, take}
use borrow.Author.Rules.{rules}
use Rattle.lists.specs.Tab.{over}
use Rattle.trickle.specs.Trickle.{taken_of, state_after, fed_of}
use Rattle.trickle.proofs.States.{Limits, counted-as}
use Rattle.trickle.proofs.feed.Goals as goal
use Rattle.trickle.proofs.feed.Goals.{After-counted-counts}

-- the limits of the state that counts
known : (c : After-counted-counts) → Limits c.counted-counts.result
known c = counted-as c.args.state c.counted-counts.ensures

pub overflow_mul-width : goal.overflow_mul-width
overflow_mul-width c = omega (arith, (known (goal.at.overflow_mul-width c).After-counted-counts).0)

pub overflow_sub-width : goal.overflow_sub-width
overflow_sub-width c =
    omega (arith, (known (goal.at.overflow_sub-width c).After-counted-counts).0, (known (goal.at.overflow_sub-width c).After-counted-counts).1)

-- what ends within 8,192 bytes ends within the room
within : {end long : ℕ} → end ≤ 8192 → long ≡ 8192 → end ≤ long
within h e = omega arith

pub copy_in-requires : goal.copy_in-requires
copy_in-requires c =
    let is = known (goal.at.copy_in-requires c).After-counted-counts in
    record { n_in_bounds = within (omega (arith, c.shorter-taken.ensures, is.0, is.1)) (search rules); n_in_bounds_2 = omega (arith, c.shorter-taken.ensures) }

pub overflow_add-result : goal.overflow_add-result
overflow_add-result c =
    let is = known (goal.at.overflow_add-result c).After-counted-counts in
    omega (arith, c.shorter-taken.ensures, is.0, is.1)

pub returns : goal.returns
unfolding fed_of state_after taken_of
returns c =
    let args = c.args in
    let chunk = args.chunk.now in
    let taken : c.shorter-taken.result ≡ taken_of args.state chunk =
    c.shorter-taken.ensures ∙ ap (λ s. min (length chunk) (128 * s.width - s.held)) c.counted-counts.ensures in
    λ i. record {
      taken = taken i;
      state = record {
        width = (c.counted-counts.ensures i).width;
        held = (c.counted-counts.ensures i).held + taken i;
        room = (c.copy_in.ensures ∙ ap₂ (λ s n. over s.held (take n chunk) s.room) c.counted-counts.ensures taken) i;
      };
    }
