-- `listing::list` meets its contract.
-- Assumes nothing.
use mathlib.Core.Path.{ap, ◌∙◌}
use Prim.Native.Nat.{◌+◌, min}
use Rattle.places.specs.Sizes.{largest_u64}
use Rattle.listing.specs.Machine.{between, listed}
use Rattle.listing.proofs.list.Goals as goal

pub returns : goal.returns
unfolding listed
returns c =
    let s = c.args.state in
    let many = c.plus.ensures ∙ ap (λ n. min (s.differences + n) largest_u64) c.requires.n_value in
    record { value = c.between.ensures ∙ (λ j. between (c.past-there.ensures j) (many j) (c.put_lines-bytes.ensures.value j)); out_after = c.put_lines-bytes.ensures.out_after }
