-- `contents::contents_size` meets its contract: by the size of an entry.
-- Assumes nothing.
use mathlib.Core.Path.{◌≡◌, ap}
use Prim.Native.Nat.{◌+◌, ◌*◌}
use native.Mathlib.Omega.{arith}
use Rattle.contents.specs.Contents.{contents_size}
use Rattle.contents.proofs.contents_size.Goals as goal
use Rattle.contents.proofs.contents_size.Goals.{After-entry_size}

-- the sum is the size
size : (c : After-entry_size) → 4 + c.args.n * c.entry_size.result ≡ contents_size c.args.edition c.args.n
unfolding contents_size
size c = ap (λ s. 4 + c.args.n * s) c.entry_size.ensures

pub overflow_mul-result : goal.overflow_mul-result
overflow_mul-result c = omega (arith, size (goal.at.overflow_mul-result c).After-entry_size, c.requires)

pub overflow_add-result : goal.overflow_add-result
overflow_add-result c = omega (arith, size (goal.at.overflow_add-result c).After-entry_size, c.requires)

pub returns : goal.returns
returns c = size (goal.at.returns c).After-entry_size
