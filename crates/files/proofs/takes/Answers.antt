-- `files::takes` meets its contract: two tests as one.
-- Assumes nothing.
use Rattle.std.proofs.Common.{◌≡◌, Bool, true, false, not, ◌||◌, eqb, ltb, refl}
use Rattle.lists.specs.Pick.{pick}
use Rattle.files.proofs.takes.Goals as goal

one_test : (a b : Bool) → (not a || b) ≡ pick a b true
one_test true b = refl
one_test false b = refl

pub returns : goal.returns
returns c = one_test (eqb c.args.edition 2) (ltb c.args.kind 3)
