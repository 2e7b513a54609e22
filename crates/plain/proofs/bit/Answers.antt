-- `plain::bit` meets its contract: the place of a bit is below T, and so it is taken as it is.
-- Assumes nothing.
use Rattle.std.proofs.Common.{◌/◌, ◌%◌, ◌^◌, ap, ◌∙◌, mod-eq_of_lt}
use Rattle.plain.proofs.Bits.{bit_shift}
use Rattle.plain.proofs.bit.Goals as goal

pub returns : goal.returns
returns g c =
    c.bit.ensures
    ∙ ap (λ k. g.E.Element.number c.args.m / 2 ^ k % 2) (mod-eq_of_lt c.requires)
    ∙ bit_shift _ _
