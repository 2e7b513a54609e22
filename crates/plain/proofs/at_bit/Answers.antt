-- `plain::at_bit` meets its contract: nothing is lost above the top.
-- Assumes nothing.
use Rattle.std.proofs.Common.{◌*◌, ◌%◌, ◌^◌, ◌<◌, ◌≤◌, ap, ◌∙◌, mod-eq_of_lt, one-mul, arith}
use native.Mathlib.Nat.{mul-le-mul_right}
use lib.Pow.{pow-lt}
use Rattle.plain.proofs.at_bit.Goals as goal

pub returns : goal.returns
returns g c =
    let x = g.E.Element.number c.args.x in
    let most : x * 2 ^ c.args.i ≤ 1 * 2 ^ c.args.i = mul-le-mul_right (2 ^ c.args.i) (omega (arith, c.requires.0)) in
    let small : x * 2 ^ c.args.i < 2 ^ g.row.T = omega (arith, most, one-mul (2 ^ c.args.i), pow-lt c.requires.1) in
    c.at_bit.ensures ∙ ap (λ k. x * 2 ^ k % 2 ^ g.row.T) (mod-eq_of_lt c.requires.1) ∙ mod-eq_of_lt small
