-- `listing::text::put_change` meets its contract: three numbers one behind another.
-- Assumes nothing.
use native.Mathlib.Omega.{arith}
use Rattle.listing.proofs.Lines.{field-most, change_laid}
use borrow.Author.Rules.{rules}
use Rattle.listing.proofs.text.put_change.Goals as goal

pub put_field-third-requires : goal.put_field-third-requires
put_field-third-requires c =
    let change = c.args.change in
    omega (arith, c.put_field-second.ensures.value, field-most change.row 32 (search rules))

pub put_field-requires : goal.put_field-requires
put_field-requires c =
    let change = c.args.change in
    omega (
      arith,
      c.put_field-second.ensures.value,
      c.put_field-third.ensures.value,
      field-most change.row 32 (search rules),
      field-most change.left 32 (search rules),
    )

pub returns : goal.returns
returns c =
    let change = c.args.change in
    let one = c.put_field-second in
    let two = c.put_field-third in
    let three = c.put_field in
    let all =
    change_laid change
    (record { ends = one.ensures.value; is = one.ensures.out_after })
    (record { ends = two.ensures.value; is = two.ensures.out_after })
    (record { ends = three.ensures.value; is = three.ensures.out_after })
    (search rules) (search rules) (search rules) (search rules) in
    record { value = all.ends; out_after = all.is }
