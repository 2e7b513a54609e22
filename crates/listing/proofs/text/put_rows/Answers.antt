-- `listing::text::put_rows` meets its contract, by whether the counts differ.
-- Assumes nothing.
use native.Mathlib.Omega.{arith}
use Rattle.listing.proofs.Lines.{field-most, rows_none, rows_laid}
use borrow.Author.Rules.{rules}
use Rattle.listing.proofs.text.put_rows.Goals as goal

pub returns-then-left-right : goal.returns-then-left-right
returns-then-left-right c =
    let both = rows_none c.args.left c.args.right c.args.out.now c.if-left-right.true in record { value = both.0; out_after = both.1 }

pub put_field-requires : goal.put_field-requires
put_field-requires c =
    omega (arith, c.put_text-second.ensures.value, c.put_field-third.ensures.value, field-most c.args.left 32 (search rules))

pub returns : goal.returns
returns c =
    let args = c.args in
    let both = rows_laid args.left args.right c.if-left-right.false
    (record { ends = c.put_text-second.ensures.value; is = c.put_text-second.ensures.out_after })
    (record { ends = c.put_field-third.ensures.value; is = c.put_field-third.ensures.out_after })
    (record { ends = c.put_field.ensures.value; is = c.put_field.ensures.out_after }) (search rules) (search rules) (search rules) in record { value = both.0; out_after = both.1 }
