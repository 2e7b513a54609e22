-- `listing::text::put_last` meets its contract: the line of the row counts, and behind it that of the differences.
-- Assumes nothing.
use native.Mathlib.Omega.{arith}
use Rattle.listing.proofs.Lines.{rows-most, last_laid}
use borrow.Author.Rules.{rules}
use Rattle.listing.proofs.text.put_last.Goals as goal

pub put_text-third-requires : goal.put_text-third-requires
put_text-third-requires c =
    omega (arith, c.put_rows-second.ensures.value, rows-most c.args.left c.args.right (search rules) (search rules))

pub put_field-requires : goal.put_field-requires
put_field-requires c =
    omega (arith, c.put_rows-second.ensures.value, c.put_text-third.ensures.value, rows-most c.args.left c.args.right (search rules) (search rules))

pub returns : goal.returns
returns c =
    let args = c.args in
    let both = last_laid args.left args.right args.differences args.out.now c.put_rows-second.ensures.value c.put_rows-second.ensures.out_after
    (record { ends = c.put_text-third.ensures.value; is = c.put_text-third.ensures.out_after })
    (record { ends = c.put_field.ensures.value; is = c.put_field.ensures.out_after }) (search rules) (search rules) (search rules) (search rules) in record { value = both.0; out_after = both.1 }
