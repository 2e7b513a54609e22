-- `listing::text::put_refusal` meets its contract: its words and two numbers one behind another.
-- Assumes nothing.
use native.Mathlib.Omega.{arith}
use Rattle.std.specs.Prelude.{Err}
use Rattle.listing.proofs.Lines.{refused-most, field-most, refusal_laid}
use borrow.Author.Rules.{rules}
use Rattle.listing.proofs.text.put_refusal.Goals as goal

pub put_field-third-requires : goal.put_field-third-requires
put_field-third-requires c = omega (arith, c.put_refused-second.ensures.value, refused-most c.args.side)

pub put_field-requires : goal.put_field-requires
put_field-requires c =
    omega (arith, c.put_refused-second.ensures.value, refused-most c.args.side, c.put_field-third.ensures.value, field-most c.number.result 32 (search rules))

pub returns : goal.returns
returns c =
    let args = c.args in
    let both = refusal_laid args.side (Err args.reason) args.out.now c.number.ensures c.place.ensures c.put_refused-second.ensures.value c.put_refused-second.ensures.out_after
    (record { ends = c.put_field-third.ensures.value; is = c.put_field-third.ensures.out_after })
    (record { ends = c.put_field.ensures.value; is = c.put_field.ensures.out_after }) (search rules) (search rules) (search rules) in record { value = both.0; out_after = both.1 }
