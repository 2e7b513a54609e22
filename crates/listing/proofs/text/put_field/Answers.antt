-- `listing::text::put_field` meets its contract: the number goes into the tail that is lent, and the byte that ends it
-- behind it.
-- Assumes nothing.
use mathlib.Core.Path.{◌≡◌, ap, ◌∙◌}
use Prim.Native.Nat.{◌-◌}
use native.Mathlib.Omega.{arith}
use lib.ListN.{length}
use borrow.Rule.Slice.PartMut.{put_mid}
use Rattle.lists.specs.Tab.{over}
use Rattle.lists.proofs.Overs.{length_over}
use Rattle.decimal.specs.Decimal.{text_of}
use Rattle.decimal.proofs.Texts.{long-most}
use Rattle.listing.proofs.Lines.{field-long, number_laid, number-leaves, field_laid}
use borrow.Author.Rules.{rules}
use Rattle.listing.proofs.text.put_field.Goals as goal
use Rattle.listing.proofs.text.put_field.Goals.{After-lay-k}

-- the number is laid whole,
laid : (c : After-lay-k) → c.lay-k.result ≡ length (text_of c.args.n)
laid c =
    let args = c.args in
    c.lay-k.ensures.value ∙ number_laid args.n args.at args.out.now (search rules) (search rules)

-- and stands in the output
leaves : (c : After-lay-k)
    → put_mid c.args.at (length c.args.out.now - c.args.at) c.args.out.now c.lay-k.new.out
    ≡ over c.args.at (text_of c.args.n) c.args.out.now
leaves c =
    let args = c.args in
    ap (put_mid args.at (length args.out.now - args.at) args.out.now) c.lay-k.ensures.out_after
    ∙ number-leaves args.n args.at args.out.now (search rules) (search rules)

pub overflow_add-out : goal.overflow_add-out
overflow_add-out c =
    omega (arith, laid (goal.at.overflow_add-out c).After-lay-k, long-most c.args.n (search rules))

pub bounds-out-at : goal.bounds-out-at
bounds-out-at c =
    let few = long-most c.args.n (search rules) in
    omega (arith, laid (goal.at.bounds-out-at c).After-lay-k, few, ap length (leaves (goal.at.bounds-out-at c).After-lay-k), length_over c.args.at (text_of c.args.n) c.args.out.now (omega (arith, few)))

pub overflow_add-result : goal.overflow_add-result
overflow_add-result c =
    omega (arith, laid (goal.at.overflow_add-result c).After-lay-k, long-most c.args.n (search rules))

pub overflow_add-result-2 : goal.overflow_add-result-2
overflow_add-result-2 c =
    omega (arith, laid (goal.at.overflow_add-result-2 c).After-lay-k, long-most c.args.n (search rules))

pub returns : goal.returns
returns c =
    let args = c.args in record { value = omega (arith, laid (goal.at.returns c).After-lay-k, field-long args.n args.end); out_after = field_laid args.n args.end args.at c.lay-k.result args.out.now _ (search rules) (search rules) (laid (goal.at.returns c).After-lay-k) (leaves (goal.at.returns c).After-lay-k) }
