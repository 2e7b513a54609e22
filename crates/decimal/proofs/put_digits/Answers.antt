-- `decimal::put_digits` meets its contract: what is laid so far, with the text of the rest laid before it, is the text
-- of the number.
-- Assumes nothing.
use mathlib.Core.List.{[], ◌∷◌, ◌++◌}
use mathlib.Core.Path.{refl, sym, ap, ◌∙◌}
use Prim.Native.Nat.{◌/◌}
use native.Mathlib.Omega.{arith}
use lib.ListN.{length-set}
use Rattle.lists.specs.Tab.{over}
use Rattle.decimal.specs.Decimal.{text_of}
use Rattle.decimal.proofs.Texts.{text-one, text_more, long_more, long_some, long-few, long_many, laid_last, laid_first}
use Rattle.decimal.proofs.put_digits.Goals as goal

pub overflow_sub-i : goal.overflow_sub-i
overflow_sub-i c = omega (arith, long_some c.args.n)

pub loop-i-init : goal.loop-i-init
loop-i-init c = (refl, omega (arith, long_some c.args.n), omega (arith, long_some c.args.n), refl)

pub loop-i-preserved : goal.loop-i-preserved
loop-i-preserved c =
    let loop = c.loop-i in
    let many = long_many loop.rest (omega arith) in
    let tenth = long_more loop.rest many in (
      simp length-set loop.invariant.0,
      omega arith,
      omega arith,
      laid_last (text_of (loop.rest / 10)) c.glyph.result loop.out loop.i (omega arith) (omega arith)
          ∙ ap (λ v. over 0 (text_of (loop.rest / 10) ++ (v ∷ [])) loop.out) c.glyph.ensures
          ∙ ap (λ x. over 0 x loop.out) (sym (text_more loop.rest many))
          ∙ loop.invariant.3,
    )

pub glyph-requires-2 : goal.glyph-requires-2
glyph-requires-2 c = omega (arith, long-few c.loop-i.rest (omega arith))

pub returns : goal.returns
returns c =
    let loop = c.loop-i in
    laid_first c.glyph-2.result loop.out (omega arith)
    ∙ ap (λ v. over 0 (v ∷ []) loop.out) c.glyph-2.ensures
    ∙ ap (λ x. over 0 x loop.out) (sym (text-one loop.rest (long-few loop.rest (omega arith))))
    ∙ loop.invariant.3
