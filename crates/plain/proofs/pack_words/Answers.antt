-- `plain::pack_words` meets its contract. The loop's invariant: the first i words stand in their places.
-- Assumes nothing.
use Rattle.std.proofs.Common.{◌≡◌, ◌*◌, length, sym, ap, ◌∙◌, arith, zero-le, zero-add}
use Rattle.places.proofs.Elements.{elements_none, elements_next, elements_all}
use Rattle.plain.specs.Plain.{plain_pack}
use Rattle.plain.proofs.pack_words.Goals as goal
use Rattle.plain.proofs.pack_words.Goals.{Start}

pub loop-i-init : goal.loop-i-init
loop-i-init g c = elements_none g.met.E.Element.one_by_one _ zero-le

whole : (g : _) (c : Start g) → length c.args.packed.now ≡ g.row.LANES * c.args.width
whole g c = c.requires.packed_len ∙ ap (λ n. n * c.args.width) g.met.E.Element.side_by_side

pub loop-i-preserved : goal.loop-i-preserved
loop-i-preserved g c =
    elements_next g.met.E.Element.one_by_one c.loop-i.invariant _ _ (omega arith) (sym (zero-add _)) c.word_in.ensures

pub returns : goal.returns
unfolding plain_pack
returns g c =
    rw g.met.E.Element.side_by_side
    (elements_all g.met.E.Element.one_by_one c.loop-i.invariant (g.row.LANES * c.args.width) (omega (arith, whole g (goal.at.returns g c).Start)) (whole g (goal.at.returns g c).Start))
