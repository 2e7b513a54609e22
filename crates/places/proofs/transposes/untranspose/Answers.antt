-- `places::transposes::untranspose` meets its contract: a refusal by what its test shows, and the block by the walk's rule.
-- Assumes nothing.
use Rattle.std.proofs.Common.{refl, sym, ◌∙◌}
use Rattle.places.specs.Transposes.{untranspose_leaves}
use Rattle.places.proofs.Elements.{numbers-length}
use Rattle.places.proofs.Walks.{walk_target, bad_input, bad_output, good_blocks}
use Rattle.places.proofs.transposes.untranspose.Goals as goal

pub returns-then-input-ne1024 : goal.returns-then-input-ne1024
unfolding untranspose_leaves
returns-then-input-ne1024 g c =
    let long = numbers-length g.met.E.Element.one_by_one in
    rw (bad_input _ _ (λ e. c.if-input-ne1024.true (sym (long c.args.input.now) ∙ e))) record { value = refl; output_after = refl }

pub returns-then-output-ne1024 : goal.returns-then-output-ne1024
unfolding untranspose_leaves
returns-then-output-ne1024 g c =
    let long = numbers-length g.met.E.Element.one_by_one in
    rw (bad_output _ _ (long c.args.input.now ∙ c.if-input-ne1024.false) (λ e. c.if-output-ne1024.true (sym (long c.args.output.now) ∙ e)))
    record { value = refl; output_after = refl }

pub returns : goal.returns
unfolding untranspose_leaves
returns g c =
    let long = numbers-length g.met.E.Element.one_by_one in
    rw (good_blocks _ _ (long c.args.input.now ∙ c.if-input-ne1024.false) (long c.args.output.now ∙ c.if-output-ne1024.false))
    record { value = refl; output_after = c.permute.ensures ∙ walk_target _ }
