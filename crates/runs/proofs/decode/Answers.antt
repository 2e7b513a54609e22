-- `runs::decode` meets its contract: a refusal by what its test shows, and the block by what `look_up` ensures.
-- Assumes nothing.
use Rattle.std.proofs.Common.{refl, sym, ap, ◌∙◌, arith}
use Rattle.places.specs.declared.Answer.TheVariants.{Dictionary}
use Rattle.places.proofs.Elements.{numbers-length}
use Rattle.runs.specs.Calls.{decode_leaves}
use Rattle.runs.proofs.Answers.{decode_bad_indices, decode_bad_output, decode_bad_high, decode-high}
use Rattle.runs.proofs.decode.Goals as goal

pub returns-then-indices-ne1024 : goal.returns-then-indices-ne1024
unfolding decode_leaves
returns-then-indices-ne1024 g c =
    rw (decode_bad_indices _ _ _ c.if-indices-ne1024.true) record { value = refl; output_after = refl }

pub returns-then-output-ne1024 : goal.returns-then-output-ne1024
unfolding decode_leaves
returns-then-output-ne1024 g c =
    let long = numbers-length g.met.E.Element.one_by_one in
    rw (decode_bad_output _ _ _ c.if-indices-ne1024.false (λ e. c.if-output-ne1024.true (sym (long c.args.output.now) ∙ e)))
    record { value = refl; output_after = refl }

pub returns-then-dictionary-high : goal.returns-then-dictionary-high
unfolding decode_leaves
returns-then-dictionary-high g c =
    let args = c.args in
    let numbers = g.E.Element.numbers in
    let long = numbers-length g.met.E.Element.one_by_one in
    rw (decode_bad_high (numbers args.dictionary.now) args.indices.now (numbers args.output.now) (omega arith) (omega (arith, long args.output.now)) (omega (arith, long args.dictionary.now)), long args.dictionary.now)
    record { value = ap Dictionary c.first_beyond.ensures; output_after = refl }

pub returns : goal.returns
unfolding decode_leaves
returns g c =
    let args = c.args in
    let numbers = g.E.Element.numbers in
    let long = numbers-length g.met.E.Element.one_by_one in
    rw (decode-high (numbers args.dictionary.now) args.indices.now (numbers args.output.now) (omega arith) (omega (arith, long args.output.now)) (omega (arith, long args.dictionary.now)))
    record { value = refl; output_after = c.look_up.ensures }
