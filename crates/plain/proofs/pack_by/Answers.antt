-- `plain::pack_by` meets its contract: where the blocks are taken, all of `packed` is written.
-- Assumes nothing.
use mathlib.Core.Path.{◌≡◌, sym, ◌∙◌}
use Rattle.places.specs.Answers.{number_of}
use Rattle.places.proofs.Answers.{by_refusal, by_done, number-done}
use Rattle.places.proofs.Elements.{numbers-length}
use Rattle.plain.specs.Calls.{plain_pack_leaves}
use Rattle.plain.proofs.Answers.{taken}
use Rattle.plain.proofs.pack_by.Goals as goal

pub pack_words-requires : goal.pack_words-requires
pack_words-requires g c =
    let long = numbers-length g.met.E.Element.one_by_one in
    let given = taken _ _ _ _ (sym c.block_answer-answer.ensures ∙ number-done _ (sym c.number.ensures ∙ c.if-number-eq0.true)) in
    record { width_le_t = given.narrow; packed_len = sym (long c.args.packed.now) ∙ given.whole; values_len = sym (long c.args.values.now) ∙ given.block }

pub returns-then-number-eq0 : goal.returns-then-number-eq0
unfolding plain_pack_leaves
returns-then-number-eq0 g c =
    let answer = c.block_answer-answer in
    let zero : number_of answer.result ≡ 0 = sym c.number.ensures ∙ c.if-number-eq0.true in
    record { value = answer.ensures; packed_after = c.pack_words.ensures ∙ by_done _ (λ _. g.E.Element.numbers c.args.packed.now) _ _ answer.ensures zero }

pub returns-else-number-eq0 : goal.returns-else-number-eq0
unfolding plain_pack_leaves
returns-else-number-eq0 g c =
    let answer = c.block_answer-answer in
    record { value = answer.ensures; packed_after = by_refusal _ (λ _. g.E.Element.numbers c.args.packed.now) _ _ answer.ensures (λ zero. c.if-number-eq0.false (c.number.ensures ∙ zero)) }
