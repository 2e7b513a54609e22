-- `drawers::unpack_blocks` meets its contract: where the drawer is taken, all its blocks are turned.
-- Assumes nothing.
use Rattle.std.proofs.Common.{◌≡◌, sym, ◌∙◌}
use Rattle.places.specs.Answers.{number_of}
use Rattle.places.proofs.Answers.{by_refusal, by_done, number-done}
use Rattle.places.proofs.Elements.{numbers-length}
use Rattle.drawers.specs.Drawers.{unpack_blocks_leaves}
use Rattle.drawers.proofs.Answers.{drawer-taken}
use Rattle.drawers.proofs.unpack_blocks.Goals as goal

pub unpack_all-requires : goal.unpack_all-requires
unpack_all-requires g c =
    let long = numbers-length g.met.E.Element.one_by_one in
    let answer = c.drawer_answer-answer in
    let given = drawer-taken _ _ _ _ _ (sym answer.ensures ∙ number-done _ (sym c.number.ensures ∙ c.if-number-eq0.true)) in
    record { width_le_t = (given.narrow, given.few); packed_len = sym (long _) ∙ given.full; values_len = sym (long _) ∙ given.whole }

pub returns-then-number-eq0 : goal.returns-then-number-eq0
unfolding unpack_blocks_leaves
returns-then-number-eq0 g c =
    let answer = c.drawer_answer-answer in
    let zero : number_of answer.result ≡ 0 = sym c.number.ensures ∙ c.if-number-eq0.true in
    record { value = answer.ensures; values_after = c.unpack_all.ensures ∙ by_done _ (λ _. g.E.Element.numbers c.args.values.now) _ _ answer.ensures zero }

pub returns-else-number-eq0 : goal.returns-else-number-eq0
unfolding unpack_blocks_leaves
returns-else-number-eq0 g c =
    let answer = c.drawer_answer-answer in
    record { value = answer.ensures; values_after = by_refusal _ (λ _. g.E.Element.numbers c.args.values.now) _ _ answer.ensures (λ zero. c.if-number-eq0.false (c.number.ensures ∙ zero)) }
