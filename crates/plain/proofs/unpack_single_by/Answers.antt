-- `plain::unpack_single_by` meets its contract: where the place is taken, its value and its count are those of its
-- row and its lane.
-- Assumes nothing.
use Rattle.std.proofs.Common.{◌<◌, sym, ap, ap₂, ◌∙◌, subst}
use Rattle.places.proofs.Answers.{by_refusal, by_done, number-done}
use Rattle.places.proofs.Elements.{numbers-length}
use Rattle.places.proofs.Places.{row_lt}
use Rattle.plain.specs.declared.Single.TheVariants.{Value, Refused}
use Rattle.plain.specs.Calls.{plain_single}
use Rattle.plain.specs.Plain.{words_for, plain_count}
use Rattle.plain.proofs.Answers.{Place, single-taken}
use Rattle.plain.proofs.unpack_single_by.Goals as goal
use Rattle.plain.proofs.unpack_single_by.Goals.{Else-number-ne0}

pub returns-then-number-ne0 : goal.returns-then-number-ne0
unfolding plain_single
returns-then-number-ne0 g c =
    by_refusal _ Refused _ _ c.single_answer-answer.ensures (λ zero. c.if-number-ne0.true (c.number.ensures ∙ zero))

-- the place is taken
place : (g : _) (c : Else-number-ne0 g) → Place g.row.T c.args.width (g.E.Element.numbers c.args.packed.now) c.args.index
place g c = single-taken _ _ _ _ (sym c.single_answer-answer.ensures ∙ number-done _ (sym c.number.ensures ∙ c.if-number-ne0.false))

pub value_at-value-requires : goal.value_at-value-requires
value_at-value-requires g c =
    let given = place g (goal.at.value_at-value-requires g c).Else-number-ne0 in
    record { width_le_t = given.narrow; packed_len = sym (numbers-length g.met.E.Element.one_by_one c.args.packed.now) ∙ given.whole; p_bound = given.within }

pub row_of-requires : goal.row_of-requires
row_of-requires g c =
    record { size = g.met.E.Element.size; p_bound = (place g (goal.at.row_of-requires g c).Else-number-ne0).within }

pub words_for-words-requires : goal.words_for-words-requires
words_for-words-requires g c =
    let given = place g (goal.at.words_for-words-requires g c).Else-number-ne0 in
    let size = g.met.E.Element.size in
    record { size = size; width_le_t = (given.narrow, subst (λ r. r < g.row.T) (sym c.row_of.ensures) (row_lt size _ given.within)) }

pub returns : goal.returns
unfolding plain_single plain_count
returns g c =
    let count = c.words_for-words.ensures ∙ ap (λ r. words_for g.row.T c.args.width r c.args.width) c.row_of.ensures in
    ap₂ Value c.value_at-value.ensures count
    ∙ by_done _ Refused _ _ c.single_answer-answer.ensures (sym c.number.ensures ∙ c.if-number-ne0.false)
