-- `access::indices::unpack_within` meets its contract: a refusal is that of the list, and the rest is the lookups'.
-- Assumes nothing.
use Rattle.std.proofs.Common.{◌≡◌, ◌*◌, sym, ap, ◌∙◌}
use Rattle.places.specs.Answers.{number_of}
use Rattle.places.proofs.Answers.{by_refusal, by_done, number-done}
use Rattle.places.proofs.Elements.{numbers-length}
use Rattle.access.specs.declared.Afforded.TheVariants.{Refused}
use Rattle.access.specs.Budgets.{within_gives, within_leaves}
use Rattle.access.proofs.Answers.{Listable, list-taken}
use Rattle.access.proofs.Budgets.{ample-gives, ample-leaves}
use Rattle.access.proofs.indices.unpack_within.Goals as goal
use Rattle.access.proofs.indices.unpack_within.Goals.{Else-number-ne0}

-- a budget of two words for each lookup
pub returns-in-Words : goal.returns-in-Words
returns-in-Words g c =
    let ample = c.if-indices-budget.true in
    let listed = sym c.in-Words.is ∙ c.unpack_indices.ensures.value in
    record {
      value = ample-gives _ _ _ _ _ _ ample c.ranges.budget.fits listed;
      output_after = c.unpack_indices.ensures.output_after ∙ ample-leaves _ _ _ _ _ _ ample c.ranges.budget.fits;
    }

pub returns-in-Refused : goal.returns-in-Refused
returns-in-Refused g c =
    let ample = c.if-indices-budget.true in
    let listed = sym c.in-Refused.is ∙ c.unpack_indices.ensures.value in
    record {
      value = ample-gives _ _ _ _ _ _ ample c.ranges.budget.fits listed;
      output_after = c.unpack_indices.ensures.output_after ∙ ample-leaves _ _ _ _ _ _ ample c.ranges.budget.fits;
    }

pub returns-then-number-ne0 : goal.returns-then-number-ne0
unfolding within_gives within_leaves
returns-then-number-ne0 g c =
    let answer = c.list_answer-answer in
    let refused : number_of answer.result ≡ 0 → ⊥ = λ z. c.if-number-ne0.true (c.number.ensures ∙ z) in
    record { value = by_refusal _ Refused _ _ answer.ensures refused; output_after = by_refusal _ (λ _. g.E.Element.numbers c.args.output.now) _ _ answer.ensures refused }

-- where the answer has number 0 the list was taken
taken : (g : _) (c : Else-number-ne0 g)
    → Listable g.row.T c.args.width (g.E.Element.numbers c.args.packed.now) c.args.indices.now (g.E.Element.numbers c.args.output.now)
taken g c = list-taken _ _ _ _ _ (sym c.list_answer-answer.ensures ∙ number-done _ (sym c.number.ensures ∙ c.if-number-ne0.false))

pub look_up_within-requires : goal.look_up_within-requires
look_up_within-requires g c =
    let m = g.met.E.Element in
    let given = taken g (goal.at.look_up_within-requires g c).Else-number-ne0 in
    record {
      width_le_t = given.narrow;
      packed_len = sym (numbers-length m.one_by_one c.args.packed.now) ∙ given.whole ∙ ap (λ n. n * c.args.width) m.side_by_side;
      output_len = sym (numbers-length m.one_by_one c.args.output.now) ∙ given.room;
      by_index = given.inside;
    }

pub returns : goal.returns
unfolding within_gives within_leaves
returns g c =
    let answer = c.list_answer-answer in
    let done : number_of answer.result ≡ 0 = sym c.number.ensures ∙ c.if-number-ne0.false in
    record { value = c.look_up_within.ensures.value ∙ by_done _ Refused _ _ answer.ensures done; output_after = c.look_up_within.ensures.output_after ∙ by_done _ (λ _. g.E.Element.numbers c.args.output.now) _ _ answer.ensures done }
