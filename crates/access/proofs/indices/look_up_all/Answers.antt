-- `access::indices::look_up_all` meets its contract. The loop's invariant: the first i outputs hold the values at their indices,
-- and their second words are counted.
-- Assumes nothing.
use Rattle.std.proofs.Common.{◌≡◌, ℕ, ◌+◌, get_or, sym, ap, subst, ◌∙◌, arith, zero-le, zero-add}
use Rattle.places.specs.declared.Answer.{Answer}
use Rattle.places.proofs.Elements.{elements_none, elements_next, elements_all}
use Rattle.packing.specs.Packed.{value_at}
use Rattle.access.specs.declared.Single.TheVariants.{Value, Refused}
use Rattle.access.specs.declared.Listed.TheVariants.{Words}
use Rattle.access.specs.Calls.{list_of}
use Rattle.access.specs.Counts.{count_at, counts_of_lem, sum_of}
use Rattle.access.specs.Singles.{single_number, value_of, words_of}
use Rattle.access.proofs.Counts.{has-count, Seconds, seconds_none, seconds_small, seconds_all, seconds_more, seconds_same, list-twice, list_unheld}
use Rattle.access.proofs.indices.look_up_all.Goals as goal
use Rattle.access.proofs.indices.look_up_all.Goals.{After-first_words, After-look_up-found, then-n-eq2, else-n-eq2}

pub loop-i-init : goal.loop-i-init
loop-i-init g c = (elements_none g.met.E.Element.one_by_one _ zero-le, seconds_none g.row.T _ _)

-- the single answer is the value and its count, since its index was looked at before
answered : (g : _) (c : After-look_up-found g)
    → let index = get_or c.args.indices.now c.loop-i.i 0 in
    single_number g.E.Element.number c.look_up-found.result ≡ Value (value_at g.row.T c.args.width (g.E.Element.numbers c.args.packed.now) index) (count_at g.row.T c.args.width index)
answered g c = let good = c.requires.by_index _ c.loop-i-test.true in c.look_up-found.ensures ∙ rw good

-- so it is no refusal
never : (g : _) (c : After-look_up-found g) (a : Answer) → c.look_up-found.result ≡ Refused a → ⊥
never g c a e =
    let same = sym (answered g c) ∙ ap (single_number g.E.Element.number) e in
    has-count g.row.T _ _ (ap words_of same)

pub returns-in_default : goal.returns-in_default
returns-in_default g c =
    absurd (never g (goal.at.returns-in_default g c).After-look_up-found _ c.in_default.is)

-- what the entry gives is the value and the count
gives : (g : _) (c : After-look_up-found g) (v : _) (n : ℕ) → c.look_up-found.result ≡ Value v n
    → let index = get_or c.args.indices.now c.loop-i.i 0 in
    (g.E.Element.number v ≡ value_at g.row.T c.args.width (g.E.Element.numbers c.args.packed.now) index) × (n ≡ count_at g.row.T c.args.width index)
gives g c v n e =
    let same = ap (single_number g.E.Element.number) (sym e) ∙ answered g c in
    (ap value_of same, ap words_of same)

pub overflow_add-seconds : goal.overflow_add-seconds
overflow_add-seconds g c = omega (arith, seconds_small c.loop-i.invariant.1 (omega arith))

pub loop-i-preserved : goal.loop-i-preserved
loop-i-preserved g c =
    let gave = gives g (goal.at.loop-i-preserved g c).After-look_up-found _ _ c.in-Value.is in
    let so = c.loop-i.invariant.1 in (
      elements_next g.met.E.Element.one_by_one c.loop-i.invariant.0 _ _ (omega arith) (sym (zero-add _)) gave.0,
      elim c.if-n-eq2.branch [
        | then-n-eq2 w ↦ subst (Seconds g.row.T _ _ _) (sym w.seconds-is) (seconds_more so _ (omega arith) gave.1 w.if-n-eq2.true)
        | else-n-eq2 w ↦ subst (Seconds g.row.T _ _ _) (sym w.seconds-is) (seconds_same so _ (omega arith) gave.1 w.if-n-eq2.false)
      ],
    )

-- at the loop's end first and second words are all
summed : (g : _) (c : After-first_words g)
    → c.first_words.result + c.loop-i.seconds ≡ sum_of (counts_of_lem g.row.T c.args.width c.args.indices.now)
summed g c = ap (λ n. n + c.loop-i.seconds) c.first_words.ensures ∙ seconds_all c.loop-i.invariant.1 (omega arith)

pub overflow_add-sum : goal.overflow_add-sum
overflow_add-sum g c =
    omega (arith, summed g (goal.at.overflow_add-sum g c).After-first_words, list-twice g.row.T c.args.width c.args.indices.now)

pub returns : goal.returns
unfolding list_of
returns g c =
    record {
      value = ap Words (summed g (goal.at.returns g c).After-first_words ∙ sym (list_unheld g.row.T _ c.args.indices.now (omega arith)));
      output_after = elements_all g.met.E.Element.one_by_one c.loop-i.invariant.0 _ (omega arith) c.requires.output_len;
    }
