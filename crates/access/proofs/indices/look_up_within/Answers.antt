-- `access::indices::look_up_within` meets its contract. The loop's invariant: the first i outputs hold the values at their
-- indices, and what they read and what is left are the budget.
-- Assumes nothing.
use Rattle.std.proofs.Common.{◌≡◌, ℕ, ◌-◌, ◌≤◌, ◌<◌, length, get_or, inl, inr, refl, sym, ap, subst, ◌∙◌, arith, zero-le, zero-add}
use Rattle.places.specs.declared.Answer.{Answer}
use Rattle.places.proofs.Elements.{elements_none, elements_next}
use Rattle.places.specs.Places.{row}
use Rattle.packing.specs.Packed.{value_at}
use Rattle.access.specs.declared.Single.TheVariants.{Value, Refused}
use Rattle.access.specs.declared.Afforded.TheVariants.{Front}
use Rattle.access.specs.Counts.{count_at}
use Rattle.access.specs.Singles.{single_number, value_of, words_of}
use Rattle.access.proofs.Answers.{index_within}
use Rattle.access.proofs.Budgets.{spent_none, enough, spent_next, spent_gives, spent_leaves}
use Rattle.access.proofs.Counts.{has-count}
use Rattle.access.proofs.LanesAndRows.{row-range, looked_count, place-in}
use Rattle.access.proofs.indices.look_up_within.Goals as goal
use Rattle.access.proofs.indices.look_up_within.Goals.{In-loop-i, After-look_up-found, then-left-lt2+else-left-words_read, else-left-lt2}

pub loop-i-init : goal.loop-i-init
loop-i-init g c = (elements_none g.met.E.Element.one_by_one _ zero-le, spent_none g.row.T _ _ _)

-- each index is one of a place
inside : (g : _) (c : In-loop-i g) → get_or c.args.indices.now c.loop-i.i 0 < 1024
inside g c = index_within _ (c.requires.by_index _ c.loop-i-test.true)

pub words_read-requires : goal.words_read-requires
words_read-requires g c =
    record { width_le_t = c.requires.width_le_t; r_lt_t = row-range g.met.E.Element.size _ (inside g (goal.at.words_read-requires g c).In-loop-i) _ (place-in (row g.row.T) (inside g (goal.at.words_read-requires g c).In-loop-i) c.row_of.ensures) }

-- the next lookup would pass the budget
pub returns-then-left-words_read : goal.returns-then-left-words_read
returns-then-left-words_read g c =
    let inv = c.loop-i.invariant in
    let counted = looked_count g.met.E.Element.size _ (inside g (goal.at.returns-then-left-words_read g c).In-loop-i) _ (place-in (row g.row.T) (inside g (goal.at.returns-then-left-words_read g c).In-loop-i) c.row_of.ensures) _ _ c.words_read.ensures in
    let over = subst (λ n. c.loop-i.left < n) counted c.if-left-words_read.true in
    let within : c.loop-i.i ≤ length c.args.indices.now = omega arith in
    record { value = spent_gives inv.1 within (λ _. over) _ refl; output_after = spent_leaves inv.1 within (λ _. over) _ _ _ inv.0 }

-- the single answer is the value and its count, since its index was looked at before
answered : (g : _) (c : After-look_up-found g)
    → let index = get_or c.args.indices.now c.loop-i.i 0 in
    single_number g.E.Element.number c.look_up-found.result ≡ Value (value_at g.row.T c.args.width (g.E.Element.numbers c.args.packed.now) index) (count_at g.row.T c.args.width index)
answered g c = let good = c.requires.by_index _ c.loop-i-test.true in c.look_up-found.ensures ∙ rw good

-- so it is no refusal
never : (g : _) (c : After-look_up-found g) (a : Answer) → c.look_up-found.result ≡ Refused a → ⊥
never g c a e =
    let same = sym (answered g c) ∙ ap (single_number g.E.Element.number) e in
    has-count g.row.T _ _ (ap words_of same)

pub returns-in_default : goal.returns-in_default
returns-in_default g c =
    absurd (never g (goal.at.returns-in_default g c).After-look_up-found _ c.in_default.is)

-- what the entry gives is the value and the count
gives : (g : _) (c : After-look_up-found g) (v : _) (n : ℕ) → c.look_up-found.result ≡ Value v n
    → let index = get_or c.args.indices.now c.loop-i.i 0 in
    (g.E.Element.number v ≡ value_at g.row.T c.args.width (g.E.Element.numbers c.args.packed.now) index) × (n ≡ count_at g.row.T c.args.width index)
gives g c v n e =
    let same = ap (single_number g.E.Element.number) (sym e) ∙ answered g c in
    (ap value_of same, ap words_of same)

-- and enough is left for it
affords : (g : _) (c : After-look_up-found g)
    → count_at g.row.T c.args.width (get_or c.args.indices.now c.loop-i.i 0) ≤ c.loop-i.left
affords g c =
    let h = index_within _ (c.requires.by_index _ c.loop-i-test.true) in
    enough g.row.T _ _ _ (elim c.if-left-lt2.branch [
      | then-left-lt2+else-left-words_read w ↦
          inr (subst (λ n. n ≤ c.loop-i.left) (looked_count g.met.E.Element.size _ h _ (place-in (row g.row.T) h w.row_of.ensures) _ _ w.words_read.ensures) w.if-left-words_read.false)
      | else-left-lt2 w ↦ inl w.if-left-lt2.false
    ])

pub overflow_sub-left : goal.overflow_sub-left
overflow_sub-left g c =
    let at = (goal.at.overflow_sub-left g c).After-look_up-found in
    let gave = gives g at _ _ c.in-Value.is in
    subst (λ n. n ≤ c.loop-i.left) (sym gave.1) (affords g at)

pub loop-i-preserved : goal.loop-i-preserved
loop-i-preserved g c =
    let at = (goal.at.loop-i-preserved g c).After-look_up-found in
    let gave = gives g at _ _ c.in-Value.is in
    let fits = subst (λ n. n ≤ c.loop-i.left) (sym gave.1) (affords g at) in (
      elements_next g.met.E.Element.one_by_one c.loop-i.invariant.0 _ _ (omega arith) (sym (zero-add _)) gave.0,
      spent_next c.loop-i.invariant.1 _ (omega arith) gave.1 fits,
    )

pub returns : goal.returns
returns g c =
    let inv = c.loop-i.invariant in
    let all : length c.args.indices.now ≡ c.loop-i.i = omega arith in
    record { value = ap (λ n. Front n (c.args.budget - c.loop-i.left)) all ∙ spent_gives inv.1 (omega arith) (λ more. absurd (omega arith)) _ refl; output_after = spent_leaves inv.1 (omega arith) (λ more. absurd (omega arith)) _ _ _ inv.0 }
