-- `plain::word_in` meets its contract. The loop's invariant: the word is made of the first j bits.
-- Assumes nothing.
use Rattle.std.proofs.Common.{◌≡◌, ◌+◌, ◌*◌, ◌%◌, ◌<◌, length, get_or, sym, ap, ◌∙◌, subst, arith}
use Rattle.lists.specs.Numbers.{number, plus}
use Rattle.places.proofs.Elements.{numbers-at}
use Rattle.places.proofs.Places.{place-lt}
use Rattle.plain.specs.Plain.{bit, bit_of, word_in}
use Rattle.plain.proofs.Bits.{bit-added, bit-small, bit_of_small, word-bit}
use Rattle.plain.proofs.word_in.Goals as goal
use Rattle.plain.proofs.word_in.Goals.{After-bit, After-place}

pub loop-j-init : goal.loop-j-init
unfolding number
loop-j-init g c = c.none-word.ensures

-- the bit that a turn moves stands in one of the lane's rows, so it is of one of the block's values
within : (g : _) (c : After-place g) → c.place.result < length c.args.values.now
within g c =
    rw (c.requires.values_len, c.place.ensures)
    (place-lt g.met.E.Element.size _ _ (word-bit c.requires.lane_bound.1 c.loop-j-test.true).0 c.requires.lane_bound.0)

pub offset_bounds-values-place : goal.offset_bounds-values-place
offset_bounds-values-place g c = omega (arith, within g (goal.at.offset_bounds-values-place g c).After-place)

pub bounds-values-place : goal.bounds-values-place
bounds-values-place g c = within g (goal.at.bounds-values-place g c).After-place

pub at_bit-requires : goal.at_bit-requires
at_bit-requires g c = (subst (λ x. x < 2) (sym c.bit.ensures) (bit-small _ _), omega arith)

-- it is the next bit of the word
next : (g : _) (c : After-bit g) → c.place.result < length c.args.values.now
    → g.E.Element.number c.bit.result ≡ bit_of g.row.T c.args.width (g.E.Element.numbers c.args.values.now) c.args.lane c.args.k c.loop-j.j
unfolding bit_of
next g c within =
    let at = c.args.k * g.row.T + c.loop-j.j in
    c.bit.ensures
    ∙ ap (λ n. bit n (at % c.args.width))
    (numbers-at g.met.E.Element.one_by_one _ _ c.index-values-place.is within
    ∙ ap (λ p. get_or (g.E.Element.numbers c.args.values.now) p 0) c.place.ensures)

pub loop-j-preserved : goal.loop-j-preserved
unfolding plus
loop-j-preserved g c =
    let at = goal.at.loop-j-preserved g c in
    c.plus-word.ensures
    ∙ bit-added (bit_of_small g.row.T _ _ _ _) c.loop-j.invariant (next g at.After-bit (within g at.After-place)) c.at_bit.ensures g.row.T (omega arith)

pub returns : goal.returns
unfolding word_in
returns g c =
    c.loop-j.invariant
    ∙ ap (number 1 (bit_of g.row.T c.args.width (g.E.Element.numbers c.args.values.now) c.args.lane c.args.k)) (omega arith)
