-- `plain::value_in` meets its contract. The loop's invariant: the value is made of the first b bits.
-- Assumes nothing.
use Rattle.std.proofs.Common.{◌≡◌, ◌+◌, ◌*◌, ◌<◌, length, get_or, sym, ap, ap₂, ◌∙◌, subst, arith}
use Rattle.lists.specs.Numbers.{number, plus}
use Rattle.places.proofs.Elements.{numbers-at}
use Rattle.places.proofs.Places.{size_some}
use Rattle.plain.specs.Plain.{bit, bit_at, value_in}
use Rattle.plain.proofs.Bits.{bit-added, bit-small, bit_at_small, lane-word, word-place}
use Rattle.plain.proofs.value_in.Goals as goal
use Rattle.plain.proofs.value_in.Goals.{After-bit, After-word_of}

pub loop-b-init : goal.loop-b-init
unfolding number
loop-b-init g c = c.none-value.ensures

-- the bit that a turn moves is one of the lane's, so its word is one of the packed words
within : (g : _) (c : After-word_of g) → g.row.LANES * c.word_of.result + c.args.lane < length c.args.packed.now
within g c =
    let m = g.met.E.Element in
    rw (c.requires.packed_len, ← m.side_by_side, c.word_of.ensures)
    (word-place (lane-word (size_some m.size) c.requires.lane_bound.1 c.loop-b-test.true) c.requires.lane_bound.0)

pub offset_bounds-packed-word_of : goal.offset_bounds-packed-word_of
offset_bounds-packed-word_of g c = omega (arith, within g (goal.at.offset_bounds-packed-word_of g c).After-word_of)

pub bounds-packed-word_of : goal.bounds-packed-word_of
bounds-packed-word_of g c = within g (goal.at.bounds-packed-word_of g c).After-word_of

pub at_bit-requires : goal.at_bit-requires
at_bit-requires g c = (subst (λ x. x < 2) (sym c.bit.ensures) (bit-small _ _), omega arith)

-- it is the next bit of the value
next : (g : _) (c : After-bit g) → g.row.LANES * c.word_of.result + c.args.lane < length c.args.packed.now
    → g.E.Element.number c.bit.result ≡ bit_at g.row.T c.args.width (g.E.Element.numbers c.args.packed.now) c.args.lane c.args.row c.loop-b.b
unfolding bit_at
next g c within =
    let m = g.met.E.Element in
    c.bit.ensures
    ∙ ap₂ bit
    (numbers-at m.one_by_one _ _ c.index-packed-word_of.is within
    ∙ ap₂ (λ n k. get_or (g.E.Element.numbers c.args.packed.now) (n * k + c.args.lane) 0) (sym m.side_by_side) c.word_of.ensures)
    c.bit_in_word.ensures

pub loop-b-preserved : goal.loop-b-preserved
unfolding plus
loop-b-preserved g c =
    let at = goal.at.loop-b-preserved g c in
    c.plus-value.ensures
    ∙ bit-added (bit_at_small g.row.T _ _ _ _) c.loop-b.invariant (next g at.After-bit (within g at.After-word_of)) c.at_bit.ensures g.row.T (omega arith)

pub returns : goal.returns
unfolding value_in
returns g c =
    c.loop-b.invariant
    ∙ ap (number 1 (bit_at g.row.T c.args.width (g.E.Element.numbers c.args.packed.now) c.args.lane c.args.row)) (omega arith)
