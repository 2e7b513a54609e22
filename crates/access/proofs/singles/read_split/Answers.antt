-- `access::singles::read_split` meets its contract: by the laws of one word and of two.
-- Assumes nothing.
use Rattle.std.proofs.Common.{◌≡◌, ◌+◌, ◌-◌, ◌*◌, ◌/◌, ◌%◌, ◌^◌, ◌<◌, bit_or, length, sym, ap, ap₂, ◌∙◌, mod-eq_of_lt, arith}
use Rattle.places.specs.Sizes.{lanes}
use native.Mathlib.Nat.{mod-lt}
use Rattle.places.proofs.Places.{size_some}
use Rattle.places.proofs.Elements.{numbers-at}
use Rattle.packing.specs.Packed.{word}
use Rattle.packing.proofs.Turns.{word_room, first_word, next_word, value-one, value_two}
use Rattle.access.specs.declared.Single.TheVariants.{Value}
use Rattle.access.proofs.Counts.{words-one, words_two}
use Rattle.access.proofs.LanesAndRows.{word_at, word_next}
use Rattle.access.proofs.singles.read_split.Goals as goal
use Rattle.access.proofs.singles.read_split.Goals.{Start, After-shr-v, then-s-width, else-s-width}

-- the word in which the value begins, and the next one, are words of the packed block
first-in : (g : _) (c : After-shr-v g) → g.row.LANES * (c.args.r * c.args.width / g.row.T) + c.args.l < length c.args.packed.now
first-in g c =
    let m = g.met.E.Element in
    let room = word_room g.row.T c.args.width _ (first_word m.size c.args.width c.args.r c.requires.r_lt_t c.requires.width_nonzero.0) in
    let room' = rw m.side_by_side at room in
    omega arith

next-in : (g : _) (c : Start g) → g.row.T < c.args.r * c.args.width % g.row.T + c.args.width
    → g.row.LANES * (c.args.r * c.args.width / g.row.T) + c.args.l + g.row.LANES < length c.args.packed.now
next-in g c over =
    let m = g.met.E.Element in
    let room = word_room g.row.T c.args.width _ (next_word m.size c.args.width c.args.r c.requires.r_lt_t c.requires.width_nonzero.0 over) in
    let room' = rw m.side_by_side at room in
    omega arith

pub offset_bounds-packed-at-then-s-width : goal.offset_bounds-packed-at-then-s-width
offset_bounds-packed-at-then-s-width g c = omega (arith, next-in g (goal.at.offset_bounds-packed-at-then-s-width g c).Start c.if-s-width.true)

pub bounds-packed-at-then-s-width : goal.bounds-packed-at-then-s-width
bounds-packed-at-then-s-width g c = next-in g (goal.at.bounds-packed-at-then-s-width g c).Start c.if-s-width.true

-- what is read of the first word, and of the next one, which stands LANES places on
first : (g : _) (c : After-shr-v g)
    → g.E.Element.number c.shr-v.result
    ≡ word g.row.T (g.E.Element.numbers c.args.packed.now) c.args.l (c.args.r * c.args.width / g.row.T) / 2 ^ (c.args.r * c.args.width % g.row.T)
first g c =
    let m = g.met.E.Element in
    let within : c.args.r * c.args.width % g.row.T < g.row.T = mod-lt _ (size_some m.size) in
    c.shr-v.ensures
    ∙ ap (λ k. g.E.Element.number c.index-packed-at.result / 2 ^ k) (mod-eq_of_lt within)
    ∙ ap (λ n. n / 2 ^ (c.args.r * c.args.width % g.row.T)) (numbers-at m.one_by_one _ _ c.index-packed-at.is (first-in g c) ∙ word_at g.row.T m.side_by_side _ _ _)

pub returns : goal.returns
returns g c =
    let m = g.met.E.Element in
    let t = g.row.T in
    let w = c.args.width in
    let r = c.args.r in
    let some : w ≡ 0 → ⊥ = λ e. omega (arith, c.requires.width_nonzero.0) in
    let at = goal.at.returns g c in
    let in-lane : c.args.l < lanes t = omega (arith, m.side_by_side) in
    elim c.if-s-width.branch [
      | then-s-width w' ↦
          let over = w'.if-s-width.true in
          let least : t - r * w % t < t = omega (arith, c.requires.width_nonzero) in
          let second = w'.shl.ensures
          ∙ ap (λ k. g.E.Element.number w'.index-packed-at-then-s-width.result * 2 ^ k % 2 ^ t) (mod-eq_of_lt least)
          ∙ ap (λ n. n * 2 ^ (t - r * w % t) % 2 ^ t) (numbers-at m.one_by_one _ _ w'.index-packed-at-then-s-width.is (next-in g at.Start over) ∙ word_next g.row.T m.side_by_side _ _ _) in
          ap₂ Value
          (c.low.ensures ∙ ap (λ k. g.E.Element.number c.if-s-width.v % 2 ^ k) (mod-eq_of_lt c.requires.width_nonzero.1)
          ∙ ap (λ v. v % 2 ^ w) (ap g.E.Element.number w'.v-is ∙ w'.or-v.ensures ∙ ap₂ bit_or (first g at.After-shr-v) second)
          ∙ value_two m.size w r c.requires.r_lt_t c.requires.width_nonzero.0 _ c.are_elements.ensures c.args.l in-lane (omega arith) over)
          (w'.n-is ∙ sym (words_two t w r some over))
      | else-s-width w' ↦
          ap₂ Value
          (c.low.ensures ∙ ap (λ k. g.E.Element.number c.if-s-width.v % 2 ^ k) (mod-eq_of_lt c.requires.width_nonzero.1)
          ∙ ap (λ v. v % 2 ^ w) (ap g.E.Element.number w'.v-is ∙ first g at.After-shr-v)
          ∙ value-one m.size w r c.requires.r_lt_t c.requires.width_nonzero.0 _ c.are_elements.ensures c.args.l in-lane w'.if-s-width.false)
          (w'.n-is ∙ sym (words-one t w r some w'.if-s-width.false))
    ]
