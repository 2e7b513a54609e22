-- `files::lookup::sum_up` meets its contract: the base word of the lane, and the sum along it.
-- Assumes nothing.
use Rattle.std.proofs.Common.{◌≡◌, ◌-◌, ◌%◌, length, take, drop, sym, ap, ◌∙◌, ap₂, arith, length-drop, take_all, rules}
use Rattle.lists.specs.Numbers.{digit}
use Rattle.places.specs.Sizes.{t64}
use Rattle.places.proofs.Places.{size64, row_lt}
use Rattle.packing.specs.Packed.{words_number}
use Rattle.deltas.specs.Deltas.{summed}
use Rattle.bodies.specs.Bodies.{packed_from}
use Rattle.files.proofs.Lookups.{summed-value}
use Rattle.files.proofs.lookup.sum_up.Goals as goal

pub sum_to-requires : goal.sum_to-requires
sum_to-requires c =
    record { width_bound = search rules; body_len = search rules; l_bound = search rules; r_bound = omega (arith, c.row_of.ensures, row_lt size64 c.args.place c.requires.place_bound) }

pub returns : goal.returns
returns c =
    let body = c.args.body.now in
    let width = c.args.width in
    let place = c.args.place in
    let rest : take (length body - 128) (drop 128 body) ≡ drop 128 body = take_all (length body - 128) (drop 128 body) (omega (arith, length-drop 128 body)) in
    c.sum_to.ensures
    ∙ ap (λ part. summed t64 (digit width (words_number t64 width (packed_from part 0 width) (place % 16))) c.word_at.result c.row_of.result) rest
    ∙ ap₂ (summed t64 (digit width (words_number t64 width (packed_from body 128 width) (place % 16)))) c.word_at.ensures c.row_of.ensures
    ∙ sym (summed-value width place body c.requires.place_bound)
