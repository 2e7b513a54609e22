-- `access::singles::read` meets its contract: each width's rule gives the one digit.
-- Assumes nothing.
use Rattle.std.proofs.Common.{◌≡◌, ◌<◌, sym, ap, ap₂, ◌∙◌, arith}
use Rattle.lists.specs.Numbers.{digit}
use Rattle.places.specs.Sizes.{lanes}
use Rattle.places.proofs.Elements.{numbers-at}
use Rattle.places.proofs.Places.{whole_word, size_some, size-most}
use Rattle.packing.specs.Packed.{words_number}
use Rattle.packing.proofs.Rounds.{digit-zero, digit-words}
use Rattle.packing.proofs.Turns.{word_room}
use Rattle.access.specs.declared.Single.TheVariants.{Value}
use Rattle.access.proofs.Counts.{words-none, words-one}
use Rattle.access.proofs.LanesAndRows.{word_at}
use Rattle.access.proofs.singles.read.Goals as goal
use Rattle.access.proofs.singles.read.Goals.{in_default-via-in-1-to-63+else-width, in_default-via-else-width-lt64}

pub returns-in-0 : goal.returns-in-0
returns-in-0 g c =
    let zero = c.in-0.is in
    let nothing = ap (λ w. digit w (words_number g.row.T w (g.E.Element.numbers c.args.packed.now) c.args.l) c.args.r) zero ∙ digit-zero _ _ in
    ap₂ Value (c.of.ensures ∙ sym nothing) (sym (words-none g.row.T _ _ zero))

pub returns-in_default : goal.returns-in_default
returns-in_default g c =
    let m = g.met.E.Element in
    let t = g.row.T in
    let r = c.args.r in
    let l = c.args.l in
    let packed = g.E.Element.numbers c.args.packed.now in
    let full : c.args.width ≡ t = elim c.in_default.branch [
      | in_default-via-in-1-to-63+else-width w ↦ omega (arith, c.requires.width_le_t, w.if-width.false)
      | in_default-via-else-width-lt64 w ↦ omega (arith, c.requires.width_le_t, size-most g.met.E.Element.size)
    ] in
    let in-lane : l < lanes t = omega (arith, m.side_by_side) in
    let room = word_room t c.args.width r (omega arith) in
    let room' = rw m.side_by_side at room in
    let value = ap (λ w. digit w (words_number t w packed l) r) full ∙ digit-words t t l in-lane packed c.are_elements.ensures r c.requires.r_lt_t in
    let read = numbers-at m.one_by_one _ _ c.index-packed-r.is (omega arith) ∙ word_at g.row.T m.side_by_side packed l r in
    ap₂ Value (read ∙ sym value) (sym (words-one t _ _ (λ e. omega (arith, size_some m.size)) (whole_word t r full)))
