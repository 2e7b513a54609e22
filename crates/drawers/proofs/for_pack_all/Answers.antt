-- `drawers::for_pack_all` meets its contract. The loop's invariant: the first b blocks are turned.
-- Assumes nothing.
use Rattle.std.proofs.Common.{◌≡◌, ℕ, ◌+◌, ◌*◌, ◌≤◌, ◌<◌, length, sym, ap, ◌∙◌, arith}
use Rattle.places.specs.Sizes.{lanes}
use Rattle.places.proofs.Elements.{numbers-length}
use Rattle.deltas.proofs.Lanes.{length_for_pack}
use Rattle.drawers.specs.Drawers.{for_pack_blocks_of}
use Rattle.drawers.proofs.Parts.{part-within, turned_none, turned-length, turned-next, turned_all}
use Rattle.drawers.proofs.for_pack_all.Goals as goal
use Rattle.drawers.proofs.for_pack_all.Goals.{Start}

-- block b stands within the drawer, on both sides
inside : (g : _) (c : Start g) (b : ℕ) → b < c.args.blocks
    → (b * (lanes g.row.T * c.args.width) + lanes g.row.T * c.args.width ≤ length c.args.packed.now) × (b * 1024 + 1024 ≤ length c.args.values.now)
inside g c b h = (
  omega (arith, part-within b c.args.blocks (lanes g.row.T * c.args.width) h, c.requires.packed_len),
  omega (arith, part-within b c.args.blocks 1024 h, c.requires.values_len),
)

pub loop-b-init : goal.loop-b-init
loop-b-init g c = turned_none (λ block. length_for_pack g.row.T _ block _)

pub for_pack_at-requires : goal.for_pack_at-requires
for_pack_at-requires g c =
    let long = numbers-length g.met.E.Element.one_by_one in
    let same = turned-length (λ block. length_for_pack g.row.T _ block _) c.loop-b.invariant in
    let in_b = inside g (goal.at.for_pack_at-requires g c).Start c.loop-b.b c.loop-b-test.true in
    record { width_le_t = (c.requires.width_le_t.0, omega arith); width_in_bounds = omega (arith, in_b.0, same, long c.loop-b.packed, long c.args.packed.now); b_in_bounds = in_b.1 }

pub loop-b-preserved : goal.loop-b-preserved
loop-b-preserved g c =
    let in_b = inside g (goal.at.loop-b-preserved g c).Start c.loop-b.b c.loop-b-test.true in
    turned-next (λ block. length_for_pack g.row.T _ block _) c.loop-b.invariant _ (omega (arith, in_b.0, numbers-length g.met.E.Element.one_by_one c.args.packed.now)) c.for_pack_at.ensures

pub returns : goal.returns
unfolding for_pack_blocks_of
returns g c =
    let all : c.loop-b.b ≡ c.args.blocks = omega arith in
    turned_all (λ block. length_for_pack g.row.T _ block _) c.loop-b.invariant
    (ap (λ b. b * (lanes g.row.T * c.args.width)) all ∙ sym (numbers-length g.met.E.Element.one_by_one _ ∙ c.requires.packed_len))
    ∙ ap (λ b. for_pack_blocks_of g.row.T c.args.width b (g.E.Element.numbers c.args.values.now) (g.E.Element.number c.args.reference)) all
