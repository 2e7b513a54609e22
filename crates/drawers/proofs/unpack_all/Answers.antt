-- `drawers::unpack_all` meets its contract. The loop's invariant: the first b blocks are turned.
-- Assumes nothing.
use Rattle.std.proofs.Common.{◌≡◌, ℕ, ◌+◌, ◌*◌, ◌≤◌, ◌<◌, length, sym, ap, ◌∙◌, arith}
use Rattle.places.specs.Sizes.{lanes}
use Rattle.places.proofs.Elements.{numbers-length}
use Rattle.packing.proofs.Rounds.{length-unpack}
use Rattle.drawers.specs.Drawers.{unpack_blocks_of}
use Rattle.drawers.proofs.Parts.{part-within, turned_none, turned-length, turned-next, turned_all}
use Rattle.drawers.proofs.unpack_all.Goals as goal
use Rattle.drawers.proofs.unpack_all.Goals.{Start}

-- block b stands within the drawer, on both sides
inside : (g : _) (c : Start g) (b : ℕ) → b < c.args.blocks
    → (b * (lanes g.row.T * c.args.width) + lanes g.row.T * c.args.width ≤ length c.args.packed.now) × (b * 1024 + 1024 ≤ length c.args.values.now)
inside g c b h = (
  omega (arith, part-within b c.args.blocks (lanes g.row.T * c.args.width) h, c.requires.packed_len),
  omega (arith, part-within b c.args.blocks 1024 h, c.requires.values_len),
)

pub loop-b-init : goal.loop-b-init
loop-b-init g c = turned_none (length-unpack g.row.T _)

pub unpack_at-requires : goal.unpack_at-requires
unpack_at-requires g c =
    let long = numbers-length g.met.E.Element.one_by_one in
    let same = turned-length (length-unpack g.row.T _) c.loop-b.invariant in
    let in_b = inside g (goal.at.unpack_at-requires g c).Start c.loop-b.b c.loop-b-test.true in
    record { width_le_t = (c.requires.width_le_t.0, omega arith); width_in_bounds = in_b.0; b_in_bounds = omega (arith, in_b.1, same, long c.loop-b.values, long c.args.values.now) }

pub loop-b-preserved : goal.loop-b-preserved
loop-b-preserved g c =
    let in_b = inside g (goal.at.loop-b-preserved g c).Start c.loop-b.b c.loop-b-test.true in
    turned-next (length-unpack g.row.T _) c.loop-b.invariant _ (omega (arith, in_b.1, numbers-length g.met.E.Element.one_by_one c.args.values.now)) c.unpack_at.ensures

pub returns : goal.returns
unfolding unpack_blocks_of
returns g c =
    let all : c.loop-b.b ≡ c.args.blocks = omega arith in
    turned_all (length-unpack g.row.T _) c.loop-b.invariant (ap (λ b. b * 1024) all ∙ sym (numbers-length g.met.E.Element.one_by_one _ ∙ c.requires.values_len))
    ∙ ap (λ b. unpack_blocks_of g.row.T c.args.width b (g.E.Element.numbers c.args.packed.now)) all
