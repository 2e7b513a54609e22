-- `candidates::fill_steps` meets its contract: the base is stored, and the differences are packed behind it.
-- Assumes nothing.
use Rattle.std.proofs.Common.{ℕ, ◌+◌, ◌-◌, ◌*◌, ap, ◌∙◌, arith}
use borrow.Rule.Slice.PartMut.{put_mid}
use Rattle.places.specs.Sizes.{t64}
use Rattle.packing.specs.Packed.{pack_of}
use Rattle.rows.specs.Rows.{store_of}
use Rattle.candidates.specs.Candidates.{differences}
use Rattle.candidates.proofs.Filling.{filled-steps}
use Rattle.candidates.proofs.fill_steps.Goals as goal

pub returns : goal.returns
returns c =
    let args = c.args in
    let part : ℕ = 16 + 16 * args.width - 16 in
    let stored = c.store.ensures ∙ ap (store_of args.words.now) c.load.ensures in
    ap (put_mid 16 part c.store.new.out) c.pack_steps.ensures
    ∙ ap (λ s. put_mid 16 part s (pack_of t64 args.width (differences args.values.now))) stored
    ∙ filled-steps args.width args.values.now args.words.now (omega arith) (omega arith)
