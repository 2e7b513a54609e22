-- `files::lookup::look_up` meets its contract: lane and row are those of the place.
-- Assumes nothing.
use Rattle.std.proofs.Common.{◌%◌, ◌<◌, sym, subst, arith}
use Rattle.places.specs.Places.{lane}
use Rattle.places.proofs.Places.{size64, row_lt}
use Rattle.packing.specs.Packed.{value_at}
use Rattle.access.specs.Counts.{count_at}
use Rattle.files.specs.InnerLookups.{ReadIn}
use Rattle.files.proofs.lookup.look_up.Goals as goal

pub read-requires : goal.read-requires
read-requires c =
    record { width_bound = c.requires.width_bound; body_len = c.requires.body_len; l_bound = omega arith; r_bound = subst (λ r. r < 64) (sym c.row_of.ensures) (row_lt size64 _ c.requires.place_bound) }

pub returns : goal.returns
unfolding value_at count_at lane
returns c =
    let w = c.args.width in
    let p = c.args.place in
    let body = c.args.body.now in
    let found = subst (λ r. ReadIn w body (p % 16) r c.read.result) c.row_of.ensures c.read.ensures in
    record { its_value = found.its_value; its_words = found.its_words }
