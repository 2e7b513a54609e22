-- `trickle::values_through` meets its contract: the words are read whole, and unpack is done with them.
-- Assumes nothing.
use mathlib.Core.Path.{ap, ◌∙◌}
use Prim.Native.Nat.{◌*◌}
use native.Mathlib.Omega.{arith}
use Rattle.places.specs.Sizes.{t64}
use Rattle.packing.specs.Calls.{unpack_leaves}
use Rattle.packing.proofs.Answers.{unpack-leaves}
use Rattle.little.specs.Little.{numbers_of}
use Rattle.little.proofs.Little.{length-numbers, numbers-read}
use Rattle.trickle.proofs.values_through.Goals as goal

pub returns : goal.returns
returns c =
    let args = c.args in
    let w = args.width in
    let body = args.body.now in
    c.unpack.ensures.values_after
    ∙ ap (unpack_leaves t64 w args.output.now) (c.read_words.ensures ∙ numbers-read 8 body args.words.now (16 * w) c.requires.words_len (omega arith))
    ∙ unpack-leaves t64 w args.output.now (numbers_of 8 body (16 * w)) c.requires.width_bound c.requires.output_len (length-numbers 8 body (16 * w))
