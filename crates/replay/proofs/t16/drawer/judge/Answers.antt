-- Written by tools/sizes from the text of size 64: edit that one, and run tools/sizes.
-- `replay::t16::drawer::judge` meets its contract: a case is the same exactly where what was given back and what c
-- holds are as expected.
-- Assumes nothing.
use Rattle.std.proofs.Common.{◌/◌}
use Rattle.places.specs.Sizes.{t16}
use Rattle.little.specs.Little.{numbers_of}
use Rattle.stream.proofs.Expected.{judged}
use Rattle.replay.proofs.t16.drawer.judge.Goals as goal

pub returns : goal.returns
returns c =
    let args = c.args in
    let both = judged args.head args.reply args.c.now (numbers_of (t16 / 8) args.c_exit.now args.head.n_c) c.judge.ensures (c.same.ensures.n_in_bounds, c.same.ensures.value) in record { as_expected = both.0; value = both.1 }
