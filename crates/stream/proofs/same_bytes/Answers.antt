-- `stream::same_bytes` meets its contract: the kit's comparison says whether the two fronts are the same.
-- Assumes nothing.
use Rattle.std.proofs.Common.{sym, arith, length-take-le}
use Rattle.stream.proofs.Compared.{front_agrees, agrees_front}
use Rattle.stream.proofs.same_bytes.Goals as goal

pub slice_bounds-same-end : goal.slice_bounds-same-end
slice_bounds-same-end c = sym (length-take-le _ _ (omega arith))

pub slice_bounds-same-end-2 : goal.slice_bounds-same-end-2
slice_bounds-same-end-2 c = sym (length-take-le _ _ (omega arith))

pub returns : goal.returns
returns c =
    record { n_in_bounds = λ t. (omega arith, omega arith, front_agrees _ _ _ (omega arith) (omega arith) (c.same.ensures.0 t)); value = λ p q a. c.same.ensures.1 (agrees_front _ _ _ p q a) }
