-- `search::put_rows` meets its contract. The loop's invariant: the first q rows are written.
-- Assumes nothing.
use Rattle.std.proofs.Common.{◌≡◌, length, get_or, refl, ap, ◌∙◌, arith}
use Rattle.lists.specs.Numbers.{plus}
use Rattle.lists.specs.Tab.{tab, over}
use Rattle.lists.proofs.Tabs.{written_none, written-length, written_next}
use Rattle.search.proofs.Within.{tab-map}
use Rattle.search.proofs.put_rows.Goals as goal

pub loop-q-init : goal.loop-q-init
loop-q-init c = written_none (omega arith)

pub bounds-rows-k : goal.bounds-rows-k
bounds-rows-k c = omega (arith, written-length c.loop-q.invariant)

pub loop-q-preserved : goal.loop-q-preserved
unfolding plus
loop-q-preserved c =
    written_next c.loop-q.invariant _ _ (omega arith) refl c.wrapping_add_u64.ensures.value

pub returns : goal.returns
returns c =
    let args = c.args in
    let places = args.places.now in
    let all : c.loop-q.q ≡ length places = omega arith in
    c.loop-q.invariant.is
    ∙ ap (λ l. over args.k l args.rows.now) (ap (λ n. tab n (λ i. plus 64 args.first (get_or places i 0))) all ∙ tab-map (plus 64 args.first) places)
