-- `search::list_all` meets its contract. The loop's invariant: the first j rows are listed, and the next sixteen are at
-- hand.
-- Assumes nothing.
use Rattle.std.proofs.Common.{◌≡◌, ◌+◌, refl, ap, ◌∙◌, arith}
use Rattle.lists.specs.Tab.{tab, over}
use Rattle.lists.proofs.Tabs.{written-length}
use Rattle.search.proofs.Within.{numbered-none, numbered_next}
use Rattle.search.proofs.list_all.Goals as goal

pub loop-j-init : goal.loop-j-init
loop-j-init c =
    (c.splat-step.ensures, omega arith, refl, numbered-none _ _ _ _ (omega arith) c.sixteen-run.ensures)

pub put_sixteen-requires : goal.put_sixteen-requires
put_sixteen-requires c = omega (arith, written-length c.loop-j.invariant.3.written)

pub loop-j-preserved : goal.loop-j-preserved
loop-j-preserved c =
    let so_far = c.loop-j.invariant.3 in (
      c.loop-j.invariant.0,
      omega arith,
      omega arith,
      numbered_next so_far (omega arith) (omega arith) _ _ _ c.loop-j.invariant.0 c.wrapping_add-next.ensures c.put_sixteen.ensures,
    )

pub returns : goal.returns
returns c =
    let all : c.loop-j.j ≡ 1024 = omega arith in
    let args = c.args in
    c.loop-j.invariant.3.written.is ∙ ap (λ n. over args.k (tab n (λ j. args.first + j)) args.rows.now) all
