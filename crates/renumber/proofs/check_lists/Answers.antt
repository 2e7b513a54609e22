-- `renumber::check_lists` meets its contract: by the tests, one after another.
-- Assumes nothing.
use Rattle.renumber.proofs.Stops.{unrising_le, disordered_le, twice_le}
use Rattle.renumber.proofs.Lists.{ordered-order, lengths-new, lengths-order, old_unrising, order-disordered, new-twice, lists-done}
use mathlib.Core.Path.{◌≡◌, sym, ◌∙◌}
use Rattle.renumber.specs.Pairs.{unrising_at, disordered_at}
use lib.ListN.{length}
use native.Mathlib.Omega.{arith}
use Rattle.renumber.proofs.check_lists.Goals as goal
use Rattle.renumber.proofs.check_lists.Goals.{Else-p-old, Else-q-order}

-- the old numbers rise
rises : (c : Else-p-old) → unrising_at c.args.old.now ≡ length c.args.old.now
rises c = omega (arith, c.first_unrising-p.ensures, unrising_le c.args.old.now)

-- the order is right
ordered : (c : Else-q-order) → disordered_at c.args.new.now c.args.order.now ≡ length c.args.order.now
ordered c = omega (arith, c.first_disordered-q.ensures, disordered_le c.args.new.now c.args.order.now)

pub returns-then-new-old : goal.returns-then-new-old
returns-then-new-old c =
    let args = c.args in lengths-new args.old.now args.new.now args.order.now c.if-new-old.true

pub returns-then-order-old : goal.returns-then-order-old
returns-then-order-old c =
    let args = c.args in lengths-order args.old.now args.new.now args.order.now c.if-new-old.false c.if-order-old.true

pub returns-then-p-old : goal.returns-then-p-old
returns-then-p-old c =
    let args = c.args in old_unrising args.old.now args.new.now args.order.now c.if-new-old.false c.if-order-old.false c.first_unrising-p.result c.first_unrising-p.ensures c.if-p-old.true

pub returns-then-q-order : goal.returns-then-q-order
returns-then-q-order c =
    let args = c.args in
    let found = c.first_disordered-q in
    order-disordered args.old.now args.new.now args.order.now c.if-new-old.false c.if-order-old.false (rises (goal.at.returns-then-q-order c).Else-p-old) found.result found.ensures c.if-q-order.true

pub first_twice-t-requires : goal.first_twice-t-requires
first_twice-t-requires c =
    let args = c.args in
    ordered-order args.new.now args.order.now (c.if-order-old.false ∙ sym c.if-new-old.false) (ordered (goal.at.first_twice-t-requires c).Else-q-order)

pub returns-then-t-new : goal.returns-then-t-new
returns-then-t-new c =
    let args = c.args in
    let found = c.first_twice-t in
    new-twice args.old.now args.new.now args.order.now c.if-new-old.false c.if-order-old.false (rises (goal.at.returns-then-t-new c).Else-p-old) (ordered (goal.at.returns-then-t-new c).Else-q-order) found.result found.ensures c.if-t-new.true

pub returns : goal.returns
returns c =
    let args = c.args in
    let found = c.first_twice-t in
    lists-done args.old.now args.new.now args.order.now c.if-new-old.false c.if-order-old.false (rises (goal.at.returns c).Else-p-old) (ordered (goal.at.returns c).Else-q-order)
    (omega (arith, found.ensures, twice_le args.new.now))
