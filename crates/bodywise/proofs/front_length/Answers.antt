-- `bodywise::front_length` meets its contract.
-- Assumes nothing.
use mathlib.Core.Path.{sym, ◌∙◌}
use Prim.Native.Nat.{◌≤◌, ◌<◌}
use native.Mathlib.Omega.{arith}
use borrow.Author.Tests.{le-leb, lt-leb}
use Rattle.contents.specs.Contents.{edition_or, count_or, contents_size}
use Rattle.bodywise.proofs.Fronts.{by_size}
use Rattle.bodywise.proofs.front_length.Goals as goal

pub returns-then-size-le8196 : goal.returns-then-size-le8196
returns-then-size-le8196 c =
    let head = c.args.head.now in
    let small : contents_size (edition_or head) (count_or head) ≤ 8196 = omega (arith, c.contents_length-size.ensures, c.if-size-le8196.true) in
    c.contents_length-size.ensures ∙ sym (by_size head _ (le-leb _ 8196 small))

pub returns : goal.returns
returns c =
    let head = c.args.head.now in
    let large : 8196 < contents_size (edition_or head) (count_or head) = omega (arith, c.contents_length-size.ensures, c.if-size-le8196.false) in
    sym (by_size head _ (lt-leb _ 8196 large))
