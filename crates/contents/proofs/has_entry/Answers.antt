-- `contents::has_entry` meets its contract: as many entries are there as fit behind the first four bytes.
-- Assumes nothing.
use mathlib.Core.Path.{sym}
use Prim.Native.Nat.{suc, ◌+◌, ◌-◌, ◌/◌}
use native.Mathlib.Omega.{arith}
use lib.ListN.{length}
use borrow.Author.Tests.{lt-leb}
use Rattle.little.proofs.Little.{same-leb}
use Rattle.contents.specs.Contents.{contents_size}
use Rattle.contents.proofs.Sizes.{size-least, size_second, size-other}
use Rattle.contents.proofs.has_entry.Goals as goal

pub returns-then-bytes-lt4 : goal.returns-then-bytes-lt4
returns-then-bytes-lt4 c =
    let args = c.args in
    sym (lt-leb (contents_size args.edition (args.i + 1)) (length args.front.now) (omega (arith, size-least args.edition (args.i + 1))))

pub returns-then-edition-eq2 : goal.returns-then-edition-eq2
returns-then-edition-eq2 c =
    let args = c.args in
    let size = size_second args.edition (args.i + 1) c.if-edition-eq2.true in
    let bytes = length args.front.now in
    same-leb (suc args.i) ((bytes - 4) / 32) (contents_size args.edition (args.i + 1)) bytes (λ h. omega (arith, size)) (λ h. omega (arith, size))

pub returns : goal.returns
returns c =
    let args = c.args in
    let size = size-other args.edition (args.i + 1) c.if-edition-eq2.false in
    let bytes = length args.front.now in
    same-leb (suc args.i) ((bytes - 4) / 16) (contents_size args.edition (args.i + 1)) bytes (λ h. omega (arith, size)) (λ h. omega (arith, size))
