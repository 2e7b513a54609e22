-- `contents::contents_length` meets its contract: a count of two bytes is small enough.
-- Assumes nothing.
use mathlib.Core.Path.{ap₂, ◌∙◌}
use native.Mathlib.Omega.{arith}
use Rattle.contents.specs.Contents.{contents_size}
use Rattle.contents.proofs.Sizes.{size-most}
use Rattle.contents.proofs.contents_length.Goals as goal

pub contents_size-requires : goal.contents_size-requires
contents_size-requires c = omega (arith, size-most c.edition.result c.pair.result)

pub returns : goal.returns
returns c = c.contents_size.ensures ∙ ap₂ contents_size c.edition.ensures c.pair.ensures
