-- `files::packed_row` meets its contract: what is found in the body, with the reference, is the block's value.
-- Assumes nothing.
use Rattle.std.proofs.Common.{◌+◌, ◌%◌, ◌^◌, sym, ap, ◌∙◌, ap₂}
use Rattle.lists.specs.Numbers.{plus}
use Rattle.bodies.proofs.Blocks.{packed_value}
use Rattle.bodies.proofs.Bodies.{laid_plain}
use Rattle.files.specs.Rows.{counted}
use Rattle.files.proofs.packed_row.Goals as goal

pub look_up-found-requires : goal.look_up-found-requires
look_up-found-requires c =
    let plain = laid_plain c.args.e c.requires.e_value c.requires.kind_bound in
    record { width_bound = plain.0; body_len = c.requires.body_len ∙ plain.1; place_bound = c.requires.place_bound }

pub returns : goal.returns
unfolding plus
returns c =
    let e = c.args.e in
    ap₂ counted
    (c.wrapping_add_u64.ensures.value
    ∙ ap (λ v. (v + e.reference) % 2 ^ 64) c.look_up-found.ensures.its_value
    ∙ sym (packed_value e c.args.body.now c.requires.e_value c.requires.kind_bound c.args.place c.requires.place_bound))
    c.look_up-found.ensures.its_words
