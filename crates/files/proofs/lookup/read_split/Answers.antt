-- `files::lookup::read_split` meets its contract: by the laws of one word and of two.
-- Assumes nothing.
use Rattle.std.proofs.Common.{◌≡◌, ◌+◌, ◌-◌, ◌*◌, ◌/◌, ◌%◌, ◌^◌, ◌<◌, ◌≤◌, sym, ap, ◌∙◌, ap₂, mul-le-mul, arith}
use lib.Bits.{bit_or}
use Rattle.lists.specs.Numbers.{Elements}
use Rattle.places.specs.Sizes.{t64}
use Rattle.places.proofs.Places.{size64}
use Rattle.packing.proofs.Turns.{first_word, next_word, value-one, value_two}
use Rattle.access.proofs.Counts.{words-one, words_two}
use Rattle.bodies.specs.Bodies.{packed_from}
use Rattle.bodies.proofs.Blocks.{words_fit}
use Rattle.files.proofs.Lookups.{word_in_lem, packed_word}
use Rattle.files.proofs.lookup.read_split.Goals as goal
use Rattle.files.proofs.lookup.read_split.Goals.{Start, then-s-width-gt64, else-s-width-gt64}

-- the bit at which the value begins is small
bit_le : (c : Start) → c.args.r * c.args.width ≤ t64 * t64
bit_le c = mul-le-mul {n₂ = t64} {m₂ = t64} (omega arith) (omega arith)

-- the word in which it begins, and the next one, are words of the lane
first-lt : (c : Start) → c.args.r * c.args.width / t64 < c.args.width
first-lt c = first_word size64 c.args.width c.args.r c.requires.r_bound c.requires.width_nonzero.0

next-lt : (c : Start) → t64 < c.args.r * c.args.width % t64 + c.args.width → c.args.r * c.args.width / t64 + 1 < c.args.width
next-lt c over = next_word size64 c.args.width c.args.r c.requires.r_bound c.requires.width_nonzero.0 over

pub overflow_mul-bit : goal.overflow_mul-bit
overflow_mul-bit c = omega (arith, bit_le (goal.at.overflow_mul-bit c).Start)

pub overflow_mul-k : goal.overflow_mul-k
overflow_mul-k c = omega (arith, bit_le (goal.at.overflow_mul-k c).Start)

pub overflow_add-k : goal.overflow_add-k
overflow_add-k c = omega (arith, bit_le (goal.at.overflow_add-k c).Start)

pub word_at-requires : goal.word_at-requires
word_at-requires c =
    word_in_lem _ _ _ _ c.requires.l_bound (first-lt (goal.at.word_at-requires c).Start) c.requires.body_len

pub overflow_add-k-then-s-width-gt64 : goal.overflow_add-k-then-s-width-gt64
overflow_add-k-then-s-width-gt64 c = omega (arith, bit_le (goal.at.overflow_add-k-then-s-width-gt64 c).Start)

pub overflow_mul-k-then-s-width-gt64 : goal.overflow_mul-k-then-s-width-gt64
overflow_mul-k-then-s-width-gt64 c = omega (arith, bit_le (goal.at.overflow_mul-k-then-s-width-gt64 c).Start)

pub overflow_add-k-then-s-width-gt64-2 : goal.overflow_add-k-then-s-width-gt64-2
overflow_add-k-then-s-width-gt64-2 c = omega (arith, bit_le (goal.at.overflow_add-k-then-s-width-gt64-2 c).Start)

pub word_at-requires-then-s-width-gt64 : goal.word_at-requires-then-s-width-gt64
word_at-requires-then-s-width-gt64 c =
    word_in_lem _ _ _ _ c.requires.l_bound (next-lt (goal.at.word_at-requires-then-s-width-gt64 c).Start c.if-s-width-gt64.true) c.requires.body_len

pub returns : goal.returns
returns c =
    let w = c.args.width in
    let r = c.args.r in
    let l = c.args.l in
    let body = c.args.body.now in
    let packed = packed_from body 0 w in
    let bytes : Elements 8 body = λ i. omega (arith, c.type_inv.body i) in
    let small : Elements t64 packed = words_fit body 0 (16 * w) bytes in
    let some : w ≡ 0 → ⊥ = λ e. omega (arith, c.requires.width_nonzero.0) in
    let first = c.word_at.ensures ∙ packed_word w l (r * w / t64) body c.requires.l_bound (first-lt (goal.at.returns c).Start) in
    let shifted = c.down-v.ensures ∙ ap (λ x. x / 2 ^ (r * w % t64)) first in
    elim c.if-s-width-gt64.branch [
      | then-s-width-gt64 it ↦
          let next = it.word_at-then-s-width-gt64.ensures ∙ packed_word w l (r * w / t64 + 1) body c.requires.l_bound (next-lt (goal.at.returns c).Start it.if-s-width-gt64.true) in
          record {
            its_value = c.cut.ensures
                ∙ ap (λ v. v % 2 ^ w) (it.v-is ∙ ap₂ bit_or shifted (it.up-v.ensures ∙ ap (λ x. x * 2 ^ (t64 - r * w % t64) % 2 ^ t64) next))
                ∙ value_two size64 w r c.requires.r_bound c.requires.width_nonzero.0 packed small l c.requires.l_bound (omega arith) it.if-s-width-gt64.true;
            its_words = it.n-is ∙ sym (words_two t64 w r some it.if-s-width-gt64.true);
          }
      | else-s-width-gt64 it ↦
          record {
            its_value = c.cut.ensures
                ∙ ap (λ v. v % 2 ^ w) (it.v-is ∙ shifted)
                ∙ value-one size64 w r c.requires.r_bound c.requires.width_nonzero.0 packed small l c.requires.l_bound it.if-s-width-gt64.false;
            its_words = it.n-is ∙ sym (words-one t64 w r some it.if-s-width-gt64.false);
          }
    ]
