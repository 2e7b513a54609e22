-- `files::lookup::read` meets its contract: each width's rule gives the one digit.
-- Assumes nothing.
use Rattle.std.proofs.Common.{◌≡◌, sym, ap, ◌∙◌, arith}
use Rattle.lists.specs.Numbers.{digit, Elements}
use Rattle.places.specs.Sizes.{t64}
use Rattle.places.proofs.Places.{whole_word}
use Rattle.packing.specs.Packed.{words_number}
use Rattle.packing.proofs.Rounds.{digit-zero, digit-words}
use Rattle.access.proofs.Counts.{words-none, words-one}
use Rattle.bodies.specs.Bodies.{packed_from}
use Rattle.bodies.proofs.Blocks.{words_fit}
use Rattle.files.proofs.Lookups.{word_in_lem, packed_word}
use Rattle.files.proofs.lookup.read.Goals as goal

pub word_at-v-requires : goal.word_at-v-requires
word_at-v-requires c = word_in_lem c.args.width _ _ _ c.requires.l_bound (omega arith) c.requires.body_len

pub returns-in-0 : goal.returns-in-0
returns-in-0 c =
    let zero = c.in-0.is in
    let body = c.args.body.now in
    let nothing = ap (λ w. digit w (words_number t64 w (packed_from body 0 w) c.args.l) c.args.r) zero ∙ digit-zero _ _ in
    record { its_value = sym nothing; its_words = sym (words-none t64 _ _ zero) }

pub returns-in-1-to-63 : goal.returns-in-1-to-63
returns-in-1-to-63 c = c.read_split.ensures

pub returns-in_default : goal.returns-in_default
returns-in_default c =
    let r = c.args.r in
    let l = c.args.l in
    let body = c.args.body.now in
    let packed = packed_from body 0 64 in
    let full : c.args.width ≡ t64 = omega arith in
    let bytes : Elements 8 body = λ i. omega (arith, c.type_inv.body i) in
    let small : Elements t64 packed = words_fit body 0 1024 bytes in
    let value = ap (λ w. digit w (words_number t64 w (packed_from body 0 w) l) r) full ∙ digit-words t64 t64 l c.requires.l_bound packed small r c.requires.r_bound in
    record {
      its_value = c.word_at-v.ensures ∙ packed_word 64 l r body c.requires.l_bound c.requires.r_bound ∙ sym value;
      its_words = sym (words-one t64 _ _ (λ e. omega arith) (whole_word t64 r full));
    }
