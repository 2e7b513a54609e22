-- `stream::head_of` meets its contract: each number of the head is read where it stands.
-- Assumes nothing.
use Rattle.std.proofs.Common.{◌≡◌, ℕ, ◌/◌, ◌<◌, List, length, get_or, ap, ◌∙◌, arith, rules}
use Rattle.little.specs.Little.{little}
use Rattle.little.proofs.Little.{little-one, little-within}
use Rattle.stream.proofs.head_of.Goals as goal

-- the three bytes after the first of four
without-first : (l : List ℕ) → get_or l 4 0 < 256 → little l 4 4 / 256 ≡ little l 5 3
unfolding little
without-first l low = omega arith

pub returns : goal.returns
returns c =
    let l = c.args.bytes.now in
    let size : length l ≡ 56 = search rules in
    let low : get_or l 4 0 < 256 = omega (arith, c.byte.ensures.0, c.byte.ensures.1) in
    λ i. record {
      op = get_or l 0 0;
      t = get_or l 1 0;
      width = (c.pair.ensures ∙ little-within l 2 2 (omega arith)) i;
      number = (c.byte.ensures.0 ∙ little-one l 4) i;
      zero = (ap (λ x. x / 256) (c.quad.ensures ∙ little-within l 4 4 (omega arith)) ∙ without-first l low) i;
      place = (c.word.ensures ∙ little-within l 8 8 (omega arith)) i;
      value = (c.word-2.ensures ∙ little-within l 16 8 (omega arith)) i;
      reference = (c.word-3.ensures ∙ little-within l 24 8 (omega arith)) i;
      index = (c.word-4.ensures ∙ little-within l 32 8 (omega arith)) i;
      n_a = (c.quad-2.ensures ∙ little-within l 40 4 (omega arith)) i;
      n_b = (c.quad-3.ensures ∙ little-within l 44 4 (omega arith)) i;
      n_c = (c.quad-4.ensures ∙ little-within l 48 4 (omega arith)) i;
      n_d = (c.quad-5.ensures ∙ little-within l 52 4 (omega arith)) i;
    }
