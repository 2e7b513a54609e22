-- `stream::same_words` meets its contract. The loop's invariant: the first i numbers are those of the bytes.
-- Assumes nothing.
use Rattle.std.proofs.Common.{◌≡◌, ◌*◌, sym, ◌∙◌, arith, below_none, below_more}
use Rattle.little.specs.Little.{little}
use Rattle.little.proofs.Little.{little-within}
use Rattle.stream.proofs.Compared.{number_at, no, yes}
use Rattle.stream.proofs.same_words.Goals as goal
use Rattle.stream.proofs.same_words.Goals.{After-word}

pub loop-i-init : goal.loop-i-init
loop-i-init c = below_none _

-- the number that a turn reads from the bytes
read : (c : After-word)
    → c.word.result ≡ little c.args.bytes.now (c.loop-i.i * 8) 8
read c = c.word.ensures ∙ little-within _ _ 8 (omega arith)

pub returns-then-words-i : goal.returns-then-words-i
returns-then-words-i c =
    let both = no (λ w b a. c.if-words-i.true (a _ (omega arith) ∙ number_at 8 _ _ _ (omega arith) ∙ sym (read (goal.at.returns-then-words-i c).After-word))) in record { n_in_bounds = both.0; value = both.1 }

pub loop-i-preserved : goal.loop-i-preserved
loop-i-preserved c =
    below_more _ _ c.loop-i.invariant (c.if-words-i.false ∙ read (goal.at.loop-i-preserved c).After-word)

pub returns : goal.returns
returns c =
    let e : c.loop-i.i ≡ c.args.n = omega arith in
    let both = yes (omega arith) (omega arith) (λ k b. c.loop-i.invariant k (omega arith) ∙ sym (number_at 8 _ _ k b)) in record { n_in_bounds = both.0; value = both.1 }
