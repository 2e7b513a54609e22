-- `replay::t64::drawer::same` meets its contract. The loop's invariant: the first i elements are those of the bytes.
-- Assumes nothing.
use Rattle.std.proofs.Common.{true, false, length, ◌≡◌, ◌*◌, ◌/◌, ◌≤◌, sym, ◌∙◌, arith, below_none, below_more}
use Rattle.places.specs.Sizes.{t64}
use Rattle.little.specs.Little.{little, numbers_of}
use Rattle.little.proofs.Little.{little-within}
use Rattle.stream.specs.Expected.{Agree}
use Rattle.stream.proofs.Compared.{Exactly, number_at, no, yes}
use Rattle.replay.proofs.t64.drawer.same.Goals as goal
use Rattle.replay.proofs.t64.drawer.same.Goals.{After-read}

pub returns-then-elements-n : goal.returns-then-elements-n
returns-then-elements-n c = let both : Exactly false (c.args.n ≤ length c.args.elements.now) (t64 / 8 * c.args.n ≤ length c.args.bytes.now) (Agree c.args.n c.args.elements.now (numbers_of (t64 / 8) c.args.bytes.now c.args.n)) = no (λ w b a. omega arith) in record { n_in_bounds = both.0; value = both.1 }

pub returns-then-bytes-n : goal.returns-then-bytes-n
returns-then-bytes-n c = let both : Exactly false (c.args.n ≤ length c.args.elements.now) (t64 / 8 * c.args.n ≤ length c.args.bytes.now) (Agree c.args.n c.args.elements.now (numbers_of (t64 / 8) c.args.bytes.now c.args.n)) = no (λ w b a. omega arith) in record { n_in_bounds = both.0; value = both.1 }

pub loop-i-init : goal.loop-i-init
loop-i-init c = below_none _

-- the element that a turn reads from the bytes
read : (c : After-read)
    → c.read.result ≡ little c.args.bytes.now (c.loop-i.i * (t64 / 8)) (t64 / 8)
read c = c.read.ensures ∙ little-within _ _ (t64 / 8) (omega arith)

pub returns-then-elements-i : goal.returns-then-elements-i
returns-then-elements-i c =
    let both : Exactly false (c.args.n ≤ length c.args.elements.now) (t64 / 8 * c.args.n ≤ length c.args.bytes.now) (Agree c.args.n c.args.elements.now (numbers_of (t64 / 8) c.args.bytes.now c.args.n)) = no (λ w b a. c.if-elements-i.true (a _ (omega arith) ∙ number_at (t64 / 8) _ _ _ (omega arith) ∙ sym (read (goal.at.returns-then-elements-i c).After-read))) in record { n_in_bounds = both.0; value = both.1 }

pub loop-i-preserved : goal.loop-i-preserved
loop-i-preserved c =
    below_more _ _ c.loop-i.invariant (c.if-elements-i.false ∙ read (goal.at.loop-i-preserved c).After-read)

pub returns : goal.returns
returns c =
    let e : c.loop-i.i ≡ c.args.n = omega arith in
    let both : Exactly true (c.args.n ≤ length c.args.elements.now) (t64 / 8 * c.args.n ≤ length c.args.bytes.now) (Agree c.args.n c.args.elements.now (numbers_of (t64 / 8) c.args.bytes.now c.args.n)) = yes (omega arith) (omega arith) (λ k b. c.loop-i.invariant k (omega arith) ∙ sym (number_at (t64 / 8) _ _ k b)) in record { n_in_bounds = both.0; value = both.1 }
