-- What is handed over for what a call on numbers in decimal or the summary of a block gave is handed over for what its
-- contract says that it gives, as Handed has it.
-- Assumes nothing.
use mathlib.Core.Path.{◌≡◌, subst}
use Prim.Native.Nat.{ℕ}
use Rattle.decimal.specs.Calls.{Parsed}
use Rattle.summary.specs.declared.Summary.{Summary}
use Rattle.exports.specs.TextHanded.{ParsedHanded, SummaryHanded}

pub parsed_on : {a b : Parsed} {n v p : ℕ} → a ≡ b → ParsedHanded a n v p → ParsedHanded b n v p
parsed_on {n = n} {v = v} {p = p} = subst (λ x. ParsedHanded x n v p)

pub summary_on : {a b : Summary} {k w l r s g : ℕ} → a ≡ b → SummaryHanded a k w l r s g → SummaryHanded b k w l r s g
summary_on {k = k} {w = w} {l = l} {r = r} {s = s} {g = g} = subst (λ x. SummaryHanded x k w l r s g)
