-- What is handed over for what a call gave is handed over for what its contract says that it gives: the one step of
-- each exported call.
-- Assumes nothing.
use mathlib.Core.Path.{◌≡◌, subst}
use Prim.Native.Nat.{ℕ}
use Rattle.places.specs.declared.Answer.{Answer}
use Rattle.access.specs.declared.Listed.{Listed}
use Rattle.access.specs.declared.Afforded.{Afforded}
use Rattle.exports.specs.Handed.{Handed, SingleHanded, ListHanded, FrontHanded}

pub handed_on : {a b : Answer} {n p : ℕ} → a ≡ b → Handed a n p → Handed b n p
handed_on {n = n} {p = p} = subst (λ x. Handed x n p)

pub single_on : {S : Type 0} {answer_of : S → Answer} {value_of words_of : S → ℕ} {a b : S} {n v w p : ℕ}
    → a ≡ b → SingleHanded answer_of value_of words_of a n v w p → SingleHanded answer_of value_of words_of b n v w p
single_on {answer_of = answer_of} {value_of = value_of} {words_of = words_of} {n = n} {v = v} {w = w} {p = p} =
    subst (λ x. SingleHanded answer_of value_of words_of x n v w p)

pub list_on : {a b : Listed} {n w p : ℕ} → a ≡ b → ListHanded a n w p → ListHanded b n w p
list_on {n = n} {w = w} {p = p} = subst (λ x. ListHanded x n w p)

pub front_on : {a b : Afforded} {n k w p : ℕ} → a ≡ b → FrontHanded a n k w p → FrontHanded b n k w p
front_on {n = n} {k = k} {w = w} {p = p} = subst (λ x. FrontHanded x n k w p)
