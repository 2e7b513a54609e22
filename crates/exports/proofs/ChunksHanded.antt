-- What is handed over for what a call on chunks gave is handed over for what its contract says that it gives, as Handed
-- has it.
-- Assumes nothing.
use mathlib.Core.Path.{◌≡◌, subst}
use mathlib.Core.List.{List}
use Prim.Native.Nat.{ℕ}
use Rattle.trickle.specs.declared.Fed.{Fed}
use Rattle.trickle.specs.declared.Started.{Started}
use Rattle.trickle.specs.declared.TrickleAnswer.{TrickleAnswer}
use Rattle.exports.specs.ChunksHanded.{AskHanded, StartHanded, FedHanded}

pub ask_on : {a b : TrickleAnswer} {n p : ℕ} → a ≡ b → AskHanded a n p → AskHanded b n p
ask_on {n = n} {p = p} = subst (λ x. AskHanded x n p)

pub start_on : {a b : Started} {n w h : ℕ} {r : List ℕ} {p : ℕ} → a ≡ b → StartHanded a n w h r p → StartHanded b n w h r p
start_on {n = n} {w = w} {h = h} {r = r} {p = p} = subst (λ x. StartHanded x n w h r p)

pub fed_on : {a b : Fed} {n w h : ℕ} {r : List ℕ} → a ≡ b → FedHanded a n w h r → FedHanded b n w h r
fed_on {n = n} {w = w} {h = h} {r = r} = subst (λ x. FedHanded x n w h r)
