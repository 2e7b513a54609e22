-- The tests of a call, each with the refusal that is given where it fails.
-- Assumes nothing.
use Rattle.std.specs.Prelude.{Bool, List, [], ◌∷◌, ℕ, eqb, length}
use Rattle.lists.specs.Pick.{pick}

-- This is one line of a call's tests: where the test holds what follows decides, and otherwise this refusal is given.
abbrev pub unless : {A : Type 0} → (test : Bool) (refusal rest : A) → A
unless test refusal rest = pick test rest refusal

-- A test of a call stands with the refusal that is given where it fails: the first of the two is the test, and the
-- second the refusal.
abbrev pub Test : (A : Type 0) → Type 0
Test A = Bool × A

-- The tests of a call stand in a list. The first one that fails gives its refusal, and where every one passes the
-- call is done. The calls on blocks and those on files differ in their answers, and all go through their tests so.
abbrev pub first_refusal : {A : Type 0} → (done : A) → List (Test A) → A
first_refusal done [] = done
first_refusal done (x ∷ xs) = unless x.0 x.1 (first_refusal done xs)

-- This test says that the list has n entries.
abbrev pub long : (n : ℕ) (list : List ℕ) → Bool
long n list = eqb (length list) n
