-- A choice by a test, two tests as one, and a test the other way round. They have names of our own, so that a contract
-- reads as the rules do.
-- Assumes nothing.
use Rattle.std.specs.Prelude.{Bool, true, false}

-- This is a where the test holds, and else b.
abbrev pub pick : {A : Type 0} → (test : Bool) (a b : A) → A
pick true a b = a
pick false a b = b

-- This test says that both tests hold.
abbrev pub both : Bool → Bool → Bool
both true b = b
both false b = false

-- This test says that at least one of the two tests holds.
abbrev pub either : Bool → Bool → Bool
either true b = true
either false b = b

-- This test says that the test fails.
abbrev pub fails : Bool → Bool
fails test = pick test false true
