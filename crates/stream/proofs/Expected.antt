-- A case comes to Same exactly where its call gave back what the head says and its buffers were left as expected.
-- Assumes nothing.
use Rattle.std.proofs.Common.{◌≡◌, ℕ, Bool, true, false, List, [], sym, refl, ◌∙◌, arith, eq-eqb, eqb-true}
use Rattle.lists.specs.Pick.{pick}
use Rattle.lists.proofs.Tests.{both_true}
use Rattle.stream.specs.declared.Head.{Head}
use Rattle.stream.specs.declared.Reply.{Reply}
use Rattle.stream.specs.declared.Reply.TheVariants.{Unknown, Given}
use Rattle.stream.specs.declared.Step.{Step}
use Rattle.stream.specs.declared.Step.TheVariants.{Bad, Same, Differs}
use Rattle.stream.specs.Expected.{Agree, GivenAsExpected, AsExpected, is_as_expected, step_of}
use Rattle.stream.proofs.Compared.{Exactly}

bad : {X : Type 0} → Bad ≡ Same → X
bad e = let z : ◌≡◌ {A = ℕ} 0 1 = cc in absurd (omega arith)

-- the test behind Same
tested : (head : Head) (test : Bool) → pick test Same (Differs head) ≡ Same → test ≡ true
tested head true e = refl
tested head false e = let z : ◌≡◌ {A = ℕ} 0 1 = cc in absurd (omega arith)

module _ (head : Head) where
  -- where a case is the same, all of it is as expected
  pub step_same : (reply : Reply) (buffers : Bool) → step_of head reply buffers ≡ Same → GivenAsExpected head reply × (buffers ≡ true)
  step_same Unknown buffers e = bad e
  step_same (Given number place value reference index) buffers e =
      let all = both_true (is_as_expected head number place value reference index) buffers (tested head _ e) in
      let from-number = both_true _ _ all.0 in
      let from_place = both_true _ _ from-number.1 in
      let from-value = both_true _ _ from_place.1 in
      let from-reference = both_true _ _ from-value.1 in (
        (
          eqb-true number head.number from-number.0,
          eqb-true place head.place from_place.0,
          eqb-true value head.value from-value.0,
          eqb-true reference head.reference from-reference.0,
          eqb-true index head.index from-reference.1,
        ),
        all.1,
      )

  -- and back
  pub same_step : (reply : Reply) (buffers : Bool) → GivenAsExpected head reply → buffers ≡ true → step_of head reply buffers ≡ Same
  same_step Unknown buffers given left = absurd given
  same_step (Given number place value reference index) buffers given left =
      simp (
        eq-eqb number head.number given.0,
        eq-eqb place head.place given.1,
        eq-eqb value head.value given.2,
        eq-eqb reference head.reference given.3,
        eq-eqb index head.index given.4,
        left,
      )

  -- Where c is the only buffer that a call writes, a case is the same exactly where it is as expected, by a test of c
  -- that is exact.
  pub judged : (reply : Reply) (c c' : List ℕ) {step : Step} {buffers : Bool} {long long' : Type 0}
      → step ≡ step_of head reply buffers
      → Exactly buffers long long' (Agree head.n_c c c')
      → (step ≡ Same → AsExpected head reply c c' [] []) × (long → long' → AsExpected head reply c c' [] [] → step ≡ Same)
  judged reply c c' {buffers = buffers} comes tests = (
    (λ same.
        let all = step_same reply buffers (sym comes ∙ same) in
        (all.0, (tests.0 all.1).2, λ k b. refl)),
    (λ p q all. comes ∙ same_step reply buffers all.0 (tests.1 p q all.1)),
  )
