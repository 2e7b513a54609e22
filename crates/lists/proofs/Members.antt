-- What stands in a list of passing numbers: exactly those that pass, rising.
-- Assumes nothing.
use mathlib.Core.Bool.{Bool, true, false}
use mathlib.Core.List.{List, [], ◌∷◌, ◌++◌}
use mathlib.Core.Path.{◌≡◌, refl, sym, ap, subst, ◌∙◌}
use Prim.Native.Nat.{ℕ, zero, suc, ◌+◌, ◌≤◌, ◌<◌}
use native.Mathlib.Decide.{dec_lt}
use native.Mathlib.Omega.{arith}
use lib.ListN.{length, get_or, length-append, get_or-append}
use lib.Seq.{get_or-append-add}
use Rattle.lists.specs.Passing.{passing}
use Rattle.lists.specs.Members.{Stands, Rising}
use Rattle.lists.proofs.Passing.{one}

-- the entry behind a list
last_at : (xs : List ℕ) (v : ℕ) → get_or (xs ++ (v ∷ [])) (length xs) 0 ≡ v
last_at xs v = let e : length xs ≡ length xs + 0 = omega arith in ap (λ n. get_or (xs ++ (v ∷ [])) n 0) e ∙ get_or-append-add xs (v ∷ []) 0 0

module _ (s : ℕ) (test : ℕ → Bool) where
  -- An entry of the list is a number that passes.
  pub stands-passes : (n i : ℕ) → i < length (passing s n test)
      → (s ≤ get_or (passing s n test) i 0) × ((get_or (passing s n test) i 0 < s + n) × (test (get_or (passing s n test) i 0) ≡ true))
  unfolding passing
  stands-passes zero i h = absurd (omega arith)
  stands-passes (suc n) i h = go (test (s + n)) refl h (stands-passes n i)
    where
      go : (b : Bool) → test (s + n) ≡ b → i < length (passing s n test ++ one b (s + n))
          → (i < length (passing s n test) → (s ≤ get_or (passing s n test) i 0) × ((get_or (passing s n test) i 0 < s + n) × (test (get_or (passing s n test) i 0) ≡ true)))
          → (s ≤ get_or (passing s n test ++ one b (s + n)) i 0)
          × ((get_or (passing s n test ++ one b (s + n)) i 0 < s + suc n) × (test (get_or (passing s n test ++ one b (s + n)) i 0) ≡ true))
      go b e g before =
          elim (dec_lt i (length (passing s n test))) [
            | yes low ↦
                let at = get_or-append (passing s n test) (one b (s + n)) 0 i low in
                let is = before low in
                (omega arith, (omega arith, ap test at ∙ is.1.1))
            | no high ↦ last b e g (omega arith)
          ]
        where
          last : (b : Bool) → test (s + n) ≡ b → i < length (passing s n test ++ one b (s + n)) → length (passing s n test) ≤ i
              → (s ≤ get_or (passing s n test ++ one b (s + n)) i 0)
              × ((get_or (passing s n test ++ one b (s + n)) i 0 < s + suc n) × (test (get_or (passing s n test ++ one b (s + n)) i 0) ≡ true))
          last false e g m = absurd (omega (arith, length-append (passing s n test) []))
          last true e g m =
              let here : i ≡ length (passing s n test) = omega (arith, length-append (passing s n test) ((s + n) ∷ [])) in
              let at = ap (λ k. get_or (passing s n test ++ ((s + n) ∷ [])) k 0) here ∙ last_at (passing s n test) (s + n) in
              (omega arith, (omega arith, ap test at ∙ e))

  -- A number that passes is an entry.
  pub passes-stands : (n p : ℕ) → s ≤ p → p < s + n → test p ≡ true → Stands p (passing s n test)
  unfolding passing
  passes-stands zero p low high e = absurd (omega arith)
  passes-stands (suc n) p low high e =
      elim (dec_lt p (s + n)) [
        | yes h ↦
            let before = passes-stands n p low h e in
            let more = length-append (passing s n test) (one (test (s + n)) (s + n)) in
            (before.0, omega (arith, before.1), get_or-append (passing s n test) (one (test (s + n)) (s + n)) 0 before.0 before.1 ∙ before.2)
        | no h ↦
            let here : p ≡ s + n = omega arith in
            subst (λ b. Stands p (passing s n test ++ one b (s + n))) (sym (ap test (sym here) ∙ e))
            (length (passing s n test), omega (arith, length-append (passing s n test) ((s + n) ∷ [])), last_at (passing s n test) (s + n) ∙ sym here)
      ]

  -- The entries rise.
  pub passing-rises : (n : ℕ) → Rising (passing s n test)
  unfolding passing
  passing-rises zero i j low high = absurd (omega arith)
  passing-rises (suc n) i j low high = go (test (s + n)) refl high (passing-rises n i j low) (stands-passes n i)
    where
      go : (b : Bool) → test (s + n) ≡ b → j < length (passing s n test ++ one b (s + n))
          → (j < length (passing s n test) → get_or (passing s n test) i 0 < get_or (passing s n test) j 0)
          → (i < length (passing s n test) → (s ≤ get_or (passing s n test) i 0) × ((get_or (passing s n test) i 0 < s + n) × (test (get_or (passing s n test) i 0) ≡ true)))
          → get_or (passing s n test ++ one b (s + n)) i 0 < get_or (passing s n test ++ one b (s + n)) j 0
      go b e g before entry =
          elim (dec_lt j (length (passing s n test))) [
            | yes h ↦
                omega (
                  arith,
                  before h,
                  get_or-append (passing s n test) (one b (s + n)) 0 i (omega arith),
                  get_or-append (passing s n test) (one b (s + n)) 0 j h,
                )
            | no h ↦ last b e g (omega arith)
          ]
        where
          last : (b : Bool) → test (s + n) ≡ b → j < length (passing s n test ++ one b (s + n)) → length (passing s n test) ≤ j
              → get_or (passing s n test ++ one b (s + n)) i 0 < get_or (passing s n test ++ one b (s + n)) j 0
          last false e g m = absurd (omega (arith, length-append (passing s n test) []))
          last true e g m =
              let here : j ≡ length (passing s n test) = omega (arith, length-append (passing s n test) ((s + n) ∷ [])) in
              let at = ap (λ k. get_or (passing s n test ++ ((s + n) ∷ [])) k 0) here ∙ last_at (passing s n test) (s + n) in
              omega (arith, (entry (omega arith)).1.0, get_or-append (passing s n test) ((s + n) ∷ []) 0 i (omega arith))
