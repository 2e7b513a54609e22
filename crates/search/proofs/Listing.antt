-- The laws behind the loops that count the numbers that pass a test, and behind those that list them: one number more.
-- Assumes nothing.
use Rattle.std.proofs.Common.{◌≡◌, ℕ, ◌+◌, ◌-◌, ◌≤◌, Bool, true, false, [], ◌∷◌, ◌++◌, length, ap, ◌∙◌, append-nil, arith, length-append}
use Rattle.lists.specs.Passing.{passing}
use Rattle.lists.proofs.Passing.{one, passing-next, passing-split}

module _ (s : ℕ) (test : ℕ → Bool) where
  -- How many pass, by whether one more does.
  pub more_pass : (n : ℕ) → test (s + n) ≡ true → length (passing s (n + 1) test) ≡ length (passing s n test) + 1
  more_pass n e =
      ap length (passing-next s n test ∙ ap (λ b. passing s n test ++ one b (s + n)) e) ∙ length-append (passing s n test) ((s + n) ∷ [])

  pub same_pass : (n : ℕ) → test (s + n) ≡ false → passing s (n + 1) test ≡ passing s n test
  same_pass n e = passing-next s n test ∙ ap (λ b. passing s n test ++ one b (s + n)) e ∙ append-nil (passing s n test)

  -- Among more numbers no fewer pass.
  pub pass_mono : (m n : ℕ) → m ≤ n → length (passing s m test) ≤ length (passing s n test)
  pass_mono m n h =
      let e : n ≡ m + (n - m) = omega arith in
      omega (
        arith,
        ap (λ k. length (passing s k test)) e,
        ap length (passing-split s m (n - m) test),
        length-append (passing s m test) (passing (s + m) (n - m) test),
      )
