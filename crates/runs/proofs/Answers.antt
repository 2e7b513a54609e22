-- What decode answers, by the tests that it makes.
-- Assumes nothing.
use mathlib.Core.List.{List}
use mathlib.Core.Path.{◌≡◌}
use Prim.Native.Nat.{ℕ, ◌≤◌, ◌<◌}
use native.Mathlib.Omega.{arith}
use lib.ListN.{length}
use borrow.Author.Tests.{eq-eqb, ne_eqb}
use Rattle.lists.specs.Search.{first_beyond}
use Rattle.lists.specs.Ends.{highest_of}
use Rattle.lists.proofs.Highs.{highest-beyond}
use Rattle.places.specs.declared.Answer.TheVariants.{Done, Block, Dictionary}
use Rattle.places.specs.Takes.{answer_for}
use Rattle.runs.specs.Calls.{decode_takes}

module _ (dictionary indices output : List ℕ) where
  pub decode_bad_indices : (length indices ≡ 1024 → ⊥) → answer_for (decode_takes dictionary indices output) ≡ Block
  unfolding answer_for
  decode_bad_indices h = simp (ne_eqb (length indices) 1024 h)

  module _ (i : length indices ≡ 1024) where
    pub decode_bad_output : (length output ≡ 1024 → ⊥) → answer_for (decode_takes dictionary indices output) ≡ Block
    unfolding answer_for
    decode_bad_output h = simp (eq-eqb (length indices) 1024 i, ne_eqb (length output) 1024 h)

    module _ (o : length output ≡ 1024) where
      pub decode-done : first_beyond (length dictionary) indices ≡ length indices → answer_for (decode_takes dictionary indices output) ≡ Done
      unfolding answer_for
      decode-done e =
          simp (
            eq-eqb (length indices) 1024 i,
            eq-eqb (length output) 1024 o,
            eq-eqb (first_beyond (length dictionary) indices) (length indices) e,
          )

      -- the last test by the highest index
      pub decode-high : highest_of indices < length dictionary → answer_for (decode_takes dictionary indices output) ≡ Done
      decode-high h = decode-done ((highest-beyond (length dictionary) indices (omega arith)).0 h)

      pub decode_bad_high : length dictionary ≤ highest_of indices
          → answer_for (decode_takes dictionary indices output) ≡ Dictionary (first_beyond (length dictionary) indices)
      unfolding answer_for
      decode_bad_high h =
          let some : first_beyond (length dictionary) indices ≡ length indices → ⊥ =
          λ e. let b : highest_of indices < length dictionary = (highest-beyond (length dictionary) indices (omega arith)).1 e in omega arith in
          simp (
            eq-eqb (length indices) 1024 i,
            eq-eqb (length output) 1024 o,
            ne_eqb (first_beyond (length dictionary) indices) (length indices) some,
          )
