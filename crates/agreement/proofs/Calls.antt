-- The plain calls against the main engine's, over the element size and the width: for every input the answer is the
-- same, and so are the value, the count and what is left in the lent buffer. Packed words are asked to be numbers of t
-- bits, as the elements of a slice are.
-- Assumes nothing.
use mathlib.Core.Bool.{Bool, true, false}
use mathlib.Core.List.{List}
use mathlib.Core.Path.{◌≡◌, refl, ap, ap₂, ◌∙◌}
use Prim.Native.Nat.{ℕ}
use borrow.Author.Tests.{eqb-true}
use Rattle.lists.specs.Numbers.{Elements}
use Rattle.lists.specs.Pick.{pick}
use Rattle.places.specs.declared.Answer.{Answer}
use Rattle.places.specs.Answers.{is_done, left}
use Rattle.places.specs.Sizes.{Size}
use Rattle.places.specs.Takes.{answer_for}
use Rattle.places.proofs.Answers.{number-done}
use Rattle.packing.specs.Calls.{pack_takes, pack_leaves, unpack_leaves}
use Rattle.packing.specs.Packed.{value_at}
use Rattle.access.specs.Calls.{single_of}
use Rattle.access.specs.Counts.{count_at}
use Rattle.plain.specs.Calls.{plain_takes, plain_pack_leaves, plain_unpack_leaves, plain_single_takes, plain_single}
use Rattle.plain.specs.Plain.{plain_value, plain_count}
use Rattle.plain.proofs.Answers.{single-taken}
use Rattle.agreement.proofs.Bits.{pack_agrees, unpack_agrees, place_agrees}
use Rattle.agreement.proofs.Counts.{count_agrees}

module _ {t : ℕ} (s : Size t) (w : ℕ) where
  -- Pack answers the same, and leaves the same packed block.
  pub packs-alike : (values packed : List ℕ)
      → (answer_for (plain_takes t w values packed) ≡ answer_for (pack_takes t w values packed))
      × (plain_pack_leaves t w values packed ≡ pack_leaves t w values packed)
  unfolding plain_pack_leaves pack_leaves
  packs-alike values packed = (refl, ap (λ new. left (answer_for (pack_takes t w values packed)) new packed) (pack_agrees s w values))

  -- Unpack answers the same, and leaves the same values.
  pub unpacks_alike : (values packed : List ℕ) → Elements t packed
      → (answer_for (plain_takes t w values packed) ≡ answer_for (pack_takes t w values packed))
      × (plain_unpack_leaves t w values packed ≡ unpack_leaves t w values packed)
  unfolding plain_unpack_leaves unpack_leaves
  unpacks_alike values packed small =
      (refl, ap (λ new. left (answer_for (pack_takes t w values packed)) new values) (unpack_agrees s w packed small))

  -- Single access gives the same, whatever enums the two are given in, where the one is read as the other case for
  -- case.
  pub singles_alike : {S S' : Type 0} (value : ℕ → ℕ → S) (refused : Answer → S) (value' : ℕ → ℕ → S') (refused' : Answer → S')
      → (read : S → S') → ((v n : ℕ) → read (value v n) ≡ value' v n) → ((a : Answer) → read (refused a) ≡ refused' a)
      → (packed : List ℕ) → Elements t packed → (index : ℕ)
      → read (plain_single value refused t w packed index) ≡ single_of value' refused' t w packed index
  unfolding plain_single single_of
  singles_alike value refused value' refused' read values-alike refusals-alike packed small index = go (is_done answer) refl
    where
      answer : Answer
      answer = answer_for (plain_single_takes t w packed index)

      go : (b : Bool) → is_done answer ≡ b
          → read (pick b (value (plain_value t w packed index) (plain_count t w index)) (refused answer))
          ≡ pick b (value' (value_at t w packed index) (count_at t w index)) (refused' answer)
      go true e =
          let taken = single-taken t w packed index (number-done answer (eqb-true _ _ e)) in
          values-alike _ _ ∙ ap₂ value' (place_agrees s w packed small index taken.within) (count_agrees s w index taken.narrow)
      go false e = refusals-alike answer
