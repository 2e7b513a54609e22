-- Single access by the plain engine and by the main one, in the types of answers that each of them gives, over the element
-- size and the width.
-- Assumes nothing.
use mathlib.Core.List.{List}
use mathlib.Core.Path.{◌≡◌, refl}
use Prim.Native.Nat.{ℕ}
use Rattle.lists.specs.Numbers.{Elements}
use Rattle.places.specs.Sizes.{Size}
use Rattle.access.specs.Calls.{single_of}
use Rattle.access.specs.declared.Single.TheVariants as main
use Rattle.access.specs.Singles as main-reads
use Rattle.plain.specs.Calls.{plain_single}
use Rattle.plain.specs.declared.Single.{Single}
use Rattle.plain.specs.declared.Single.TheVariants as plain
use Rattle.plain.specs.Singles as plain-reads
use Rattle.agreement.specs.Singles.{as_access}
use Rattle.agreement.proofs.Calls.{singles_alike}

pub unpack-single : {t : ℕ} → Size t → (w : ℕ) (packed : List ℕ) → Elements t packed → (index : ℕ)
    → as_access (plain_single plain.Value plain.Refused t w packed index) ≡ single_of main.Value main.Refused t w packed index
unpack-single s w = singles_alike s w plain.Value plain.Refused main.Value main.Refused as_access (λ _ _. refl) (λ _. refl)

-- Each engine says of its answer over elements what it is with the element's number for the value. The reading goes with
-- that,
pub numbers-alike : {A : Type 0} (number : A → ℕ) (single : Single A)
    → as_access (plain-reads.single_number number single) ≡ main-reads.single_number number (as_access single)
numbers-alike number (plain.Value v n) = refl
numbers-alike number (plain.Refused a) = refl

-- so what is read off the two is the same: the answer, the value, and the count, of which a refused lookup has none in
-- either.
pub reads-alike : (single : Single ℕ)
    → (plain-reads.answer_of single ≡ main-reads.answer_of (as_access single))
    × (plain-reads.value_of single ≡ main-reads.value_of (as_access single))
    × (plain-reads.words_of single ≡ main-reads.words_of (as_access single))
reads-alike (plain.Value v n) = (refl, refl, refl)
reads-alike (plain.Refused a) = (refl, refl, refl)
