-- The single answer of an element that is its number, as of u8, u16, u32 and u64, is what it is over the numbers.
-- Assumes nothing.
use Rattle.std.proofs.Common.{◌≡◌, ℕ, refl}
use Rattle.plain.specs.declared.Single.{Single}
use Rattle.plain.specs.declared.Single.TheVariants.{Value, Refused}
use Rattle.plain.specs.Singles.{single_number}

pub single-same : (s : Single ℕ) → single_number (λ x. x) s ≡ s
single-same (Value v n) = refl
single-same (Refused a) = refl
