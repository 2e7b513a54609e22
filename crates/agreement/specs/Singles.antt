-- The two engines give single answers of two types. The one of the plain engine is read here as the one of access.
-- Assumes nothing.
use Rattle.access.specs.declared.Single as access
use Rattle.access.specs.declared.Single.TheVariants as access-variants
use Rattle.plain.specs.declared.Single.{Single}
use Rattle.plain.specs.declared.Single.TheVariants.{Value, Refused}

-- It goes value for value, count for count and refusal for refusal.
abbrev pub as_access : {A : Type 0} → Single A → access.Single A
as_access (Value v n) = access-variants.Value v n
as_access (Refused a) = access-variants.Refused a
