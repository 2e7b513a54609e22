-- What is handed over for what a call on a file gave is handed over for what its contract says that it gives, as Handed
-- has it.
-- Assumes nothing.
use mathlib.Core.Path.{◌≡◌, subst}
use Prim.Native.Nat.{ℕ}
use Rattle.std.specs.Prelude.{Result}
use Rattle.contents.specs.declared.Entry.{Entry}
use Rattle.contents.specs.declared.FileRefusal.{FileRefusal}
use Rattle.contents.specs.declared.Range.{Range}
use Rattle.bodywise.specs.declared.Body.{Body}
use Rattle.files.specs.declared.Row.{Row}
use Rattle.renumber.specs.declared.RenumberRefusal.{RenumberRefusal}
use Rattle.renumber.specs.declared.Renumbered.{Renumbered}
use Rattle.search.specs.declared.Found.{Found}
use Rattle.exports.specs.FileHanded.{FileHanded, RowHanded, WrittenHanded, RenumberedHanded, FoundHanded, ComparedHanded, EntryHanded, RangeHanded, BodyHanded}
use Rattle.contents.specs.Answers.{FileAnswer}

pub file_on_lem : {a b : FileAnswer} {n p : ℕ} → a ≡ b → FileHanded a n p → FileHanded b n p
file_on_lem {n = n} {p = p} = subst (λ x. FileHanded x n p)

pub row_on : {a b : Result Row FileRefusal} {n v w p : ℕ} → a ≡ b → RowHanded a n v w p → RowHanded b n v w p
row_on {n = n} {v = v} {w = w} {p = p} = subst (λ x. RowHanded x n v w p)

pub written_on : {a b : Result ℕ FileRefusal} {n l p : ℕ} → a ≡ b → WrittenHanded a n l p → WrittenHanded b n l p
written_on {n = n} {l = l} {p = p} = subst (λ x. WrittenHanded x n l p)

pub renumbered_on : {a b : Result Renumbered RenumberRefusal} {n l k p : ℕ} → a ≡ b → RenumberedHanded a n l k p → RenumberedHanded b n l k p
renumbered_on {n = n} {l = l} {k = k} {p = p} = subst (λ x. RenumberedHanded x n l k p)

pub found_on : {a b : Result Found FileRefusal} {n k o p : ℕ} → a ≡ b → FoundHanded a n k o p → FoundHanded b n k o p
found_on {n = n} {k = k} {o = o} {p = p} = subst (λ x. FoundHanded x n k o p)

pub compared_on : {a b : Result ℕ FileRefusal} {n k p : ℕ} → a ≡ b → ComparedHanded a n k p → ComparedHanded b n k p
compared_on {n = n} {k = k} {p = p} = subst (λ x. ComparedHanded x n k p)

pub entry_on : {a b : Entry} {k w z l r : ℕ} → a ≡ b → EntryHanded a k w z l r → EntryHanded b k w z l r
entry_on {k = k} {w = w} {z = z} {l = l} {r = r} = subst (λ x. EntryHanded x k w z l r)

pub range_on : {a b : Range} {s l : ℕ} → a ≡ b → RangeHanded a s l → RangeHanded b s l
range_on {s = s} {l = l} = subst (λ x. RangeHanded x s l)

pub body_on : {a b : Body} {n s l : ℕ} → a ≡ b → BodyHanded a n s l → BodyHanded b n s l
body_on {n = n} {s = s} {l = l} = subst (λ x. BodyHanded x n s l)
