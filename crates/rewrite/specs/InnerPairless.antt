-- What a renumbering without pairs gave, as a rewrite gives it. The contracts of private steps name this; no public
-- contract does.
-- Assumes nothing.
use Rattle.std.specs.Prelude.{ℕ, Result, Ok, Err}
use Rattle.contents.specs.declared.FileRefusal.{FileRefusal}
use Rattle.contents.specs.declared.FileRefusal.TheVariants.{Room}
use Rattle.renumber.specs.declared.RenumberRefusal.{RenumberRefusal}
use Rattle.renumber.specs.declared.RenumberRefusal.TheVariants.{File, Lengths, Unrising, Disordered, Twice, Taken}
use Rattle.renumber.specs.declared.Renumbered.{Renumbered}

-- This is the file's own refusal; where the lists or a row are refused there is none, and that there is no room stands
-- for it.
abbrev pub own_refusal : RenumberRefusal → FileRefusal
own_refusal (File r) = r
own_refusal Lengths = Room
own_refusal (Unrising p) = Room
own_refusal (Disordered p) = Room
own_refusal (Twice p) = Room
own_refusal (Taken p) = Room

-- The length is that of the new file, and the count of rows that change goes.
abbrev pub as_written : Result Renumbered RenumberRefusal → Result ℕ FileRefusal
as_written (Ok given) = Ok given.length
as_written (Err refusal) = Err (own_refusal refusal)
