-- A refused call leaves each lent buffer unchanged (R4): where the number is not 0, each lent buffer holds what it
-- held. One line for each buffer that a call is lent to write, all of them by the law that what is left after a refusal
-- is the old content.
-- Assumes nothing.
use mathlib.Core.List.{List}
use mathlib.Core.Path.{◌≡◌}
use Prim.Native.Nat.{ℕ}
use Rattle.places.specs.Answers.{number_of}
use Rattle.places.specs.Takes.{Taken, answer_for}
use Rattle.places.specs.Transposes.{transpose_takes, transpose_leaves, untranspose_leaves}
use Rattle.places.proofs.Answers.{left-refused}
use Rattle.packing.specs.Calls.{pack_takes, pack_leaves, unpack_leaves}
use Rattle.access.specs.Budgets.{within_leaves}
use Rattle.access.specs.Calls.{list_takes, list_leaves}
use Rattle.deltas.specs.Calls.{delta_takes, delta_leaves, undelta_leaves, undelta_pack_takes, undelta_pack_leaves, for_pack_leaves, unfor_pack_leaves}
use Rattle.runs.specs.Calls.{decode_takes, decode_leaves}

-- A call that takes these things is refused.
abbrev pub Refused : List Taken → Type 0
Refused taken = number_of (answer_for taken) ≡ 0 → ⊥

module _ (input output : List ℕ) (h : Refused (transpose_takes input output)) where
  pub transpose-refused : transpose_leaves input output ≡ output
  unfolding transpose_leaves
  transpose-refused = left-refused (answer_for (transpose_takes input output)) _ output h

  pub untranspose-refused : untranspose_leaves input output ≡ output
  unfolding untranspose_leaves
  untranspose-refused = left-refused (answer_for (transpose_takes input output)) _ output h

module _ (t w : ℕ) (values packed : List ℕ) (h : Refused (pack_takes t w values packed)) where
  pub pack-refused : pack_leaves t w values packed ≡ packed
  unfolding pack_leaves
  pack-refused = left-refused (answer_for (pack_takes t w values packed)) _ packed h

  pub unpack-refused : unpack_leaves t w values packed ≡ values
  unfolding unpack_leaves
  unpack-refused = left-refused (answer_for (pack_takes t w values packed)) _ values h

  pub for_pack-refused : (reference : ℕ) → for_pack_leaves t w values packed reference ≡ packed
  unfolding for_pack_leaves
  for_pack-refused reference = left-refused (answer_for (pack_takes t w values packed)) _ packed h

  pub unfor_pack-refused : (reference : ℕ) → unfor_pack_leaves t w values packed reference ≡ values
  unfolding unfor_pack_leaves
  unfor_pack-refused reference = left-refused (answer_for (pack_takes t w values packed)) _ values h

pub list-refused : (t w : ℕ) (packed indices output : List ℕ) → Refused (list_takes t w packed indices output)
    → list_leaves t w packed indices output ≡ output
unfolding list_leaves
list-refused t w packed indices output h = left-refused (answer_for (list_takes t w packed indices output)) _ output h

pub within-refused : (t w : ℕ) (packed indices output : List ℕ) (budget : ℕ) → Refused (list_takes t w packed indices output)
    → within_leaves t w packed indices output budget ≡ output
unfolding within_leaves
within-refused t w packed indices output budget h = left-refused (answer_for (list_takes t w packed indices output)) _ output h

module _ (t : ℕ) (input base output : List ℕ) (h : Refused (delta_takes t input base output)) where
  pub delta-refused : delta_leaves t input base output ≡ output
  unfolding delta_leaves
  delta-refused = left-refused (answer_for (delta_takes t input base output)) _ output h

  pub undelta-refused : undelta_leaves t input base output ≡ output
  unfolding undelta_leaves
  undelta-refused = left-refused (answer_for (delta_takes t input base output)) _ output h

pub undelta-pack-refused : (t w : ℕ) (values packed base : List ℕ) → Refused (undelta_pack_takes t w values packed base)
    → undelta_pack_leaves t w values packed base ≡ values
unfolding undelta_pack_leaves
undelta-pack-refused t w values packed base h = left-refused (answer_for (undelta_pack_takes t w values packed base)) _ values h

pub decode-refused : (dictionary indices output : List ℕ) → Refused (decode_takes dictionary indices output)
    → decode_leaves dictionary indices output ≡ output
unfolding decode_leaves
decode-refused dictionary indices output h = left-refused (answer_for (decode_takes dictionary indices output)) _ output h
