-- What the plain calls take and give, and what each leaves in the buffer lent to it, for every input (R76). What a call
-- answers is `answer_for` what it takes, by the table of R143. That both engines agree (R77) is a law of agreement.
-- Assumes nothing.
use Rattle.std.specs.Prelude.{List, [], ◌∷◌, ℕ}
use Rattle.lists.specs.Pick.{pick}
use Rattle.places.specs.declared.Answer.{Answer}
use Rattle.places.specs.Answers.{is_done, left}
use Rattle.places.specs.Sizes.{largest_u64}
use Rattle.places.specs.Takes.{Taken, a_width, a_block, a_packed, an_index, answer_for}
use Rattle.plain.specs.Plain.{plain_value, plain_unpack, plain_pack, plain_count}

-- Pack and unpack take a width, a block of values and a packed block.
abbrev pub plain_takes : (t w : ℕ) (values packed : List ℕ) → List Taken
plain_takes t w values packed = a_width t w ∷ a_block values ∷ a_packed t w packed ∷ []

-- Pack leaves this in `packed`.
unfoldable pub plain_pack_leaves : (t w : ℕ) (values packed : List ℕ) → List ℕ
plain_pack_leaves t w values packed = left (answer_for (plain_takes t w values packed)) (plain_pack t w values) packed

-- Unpack leaves this in `values`.
unfoldable pub plain_unpack_leaves : (t w : ℕ) (values packed : List ℕ) → List ℕ
plain_unpack_leaves t w values packed = left (answer_for (plain_takes t w values packed)) (plain_unpack t w packed) values

-- Single access takes a width, a packed block and an index.
abbrev pub plain_single_takes : (t w : ℕ) (packed : List ℕ) (index : ℕ) → List Taken
plain_single_takes t w packed index = a_width t w ∷ a_packed t w packed ∷ an_index index ∷ []

-- It gives the value and its count of words where it is done, and else the refusal. The type of the answer, `Single`,
-- has these two cases; what they stand for is said in Singles.
abbrev pub given : {S : Type 0} → (value : (v count : ℕ) → S) (refused : Answer → S) (answer : Answer) (v count : ℕ) → S
given value refused a v n = pick (is_done a) (value v n) (refused a)

-- Single access gives this.
unfoldable pub plain_single : {S : Type 0} → (value : (v count : ℕ) → S) (refused : Answer → S) (t w : ℕ) (packed : List ℕ) (index : ℕ) → S
plain_single value refused t w packed index =
    given value refused (answer_for (plain_single_takes t w packed index)) (plain_value t w packed index) (plain_count t w index)

-- The largest u64 stands for the count of a refused lookup, which has none.
abbrev pub no_count : ℕ
no_count = largest_u64
