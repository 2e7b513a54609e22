-- The table of the numbers 0 to 7 (R143), said a second time, in plain arithmetic and without a test or a search: when
-- each number applies, and that the lowest number that applies is given (R5). It guards the table that the calls go by,
-- which stands in places, Takes: that the two agree, for a list in the order of the numbers, as that of every call is,
-- is shown in proofs/Tables.antt, and proofs/Numbers.antt spells it out call by call.
-- Assumes nothing.
use Rattle.std.specs.Prelude.{List, [], ◌∷◌, ◌↔◌, ◌⊎◌, ◌≢◌, ◌≡◌, ℕ, zero, suc, ◌*◌, ◌≤◌, ◌<◌, length, get_or}
use Rattle.places.specs.declared.Answer.{Answer}
use Rattle.places.specs.Answers.{number_of, place_of}
use Rattle.places.specs.Sizes.{lanes}
use Rattle.places.specs.Takes.{Taken, a_width, a_block, a_packed, a_base, two_lists, an_index, an_index_list, dictionary_indices}

-- This says that p is the lowest place of the list whose number is at or beyond the limit.
pub record Lowest (limit : ℕ) (list : List ℕ) (p : ℕ) : Type 0 where
  pub within : p < length list
  pub beyond : limit ≤ get_or list p 0
  pub earlier : (i : ℕ) → i < p → get_or list i 0 < limit

-- This is the number of the table that each thing that a call takes can be refused with.
abbrev pub number_for : Taken → ℕ
number_for (a_width t w) = 1
number_for (a_block values) = 2
number_for (a_packed t w words) = 3
number_for (a_base t starts) = 4
number_for (two_lists list output) = 5
number_for (an_index i) = 6
number_for (an_index_list list) = 6
number_for (dictionary_indices dictionary list) = 7

-- This is the number's condition, with the place p that is returned.
abbrev pub Condition : (x : Taken) (p : ℕ) → Type 0
Condition (a_width t w) p = (t < w) × (p ≡ 0)
Condition (a_block values) p = (length values ≢ 1024) × (p ≡ 0)
Condition (a_packed t w words) p = (length words ≢ lanes t * w) × (p ≡ 0)
Condition (a_base t starts) p = (length starts ≢ lanes t) × (p ≡ 0)
Condition (two_lists list output) p = (length output ≢ length list) × (p ≡ 0)
Condition (an_index i) p = (1024 ≤ i) × (p ≡ 0)
Condition (an_index_list list) p = Lowest 1024 list p
Condition (dictionary_indices dictionary list) p = Lowest (length dictionary) list p

-- Number n applies with place p where it does so for something that the call takes.
abbrev pub Applies : (taken : List Taken) (n p : ℕ) → Type 0
Applies [] n p = ⊥
Applies (x ∷ xs) n p = ((number_for x ≡ n) × Condition x p) ⊎ Applies xs n p

-- Number n is to be given with place p. It is 0, with place 0, where no number applies, and else one that applies,
-- where no lower one does.
abbrev pub Given : (taken : List Taken) (n p : ℕ) → Type 0
Given taken zero p = (p ≡ 0) × ((m q : ℕ) → ¬ Applies taken m q)
Given taken (suc n) p = Applies taken (suc n) p × ((m q : ℕ) → m < suc n → ¬ Applies taken m q)

-- This says that the answer a gives number n with place p.
abbrev pub Gives : (a : Answer) (n p : ℕ) → Type 0
Gives a n p = (number_of a ≡ n) × (place_of a ≡ p)

-- This says that an answer gives each number and place exactly when they are to be given to a call that takes these
-- things.
abbrev pub Exactly : Answer → List Taken → Type 0
Exactly a taken = (n p : ℕ) → Gives a n p ↔ Given taken n p
