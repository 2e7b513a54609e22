-- What the steps over a list of pairs ask of it and give. Private steps name these; no public contract does.
-- Assumes nothing.
use Rattle.std.specs.Prelude.{Bool, true, false, List, ◌≡◌, ℕ, ◌<◌, eqb, leb, ltb, length, get_or}
use Rattle.lists.specs.Members.{Rising}
use Rattle.lists.specs.Pick.{pick}
use Rattle.lists.specs.Search.{first_beyond}
use Rattle.renumber.specs.Pairs.{renumbered, along, is_behind}

-- Every place of the order is one of n.
abbrev pub Within : (n : ℕ) (order : List ℕ) → Type 0
Within n order = (i : ℕ) → i < length order → get_or order i 0 < n

-- The order has a place for each pair, and each place comes behind every one before it.
pub record Ordered (new order : List ℕ) : Type 0 where
  pub long : length order ≡ length new
  pub places : Within (length new) order
  pub behind : (i j : ℕ) → i < j → j < length order → is_behind new (get_or order i 0) (get_or order j 0) ≡ true

-- The lists are not refused by 18 to 21: they are of one length, the old numbers rise, the order has places that are
-- there, and the new numbers rise along it.
pub record Paired (old new order : List ℕ) : Type 0 where
  pub new_long : length new ≡ length old
  pub order_long : length order ≡ length old
  pub rising : Rising old
  pub places : Within (length new) order
  pub along_rising : Rising (along order new)

-- This test says that the lowest number of a rising list that is not below `low` is there and not above `high`.
unfoldable pub meets_in : (xs : List ℕ) (low high : ℕ) → Bool
meets_in xs low high = pick (ltb (first_beyond low xs) (length xs)) (leb (get_or xs (first_beyond low xs) 0) high) false

-- This test says that a number stays.
abbrev pub is_kept : (old new : List ℕ) (x : ℕ) → Bool
is_kept old new x = eqb x (renumbered old new x)
