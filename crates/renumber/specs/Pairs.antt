-- The list of pairs that a renumbering goes by: pair i is the old number at place i and the new number at place i, and
-- `order` has the places of the pairs by rising new number. What a number becomes (R133), and when such lists are
-- refused (R135).
-- Assumes nothing.
use Rattle.std.specs.Prelude.{Bool, List, ℕ, ◌-◌, eqb, ltb, length, get_or}
use Rattle.lists.specs.Pick.{pick, both, either, fails}
use Rattle.lists.specs.Search.{first_bad}
use Rattle.lists.specs.Tab.{tab}

-- This is the lowest place of a list at which x stands, and the list's length where it stands nowhere.
unfoldable pub place_in : (xs : List ℕ) (x : ℕ) → ℕ
place_in xs x = first_bad (length xs) (λ i. fails (eqb (get_or xs i 0) x))

-- This test says that x stands in a list. A number is listed when it stands among the old numbers.
abbrev pub is_in : (xs : List ℕ) (x : ℕ) → Bool
is_in xs x = ltb (place_in xs x) (length xs)

-- A number that is listed becomes the new number of the lowest place whose old number it is, and every other number
-- stays.
unfoldable pub renumbered : (old new : List ℕ) (x : ℕ) → ℕ
renumbered old new x = pick (is_in old x) (get_or new (place_in old x) 0) x

-- This test says that x does not become one with another number: it is listed, or does not stand among the new ones.
abbrev pub is_free : (old new : List ℕ) (x : ℕ) → Bool
is_free old new x = either (is_in old x) (fails (is_in new x))

-- This test says that place i is the first of a list, or that its number is above the one before it.
abbrev pub rises_at : (xs : List ℕ) (i : ℕ) → Bool
rises_at xs i = either (eqb i 0) (ltb (get_or xs (i - 1) 0) (get_or xs i 0))

-- This is the lowest place at which a list does not rise, and its length where there is none.
unfoldable pub unrising_at : (xs : List ℕ) → ℕ
unrising_at xs = first_bad (length xs) (rises_at xs)

-- This test says that pair q comes behind pair p: its new number is above that of p, or is equal to it and q is above p.
abbrev pub is_behind : (new : List ℕ) (p q : ℕ) → Bool
is_behind new p q = either (ltb (get_or new p 0) (get_or new q 0)) (both (eqb (get_or new p 0) (get_or new q 0)) (ltb p q))

-- This test says that place i of the order says a pair that is there, and from place 1 on one that comes behind the pair
-- before it.
abbrev pub is_ordered_at : (new order : List ℕ) (i : ℕ) → Bool
is_ordered_at new order i =
    both (ltb (get_or order i 0) (length new)) (either (eqb i 0) (is_behind new (get_or order (i - 1) 0) (get_or order i 0)))

-- This is the lowest place of the order that is not so, and its length where there is none.
unfoldable pub disordered_at : (new order : List ℕ) → ℕ
disordered_at new order = first_bad (length order) (is_ordered_at new order)

-- This test says that place q is place p, or that it has another number than p.
abbrev pub is_apart : (xs : List ℕ) (p q : ℕ) → Bool
is_apart xs p q = either (eqb q p) (fails (eqb (get_or xs q 0) (get_or xs p 0)))

-- This test says that the number at place p stands at no other place.
abbrev pub is_alone : (xs : List ℕ) (p : ℕ) → Bool
is_alone xs p = eqb (first_bad (length xs) (is_apart xs p)) (length xs)

-- This is the lowest place whose number stands at another place too, and the list's length where there is none.
unfoldable pub twice_at : (xs : List ℕ) → ℕ
twice_at xs = first_bad (length xs) (is_alone xs)

-- These are the numbers of a list read along an order: place i has the number at the place that stands at place i of the
-- order.
unfoldable pub along : (order xs : List ℕ) → List ℕ
along order xs = tab (length order) (λ i. get_or xs (get_or order i 0) 0)

-- This order turns an order round: at place p it has the place at which p stands in the order.
unfoldable pub turned : (order : List ℕ) → List ℕ
turned order = tab (length order) (place_in order)
