-- What the search asks of one block. The contracts of private steps name these; no public contract does.
-- Assumes nothing.
use Rattle.std.specs.Prelude.{ℕ, Bool, true, List, ◌==◌, nat_le}
use Rattle.lists.specs.Pick.{pick, both}
use Rattle.lists.specs.Search.{first_bad}
use Rattle.contents.specs.Contents.{count, entry_of, edition_or, range_or}
use Rattle.bodies.specs.Bodies.{has_good_runs}
use Rattle.files.specs.Files.{body_of, has_true_range}
use Rattle.search.specs.Search.{opens}

-- This test is what is asked of block i: where `ranges` holds, that the range of its entry is the true one, and else
-- that its run indices are in range.
abbrev pub asked : (l : List ℕ) (ranges : Bool) (i : ℕ) → Bool
asked l ranges i = pick ranges (has_true_range l i) (has_good_runs (entry_of l i) (body_of l i))

-- This is the lowest opened block that is not as asked, and the count where there is none.
abbrev pub bad_in : (l : List ℕ) (low high : ℕ) (ranges : Bool) → ℕ
bad_in l low high ranges = first_bad (count l) (λ i. pick (opens l low high i) (asked l ranges i) true)

-- This test says, by the contents alone, that the range of entry i lies within the bounds. In edition 1 an entry says
-- no range, and the test fails.
abbrev pub within_by : (front : List ℕ) (low high i : ℕ) → Bool
within_by front low high i =
    both (edition_or front == 2) (both (nat_le low (range_or front i).smallest) (nat_le (range_or front i).largest high))
