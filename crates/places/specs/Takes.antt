-- The table of the numbers 1 to 7 (R143): what a call can take, the test that the table makes of each, and the refusal
-- where the test fails. The table of the calls on one block stands here once. Each call has a list of what it takes,
-- beside the call, in the order of the table's numbers, so the lowest number that applies is given (R5).
-- Assumes nothing.
use Rattle.std.specs.Prelude.{List, map, ℕ, ◌*◌, eqb, leb, ltb, length}
use Rattle.lists.specs.Tests.{Test, first_refusal, long}
use Rattle.lists.specs.Search.{first_beyond}
use Rattle.places.specs.declared.Answer.{Answer}
use Rattle.places.specs.declared.Answer.TheVariants.{Done, Width, Block, Packed, Base, Lists, Index, Dictionary}
use Rattle.places.specs.Sizes.{lanes}

-- These are the things that a call can take and that the table speaks of: a call takes
pub data Taken : Type 0 where
  -- a width w, at element size t;
  a_width : (t w : ℕ) → Taken
  -- a block of values or of indices;
  a_block : (values : List ℕ) → Taken
  -- the packed words, at element size t and width w;
  a_packed : (t w : ℕ) (words : List ℕ) → Taken
  -- the base of each lane;
  a_base : (t : ℕ) (starts : List ℕ) → Taken
  -- a list of indices with its output;
  two_lists : (list output : List ℕ) → Taken
  -- one index;
  an_index : (i : ℕ) → Taken
  -- a list of indices;
  an_index_list : (list : List ℕ) → Taken
  -- or a list of indices into a dictionary.
  dictionary_indices : (dictionary list : List ℕ) → Taken

-- This is the table: the test that is made of each of them, and the refusal where it fails. An index is looked at at
-- every width (R38). Numbers 6 and 7 carry the lowest bad place of a list (R7), and 6 carries 0 for one index.
abbrev pub tested : Taken → Test Answer
tested (a_width t w) = (leb w t, Width)
tested (a_block values) = (long 1024 values, Block)
tested (a_packed t w words) = (long (lanes t * w) words, Packed)
tested (a_base t starts) = (long (lanes t) starts, Base)
tested (two_lists list output) = (long (length list) output, Lists)
tested (an_index i) = (ltb i 1024, Index 0)
tested (an_index_list list) = (eqb (first_beyond 1024 list) (length list), Index (first_beyond 1024 list))
tested (dictionary_indices dictionary list) =
    (eqb (first_beyond (length dictionary) list) (length list), Dictionary (first_beyond (length dictionary) list))

-- A call that takes these things answers with the first refusal of the list, and where every test passes it is done.
unfoldable pub answer_for : List Taken → Answer
answer_for taken = first_refusal Done (map tested taken)
