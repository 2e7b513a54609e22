-- One body of a column file and the block that it stands for (R84), by its entry: kind 0 is packed, kind 1 a frame,
-- kind 2 sixteen base words and packed differences, kind 3 run indices and run values. Then what is tested of a body
-- (R92).
-- Assumes nothing.
use Rattle.std.specs.Prelude.{Bool, true, List, [], ◌∷◌, ℕ, ◌*◌, ◌-◌, ◌/◌, eqb, leb, length, drop, Err}
use Rattle.lists.specs.Tests.{long}
use Rattle.lists.specs.Pick.{pick}
use Rattle.lists.specs.Search.{first_beyond}
use Rattle.places.specs.Sizes.{t64, lanes}
use Rattle.packing.specs.Packed.{unpack_of}
use Rattle.deltas.specs.Deltas.{unfor_pack_of, undelta_pack_of}
use Rattle.runs.specs.Runs.{decode_of}
use Rattle.little.specs.Little.{numbers_of}
use Rattle.contents.specs.declared.FileRefusal.TheVariants.{BadEntry, Block, Cut, Over, Runs}
use Rattle.contents.specs.declared.Entry.{Entry}
use Rattle.contents.specs.Answers.{FileTest, file_answer, left}
use Rattle.contents.specs.Contents.{is_laid_out}

-- These are the n words of eight bytes each that stand in the body from byte `at` on.
abbrev pub words_from : (body : List ℕ) (at n : ℕ) → List ℕ
words_from body at n = numbers_of 8 (drop at body) n

-- The packed words of width w, from byte `at` on, are LANES · w.
abbrev pub packed_from : (body : List ℕ) (at w : ℕ) → List ℕ
packed_from body at w = words_from body at (lanes t64 * w)

-- A body of runs begins with 1,024 run indices of two bytes each,
abbrev pub run_indices : (body : List ℕ) → List ℕ
run_indices body = numbers_of 2 body 1024

-- and the rest of it are run values, of which there are so many.
abbrev pub value_count : (e : Entry) → ℕ
value_count e = (e.length - 2048) / 8

-- This is the block that an entry and its body stand for. An entry that is as laid out is of kind 0, 1, 2 or 3, so
-- every other kind is 3 here.
unfoldable pub block_of : (e : Entry) (body : List ℕ) → List ℕ
block_of e body =
    pick (eqb e.kind 0) (unpack_of t64 e.width (packed_from body 0 e.width))
    (pick (eqb e.kind 1) (unfor_pack_of t64 e.width (packed_from body 0 e.width) e.reference)
    (pick (eqb e.kind 2) (undelta_pack_of t64 e.width (packed_from body 128 e.width) (words_from body 0 (lanes t64)))
    (decode_of (words_from body 2048 (value_count e)) (run_indices body))))

-- This test says that every run index of a body is below n.
abbrev pub indexed : (n : ℕ) (body : List ℕ) → Bool
indexed n body = eqb (first_beyond n (run_indices body)) 1024

-- This test says that every run index of a body of runs is below the number of its run values; a body of another kind
-- has none.
unfoldable pub has_good_runs : (e : Entry) (body : List ℕ) → Bool
has_good_runs e body = pick (eqb e.kind 3) (indexed (value_count e) body) true

-- These are the tests of one body against its entry. There is one entry and one block here, so the place of 10 and of
-- 13 is 0.
abbrev pub body_tests : (e : Entry) (body : List ℕ) → List FileTest
body_tests e body =
    (is_laid_out e, Err (BadEntry 0))
    ∷ (leb e.length (length body), Err Cut)
    ∷ (leb (length body) e.length, Err Over)
    ∷ (has_good_runs e body, Err (Runs 0))
    ∷ []

-- Laying a block down tests its output too.
abbrev pub block_tests : (e : Entry) (body output : List ℕ) → List FileTest
block_tests e body output = (long 1024 output, Err Block) ∷ body_tests e body

-- Laying a block down leaves this in its output.
unfoldable pub block_leaves : (e : Entry) (body output : List ℕ) → List ℕ
block_leaves e body output = left (file_answer (block_tests e body output)) (block_of e body) output
