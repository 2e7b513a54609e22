-- What is proved of the call: each number is given exactly when R105 says, a refused call leaves the output as it was,
-- and a call that is done leaves the file at the front and the bytes behind it as they were. The file is one that the
-- reader accepts, and its rows are the numbers (R102): so say the calls that read one block out and one row.
-- Assumes nothing.
use mathlib.Core.List.{List, [], ◌∷◌, ◌++◌}
use mathlib.Core.Logic.{◌↔◌}
use mathlib.Core.Path.{◌≡◌, refl, sym, ap, ◌∙◌, subst}
use Prim.Native.Nat.{ℕ, ◌+◌, ◌*◌, ◌%◌, ◌≤◌, ◌<◌}
use native.Mathlib.Decide.{dec_le, ℕ_discrete}
use native.Mathlib.Omega.{arith}
use lib.ListN.{length, get_or, take}
use Rattle.std.specs.Prelude.{Ok, Err}
use Rattle.lists.specs.Numbers.{minus, Elements}
use Rattle.lists.specs.Parts.{cut, joined}
use Rattle.lists.specs.Tab.{tab, tab_from}
use Rattle.lists.specs.Search.{first_bad, first_failing}
use Rattle.lists.specs.Ends.{lowest_of, highest_of}
use Rattle.lists.proofs.Parts.{length_cut, cut-elements}
use Rattle.lists.proofs.Highs.{highest_bound, highest-stands}
use Rattle.lists.proofs.Lows.{lowest_bound, lowest-stands}
use Rattle.places.specs.Places.{place, lane, row, order}
use Rattle.places.specs.Sizes.{t64, lanes}
use Rattle.little.specs.Little.{bytes_of, all_bytes}
use Rattle.contents.specs.declared.Entry.{Entry}
use Rattle.contents.specs.declared.FileRefusal.TheVariants.{Block, Beyond, Room}
use Rattle.contents.specs.Answers.{answer_of, FileAnswer, file_answer, left}
use Rattle.contents.specs.Bytes.{head_bytes, first_bytes, range_bytes, entry_bytes}
use Rattle.contents.specs.Contents.{count, entry_of, range_of}
use Rattle.bodies.specs.Bodies.{block_of, words_from}
use Rattle.bodies.specs.Ranges.{true_range}
use Rattle.candidates.specs.Candidates.{plain_at, frame_at, steps_at, shorter, chosen, body_for, base_of}
use Rattle.candidates.specs.Widths.{bits, width_of}
use Rattle.packing.specs.Packed.{pack_of}
use Rattle.deltas.specs.Deltas.{before, delta_of, frame_of, for_pack_of}
use Rattle.candidates.specs.Restored.{candidate}
use Rattle.candidates.proofs.Choice.{chosen_shortest}
use Rattle.candidates.proofs.Least.{no_narrower}
use Rattle.files.specs.Files.{block_in, row_at, rows_of, file_tests, block_out_tests, block_out_leaves}
use Rattle.files.specs.Reasons.{Reason, block_there, no_block, row_there, no_row}
use Rattle.files.specs.Rows.{row_of, value_of}
use Rattle.files.proofs.Exactly.{file_exactly, block_exactly, row_exactly}
use Rattle.files.proofs.Rows.{row-place, row_answers, row_values}
use Rattle.writer.specs.Reasons.{Blocks, WriteReason, no_blocks, short_output, room_there}
use Rattle.writer.specs.Writer.{block_count, block_at, entries_for, bodies_for, file_of, write_tests, written_of, file_leaves, length_of}
use Rattle.writer.proofs.Calls.{not-whole, over_many, blocks_short, blocks_room}
use Rattle.writer.proofs.Laying.{file_short}
use Rattle.writer.proofs.Outcomes.{Outcome, outcome}
use Rattle.writer.proofs.ReadBack.{count-is, entry_read, range-read, block_read, file-accepted, rows-read}

-- What a call of write lays down: so many bytes of its output as it says.
abbrev pub laid_down : (values output : List ℕ) → List ℕ
laid_down values output = take (length_of (written_of values output)) (file_leaves values output)

-- Whole blocks by their remainder and their count.
module _ (values : List ℕ) where
  pub whole_blocks_are : length values % 1024 ≡ 0 → length values ≤ 262144 → Blocks values
  whole_blocks_are whole few = record { n = block_count values; whole = omega arith; few = omega arith }

  pub remainder_none : Blocks values → length values % 1024 ≡ 0
  remainder_none b = let e = b.whole in omega (arith, e)

  pub numbers-few : Blocks values → length values ≤ 262144
  numbers-few b = omega (arith, b.whole, b.few)

module _ (values output : List ℕ) where
  -- The reason gives the answer,
  gives : {a : FileAnswer} → WriteReason values output a → file_answer (write_tests values output) ≡ a
  gives (no_blocks bad) =
      elim (ℕ_discrete (length values % 1024) 0) [
        | no other ↦ not-whole values output other
        | yes whole ↦ elim (dec_le (length values) 262144) [
          | no many ↦ over_many values output whole (omega arith)
          | yes few ↦ absurd (bad (whole_blocks_are values whole few))
        ]
      ]
  gives (short_output b short) = blocks_short values output (remainder_none values b) (numbers-few values b) short
  gives (room_there b room) = blocks_room values output (remainder_none values b) (numbers-few values b) room

  -- and there always is one.
  reason : (a : FileAnswer) × WriteReason values output a
  reason =
      elim (ℕ_discrete (length values % 1024) 0) [
        | no other ↦ (Err Block, no_blocks (λ b. other (remainder_none values b)))
        | yes whole ↦ elim (dec_le (length values) 262144) [
          | no many ↦ (Err Block, no_blocks (λ b. many (numbers-few values b)))
          | yes few ↦ elim (dec_le (length (file_of values)) (length output)) [
            | yes room ↦ (Ok tt, room_there (whole_blocks_are values whole few) room)
            | no short ↦ (Err Room, short_output (whole_blocks_are values whole few) (omega arith))
          ]
        ]
      ]

  -- Each answer is given exactly when there is the reason for it (R3).
  pub write_exactly : (a : FileAnswer) → (file_answer (write_tests values output) ≡ a) ↔ WriteReason values output a
  write_exactly a = ((λ e. subst (WriteReason values output) (sym (gives reason.1) ∙ e) reason.1), gives)

  -- What the call gives back says that answer, and it is done or refused as such a call is.
  pub write-outcome : Outcome (file_answer (write_tests values output)) (file_of values) output (written_of values output) (file_leaves values output)
  unfolding written_of file_leaves
  write-outcome = outcome (file_answer (write_tests values output)) (file_of values) output

  module _ (done : file_answer (write_tests values output) ≡ Ok tt) where
    front : take (length (file_of values)) (file_leaves values output) ≡ file_of values
    front = write-outcome.front done

    write_blocks : Blocks values
    write_blocks = right ((write_exactly (Ok tt)).0 done)
      where
        right : WriteReason values output (Ok tt) → Blocks values
        right (room_there b room) = b

    -- The reader accepts it, and its rows are the numbers.
    pub write-reads : Elements t64 values
        → (file_answer (file_tests (take (length (file_of values)) (file_leaves values output))) ≡ Ok tt)
        × (rows_of (take (length (file_of values)) (file_leaves values output)) ≡ values)
    write-reads fits =
        let b = write_blocks in
        (ap (λ l. file_answer (file_tests l)) front ∙ file-accepted values b.n b.whole b.few fits, ap rows_of front ∙ rows-read values b.n b.whole b.few fits)

    -- What the reading calls give on the file, and leave.
    module _ (fits : Elements t64 values) where
      laid : List ℕ
      laid = laid_down values output

      laid_is : laid ≡ file_of values
      unfolding laid
      laid_is = ap (λ n. take n (file_leaves values output)) (write-outcome.whole done) ∙ front

      laid_count : count laid ≡ block_count values
      laid_count =
          let b = write_blocks in
          ap count laid_is ∙ count-is values b.n b.whole b.few fits ∙ omega (arith, b.whole)

      laid_right : Reason laid (Ok tt)
      laid_right = (file_exactly laid (Ok tt)).0 (ap (λ l. file_answer (file_tests l)) (laid_is ∙ sym front) ∙ (write-reads fits).0)

      -- One block out is done, and leaves the numbers of the block,
      pub write_block_out : (i : ℕ) → i < block_count values → (room : List ℕ) → length room ≡ 1024
          → (file_answer (block_out_tests (laid_down values output) i room) ≡ Ok tt) × (block_out_leaves (laid_down values output) i room ≡ block_at values i)
      unfolding laid block_out_leaves
      write_block_out i h room long =
          let b = write_blocks in
          let done = (block_exactly laid i room (Ok tt)).1 (block_there long laid_right (omega (arith, laid_count))) in (
            done,
            ap (λ a. left a (block_in laid i) room) done
                ∙ ap (λ l. block_in l i) laid_is
                ∙ block_read values b.n b.whole b.few fits i (omega (arith, b.whole)),
          )

      -- or, past the last block, is refused with 12 and leaves its output.
      pub write-no_block : (i : ℕ) → block_count values ≤ i → (room : List ℕ) → length room ≡ 1024
          → (file_answer (block_out_tests (laid_down values output) i room) ≡ Err Beyond) × (block_out_leaves (laid_down values output) i room ≡ room)
      unfolding laid block_out_leaves
      write-no_block i h room long =
          let beyond = (block_exactly laid i room (Err Beyond)).1 (no_block long laid_right (omega (arith, laid_count))) in
          (beyond, ap (λ a. left a (block_in laid i) room) beyond)

      -- The lookup of a row is done, and gives the number that stands there,
      pub write-row-at : (p : ℕ) → p < length values
          → (answer_of (row_of (laid_down values output) p) ≡ Ok tt) × (value_of (row_of (laid_down values output) p) ≡ get_or values p 0)
      unfolding laid row_at
      write-row-at p h =
          let there : p < 1024 * count laid = omega (arith, laid_count, write_blocks.whole) in
          let done = (row_exactly laid p (Ok tt)).1 (row_there laid_right there) in (
            row_answers laid p ∙ done,
            row_values laid p
                ∙ ap (λ a. left a (row_at laid p) 0) done
                ∙ sym (row-place laid p there)
                ∙ ap (λ l. get_or (rows_of l) p 0) (laid_is ∙ sym front)
                ∙ ap (λ l. get_or l p 0) (write-reads fits).1,
          )

      -- or, past the last row, is refused with 12.
      pub write-no-row : (p : ℕ) → length values ≤ p → answer_of (row_of (laid_down values output) p) ≡ Err Beyond
      unfolding laid
      write-no-row p h = row_answers laid p ∙ (row_exactly laid p (Err Beyond)).1 (no_row laid_right (omega (arith, laid_count, write_blocks.whole)))

-- The numbers alone decide the bytes: two calls on the same numbers that are done leave the same file.
pub write_same : (values output output' : List ℕ) → file_answer (write_tests values output) ≡ Ok tt → file_answer (write_tests values output') ≡ Ok tt
    → take (length (file_of values)) (file_leaves values output) ≡ take (length (file_of values)) (file_leaves values output')
write_same values output output' done done' = (write-outcome values output).front done ∙ sym ((write-outcome values output').front done')

-- A file has at most 4 + 8224·N bytes.
pub write_short : (values : List ℕ) → length (file_of values) ≤ 4 + 8224 * block_count values
write_short values = file_short values

-- Of each block of a file, for 1,024·n numbers:
module _ (values : List ℕ) (b : Blocks values) (fits : Elements t64 values) (i : ℕ) (h : i < b.n) where
  entry-is : entry_of (file_of values) i ≡ (chosen (block_at values i)).entry
  entry-is = entry_read values b.n b.whole b.few fits i h

  long : length (block_at values i) ≡ 1024
  long = length_cut 1024 values i (omega (arith, b.whole))

  -- its entry says its smallest and its largest number,
  pub block_range : range_of (file_of values) i ≡ true_range (block_at values i)
  block_range = range-read values b.n b.whole b.few fits i h

  -- which are so: every number of the block is between them,
  pub block_between : (k : ℕ) → k < 1024
      → ((range_of (file_of values) i).smallest ≤ get_or (block_at values i) k 0) × (get_or (block_at values i) k 0 ≤ (range_of (file_of values) i).largest)
  block_between k l =
      subst (λ r. (r.smallest ≤ get_or (block_at values i) k 0) × (get_or (block_at values i) k 0 ≤ r.largest)) (sym block_range)
      (lowest_bound (block_at values i) k (omega (arith, long)), highest_bound (block_at values i) k (omega (arith, long)))

  -- and both are numbers of it;
  pub block_smallest : (k : ℕ) × (k < length (block_at values i)) × (get_or (block_at values i) k 0 ≡ (range_of (file_of values) i).smallest)
  block_smallest =
      subst (λ r. (k : ℕ) × (k < length (block_at values i)) × (get_or (block_at values i) k 0 ≡ r.smallest)) (sym block_range)
      (lowest-stands (block_at values i) (omega (arith, long)) (cut-elements t64 1024 values i fits))

  pub block_largest : (k : ℕ) × (k < length (block_at values i)) × (get_or (block_at values i) k 0 ≡ (range_of (file_of values) i).largest)
  block_largest =
      subst (λ r. (k : ℕ) × (k < length (block_at values i)) × (get_or (block_at values i) k 0 ≡ r.largest)) (sym block_range)
      (highest-stands (block_at values i) (omega (arith, long)))

  -- no entry and body of its kind, with its reference or base, that give the block have a smaller width,
  pub block_least : (e : Entry) (body : List ℕ) → e.kind ≡ (entry_of (file_of values) i).kind → e.reference ≡ (entry_of (file_of values) i).reference
      → (e.kind ≡ 2 → words_from body 0 (lanes t64) ≡ base_of (block_at values i)) → block_of e body ≡ block_at values i
      → (entry_of (file_of values) i).width ≤ e.width
  block_least e body kind reference base same =
      subst (λ x. x.width ≤ e.width) (sym entry-is)
      (no_narrower (block_at values i) long (cut-elements t64 1024 values i fits) e body
      (kind ∙ ap (λ x. x.kind) entry-is) (reference ∙ ap (λ x. x.reference) entry-is) base same)

  -- no candidate has a shorter body, and none of an equally long one has a lower kind.
  pub block_shortest : (kind : ℕ) → kind ≤ 2
      → ((entry_of (file_of values) i).length ≤ (candidate kind (block_at values i)).entry.length)
      × ((entry_of (file_of values) i).length ≡ (candidate kind (block_at values i)).entry.length → (entry_of (file_of values) i).kind ≤ kind)
  block_shortest kind k = rw entry-is (chosen_shortest (block_at values i) kind k)

-- The two worked files of R88, in edition 2. No blocks: 02 00 00 00.
abbrev pub no_blocks_lem : List ℕ
no_blocks_lem = 2 ∷ 0 ∷ 0 ∷ 0 ∷ []

-- Eight bytes of 7 are 07 and seven zeros.
abbrev pub seven : List ℕ
seven = 7 ∷ 0 ∷ 0 ∷ 0 ∷ 0 ∷ 0 ∷ 0 ∷ 0 ∷ []

-- One block of sevens, kind 1, width 0: 02 00 01 00, 01 00 00 00 00 00 00 00, and then 7 as the reference, the smallest
-- and the largest.
abbrev pub one_of_sevens : List ℕ
one_of_sevens = (2 ∷ 0 ∷ 1 ∷ 0 ∷ 1 ∷ 0 ∷ 0 ∷ 0 ∷ 0 ∷ 0 ∷ 0 ∷ 0 ∷ []) ++ (seven ++ (seven ++ seven))

-- They are what the writer gives for no numbers and for 1,024 sevens.
pub writes-none : file_of [] ≡ no_blocks_lem
unfolding file_of entries_for bodies_for head_bytes bytes_of joined
writes-none = refl

pub writes-sevens : file_of (tab 1024 (λ _. 7)) ≡ one_of_sevens
unfolding file_of entries_for bodies_for head_bytes first_bytes range_bytes entry_bytes bytes_of all_bytes joined cut tab tab_from chosen body_for shorter plain_at frame_at steps_at base_of width_of bits lowest_of highest_of first_bad first_failing pack_of for_pack_of frame_of delta_of before minus place lane row order
writes-sevens = refl
