-- How the file grows block by block: its length, and what one more entry and one more body make of the output.
-- Assumes nothing.
use mathlib.Core.List.{List, [], ◌++◌, append-nil, append_assoc}
use mathlib.Core.Path.{◌≡◌, refl, sym, ap, ap₂, ◌∙◌}
use Prim.Native.Nat.{ℕ, zero, suc, ◌+◌, ◌-◌, ◌*◌, ◌≤◌, ◌<◌}
use native.Mathlib.Nat.{zero-add}
use native.Mathlib.Decide.{dec_le}
use native.Mathlib.Omega.{arith}
use lib.ListN.{length, take, drop, length-append, length-drop, drop_of_length-le}
use lib.Seq.{take_all}
use borrow.Rule.Slice.PartMut.{mid_of, post_of, put_mid}
use Rattle.lists.specs.Parts.{cut, joined}
use Rattle.lists.specs.Tab.{over}
use Rattle.lists.proofs.Overs.{length_over, over_append, over-apart, over_nothing, over_tail}
use Rattle.lists.proofs.Parts.{length-joined}
use Rattle.contents.specs.Bytes.{head_bytes, entry_bytes}
use Rattle.contents.specs.Contents.{entry_size, contents_size}
use Rattle.contents.proofs.Bytes.{length-head, length-entry}
use Rattle.bodies.specs.Ranges.{true_range}
use Rattle.std.specs.Prelude.{Ok}
use Rattle.candidates.specs.Calls.{said_of, laid_of, lay_leaves}
use Rattle.candidates.specs.Candidates.{chosen, body_for}
use Rattle.candidates.proofs.Calls.{laid_there}
use Rattle.candidates.proofs.Choice.{body_sized, chosen_short}
use Rattle.writer.specs.Writer.{block_count, block_at, entries_for, bodies_for, file_of}

-- The entry that is written for a block: the chosen candidate's, with the block's own smallest and largest number.
abbrev pub written_entry : (block : List ℕ) → List ℕ
written_entry block = entry_bytes (chosen block).entry (true_range block)

module _ (values : List ℕ) where
  -- The bytes of the first i entries,
  pub length-entries : (i : ℕ) → length (entries_for values i) ≡ i * 32
  unfolding entries_for
  length-entries i = length-joined 32 i _ (λ b _. length-entry (chosen (block_at values b)).entry (true_range (block_at values b)))

  -- one entry more,
  pub entries_next : (i : ℕ) → entries_for values (suc i) ≡ entries_for values i ++ written_entry (block_at values i)
  unfolding entries_for joined
  entries_next i = refl

  -- one body more,
  pub bodies-next : (i : ℕ) → bodies_for values (suc i) ≡ bodies_for values i ++ body_for (block_at values i)
  unfolding bodies_for joined
  bodies-next i = refl

  pub bodies-none : bodies_for values 0 ≡ []
  unfolding bodies_for joined
  bodies-none = refl

  pub entries_none : entries_for values 0 ≡ []
  unfolding entries_for joined
  entries_none = refl

  -- and its bytes.
  pub bodies_longer : (i : ℕ) → length (bodies_for values (suc i)) ≡ length (bodies_for values i) + (chosen (block_at values i)).entry.length
  bodies_longer i =
      ap length (bodies-next i)
      ∙ length-append (bodies_for values i) (body_for (block_at values i))
      ∙ ap (λ k. length (bodies_for values i) + k) (body_sized (block_at values i))

  -- A body has at most 8,192.
  pub bodies_short : (i : ℕ) → length (bodies_for values i) ≤ 8192 * i
  bodies_short zero = omega (arith, ap length bodies-none)
  bodies_short (suc i) =
      let m : length (bodies_for values i) ≤ 8192 * i = bodies_short i in
      omega (arith, bodies_longer i, chosen_short (block_at values i))

  -- Fewer bodies have no more bytes.
  pub bodies-within : (i n : ℕ) → i ≤ n → length (bodies_for values i) ≤ length (bodies_for values n)
  bodies-within i zero h = let z : i ≡ 0 = omega arith in omega (arith, ap (λ k. length (bodies_for values k)) z)
  bodies-within i (suc n) h =
      elim (dec_le i n) [
        | yes le ↦ let m : length (bodies_for values i) ≤ length (bodies_for values n) = bodies-within i n le in omega (arith, bodies_longer n)
        | no gt ↦ let e : i ≡ suc n = omega arith in omega (arith, ap (λ k. length (bodies_for values k)) e)
      ]

  -- Edition, count and the entries of i blocks.
  abbrev pub fronts : (n i : ℕ) → List ℕ
  fronts n i = head_bytes n ++ entries_for values i

  pub length-fronts : (n i : ℕ) → length (fronts n i) ≡ contents_size 2 i
  unfolding contents_size entry_size
  length-fronts n i = length-append (head_bytes n) (entries_for values i) ∙ ap₂ ◌+◌ (length-head n) (length-entries i)

  -- The file has this length.
  pub length-file : length (file_of values) ≡ contents_size 2 (block_count values) + length (bodies_for values (block_count values))
  unfolding file_of
  length-file =
      let n : ℕ = block_count values in
      length-append (fronts n n) (bodies_for values n) ∙ ap (λ k. k + length (bodies_for values n)) (length-fronts n n)

  -- At most 4 + 8224·N bytes.
  pub file_short : length (file_of values) ≤ 4 + 8224 * block_count values
  unfolding contents_size entry_size
  file_short = omega (arith, length-file, bodies_short (block_count values))

  -- After i of n blocks the output holds this.
  abbrev pub laid_to : (n i : ℕ) (old : List ℕ) → List ℕ
  laid_to n i old = over (contents_size 2 n) (bodies_for values i) (over 4 (entries_for values i) old)

  -- Before the first block it holds what it held.
  pub laid_none : (n : ℕ) (old : List ℕ) → old ≡ laid_to n 0 old
  laid_none n old =
      sym
      (ap₂ (λ x y. over (contents_size 2 n) x (over 4 y old)) bodies-none entries_none
      ∙ over_nothing (contents_size 2 n) (over 4 [] old)
      ∙ over_nothing 4 old)

  module _ (n : ℕ) (old : List ℕ) (room : contents_size 2 n + length (bodies_for values n) ≤ length old) where
    -- A body and an entry more make the next one.
    pub laid_next : (i at : ℕ) → i < n → at ≡ contents_size 2 n + length (bodies_for values i)
        → over (contents_size 2 i) (written_entry (block_at values i)) (over at (body_for (block_at values i)) (laid_to n i old))
        ≡ laid_to n (suc i) old
    unfolding contents_size entry_size
    laid_next i at h e =
        let entry : List ℕ = written_entry (block_at values i) in
        let body : List ℕ = body_for (block_at values i) in
        let c : List ℕ = entries_for values i in
        let el : length entry ≡ 32 = length-entry (chosen (block_at values i)).entry (true_range (block_at values i)) in
        let cl : length c ≡ i * 32 = length-entries i in
        let f : List ℕ = over 4 c old in
        let fl : length f ≡ length old = length_over 4 c old (omega arith) in
        let within : length (bodies_for values (suc i)) ≤ length (bodies_for values n) = bodies-within (suc i) n h in
        let more : length (bodies_for values (suc i)) ≡ length (bodies_for values i) + length body =
        ap length (bodies-next i) ∙ length-append (bodies_for values i) body in
        let entries : over (contents_size 2 i) entry f ≡ over 4 (entries_for values (suc i)) old =
        ap (λ k. over (4 + k) entry f) (sym cl) ∙ over_append 4 c entry old (omega arith) ∙ ap (λ x. over 4 x old) (sym (entries_next i)) in
        ap (λ k. over (contents_size 2 i) entry (over k body (laid_to n i old))) e
        ∙ ap (over (contents_size 2 i) entry) (over_append (contents_size 2 n) (bodies_for values i) body f (omega arith) ∙ ap (λ x. over (contents_size 2 n) x f) (sym (bodies-next i)))
        ∙ over-apart (contents_size 2 i) (contents_size 2 n) entry (bodies_for values (suc i)) f (omega arith) (omega arith)
        ∙ ap (over (contents_size 2 n) (bodies_for values (suc i))) entries

    -- The output keeps its length.
    pub laid_length : (i : ℕ) → i ≤ n → length (laid_to n i old) ≡ length old
    unfolding contents_size entry_size
    laid_length i h =
        let within : length (bodies_for values i) ≤ length (bodies_for values n) = bodies-within i n h in
        let inner : length (over 4 (entries_for values i) old) ≡ length old = length_over 4 (entries_for values i) old (omega (arith, length-entries i)) in
        length_over (contents_size 2 n) (bodies_for values i) (over 4 (entries_for values i) old) (omega arith) ∙ inner

    -- After all blocks it holds the entries and the bodies.
    pub laid_all : laid_to n n old ≡ over 4 (entries_for values n ++ bodies_for values n) old
    unfolding contents_size entry_size
    laid_all =
        ap (λ k. over (4 + k) (bodies_for values n) (over 4 (entries_for values n) old)) (sym (length-entries n))
        ∙ over_append 4 (entries_for values n) (bodies_for values n) old (omega (arith, length-entries n))

  -- Behind the first four bytes they are the file.
  pub file_laid : (old : List ℕ) → length (file_of values) ≤ length old
      → over 4 (entries_for values (block_count values) ++ bodies_for values (block_count values)) (over 0 (head_bytes (block_count values)) old)
      ≡ over 0 (file_of values) old
  unfolding file_of contents_size entry_size
  file_laid old room =
      let n : ℕ = block_count values in
      let x : List ℕ = entries_for values n ++ bodies_for values n in
      ap (λ k. over k x (over 0 (head_bytes n) old)) (sym (zero-add (length (head_bytes n)) ∙ length-head n))
      ∙ over_append 0 (head_bytes n) x old
      (omega (arith, length-head n, length-file, length-append (entries_for values n) (bodies_for values n), length-entries n))
      ∙ ap (λ y. over 0 y old) (sym (append_assoc (head_bytes n) (entries_for values n) (bodies_for values n)))

  -- A part of 1,024 numbers is a block.
  pub block_lent : (i : ℕ) → take (i * 1024 + 1024 - i * 1024) (drop (i * 1024) values) ≡ block_at values i
  unfolding cut
  block_lent i = ap (λ k. take k (drop (i * 1024) values)) part
    where
      part : i * 1024 + 1024 - i * 1024 ≡ 1024
      part = omega arith

-- A block is laid down through the tail of the output.
module _ (block : List ℕ) (long : length block ≡ 1024) (at : ℕ) (old : List ℕ) (room : at + (chosen block).entry.length ≤ length old) where
  pub one_laid : (laid_of block (mid_of at (length old - at) old) ≡ Ok (said_of block))
      × (put_mid at (length old - at) old (lay_leaves block (mid_of at (length old - at) old)) ≡ over at (body_for block) old)
  one_laid =
      let tail : mid_of at (length old - at) old ≡ drop at old = take_all (length old - at) (drop at old) (omega (arith, length-drop at old)) in
      let short : length (drop at old) ≤ length old - at = omega (arith, length-drop at old) in
      let rest : post_of at (length old - at) old ≡ [] = drop_of_length-le (drop at old) short in
      let l = laid_there block (drop at old) long (omega (arith, length-drop at old)) in (
        ap (laid_of block) tail ∙ l.0,
        ap₂ (λ x y. take at old ++ (x ++ y)) (ap (lay_leaves block) tail ∙ l.1) rest
            ∙ ap (λ x. take at old ++ x) (append-nil (over 0 (body_for block) (drop at old)))
            ∙ over_tail at (body_for block) old,
      )
