-- The body of a block is the writer's where its entry is the writer's, and of differences the base too: packing gives
-- back the words that were unpacked. So the check packs nothing.
-- Assumes nothing.
use mathlib.Core.List.{List, [], ◌++◌, append-nil}
use mathlib.Core.Path.{◌≡◌, refl, sym, ap, ap₂, subst, ◌∙◌}
use Prim.Native.Nat.{ℕ, ◌+◌, ◌*◌, ◌/◌, ◌^◌, ◌≤◌, ◌<◌}
use native.Mathlib.Omega.{arith}
use lib.ListN.{length, get_or, take, drop, length-append, take-append-drop}
use lib.Seq.{ext_get_or, length-take-le}
use Rattle.std.specs.Prelude.{Ok}
use Rattle.lists.specs.Ends.{lowest_of}
use Rattle.lists.specs.Numbers.{Elements, plus, minus}
use Rattle.lists.specs.Tab.{tab}
use Rattle.lists.proofs.Digits.{elements-of}
use Rattle.lists.proofs.Lows.{lowest-element}
use Rattle.lists.proofs.Tabs.{get_d_tab, tab_ext, tab_append, tab_get_d}
use Rattle.places.specs.Places.{place}
use Rattle.places.specs.Sizes.{t64}
use Rattle.places.proofs.Places.{size64}
use Rattle.little.specs.Little.{little, numbers_of, all_bytes}
use Rattle.little.proofs.Bytes.{length_all, all_small, all_append, words_all}
use Rattle.little.proofs.Little.{little-past, length-numbers}
use Rattle.packing.specs.Packed.{pack_of, unpack_of}
use Rattle.packing.proofs.Rounds.{length-pack, length-unpack, pack-unpack}
use Rattle.deltas.specs.Deltas.{delta_of, undelta_pack_of, frame_of, for_pack_of, unfor_pack_of}
use Rattle.deltas.proofs.Lanes.{minus_plus, elements-unpack, length_for_pack}
use Rattle.deltas.proofs.Restores.{delta-undelta, undelta-pack-is, unfor_pack-is}
use Rattle.contents.specs.declared.Entry.{Entry}
use Rattle.contents.specs.Answers.{file_answer}
use Rattle.contents.specs.Contents.{count, entry_of, body_start, contents_tests}
use Rattle.bodies.specs.Bodies.{words_from, packed_from, block_of}
use Rattle.bodies.proofs.Blocks.{take-elements, drop-elements, words_fit}
use Rattle.files.specs.Files.{body_of, block_in}
use Rattle.files.proofs.Files.{body-long}
use Rattle.candidates.specs.Candidates.{Candidate, plain_at, frame_at, steps_at, base_of, framed, differences, chosen, body_for}
use Rattle.candidates.specs.Widths.{width_of}
use Rattle.candidates.proofs.Choice.{length-base, chosen_sized, Which, is_plain, is-frame, is-steps, which}
use Rattle.candidates.proofs.Filling.{base-first}
use Rattle.candidates.proofs.Widths.{width-most}
use Rattle.canonical.proofs.Files.{Bytes, bytes_of}

-- Two lists of bytes that hold the same words are the same.
pub same-words : (l m : List ℕ) → Bytes l → Bytes m → (n : ℕ) → length l ≡ 8 * n → length m ≡ 8 * n → numbers_of 8 l n ≡ numbers_of 8 m n → l ≡ m
unfolding numbers_of
same-words l m bl bm n ll lm e =
    ext_get_or 0 l m (ll ∙ sym lm)
    (λ k h.
    let i : ℕ = k / 8 in
    let hi : i < n = omega arith in
    let at : little l (i * 8) 8 ≡ little m (i * 8) 8 = sym (get_d_tab n (λ i. little l (i * 8) 8) i 0 hi) ∙ ap (λ x. get_or x i 0) e ∙ get_d_tab n (λ i. little m (i * 8) 8) i 0 hi in
    bytes_of l m bl bm 8 (i * 8) at k (omega arith) (omega arith))

module _ (body : List ℕ) (bytes : Elements 8 body) (w : ℕ) (narrow : w ≤ 64) where
  -- The packed words of a body are packed again of what they unpack to,
  packed_back : (at : ℕ) → pack_of t64 w (unpack_of t64 w (packed_from body at w)) ≡ packed_from body at w
  packed_back at =
      pack-unpack size64 w (packed_from body at w) (length-numbers 8 (drop at body) (16 * w)) (words_fit body at (16 * w) bytes)

  -- so are those of a frame,
  frame_back : (reference : ℕ) → reference < 2 ^ 64
      → for_pack_of t64 w (unfor_pack_of t64 w (packed_from body 0 w) reference) reference ≡ packed_from body 0 w
  unfolding for_pack_of frame_of
  frame_back reference small =
      let x = unpack_of t64 w (packed_from body 0 w) in
      ap (pack_of t64 w)
      (ap (λ b. tab 1024 (λ p. minus t64 (get_or b p 0) reference)) (unfor_pack-is t64 w (packed_from body 0 w) reference)
      ∙ tab_ext 1024 _ _ 0
      (λ p h.
      ap (λ n. minus t64 n reference) (get_d_tab 1024 (λ p. plus t64 (get_or x p 0) reference) p 0 h)
      ∙ minus_plus t64 (get_or x p 0) reference (elements-unpack t64 w narrow (packed_from body 0 w) p) small)
      ∙ tab_get_d x 0 1024 (length-unpack t64 w (packed_from body 0 w)))
      ∙ packed_back 0

  -- and those of the differences from a base.
  steps_back : (base : List ℕ) → Elements t64 base
      → pack_of t64 w (delta_of t64 (undelta_pack_of t64 w (packed_from body 128 w) base) base) ≡ packed_from body 128 w
  steps_back base fits =
      let x = unpack_of t64 w (packed_from body 128 w) in
      ap (pack_of t64 w)
      (ap (λ b. delta_of t64 b base) (undelta-pack-is size64 w (packed_from body 128 w) base)
      ∙ delta-undelta size64 x base (length-unpack t64 w (packed_from body 128 w)) (elements-unpack t64 w narrow (packed_from body 128 w)) fits)
      ∙ packed_back 128

-- The words of a body are its first sixteen, and those behind them.
words-split : (body : List ℕ) (n : ℕ) → 128 ≤ length body → numbers_of 8 body (16 + n) ≡ words_from body 0 16 ++ words_from body 128 n
unfolding numbers_of
words-split body n h =
    tab_append 16 n (λ i. little body (i * 8) 8)
    ∙ ap (λ x. tab 16 (λ i. little body (i * 8) 8) ++ x)
    (tab_ext n _ _ 0
    (λ i _.
    let long : length (take 128 body) ≡ 128 = length-take-le 128 body h in
    let at : (16 + i) * 8 ≡ length (take 128 body) + i * 8 = omega arith in
    ap₂ (λ x k. little x k 8) (sym (take-append-drop 128 body)) at ∙ little-past (take 128 body) (drop 128 body) (i * 8) 8))

-- The base of a block of numbers of 64 bits is such numbers.
base-fits : (b : List ℕ) → Elements t64 b → Elements t64 (base_of b)
unfolding base_of
base-fits b fits = elements-of t64 16 (base_of b) (length-base b) (λ l h. subst (λ n. n < 2 ^ 64) (sym (get_d_tab 16 (λ l. get_or b (place 0 l) 0) l 0 h)) (fits (place 0 l)))

-- The first sixteen words of a body are the base exactly where each is the number of its lane in row 0.
pub base-words : (body b : List ℕ) → ((k : ℕ) → k < 16 → little body (k * 8) 8 ≡ get_or b k 0) → words_from body 0 16 ≡ base_of b
unfolding numbers_of base_of
base-words body b each = tab_ext 16 _ _ 0 (λ k h. each k h ∙ base-first b k)

pub base_word : (body b : List ℕ) → words_from body 0 16 ≡ base_of b → (k : ℕ) → k < 16 → little body (k * 8) 8 ≡ get_or b k 0
unfolding numbers_of base_of
base_word body b is k h =
    sym (get_d_tab 16 (λ i. little body (i * 8) 8) k 0 h) ∙ ap (λ x. get_or x k 0) is ∙ get_d_tab 16 (λ l. get_or b (place 0 l) 0) k 0 h ∙ sym (base-first b k)

-- A body as its entry says, whose entry is the writer's for its block.
module _ (e : Entry) (body : List ℕ) (bytes : Elements 8 body) (long : length body ≡ e.length)
    (same : e ≡ (chosen (block_of e body)).entry) where
  abbrev block : List ℕ
  block = block_of e body

  counted : (there : List ℕ) (n : ℕ) {c : Candidate} → chosen block ≡ c → c.words ≡ there → length c.words ≡ n → numbers_of 8 body n ≡ there
      → numbers_of 8 body (length (chosen block).words) ≡ (chosen block).words
  counted there n is back size read =
      ap (λ x. numbers_of 8 body (length x.words)) is ∙ ap (numbers_of 8 body) size ∙ read ∙ sym back ∙ sym (ap (λ x. x.words) is)

  -- The words of the body are those that are chosen, of differences where the base is the block's first row.
  words_are : (e.kind ≡ 2 → words_from body 0 16 ≡ base_of block) → Which block → numbers_of 8 body (length (chosen block).words) ≡ (chosen block).words
  unfolding block_of plain_at frame_at steps_at
  words_are base (is_plain c _ _) =
      let w : ℕ = width_of block in
      let e-is = same ∙ ap (λ x. x.entry) c in
      let p : pack_of t64 w block ≡ packed_from body 0 w =
      ap (pack_of t64 w) (ap (λ e. block_of e body) e-is) ∙ packed_back body bytes w (width-most block) 0 in
      counted (packed_from body 0 w) (16 * w) c p (length-pack t64 w block) refl
  words_are base (is-frame c _ _) =
      let w : ℕ = width_of (framed block) in
      let low : ℕ = lowest_of block in
      let e-is = same ∙ ap (λ x. x.entry) c in
      let p : for_pack_of t64 w block low ≡ packed_from body 0 w =
      ap (λ b. for_pack_of t64 w b low) (ap (λ e. block_of e body) e-is) ∙ frame_back body bytes w (width-most (framed block)) low (lowest-element block) in
      counted (packed_from body 0 w) (16 * w) c p (length_for_pack t64 w block low) refl
  words_are base (is-steps c _ _) =
      let w : ℕ = width_of (differences block) in
      let e-is = same ∙ ap (λ x. x.entry) c in
      let b : words_from body 0 16 ≡ base_of block = base (ap (λ e. e.kind) e-is) in
      let p : pack_of t64 w (differences block) ≡ packed_from body 128 w =
      ap₂ (λ x s. pack_of t64 w (delta_of t64 x s)) (ap (λ e. block_of e body) e-is) (sym b) ∙ steps_back body bytes w (width-most (differences block)) (words_from body 0 16) (words_fit body 0 16 bytes) in
      let size : length (base_of block ++ pack_of t64 w (differences block)) ≡ 16 + 16 * w =
      length-append (base_of block) (pack_of t64 w (differences block)) ∙ ap₂ ◌+◌ (length-base block) (length-pack t64 w (differences block)) in
      counted (words_from body 0 16 ++ packed_from body 128 w) (16 + 16 * w) c (ap₂ ◌++◌ (sym b) p) size
      (words-split body (16 * w) (omega (arith, ap (λ e. e.length) e-is)))

  -- So the bytes are the writer's.
  pub body_ours : (e.kind ≡ 2 → words_from body 0 16 ≡ base_of block) → body ≡ body_for block
  unfolding body_for
  body_ours base =
      let words : List ℕ = (chosen block).words in
      let n : ℕ = length words in
      let are : numbers_of 8 body n ≡ words = words_are base (which block) in
      let fits : Elements t64 words = subst (λ x. Elements t64 x) are (words_fit body 0 n bytes) in
      let back : numbers_of 8 (all_bytes 8 words) n ≡ words = ap (λ x. numbers_of 8 x n) (sym (append-nil (all_bytes 8 words))) ∙ words_all words [] fits in
      same-words body (all_bytes 8 words) (λ k. bytes k) (all_small 8 words) n
      (long ∙ ap (λ e. e.length) same ∙ chosen_sized block)
      (length_all 8 words)
      (are ∙ sym back)

  -- And of differences they are not where the base is another one.
  pub base_ours : Elements t64 block → e.kind ≡ 2 → body ≡ body_for block → words_from body 0 16 ≡ base_of block
  unfolding body_for plain_at frame_at steps_at
  base_ours fits kind is = go (which block)
    where
      go : Which block → words_from body 0 16 ≡ base_of block
      go (is_plain c _ _) = absurd (omega (arith, kind, ap (λ e. e.kind) (same ∙ ap (λ x. x.entry) c)))
      go (is-frame c _ _) = absurd (omega (arith, kind, ap (λ e. e.kind) (same ∙ ap (λ x. x.entry) c)))
      go (is-steps c _ _) =
          let rest : List ℕ = pack_of t64 (width_of (differences block)) (differences block) in
          ap (λ x. numbers_of 8 x 16) (is ∙ ap (λ x. all_bytes 8 x.words) c ∙ all_append 8 (base_of block) rest)
          ∙ ap (numbers_of 8 (all_bytes 8 (base_of block) ++ all_bytes 8 rest)) (sym (length-base block))
          ∙ words_all (base_of block) (all_bytes 8 rest) (base-fits block fits)

-- So it is of block i of a file whose contents are right.
module _ (l : List ℕ) (bytes : Elements 8 l) (right : file_answer (contents_tests l (length l)) ≡ Ok tt) (i : ℕ) (h : i < count l)
    (same : entry_of l i ≡ (chosen (block_in l i)).entry) where
  of-bytes : Elements 8 (body_of l i)
  unfolding body_of
  of-bytes = take-elements 8 (entry_of l i).length (drop (body_start l i) l) (drop-elements 8 (body_start l i) l bytes)

  pub body_same : ((entry_of l i).kind ≡ 2 → words_from (body_of l i) 0 16 ≡ base_of (block_in l i)) → body_of l i ≡ body_for (block_in l i)
  unfolding block_in
  body_same base = body_ours (entry_of l i) (body_of l i) of-bytes (body-long l right i h) same base

  pub base_same : Elements t64 (block_in l i) → (entry_of l i).kind ≡ 2 → body_of l i ≡ body_for (block_in l i) → words_from (body_of l i) 0 16 ≡ base_of (block_in l i)
  unfolding block_in
  base_same fits kind is = base_ours (entry_of l i) (body_of l i) of-bytes (body-long l right i h) same fits kind is
