-- A body of bytes whose entry is as laid out stands for a block: 1,024 numbers of 64 bits.
-- Assumes nothing.
use mathlib.Core.Bool.{true}
use mathlib.Core.List.{List, [], ◌∷◌}
use mathlib.Core.Path.{◌≡◌, sym, ap, ◌∙◌, subst}
use Prim.Native.Nat.{ℕ, zero, suc, ◌+◌, ◌%◌, ◌^◌, ◌<◌}
use native.Mathlib.Decide.{dec_le}
use native.Mathlib.Nat.{mod-eq_of_lt}
use native.Mathlib.Omega.{arith}
use lib.ListN.{length, get_or, take, drop}
use lib.Pow.{pow_pos}
use Rattle.lists.specs.Numbers.{plus, Elements}
use Rattle.lists.specs.Tab.{tab}
use Rattle.lists.proofs.Digits.{elements-of}
use Rattle.lists.proofs.Tabs.{length-tab, get_d_tab, is-tab}
use Rattle.places.specs.Sizes.{t64, lanes}
use Rattle.packing.specs.Packed.{unpack_of, value_at}
use Rattle.packing.proofs.Rounds.{length-unpack}
use Rattle.deltas.specs.Deltas.{unfor_pack_of, undelta_pack_of}
use Rattle.deltas.proofs.Lanes.{plus-lt, summed-lt, elements-unpack}
use Rattle.runs.specs.Runs.{decode_of}
use Rattle.little.specs.Little.{little, numbers_of}
use Rattle.contents.specs.declared.Entry.{Entry}
use Rattle.contents.specs.Contents.{is_laid_out}
use Rattle.contents.proofs.Laid.{laid_packed, laid_unreferred, laid_kind}
use Rattle.bodies.specs.Bodies.{words_from, packed_from, run_indices, value_count, block_of}
use Rattle.bodies.proofs.Bodies.{block_packed, block_frame, block_differences, block_runs}

-- A part of a list of numbers of t bits is one.
pub drop-elements : (t n : ℕ) (l : List ℕ) → Elements t l → Elements t (drop n l)
drop-elements t zero l fits = fits
drop-elements t (suc n) [] fits = fits
drop-elements t (suc n) (x ∷ l) fits = drop-elements t n l (λ i. fits (suc i))

pub take-elements : (t n : ℕ) (l : List ℕ) → Elements t l → Elements t (take n l)
take-elements t zero l fits i = pow_pos t
take-elements t (suc n) [] fits i = fits i
take-elements t (suc n) (x ∷ l) fits zero = fits zero
take-elements t (suc n) (x ∷ l) fits (suc i) = take-elements t n l (λ i. fits (suc i)) i

-- Eight bytes hold a number of 64 bits.
word_lt : (l : List ℕ) → Elements 8 l → (at : ℕ) → little l at 8 < 2 ^ 64
unfolding little
word_lt l fits at =
    omega
    (arith, fits at, fits (suc at), fits (suc (suc at)), fits (suc (suc (suc at))), fits (suc (suc (suc (suc at)))), fits (suc (suc (suc (suc (suc at))))), fits (suc (suc (suc (suc (suc (suc at)))))), fits (suc (suc (suc (suc (suc (suc (suc at))))))))

tab-elements : (n : ℕ) (f : ℕ → ℕ) → ((p : ℕ) → f p < 2 ^ 64) → Elements t64 (tab n f)
tab-elements n f small = elements-of t64 n (tab n f) (length-tab n f) (λ i h. subst (λ k. k < 2 ^ 64) (sym (get_d_tab n f i 0 h)) (small i))

-- So the words of a body of bytes are numbers of 64 bits.
pub words_fit : (body : List ℕ) (at n : ℕ) → Elements 8 body → Elements t64 (words_from body at n)
unfolding numbers_of
words_fit body at n fits = tab-elements n _ (λ i. word_lt (drop at body) (drop-elements 8 at body fits) _)

-- A block is 1,024 numbers of 64 bits.
abbrev pub Block : List ℕ → Type 0
Block b = (length b ≡ 1024) × Elements t64 b

a_tab : (f : ℕ → ℕ) → ((p : ℕ) → f p < 2 ^ 64) → Block (tab 1024 f)
a_tab f small = (length-tab 1024 f, tab-elements 1024 f small)

a_frame : (w : ℕ) (packed : List ℕ) (reference : ℕ) → Block (unfor_pack_of t64 w packed reference)
unfolding unfor_pack_of
a_frame w packed reference = a_tab _ (λ p. plus-lt t64 _ reference)

a_sum : (w : ℕ) (packed base : List ℕ) → Block (undelta_pack_of t64 w packed base)
unfolding undelta_pack_of
a_sum w packed base = a_tab _ (λ p. summed-lt t64 _ _ _)

a_decoded : (n : ℕ) (bytes indices : List ℕ) → Elements 8 bytes → Block (decode_of (numbers_of 8 bytes n) indices)
unfolding decode_of
a_decoded n bytes indices fits = a_tab _ (λ p. words_fit bytes 0 n fits (get_or indices p 0))

pub a_block : (e : Entry) (body : List ℕ) → is_laid_out e ≡ true → Elements 8 body → Block (block_of e body)
a_block e body laid fits =
    elim (dec_le e.kind 0) [
      | yes k ↦
          let zero-kind : e.kind ≡ 0 = omega arith in
          subst Block (sym (block_packed e body zero-kind))
          (length-unpack t64 e.width (packed_from body 0 e.width), elements-unpack t64 e.width (laid_packed e laid zero-kind).0 (packed_from body 0 e.width))
      | no k ↦ elim (dec_le e.kind 1) [
        | yes m ↦ subst Block (sym (block_frame e body (omega arith))) (a_frame e.width (packed_from body 0 e.width) e.reference)
        | no m ↦ elim (dec_le e.kind 2) [
          | yes n ↦ subst Block (sym (block_differences e body (omega arith))) (a_sum e.width (packed_from body 128 e.width) (words_from body 0 (lanes t64)))
          | no n ↦
              subst Block (sym (block_runs e body (omega (arith, laid_kind e laid))))
              (a_decoded (value_count e) (drop 2048 body) (run_indices body) (drop-elements 8 2048 body fits))
        ]
      ]
    ]

-- The value at a place of a packed block or of a frame is the one that its packed words hold there, and the reference
-- is added. A packed block has the reference 0.
pub packed_value : (e : Entry) (body : List ℕ) → is_laid_out e ≡ true → e.kind < 2 → (p : ℕ) → p < 1024
    → get_or (block_of e body) p 0 ≡ plus t64 (value_at t64 e.width (packed_from body 0 e.width) p) e.reference
unfolding unfor_pack_of unpack_of plus
packed_value e body laid kind p h =
    let w = e.width in
    let words = packed_from body 0 w in
    elim (dec_le e.kind 0) [
      | yes k ↦
          let zero-kind : e.kind ≡ 0 = omega arith in
          let read : get_or (unpack_of t64 w words) p 0 ≡ value_at t64 w words p = get_d_tab 1024 (value_at t64 w words) p 0 h in
          let small : value_at t64 w words p < 2 ^ 64 = subst (λ v. v < 2 ^ 64) read (elements-unpack t64 w (laid_packed e laid zero-kind).0 words p) in
          let added : value_at t64 w words p + e.reference ≡ value_at t64 w words p = omega (arith, laid_unreferred e laid zero-kind) in
          ap (λ block. get_or block p 0) (block_packed e body zero-kind)
          ∙ read
          ∙ sym (ap (λ v. v % 2 ^ 64) added ∙ mod-eq_of_lt small)
      | no k ↦
          ap (λ block. get_or block p 0) (block_frame e body (omega arith))
          ∙ get_d_tab 1024 (λ p. plus t64 (value_at t64 w words p) e.reference) p 0 h
    ]

-- So both are unpacked with the reference added.
pub block_raised : (e : Entry) (body : List ℕ) → is_laid_out e ≡ true → e.kind < 2
    → block_of e body ≡ unfor_pack_of t64 e.width (packed_from body 0 e.width) e.reference
unfolding unfor_pack_of
block_raised e body laid kind =
    elim (dec_le e.kind 0) [
      | yes k ↦
          let long = ap length (block_packed e body (omega arith)) ∙ length-unpack t64 e.width (packed_from body 0 e.width) in
          is-tab (block_of e body) 1024 _ 0 long (packed_value e body laid kind)
      | no k ↦ block_frame e body (omega arith)
    ]
