-- A file of bytes is its contents and its bodies: two files of edition 2 whose contents are right, with the same
-- entries, ranges and bodies, are the same byte for byte.
-- Assumes nothing.
use mathlib.Core.List.{List}
use mathlib.Core.Path.{◌≡◌, refl, sym, ap, ap₂, ◌∙◌}
use Prim.Native.Nat.{ℕ, zero, suc, ◌+◌, ◌*◌, ◌-◌, ◌/◌, ◌≤◌, ◌<◌}
use native.Mathlib.Decide.{dec_lt}
use native.Mathlib.Omega.{arith}
use lib.ListN.{length, get_or, drop}
use lib.Seq.{ext_get_or, get_or-take, get_or-drop}
use borrow.Author.Tests.{eq-eqb}
use Rattle.std.specs.Prelude.{Ok}
use Rattle.lists.specs.Pick.{pick}
use Rattle.little.specs.Little.{little}
use Rattle.contents.specs.Answers.{file_answer}
use Rattle.contents.specs.Contents.{edition, count, contents_size, entry_at, entry_of, range_at_lem, range_of, any_range, bodies_size, body_start, contents_tests}
use Rattle.contents.proofs.Sizes.{size_second}
use Rattle.files.specs.Files.{body_of}
use Rattle.bodywise.proofs.Told.{whole, first-start, next_start}

-- Every byte is below 256.
abbrev pub Bytes : List ℕ → Type 0
Bytes l = (k : ℕ) → get_or l k 0 < 256

-- Two files agree at a place.
abbrev pub Agree : (l m : List ℕ) (k : ℕ) → Type 0
Agree l m k = get_or l k 0 ≡ get_or m k 0

-- Where two numbers are the same, so are their bytes.
pub bytes_of : (l m : List ℕ) → Bytes l → Bytes m → (n at : ℕ) → little l at n ≡ little m at n → (k : ℕ) → at ≤ k → k < at + n → Agree l m k
unfolding little
bytes_of l m bl bm zero at e k low high = absurd (omega arith)
bytes_of l m bl bm (suc n) at e k low high =
    elim (dec_lt at k) [
      | no h ↦ let here : k ≡ at = omega arith in
          ap (λ k. get_or l k 0) here ∙ omega (arith, bl at, bm at, e) ∙ sym (ap (λ k. get_or m k 0) here)
      | yes h ↦ bytes_of l m bl bm n (suc at) (omega (arith, bl at, bm at, e)) k (omega arith) (omega arith)
    ]

-- Two files of edition 2 whose contents are right have the same count, entries, ranges and bodies.
pub record Alike (l m : List ℕ) : Type 0 where
  pub right_l : file_answer (contents_tests l (length l)) ≡ Ok tt
  pub right_m : file_answer (contents_tests m (length m)) ≡ Ok tt
  pub second_l : edition l ≡ 2
  pub second_m : edition m ≡ 2
  pub counts : count l ≡ count m
  pub entries : (i : ℕ) → i < count l → entry_of l i ≡ entry_of m i
  pub ranges : (i : ℕ) → i < count l → range_of l i ≡ range_of m i
  pub bodies : (i : ℕ) → i < count l → body_of l i ≡ body_of m i

module _ (l m : List ℕ) (bl : Bytes l) (bm : Bytes m) (a : Alike l m) where
  number : (at n : ℕ) → little l at n ≡ little m at n → (k : ℕ) → at ≤ k → k < at + n → Agree l m k
  number at n e k low high = bytes_of l m bl bm n at e k low high

  -- The first four bytes are edition and count.
  head_agrees : (k : ℕ) → k < 4 → Agree l m k
  head_agrees k h =
      elim (dec_lt k 2) [
        | yes low ↦ number 0 2 (a.second_l ∙ sym a.second_m) k (omega arith) (omega arith)
        | no high ↦ number 2 2 a.counts k (omega arith) (omega arith)
      ]

  -- An entry's bytes are its fields and its range.
  module _ (i : ℕ) (h : i < count l) where
    fields : entry_at l (4 + i * 32) ≡ entry_at m (4 + i * 32)
    unfolding entry_of
    fields =
        sym (ap (entry_at l) (size_second (edition l) i a.second_l)) ∙ a.entries i h ∙ ap (entry_at m) (size_second (edition m) i a.second_m)

    range-of : (x : List ℕ) → edition x ≡ 2 → range_of x i ≡ range_at_lem x (4 + i * 32 + 16)
    unfolding range_of
    range-of x second =
        ap (λ t. pick t (range_at_lem x (contents_size (edition x) i + 16)) any_range) (eq-eqb (edition x) 2 second)
        ∙ ap (λ n. range_at_lem x (n + 16)) (size_second (edition x) i second)

    ends : range_at_lem l (4 + i * 32 + 16) ≡ range_at_lem m (4 + i * 32 + 16)
    ends = sym (range-of l a.second_l) ∙ a.ranges i h ∙ range-of m a.second_m

    entry_agrees : (k : ℕ) → 4 + i * 32 ≤ k → k < 4 + i * 32 + 32 → Agree l m k
    entry_agrees k low high =
        elim (dec_lt k (4 + i * 32 + 2)) [
          | yes b0 ↦ elim (dec_lt k (4 + i * 32 + 1)) [
            | yes b1 ↦ let here : k ≡ 4 + i * 32 = omega arith in
                ap (λ k. get_or l k 0) here ∙ ap (λ e. e.kind) fields ∙ sym (ap (λ k. get_or m k 0) here)
            | no b1 ↦ let here : k ≡ 4 + i * 32 + 1 = omega arith in
                ap (λ k. get_or l k 0) here ∙ ap (λ e. e.width) fields ∙ sym (ap (λ k. get_or m k 0) here)
          ]
          | no b0 ↦ elim (dec_lt k (4 + i * 32 + 4)) [
            | yes b1 ↦ number (4 + i * 32 + 2) 2 (ap (λ e. e.zero) fields) k (omega arith) (omega arith)
            | no b1 ↦ elim (dec_lt k (4 + i * 32 + 8)) [
              | yes b2 ↦ number (4 + i * 32 + 4) 4 (ap (λ e. e.length) fields) k (omega arith) (omega arith)
              | no b2 ↦ elim (dec_lt k (4 + i * 32 + 16)) [
                | yes b3 ↦ number (4 + i * 32 + 8) 8 (ap (λ e. e.reference) fields) k (omega arith) (omega arith)
                | no b3 ↦ elim (dec_lt k (4 + i * 32 + 24)) [
                  | yes b4 ↦ number (4 + i * 32 + 16) 8 (ap (λ r. r.smallest) ends) k (omega arith) (omega arith)
                  | no b4 ↦ number (4 + i * 32 + 16 + 8) 8 (ap (λ r. r.largest) ends) k (omega arith) (omega arith)
                ]
              ]
            ]
          ]
        ]

  -- The bodies stand at the same places,
  sizes : (n : ℕ) → n ≤ count l → bodies_size l n ≡ bodies_size m n
  unfolding bodies_size
  sizes zero h = refl
  sizes (suc n) h = ap₂ ◌+◌ (sizes n (omega arith)) (ap (λ e. e.length) (a.entries n (omega arith)))

  starts : (n : ℕ) → n ≤ count l → body_start l n ≡ body_start m n
  unfolding body_start
  starts n h = ap₂ ◌+◌ (ap₂ contents_size (a.second_l ∙ sym a.second_m) a.counts) (sizes n h)

  -- so they agree there,
  body-at : (x : List ℕ) (i j : ℕ) → j < (entry_of x i).length → get_or (body_of x i) j 0 ≡ get_or x (body_start x i + j) 0
  unfolding body_of
  body-at x i j h = get_or-take (entry_of x i).length (drop (body_start x i) x) j 0 h ∙ get_or-drop (body_start x i) x j 0

  body_agrees : (i : ℕ) → i < count l → (k : ℕ) → body_start l i ≤ k → k < body_start l (suc i) → Agree l m k
  body_agrees i h k low high =
      let j = k - body_start l i in
      let within : j < (entry_of l i).length = omega (arith, next_start l a.right_l i) in
      let here : k ≡ body_start l i + j = omega arith in
      let there : k ≡ body_start m i + j = omega (arith, starts i (omega arith)) in
      ap (λ k. get_or l k 0) here
      ∙ sym (body-at l i j within)
      ∙ ap (λ x. get_or x j 0) (a.bodies i h)
      ∙ body-at m i j (omega (arith, ap (λ e. e.length) (a.entries i h)))
      ∙ sym (ap (λ k. get_or m k 0) there)

  bodies_agree : (n : ℕ) → n ≤ count l → (k : ℕ) → body_start l 0 ≤ k → k < body_start l n → Agree l m k
  bodies_agree zero h k low high = absurd (omega arith)
  bodies_agree (suc n) h k low high =
      elim (dec_lt k (body_start l n)) [
        | yes before ↦ bodies_agree n (omega arith) k low before
        | no here ↦ body_agrees n (omega arith) k (omega arith) high
      ]

  -- and so does every byte.
  every_byte : (k : ℕ) → k < length l → Agree l m k
  every_byte k h =
      let size = first-start l a.right_l ∙ size_second (edition l) (count l) a.second_l in
      elim (dec_lt k 4) [
        | yes head ↦ head_agrees k head
        | no past ↦ elim (dec_lt k (body_start l 0)) [
          | yes entry ↦
              let i = (k - 4) / 32 in
              entry_agrees i (omega arith) k (omega arith) (omega arith)
          | no body ↦ bodies_agree (count l) (omega arith) k (omega arith) (omega (arith, (whole l a.right_l).end))
        ]
      ]

  pub alike_same : l ≡ m
  alike_same =
      let long : length l ≡ length m =
      sym (whole l a.right_l).end ∙ starts (count l) (omega arith) ∙ ap (body_start m) a.counts ∙ (whole m a.right_m).end in
      ext_get_or 0 l m long every_byte
