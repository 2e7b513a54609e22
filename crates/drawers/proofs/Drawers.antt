-- The theorems on drawers (R66, R69), said of what the calls answer and leave: each block of a drawer is the single
-- call's result on that block; a drawer of equal parts is answered as each single call is; a drawer of one block is the
-- single call; and a drawer in two is two drawers.
-- Assumes nothing.
use mathlib.Core.List.{List, ◌++◌}
use mathlib.Core.Path.{◌≡◌, sym, ap, ap₂, ◌∙◌}
use Prim.Native.Nat.{ℕ, ◌+◌, ◌*◌, ◌/◌, ◌≤◌, ◌<◌}
use native.Mathlib.Decide.{dec_le, ℕ_discrete}
use native.Mathlib.Nat.{add-mul, mul_comm, one-mul}
use native.Mathlib.Omega.{arith}
use lib.Arith.{digits_div}
use lib.ListN.{length, take, drop, length-drop}
use lib.Seq.{length-take-le}
use Rattle.lists.specs.Parts.{cut, joined}
use Rattle.lists.proofs.Parts.{length_cut}
use Rattle.places.specs.declared.Answer.{Answer}
use Rattle.places.specs.declared.Answer.TheVariants.{Done}
use Rattle.places.specs.Answers.{number_of, left}
use Rattle.places.specs.Sizes.{lanes}
use Rattle.places.specs.Takes.{answer_for}
use Rattle.places.proofs.Answers.{left-refused, number-done}
use Rattle.packing.specs.Calls.{pack_takes, unpack_leaves}
use Rattle.packing.specs.Packed.{unpack_of}
use Rattle.packing.proofs.Answers.{bad_block, good_block, unpack-leaves, bad_width as block-width, bad_packed as block_packed}
use Rattle.packing.proofs.Rounds.{length-unpack}
use Rattle.deltas.specs.Calls.{for_pack_leaves}
use Rattle.deltas.specs.Deltas.{for_pack_of}
use Rattle.deltas.proofs.Answers.{for_pack-leaves}
use Rattle.deltas.proofs.Lanes.{length_for_pack}
use Rattle.drawers.specs.Drawers.{drawer_answer, each_part_lem, unpack_blocks_of, for_pack_blocks_of, unpack_blocks_leaves, for_pack_blocks_leaves}
use Rattle.drawers.specs.Reasons.{Fits}
use Rattle.drawers.proofs.Answers.{bad_width, bad_blocks, bad_packed, good-drawer, drawer-taken}
use Rattle.drawers.proofs.Parts.{part-within, cut_all, each_part, each-split}

-- ---- refused

-- A refused call leaves its buffer as it was.
module _ (t w m : ℕ) (values packed : List ℕ) (h : number_of (drawer_answer t w m values packed) ≡ 0 → ⊥) where
  pub unpack-refused : unpack_blocks_leaves t w m values packed ≡ values
  unfolding unpack_blocks_leaves
  unpack-refused = left-refused (drawer_answer t w m values packed) _ values h

  pub for_pack-refused : (reference : ℕ) → for_pack_blocks_leaves t w m values packed reference ≡ packed
  unfolding for_pack_blocks_leaves
  for_pack-refused reference = left-refused (drawer_answer t w m values packed) _ packed h

-- ---- block by block

module _ (t w m : ℕ) (values packed : List ℕ) (done : drawer_answer t w m values packed ≡ Done) where
  fits : Fits t w m values packed
  fits = drawer-taken t w m values packed done

  module _ (b : ℕ) (h : b < m) where
    long_values : length (cut 1024 values b) ≡ 1024
    long_values = length_cut 1024 values b (omega (arith, part-within b m 1024 h, fits.whole))

    long_packed : length (cut (lanes t * w) packed b) ≡ lanes t * w
    long_packed = length_cut (lanes t * w) packed b (omega (arith, part-within b m (lanes t * w) h, fits.full))

    -- Block b of what the drawer leaves is what the single call on block b leaves: by unpack,
    pub unpack_block : cut 1024 (unpack_blocks_leaves t w m values packed) b ≡ unpack_leaves t w (cut 1024 values b) (cut (lanes t * w) packed b)
    unfolding unpack_blocks_leaves unpack_blocks_of
    unpack_block =
        ap (λ a. cut 1024 (left a (unpack_blocks_of t w m packed) values) b) done
        ∙ each_part (lanes t * w) 1024 (unpack_of t w) (length-unpack t w) packed m b h
        ∙ sym (unpack-leaves t w (cut 1024 values b) (cut (lanes t * w) packed b) fits.narrow long_values long_packed)

    -- and by for_pack.
    pub for_pack_block : (reference : ℕ)
        → cut (lanes t * w) (for_pack_blocks_leaves t w m values packed reference) b ≡ for_pack_leaves t w (cut 1024 values b) (cut (lanes t * w) packed b) reference
    unfolding for_pack_blocks_leaves for_pack_blocks_of
    for_pack_block reference =
        ap (λ a. cut (lanes t * w) (left a (for_pack_blocks_of t w m values reference) packed) b) done
        ∙ each_part 1024 (lanes t * w) (λ block. for_pack_of t w block reference) (λ block. length_for_pack t w block reference) values m b h
        ∙ sym (for_pack-leaves t w (cut 1024 values b) (cut (lanes t * w) packed b) fits.narrow long_values long_packed reference)

-- equal parts of one list, as many of them, are equally long
equal_parts : (m n k : ℕ) → 1 ≤ m → m * n ≡ m * k → n ≡ k
equal_parts m n k some e =
    sym (digits_div n some) ∙ ap (λ x. (x + 0) / m) (mul_comm n m ∙ e ∙ mul_comm m k) ∙ digits_div k some

-- From one block to 256, with values and packed words that are m parts of equal length each: the drawer has the whole
-- answer of the single call on any of the parts, number and place, whether that is a refusal or not.
module _ (t w m k n : ℕ) (values packed : List ℕ) (few : m ≤ 256) (ev : length values ≡ m * k) (ep : length packed ≡ m * n) (b : ℕ) (h : b < m) where
  some : 1 ≤ m
  some = omega arith

  value-part : length (cut k values b) ≡ k
  value-part = length_cut k values b (omega (arith, part-within b m k h, ev))

  packed_part : length (cut n packed b) ≡ n
  packed_part = length_cut n packed b (omega (arith, part-within b m n h, ep))

  pub each-answer : drawer_answer t w m values packed ≡ answer_for (pack_takes t w (cut k values b) (cut n packed b))
  each-answer =
      elim (dec_le w t) [
        | no wide ↦ bad_width t w m values packed (omega arith) ∙ sym (block-width t w _ _ (omega arith))
        | yes g ↦ elim (ℕ_discrete k 1024) [
          | no other ↦
              bad_blocks t w m values packed g few (λ e. other (equal_parts m k 1024 some (sym ev ∙ e)))
              ∙ sym (bad_block t w _ _ g (λ e. other (sym value-part ∙ e)))
          | yes same ↦ elim (ℕ_discrete n (lanes t * w)) [
            | no other ↦
                bad_packed t w m values packed g few (ev ∙ ap (λ k. m * k) same) (λ e. other (equal_parts m n (lanes t * w) some (sym ep ∙ e)))
                ∙ sym (block_packed t w _ _ g (value-part ∙ same) (λ e. other (sym packed_part ∙ e)))
            | yes full ↦
                good-drawer t w m values packed g few (ev ∙ ap (λ k. m * k) same) (ep ∙ ap (λ n. m * n) full)
                ∙ sym (good_block t w _ _ g (value-part ∙ same) (packed_part ∙ full))
          ]
        ]
      ]

  -- what holds where both are done, and where both are refused
  by_answer : {P : Type 0} → (drawer_answer t w m values packed ≡ Done → k ≡ 1024 → n ≡ lanes t * w → P)
      → ((number_of (drawer_answer t w m values packed) ≡ 0 → ⊥) → (number_of (answer_for (pack_takes t w (cut k values b) (cut n packed b))) ≡ 0 → ⊥) → P) → P
  by_answer done refused =
      elim (dec_le (number_of (drawer_answer t w m values packed)) 0) [
        | yes zero ↦
            let both = number-done (drawer_answer t w m values packed) (omega arith) in
            let fit = drawer-taken t w m values packed both in
            done both (equal_parts m k 1024 some (sym ev ∙ fit.whole)) (equal_parts m n (lanes t * w) some (sym ep ∙ fit.full))
        | no other ↦ refused (λ z. other (omega (arith, z))) (λ z. other (omega (arith, z, ap number_of each-answer)))
      ]

  -- Part b of what it leaves is what that call leaves: by unpack,
  pub each-unpack : cut k (unpack_blocks_leaves t w m values packed) b ≡ unpack_leaves t w (cut k values b) (cut n packed b)
  unfolding unpack_leaves
  each-unpack =
      by_answer
      (λ done ek en.
      ap (λ k. cut k (unpack_blocks_leaves t w m values packed) b) ek
      ∙ unpack_block t w m values packed done b h
      ∙ sym (ap₂ (λ k n. unpack_leaves t w (cut k values b) (cut n packed b)) ek en))
      (λ all one. ap (λ l. cut k l b) (unpack-refused t w m values packed all)
      ∙ sym (left-refused (answer_for (pack_takes t w (cut k values b) (cut n packed b))) (unpack_of t w (cut n packed b)) (cut k values b) one))

  -- and by for_pack.
  pub each_for_pack : (reference : ℕ)
      → cut n (for_pack_blocks_leaves t w m values packed reference) b ≡ for_pack_leaves t w (cut k values b) (cut n packed b) reference
  unfolding for_pack_leaves
  each_for_pack reference =
      by_answer
      (λ done ek en.
      ap (λ n. cut n (for_pack_blocks_leaves t w m values packed reference) b) en
      ∙ for_pack_block t w m values packed done b h reference
      ∙ sym (ap₂ (λ k n. for_pack_leaves t w (cut k values b) (cut n packed b) reference) ek en))
      (λ all one. ap (λ l. cut n l b) (for_pack-refused t w m values packed all reference)
      ∙ sym (left-refused (answer_for (pack_takes t w (cut k values b) (cut n packed b))) (for_pack_of t w (cut k values b) reference) (cut n packed b) one))

-- ---- one block

-- two calls that answer the same leave the same, if they do where they are done
left-same : {a b : Answer} → a ≡ b → (x y old : List ℕ) → (a ≡ Done → x ≡ y) → left a x old ≡ left b y old
left-same {a} {b} e x y old same =
    elim (dec_le (number_of a) 0) [
      | yes zero ↦ let done = number-done a (omega arith) in ap₂ (λ a x. left a x old) e (same done)
      | no other ↦
          left-refused a x old (λ z. other (omega arith))
          ∙ sym (left-refused b y old (λ z. other (omega (arith, ap number_of e, z))))
    ]

module _ (t w : ℕ) (values packed : List ℕ) where
  -- A drawer of one block is answered as the single call is,
  pub one_answer : drawer_answer t w 1 values packed ≡ answer_for (pack_takes t w values packed)
  unfolding drawer_answer answer_for
  one_answer = rw (one-mul (lanes t * w))

  -- and leaves what that leaves, whether it is done or refused: by unpack,
  pub one-unpack : unpack_blocks_leaves t w 1 values packed ≡ unpack_leaves t w values packed
  unfolding unpack_blocks_leaves unpack_leaves unpack_blocks_of each_part_lem joined
  one-unpack =
      left-same one_answer _ _ values
      (λ done. let fits = drawer-taken t w 1 values packed done in ap (unpack_of t w) (cut_all (lanes t * w) packed (fits.full ∙ one-mul (lanes t * w))))

  -- and by for_pack.
  pub one_for_pack : (reference : ℕ) → for_pack_blocks_leaves t w 1 values packed reference ≡ for_pack_leaves t w values packed reference
  unfolding for_pack_blocks_leaves for_pack_leaves for_pack_blocks_of each_part_lem joined
  one_for_pack reference =
      left-same one_answer _ _ packed
      (λ done. let fits = drawer-taken t w 1 values packed done in ap (λ block. for_pack_of t w block reference) (cut_all 1024 values (fits.whole ∙ one-mul 1024)))

-- ---- a drawer in two

module _ (t w i j : ℕ) (values packed : List ℕ) (done : drawer_answer t w (i + j) values packed ≡ Done) where
  all : Fits t w (i + j) values packed
  all = drawer-taken t w (i + j) values packed done

  n : ℕ
  n = lanes t * w

  fullness : length packed ≡ i * n + j * n
  unfolding n
  fullness = all.full ∙ add-mul i j (lanes t * w)

  wholeness : length values ≡ i * 1024 + j * 1024
  wholeness = all.whole ∙ add-mul i j 1024

  -- Cut at any block, both drawers are done,
  pub first_done : drawer_answer t w i (take (i * 1024) values) (take (i * (lanes t * w)) packed) ≡ Done
  unfolding n
  first_done =
      good-drawer t w i _ _ all.narrow (omega (arith, all.few))
      (length-take-le (i * 1024) values (omega (arith, wholeness)))
      (length-take-le (i * n) packed (omega (arith, fullness)))

  pub second_done : drawer_answer t w j (drop (i * 1024) values) (drop (i * (lanes t * w)) packed) ≡ Done
  unfolding n
  second_done =
      good-drawer t w j _ _ all.narrow (omega (arith, all.few))
      (length-drop (i * 1024) values ∙ omega (arith, wholeness))
      (length-drop (i * n) packed ∙ omega (arith, fullness))

  -- and what they leave stands one behind the other: by unpack,
  pub split-unpack : unpack_blocks_leaves t w (i + j) values packed
      ≡ unpack_blocks_leaves t w i (take (i * 1024) values) (take (i * (lanes t * w)) packed)
      ++ unpack_blocks_leaves t w j (drop (i * 1024) values) (drop (i * (lanes t * w)) packed)
  unfolding unpack_blocks_leaves unpack_blocks_of
  split-unpack =
      ap (λ a. left a (unpack_blocks_of t w (i + j) packed) values) done
      ∙ each-split (lanes t * w) 1024 (unpack_of t w) (length-unpack t w) packed i j
      ∙ sym
      (ap₂
      (λ a b.
      left a (unpack_blocks_of t w i (take (i * (lanes t * w)) packed)) (take (i * 1024) values)
      ++ left b (unpack_blocks_of t w j (drop (i * (lanes t * w)) packed)) (drop (i * 1024) values))
      first_done second_done)

  -- and by for_pack.
  pub split_for_pack : (reference : ℕ) → for_pack_blocks_leaves t w (i + j) values packed reference
      ≡ for_pack_blocks_leaves t w i (take (i * 1024) values) (take (i * (lanes t * w)) packed) reference
      ++ for_pack_blocks_leaves t w j (drop (i * 1024) values) (drop (i * (lanes t * w)) packed) reference
  unfolding for_pack_blocks_leaves for_pack_blocks_of
  split_for_pack reference =
      ap (λ a. left a (for_pack_blocks_of t w (i + j) values reference) packed) done
      ∙ each-split 1024 (lanes t * w) (λ block. for_pack_of t w block reference) (λ block. length_for_pack t w block reference) values i j
      ∙ sym
      (ap₂
      (λ a b.
      left a (for_pack_blocks_of t w i (take (i * 1024) values) reference) (take (i * (lanes t * w)) packed)
      ++ left b (for_pack_blocks_of t w j (drop (i * 1024) values) reference) (drop (i * (lanes t * w)) packed))
      first_done second_done)
