-- What R100 and R102 say of one block: in each kind a width restores the block exactly when it is at least the least
-- one, so the reader makes the block of the chosen candidate; and no entry and body of the kind that was chosen, with
-- its reference or base, give the block at a smaller width. That no candidate is shorter stands in Choice.
-- Assumes nothing.
use Rattle.std.proofs.Common.{◌≡◌, ℕ, zero, suc, ◌*◌, ◌^◌, ◌<◌, ◌≤◌, ◌↔◌, List, [], ◌++◌, length, get_or, drop, sym, ap, ◌∙◌, subst, ap₂, append-nil, le_refl, lt_of_lt_of_le, arith, ext_get_or, drop_at, pow_mono}
use native.Mathlib.Decide.{dec_le}
use Rattle.lists.specs.Numbers.{plus, minus, Elements}
use Rattle.lists.specs.Ends.{lowest_of}
use Rattle.lists.proofs.Digits.{elements-of}
use Rattle.lists.proofs.Tabs.{length-tab, get_d_tab}
use Rattle.lists.proofs.Lows.{lowest-element}
use Rattle.places.specs.Places.{place}
use Rattle.places.specs.Sizes.{t64, lanes}
use Rattle.places.proofs.Places.{size64}
use Rattle.packing.specs.Packed.{pack_of, unpack_of, value_at}
use Rattle.packing.proofs.Rounds.{length-pack, pack-fits, length-unpack, unpack-at, unpack-fits, restores}
use Rattle.deltas.specs.Deltas.{delta_of, frame_of, for_pack_of, unfor_pack_of, undelta_pack_of}
use Rattle.deltas.proofs.Restores.{delta-undelta, undelta-pack-is, frame-restores, delta-restores}
use Rattle.deltas.proofs.Lanes.{minus-lt, minus_plus, elements-unpack, length-delta, length_for_pack}
use Rattle.little.specs.Little.{numbers_of, all_bytes}
use Rattle.little.proofs.Bytes.{length_all, all_append, numbers_all}
use Rattle.contents.specs.declared.Entry.{Entry}
use Rattle.bodies.specs.Bodies.{block_of, words_from, packed_from}
use Rattle.bodies.proofs.Bodies.{block_packed, block_frame, block_differences}
use Rattle.candidates.specs.Candidates.{plain_at, frame_at, steps_at, framed, base_of, differences, chosen}
use Rattle.candidates.specs.Restored.{restored, candidate_at, packs}
use Rattle.candidates.specs.Widths.{width_of}
use Rattle.candidates.proofs.Choice.{length-base, Which, is_plain, is-frame, is-steps, which, chosen-candidate, chosen_kind, chosen-width}
use Rattle.candidates.proofs.Widths.{width_fits, width-most}

-- The words of a body are read back from its bytes: those at the front,
words_back : (words more : List ℕ) (n : ℕ) → Elements t64 words → length words ≡ n → words_from (all_bytes 8 (words ++ more)) 0 n ≡ words
words_back words more n fits e =
    ap₂ (λ b k. numbers_of 8 b k) (all_append 8 words more) (sym e) ∙ numbers_all 8 words (all_bytes 8 more) fits

-- those of a body that has no others,
all_back : (words : List ℕ) (n : ℕ) → Elements t64 words → length words ≡ n → words_from (all_bytes 8 words) 0 n ≡ words
all_back words n fits e = ap (λ l. words_from (all_bytes 8 l) 0 n) (sym (append-nil words)) ∙ words_back words [] n fits e

-- and those behind sixteen base words.
packed_back : (base words : List ℕ) (n : ℕ) → length base ≡ 16 → Elements t64 words → length words ≡ n
    → words_from (all_bytes 8 (base ++ words)) 128 n ≡ words
packed_back base words n eb fits e =
    ap (λ b. numbers_of 8 (drop 128 b) n) (all_append 8 base words)
    ∙ ap (λ b. numbers_of 8 b n) (drop_at (all_bytes 8 base) (all_bytes 8 words) 128 (length_all 8 base ∙ ap (λ k. 8 * k) eb))
    ∙ all_back words n fits e

-- A block that comes back equals its block exactly when the other side of two equivalences holds.
through : {A X Y : Type 0} {back mid v : A} → back ≡ mid → (mid ≡ v) ↔ X → X ↔ Y → (back ≡ v) ↔ Y
through e f g = ((λ same. g.0 (f.0 (sym e ∙ same))), (λ y. e ∙ f.1 (g.1 y)))

-- To fit a width is said of 1,024 places.
fits-places : (l : List ℕ) → length l ≡ 1024 → Elements t64 l → (w : ℕ) → ((p : ℕ) → p < 1024 → get_or l p 0 < 2 ^ w) ↔ (width_of l ≤ w)
fits-places l e fits w = (
  (λ all. (width_fits l fits w).1 (λ i h. all i (omega arith))),
  (λ low p h. (width_fits l fits w).0 low p (omega arith)),
)

module _ (values : List ℕ) (long : length values ≡ 1024) (fits : Elements t64 values) where
  base-fits : Elements t64 (base_of values)
  unfolding base_of
  base-fits = elements-of t64 16 (base_of values) (length-tab 16 _) (λ i h. subst (λ n. n < 2 ^ 64) (sym (get_d_tab 16 _ i 0 h)) (fits (place 0 i)))

  frame-fits : Elements t64 (framed values)
  unfolding frame_of
  frame-fits =
      elements-of t64 1024 (framed values) (length-tab 1024 _)
      (λ i h. subst (λ n. n < 2 ^ 64) (sym (get_d_tab 1024 _ i 0 h)) (minus-lt t64 (get_or values i 0) (lowest_of values)))

  differences_fit : Elements t64 (differences values)
  unfolding delta_of
  differences_fit =
      elements-of t64 1024 (differences values) (length-tab 1024 _)
      (λ i h. subst (λ n. n < 2 ^ 64) (sym (get_d_tab 1024 _ i 0 h)) (minus-lt t64 (get_or values i 0) _))

  -- A width restores the block exactly when it is at least the least one, in each kind.
  pub plain-restores : (w : ℕ) → w ≤ 64 → (restored (plain_at w values) ≡ values) ↔ (width_of values ≤ w)
  unfolding plain_at block_of
  plain-restores w h =
      through
      (ap (unpack_of t64 w) (all_back (pack_of t64 w values) (lanes t64 * w) (pack-fits t64 w values) (length-pack t64 w values)))
      (restores size64 w values long)
      (fits-places values long fits w)

  pub frame_block_restores : (w : ℕ) → w ≤ 64 → (restored (frame_at w values) ≡ values) ↔ (width_of (framed values) ≤ w)
  unfolding frame_at block_of for_pack_of frame_of unfor_pack_of
  frame_block_restores w h =
      through
      (ap (λ x. unfor_pack_of t64 w x (lowest_of values))
      (all_back (for_pack_of t64 w values (lowest_of values)) (lanes t64 * w) for_pack-fits (length_for_pack t64 w values (lowest_of values))))
      places
      (fits-places (framed values) (length-tab 1024 _) frame-fits w)
    where
      for_pack-fits : Elements t64 (for_pack_of t64 w values (lowest_of values))
      for_pack-fits = pack-fits t64 w (framed values)

      back : List ℕ
      back = unfor_pack_of t64 w (for_pack_of t64 w values (lowest_of values)) (lowest_of values)

      place-restores : (p : ℕ) → p < 1024 → (get_or back p 0 ≡ get_or values p 0) ↔ (get_or (framed values) p 0 < 2 ^ w)
      place-restores p b =
          let f = frame-restores size64 w h values (lowest_of values) p b fits (lowest-element values) in
          let e = get_d_tab 1024 (λ p. minus t64 (get_or values p 0) (lowest_of values)) p 0 b in
          ((λ same. subst (λ n. n < 2 ^ w) (sym e) (f.0 same)), (λ low. f.1 (subst (λ n. n < 2 ^ w) e low)))

      length_back : length back ≡ 1024
      length_back = length-tab 1024 _

      places : (back ≡ values) ↔ ((p : ℕ) → p < 1024 → get_or (framed values) p 0 < 2 ^ w)
      places = (
        (λ same p b. (place-restores p b).0 (ap (λ l. get_or l p 0) same)),
        (λ all. ext_get_or 0 back values (length_back ∙ sym long) (λ i b. (place-restores i (omega (arith, length_back))).1 (all i (omega (arith, length_back))))),
      )

  pub steps_restore : (w : ℕ) → w ≤ 64 → (restored (steps_at w values) ≡ values) ↔ (width_of (differences values) ≤ w)
  unfolding steps_at block_of base_of
  steps_restore w h =
      through
      (ap₂ (λ x b. undelta_pack_of t64 w x b)
      (packed_back (base_of values) packed (lanes t64 * w) (length-base values) (pack-fits t64 w (differences values)) (length-pack t64 w (differences values)))
      (words_back (base_of values) packed (lanes t64) base-fits (length-base values)))
      (delta-restores size64 w h values (base_of values) long fits base-fits)
      (fits-places (differences values) (length-delta t64 values (base_of values)) differences_fit w)
    where
      packed : List ℕ
      packed = pack_of t64 w (differences values)

  -- So it is in every kind.
  pub kind_restores : (kind : ℕ) → kind ≤ 2 → (w : ℕ) → w ≤ 64 → (restored (candidate_at kind w values) ≡ values) ↔ (width_of (packs kind values) ≤ w)
  unfolding candidate_at packs
  kind_restores zero k w h = plain-restores w h
  kind_restores (suc zero) k w h = frame_block_restores w h
  kind_restores (suc (suc zero)) k w h = steps_restore w h
  kind_restores (suc (suc (suc kind))) k w h = absurd (omega arith)

  -- The reader makes the block of the chosen candidate,
  pub chosen-restores : restored (chosen values) ≡ values
  chosen-restores =
      let kind : ℕ = (chosen values).entry.kind in
      let width : ℕ = width_of (packs kind values) in
      ap restored (chosen-candidate values) ∙ (kind_restores kind (chosen_kind values) width (width-most (packs kind values))).1 (le_refl width)

  -- and no smaller width restores it in the kind that was chosen, with its reference or base.
  pub chosen-least : (w : ℕ) → w < (chosen values).entry.width → restored (candidate_at (chosen values).entry.kind w values) ≡ values → ⊥
  chosen-least w low same =
      let kind : ℕ = (chosen values).entry.kind in
      let width : (chosen values).entry.width ≡ width_of (packs kind values) = chosen-width values in
      let most : width_of (packs kind values) ≤ 64 = width-most (packs kind values) in
      let least : width_of (packs kind values) ≤ w = (kind_restores kind (chosen_kind values) w (omega arith)).0 same in
      omega arith

  -- Not only what is packed here: no packed words whatever give the block at a smaller width. At width w every number
  -- that is unpacked is below 2^w.
  plain-narrow : (w : ℕ) (packed : List ℕ) → unpack_of t64 w packed ≡ values → width_of values ≤ w
  plain-narrow w packed same =
      (fits-places values long fits w).0 (λ p h. subst (λ l. get_or l p 0 < 2 ^ w) same (unpack-fits t64 w packed p h))

  frame-narrow : (w : ℕ) (packed : List ℕ) → w ≤ 64 → unfor_pack_of t64 w packed (lowest_of values) ≡ values → width_of (framed values) ≤ w
  unfolding unfor_pack_of frame_of
  frame-narrow w packed h same = (fits-places (framed values) (length-tab 1024 _) frame-fits w).0 below
    where
      below : (p : ℕ) → p < 1024 → get_or (framed values) p 0 < 2 ^ w
      below p b =
          let x : ℕ = value_at t64 w packed p in
          let small : x < 2 ^ w = subst (λ n. n < 2 ^ w) (unpack-at t64 w packed p b) (unpack-fits t64 w packed p b) in
          let there : get_or values p 0 ≡ plus t64 x (lowest_of values) =
          ap (λ l. get_or l p 0) (sym same) ∙ get_d_tab 1024 (λ p. plus t64 (value_at t64 w packed p) (lowest_of values)) p 0 b in
          let back : get_or (framed values) p 0 ≡ x =
          get_d_tab 1024 (λ p. minus t64 (get_or values p 0) (lowest_of values)) p 0 b
          ∙ ap (λ n. minus t64 n (lowest_of values)) there
          ∙ minus_plus t64 x (lowest_of values) (lt_of_lt_of_le small (pow_mono h)) (lowest-element values) in
          subst (λ n. n < 2 ^ w) (sym back) small

  steps-narrow : (w : ℕ) (packed : List ℕ) → w ≤ 64 → undelta_pack_of t64 w packed (base_of values) ≡ values → width_of (differences values) ≤ w
  steps-narrow w packed h same =
      let n : List ℕ = unpack_of t64 w packed in
      let back : differences values ≡ n =
      ap (λ v. delta_of t64 v (base_of values)) (sym same ∙ undelta-pack-is size64 w packed (base_of values))
      ∙ delta-undelta size64 n (base_of values) (length-unpack t64 w packed) (elements-unpack t64 w h packed) base-fits in
      (fits-places (differences values) (length-delta t64 values (base_of values)) differences_fit w).0
      (λ p b. subst (λ l. get_or l p 0 < 2 ^ w) (sym back) (unpack-fits t64 w packed p b))

  -- So an entry and a body of the kind that was chosen, with its reference or base, that give the block are at least as
  -- wide.
  pub no_narrower : (e : Entry) (body : List ℕ) → e.kind ≡ (chosen values).entry.kind → e.reference ≡ (chosen values).entry.reference
      → (e.kind ≡ 2 → words_from body 0 (lanes t64) ≡ base_of values) → block_of e body ≡ values → (chosen values).entry.width ≤ e.width
  unfolding plain_at frame_at steps_at
  no_narrower e body kind reference base same =
      elim (dec_le e.width 64) [
        | no wide ↦ let most : (chosen values).entry.width ≤ 64 = subst (λ w. w ≤ 64) (sym (chosen-width values)) (width-most _) in omega arith
        | yes h ↦ by_kind h (which values)
      ]
    where
      by_kind : e.width ≤ 64 → Which values → (chosen values).entry.width ≤ e.width
      by_kind h (is_plain c _ _) =
          subst (λ c. c.entry.width ≤ e.width) (sym c)
          (plain-narrow e.width _ (sym (block_packed e body (kind ∙ ap (λ c. c.entry.kind) c)) ∙ same))
      by_kind h (is-frame c _ _) =
          let words : List ℕ = packed_from body 0 e.width in
          let low : e.reference ≡ lowest_of values = reference ∙ ap (λ c. c.entry.reference) c in
          subst (λ c. c.entry.width ≤ e.width) (sym c)
          (frame-narrow e.width words h
          (ap (unfor_pack_of t64 e.width words) (sym low) ∙ sym (block_frame e body (kind ∙ ap (λ c. c.entry.kind) c)) ∙ same))
      by_kind h (is-steps c _ _) =
          let words : List ℕ = packed_from body 128 e.width in
          let k : e.kind ≡ 2 = kind ∙ ap (λ c. c.entry.kind) c in
          subst (λ c. c.entry.width ≤ e.width) (sym c)
          (steps-narrow e.width words h (ap (undelta_pack_of t64 e.width words) (sym (base k)) ∙ sym (block_differences e body k) ∙ same))
