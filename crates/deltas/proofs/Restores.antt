-- The laws of differences and frames (R144 to R149), over every element size t and every width w from 0 to t:
--
--   1. delta and then undelta with one base, and undelta and then delta with one base, give the block back (R145).
--   2. delta and undelta are additive, where blocks and bases are summed place by place modulo 2^t (R146).
--   3. undelta_pack is unpack, and then undelta (R147).
--   4. unfor_pack is unpack, and then adding the reference (R147).
--   5. for_pack and then unfor_pack with one reference restores a place exactly when its value minus the reference,
--      modulo 2^t, is below 2^w (R148).
--   6. delta, pack and undelta_pack with one base restore a block exactly when each of its 1,024 differences is below
--      2^w (R149).
--
-- Each law stands here twice: over the definitions that the contracts cite, and as what the calls leave in the buffers
-- lent to them.
-- Assumes nothing.
use mathlib.Core.Path.{◌≡◌, sym, ap, ap₂, ◌∙◌, subst}
use mathlib.Core.List.{List}
use mathlib.Core.Logic.{◌↔◌}
use Prim.Native.Nat.{ℕ, ◌*◌, ◌%◌, ◌^◌, ◌≤◌, ◌<◌}
use native.Mathlib.Nat.{mod-lt, mod-eq_of_lt, lt_of_lt_of_le}
use native.Mathlib.Omega.{arith}
use lib.ListN.{length, get_or}
use lib.Pow.{pow_pos, pow_mono}
use Rattle.lists.specs.Tab.{tab}
use Rattle.lists.specs.Numbers.{digit, plus, minus, Elements}
use Rattle.lists.proofs.Tabs.{get_d_tab, length-tab, tab_ext}
use Rattle.places.specs.declared.Answer.TheVariants.{Done}
use Rattle.places.specs.Places.{place, lane, row}
use Rattle.places.specs.Sizes.{Size, lanes}
use Rattle.places.specs.Takes.{answer_for}
use Rattle.places.proofs.Places.{lane-lt, row_lt}
use Rattle.packing.specs.Calls.{pack_takes, pack_leaves, unpack_leaves}
use Rattle.packing.specs.Packed.{words_number, pack_of, unpack_of}
use Rattle.packing.proofs.Answers.{good_block, pack-leaves, unpack-leaves}
use Rattle.packing.proofs.Rounds.{length-pack, length-unpack, unpack-at, unpack-pack, restores}
use Rattle.deltas.specs.Calls.{delta_takes, delta_leaves, undelta_leaves, undelta_pack_takes, undelta_pack_leaves, for_pack_leaves, unfor_pack_leaves}
use Rattle.deltas.specs.Deltas.{before, delta_of, undelta_of, undelta_pack_of, frame_of, for_pack_of, unfor_pack_of, sum_of}
use Rattle.deltas.proofs.Answers.{delta-good, delta-leaves, undelta-leaves, unpack-good, undelta-pack-leaves, for_pack-leaves, unfor_pack-leaves}
use Rattle.deltas.proofs.Lanes.{plus-minus, minus_only, minus_additive, summed_ext, elements-unpack, length-delta, length-undelta, length_for_pack, rows_ext, undelta-at, unpack-row, summed-delta, delta-summed, before-lt, before_sum, summed_sum}

sum_at : (t n : ℕ) (x y : List ℕ) (i : ℕ) → i < n → get_or (sum_of t n x y) i 0 ≡ plus t (get_or x i 0) (get_or y i 0)
sum_at t n x y i h = get_d_tab n (λ i. plus t (get_or x i 0) (get_or y i 0)) i 0 h

-- ---- over the definitions

module _ {t : ℕ} (s : Size t) where
  -- 1. undelta gives back the block that delta took,
  pub undelta-delta : (v b : List ℕ) → length v ≡ 1024 → Elements t v → Elements t b → undelta_of t (delta_of t v b) b ≡ v
  undelta-delta v b e fv fb =
      rows_ext s (undelta_of t (delta_of t v b) b) v (length-undelta t (delta_of t v b) b) e
      (λ r l hr hl. undelta-at s (delta_of t v b) b l hl r hr ∙ summed-delta s v b fv fb l hl r hr)

  -- and delta gives back the numbers that undelta took.
  pub delta-undelta : (n b : List ℕ) → length n ≡ 1024 → Elements t n → Elements t b → delta_of t (undelta_of t n b) b ≡ n
  delta-undelta n b e fn fb =
      rows_ext s (delta_of t (undelta_of t n b) b) n (length-delta t (undelta_of t n b) b) e
      (λ r l hr hl. delta-summed s n b fn fb l hl r hr)

  -- 2. The differences of two summed blocks, with their bases summed, are the sums of their differences,
  pub delta_additive : (v v' b b' : List ℕ) → Elements t v → Elements t v' → Elements t b → Elements t b'
      → delta_of t (sum_of t 1024 v v') (sum_of t (lanes t) b b') ≡ sum_of t 1024 (delta_of t v b) (delta_of t v' b')
  unfolding delta_of
  delta_additive v v' b b' fv fv' fb fb' =
      tab_ext 1024 _ _ 0
      (λ p h.
      ap₂ (minus t) (sum_at t 1024 v v' p h)
      (before_sum s (sum_of t 1024 v v') v v' (sum_of t (lanes t) b b') b b' (sum_at t 1024 v v') (sum_at t (lanes t) b b') p h)
      ∙ minus_additive t (get_or v p 0) (get_or v' p 0) (before t v b p) (before t v' b' p)
      (fv p) (fv' p) (before-lt t v b fv fb p) (before-lt t v' b' fv' fb' p)
      ∙ sym (ap₂ (plus t) (get_d_tab 1024 _ p 0 h) (get_d_tab 1024 _ p 0 h)))

  -- and so it is with undelta.
  pub undelta_additive : (n n' b b' : List ℕ)
      → undelta_of t (sum_of t 1024 n n') (sum_of t (lanes t) b b') ≡ sum_of t 1024 (undelta_of t n b) (undelta_of t n' b')
  unfolding undelta_of
  undelta_additive n n' b b' =
      tab_ext 1024 _ _ 0
      (λ p h.
      summed_sum s (sum_of t 1024 n n') n n' (sum_of t (lanes t) b b') b b' (sum_at t 1024 n n') (sum_at t (lanes t) b b') p h
      ∙ sym (ap₂ (plus t) (get_d_tab 1024 _ p 0 h) (get_d_tab 1024 _ p 0 h)))

  -- 3. undelta_pack gives what undelta gives of the unpacked block.
  pub undelta-pack-is : (w : ℕ) (packed b : List ℕ) → undelta_pack_of t w packed b ≡ undelta_of t (unpack_of t w packed) b
  unfolding undelta_pack_of undelta_of
  undelta-pack-is w packed b =
      tab_ext 1024 _ _ 0
      (λ p h.
      summed_ext t (digit w (words_number t w packed (lane t p))) (λ r. get_or (unpack_of t w packed) (place r (lane t p)) 0) (get_or b (lane t p) 0) (row t p)
      (λ r g. sym (unpack-row s w packed (lane t p) r (lane-lt s p h) (omega (arith, row_lt s p h)))))

-- 4. unfor_pack gives each value of the unpacked block plus the reference.
pub unfor_pack-is : (t w : ℕ) (packed : List ℕ) (reference : ℕ)
    → unfor_pack_of t w packed reference ≡ tab 1024 (λ p. plus t (get_or (unpack_of t w packed) p 0) reference)
unfolding unfor_pack_of
unfor_pack-is t w packed reference = tab_ext 1024 _ _ 0 (λ p h. ap (λ n. plus t n reference) (sym (unpack-at t w packed p h)))

-- what comes back from a frame: the difference, cut to w bits, plus the reference
pub frame_back : {t : ℕ} → Size t → (w : ℕ) (v : List ℕ) (reference p : ℕ) → p < 1024
    → get_or (unfor_pack_of t w (for_pack_of t w v reference) reference) p 0 ≡ plus t (minus t (get_or v p 0) reference % 2 ^ w) reference
unfolding for_pack_of frame_of
frame_back {t} s w v reference p h =
    let frame : List ℕ = tab 1024 (λ p. minus t (get_or v p 0) reference) in
    ap (λ x. get_or x p 0) (unfor_pack-is t w (pack_of t w frame) reference)
    ∙ get_d_tab 1024 _ p 0 h
    ∙ ap (λ n. plus t n reference) (unpack-pack s w frame p h ∙ ap (λ n. n % 2 ^ w) (get_d_tab 1024 _ p 0 h))

module _ {t : ℕ} (s : Size t) (w : ℕ) (hw : w ≤ t) where
  -- 5. A frame restores a place exactly when the difference there is below 2^w.
  pub frame-restores : (v : List ℕ) (reference p : ℕ) → p < 1024 → Elements t v → reference < 2 ^ t
      → (get_or (unfor_pack_of t w (for_pack_of t w v reference) reference) p 0 ≡ get_or v p 0) ↔ (minus t (get_or v p 0) reference < 2 ^ w)
  frame-restores v reference p h fv hr =
      let d : ℕ = minus t (get_or v p 0) reference in
      let cut : d % 2 ^ w < 2 ^ w = mod-lt d (pow_pos w) in
      let back : get_or (unfor_pack_of t w (for_pack_of t w v reference) reference) p 0 ≡ plus t (d % 2 ^ w) reference = frame_back s w v reference p h in (
        (λ same.
            subst (λ n. n < 2 ^ w)
            (minus_only t (get_or v p 0) reference (d % 2 ^ w) hr (lt_of_lt_of_le cut (pow_mono hw)) (sym back ∙ same))
            cut),
        (λ small. back ∙ ap (λ n. plus t n reference) (mod-eq_of_lt small) ∙ plus-minus t (get_or v p 0) reference (fv p) hr),
      )

  -- 6. A block comes back from packed differences exactly when each difference is below 2^w. Where it comes back, the
  -- unpacked differences are those of the block, because delta undoes undelta; so unpacking restored them.
  pub delta-restores : (v b : List ℕ) → length v ≡ 1024 → Elements t v → Elements t b
      → (undelta_pack_of t w (pack_of t w (delta_of t v b)) b ≡ v) ↔ ((p : ℕ) → p < 1024 → get_or (delta_of t v b) p 0 < 2 ^ w)
  delta-restores v b e fv fb =
      let d : List ℕ = delta_of t v b in
      let back : List ℕ = unpack_of t w (pack_of t w d) in
      let sums : undelta_pack_of t w (pack_of t w d) b ≡ undelta_of t back b = undelta-pack-is s w (pack_of t w d) b in
      let round : (back ≡ d) ↔ ((p : ℕ) → p < 1024 → get_or d p 0 < 2 ^ w) = restores s w d (length-delta t v b) in (
        (λ same.
            round.0
            (sym (delta-undelta s back b (length-unpack t w (pack_of t w d)) (elements-unpack t w hw (pack_of t w d)) fb)
            ∙ ap (λ x. delta_of t x b) (sym sums ∙ same))),
        (λ small. sums ∙ ap (λ x. undelta_of t x b) (round.1 small) ∙ undelta-delta s v b e fv fb),
      )

-- ---- as what the calls leave. The lengths are those that the calls ask for; o, o', o'' and k are the buffers that are
-- written, and nothing hangs on what they held. Each call is done, and what the last one leaves is said by the law.

module _ {t : ℕ} (s : Size t) where
  -- 1. undelta leaves the block that delta took,
  pub undelta-delta_calls : (v b o o' : List ℕ) → length v ≡ 1024 → length b ≡ lanes t → length o ≡ 1024 → length o' ≡ 1024
      → Elements t v → Elements t b
      → (answer_for (delta_takes t v b o) ≡ Done) × (answer_for (delta_takes t (delta_leaves t v b o) b o') ≡ Done) × (undelta_leaves t (delta_leaves t v b o) b o' ≡ v)
  undelta-delta_calls v b o o' ev eb eo eo' fv fb =
      let d : List ℕ = delta_of t v b in
      rw (delta-leaves t v b o ev eo eb) (
        delta-good t v b o ev eo eb,
        delta-good t d b o' (length-delta t v b) eo' eb,
        undelta-leaves t d b o' (length-delta t v b) eo' eb ∙ undelta-delta s v b ev fv fb,
      )

  -- and delta leaves the numbers that undelta took.
  pub delta-undelta_calls : (n b o o' : List ℕ) → length n ≡ 1024 → length b ≡ lanes t → length o ≡ 1024 → length o' ≡ 1024
      → Elements t n → Elements t b
      → (answer_for (delta_takes t n b o) ≡ Done) × (answer_for (delta_takes t (undelta_leaves t n b o) b o') ≡ Done) × (delta_leaves t (undelta_leaves t n b o) b o' ≡ n)
  delta-undelta_calls n b o o' en eb eo eo' fn fb =
      let v : List ℕ = undelta_of t n b in
      let ev : length v ≡ 1024 = length-undelta t n b in
      rw (undelta-leaves t n b o en eo eb) (
        delta-good t n b o en eo eb,
        delta-good t v b o' ev eo' eb,
        delta-leaves t v b o' ev eo' eb ∙ delta-undelta s n b en fn fb,
      )

  -- 2. What delta leaves of two summed blocks, with their bases summed, is the sum of what it leaves of each,
  pub delta_additive_calls : (v v' b b' o o' o'' : List ℕ) → length v ≡ 1024 → length v' ≡ 1024 → length b ≡ lanes t → length b' ≡ lanes t
      → length o ≡ 1024 → length o' ≡ 1024 → length o'' ≡ 1024 → Elements t v → Elements t v' → Elements t b → Elements t b'
      → (answer_for (delta_takes t v b o) ≡ Done) × (answer_for (delta_takes t v' b' o') ≡ Done) × (answer_for (delta_takes t (sum_of t 1024 v v') (sum_of t (lanes t) b b') o'') ≡ Done)
      × (delta_leaves t (sum_of t 1024 v v') (sum_of t (lanes t) b b') o'' ≡ sum_of t 1024 (delta_leaves t v b o) (delta_leaves t v' b' o'))
  delta_additive_calls v v' b b' o o' o'' ev ev' eb eb' eo eo' eo'' fv fv' fb fb' =
      let x : List ℕ = sum_of t 1024 v v' in
      let y : List ℕ = sum_of t (lanes t) b b' in
      let ex : length x ≡ 1024 = length-tab 1024 _ in
      let ey : length y ≡ lanes t = length-tab (lanes t) _ in (
        delta-good t v b o ev eo eb,
        delta-good t v' b' o' ev' eo' eb',
        delta-good t x y o'' ex eo'' ey,
        delta-leaves t x y o'' ex eo'' ey
            ∙ delta_additive s v v' b b' fv fv' fb fb'
            ∙ sym (ap₂ (sum_of t 1024) (delta-leaves t v b o ev eo eb) (delta-leaves t v' b' o' ev' eo' eb')),
      )

  -- and so it is with undelta.
  pub undelta_additive_calls : (n n' b b' o o' o'' : List ℕ) → length n ≡ 1024 → length n' ≡ 1024 → length b ≡ lanes t → length b' ≡ lanes t
      → length o ≡ 1024 → length o' ≡ 1024 → length o'' ≡ 1024
      → (answer_for (delta_takes t n b o) ≡ Done) × (answer_for (delta_takes t n' b' o') ≡ Done) × (answer_for (delta_takes t (sum_of t 1024 n n') (sum_of t (lanes t) b b') o'') ≡ Done)
      × (undelta_leaves t (sum_of t 1024 n n') (sum_of t (lanes t) b b') o'' ≡ sum_of t 1024 (undelta_leaves t n b o) (undelta_leaves t n' b' o'))
  undelta_additive_calls n n' b b' o o' o'' en en' eb eb' eo eo' eo'' =
      let x : List ℕ = sum_of t 1024 n n' in
      let y : List ℕ = sum_of t (lanes t) b b' in
      let ex : length x ≡ 1024 = length-tab 1024 _ in
      let ey : length y ≡ lanes t = length-tab (lanes t) _ in (
        delta-good t n b o en eo eb,
        delta-good t n' b' o' en' eo' eb',
        delta-good t x y o'' ex eo'' ey,
        undelta-leaves t x y o'' ex eo'' ey
            ∙ undelta_additive s n n' b b'
            ∙ sym (ap₂ (sum_of t 1024) (undelta-leaves t n b o en eo eb) (undelta-leaves t n' b' o' en' eo' eb')),
      )

module _ {t : ℕ} (s : Size t) (w : ℕ) (hw : w ≤ t) where
  -- 3. undelta_pack leaves what undelta leaves of what unpack left.
  pub undelta-pack_calls : (packed b o o' o'' : List ℕ) → length packed ≡ lanes t * w → length b ≡ lanes t
      → length o ≡ 1024 → length o' ≡ 1024 → length o'' ≡ 1024
      → (answer_for (undelta_pack_takes t w o packed b) ≡ Done) × (answer_for (pack_takes t w o' packed) ≡ Done) × (answer_for (delta_takes t (unpack_leaves t w o' packed) b o'') ≡ Done)
      × (undelta_pack_leaves t w o packed b ≡ undelta_leaves t (unpack_leaves t w o' packed) b o'')
  undelta-pack_calls packed b o o' o'' ep eb eo eo' eo'' =
      let n : List ℕ = unpack_of t w packed in
      let en : length n ≡ 1024 = length-unpack t w packed in
      rw (unpack-leaves t w o' packed hw eo' ep) (
        unpack-good t w o packed b hw eo ep eb,
        good_block t w o' packed hw eo' ep,
        delta-good t n b o'' en eo'' eb,
        undelta-pack-leaves t w o packed b hw eo ep eb ∙ undelta-pack-is s w packed b ∙ sym (undelta-leaves t n b o'' en eo'' eb),
      )

  -- 4. unfor_pack leaves each value that unpack left plus the reference.
  pub unfor_pack_calls : (packed : List ℕ) (reference : ℕ) (o o' : List ℕ) → length packed ≡ lanes t * w → length o ≡ 1024 → length o' ≡ 1024
      → (answer_for (pack_takes t w o packed) ≡ Done) × (answer_for (pack_takes t w o' packed) ≡ Done)
      × (unfor_pack_leaves t w o packed reference ≡ tab 1024 (λ p. plus t (get_or (unpack_leaves t w o' packed) p 0) reference))
  unfor_pack_calls packed reference o o' ep eo eo' = (
    good_block t w o packed hw eo ep,
    good_block t w o' packed hw eo' ep,
    unfor_pack-leaves t w o packed hw eo ep reference
        ∙ unfor_pack-is t w packed reference
        ∙ ap (λ x. tab 1024 (λ p. plus t (get_or x p 0) reference)) (sym (unpack-leaves t w o' packed hw eo' ep)),
  )

  -- 5. unfor_pack leaves at a place the value that for_pack took there exactly when the difference there is below 2^w.
  pub frame-restores_calls : (v : List ℕ) (reference : ℕ) (k o : List ℕ) → length v ≡ 1024 → length k ≡ lanes t * w → length o ≡ 1024
      → Elements t v → reference < 2 ^ t
      → (answer_for (pack_takes t w v k) ≡ Done) × (answer_for (pack_takes t w o (for_pack_leaves t w v k reference)) ≡ Done)
      × ((p : ℕ) → p < 1024
      → (get_or (unfor_pack_leaves t w o (for_pack_leaves t w v k reference) reference) p 0 ≡ get_or v p 0) ↔ (minus t (get_or v p 0) reference < 2 ^ w))
  frame-restores_calls v reference k o ev ek eo fv hr =
      let x : List ℕ = for_pack_of t w v reference in
      let ex : length x ≡ lanes t * w = length_for_pack t w v reference in
      rw (for_pack-leaves t w v k hw ev ek reference, unfor_pack-leaves t w o x hw eo ex reference) (
        good_block t w v k hw ev ek,
        good_block t w o x hw eo ex,
        λ p h. frame-restores s w hw v reference p h fv hr,
      )

  -- 6. undelta_pack leaves the block that delta took, of what pack left, exactly when each number that delta left is
  -- below 2^w.
  pub delta-restores_calls : (v b o k o' : List ℕ) → length v ≡ 1024 → length b ≡ lanes t
      → length o ≡ 1024 → length k ≡ lanes t * w → length o' ≡ 1024 → Elements t v → Elements t b
      → (answer_for (delta_takes t v b o) ≡ Done) × (answer_for (pack_takes t w (delta_leaves t v b o) k) ≡ Done)
      × (answer_for (undelta_pack_takes t w o' (pack_leaves t w (delta_leaves t v b o) k) b) ≡ Done)
      × ((undelta_pack_leaves t w o' (pack_leaves t w (delta_leaves t v b o) k) b ≡ v)
      ↔ ((p : ℕ) → p < 1024 → get_or (delta_leaves t v b o) p 0 < 2 ^ w))
  delta-restores_calls v b o k o' ev eb eo ek eo' fv fb =
      let d : List ℕ = delta_of t v b in
      let x : List ℕ = pack_of t w d in
      let ed : length d ≡ 1024 = length-delta t v b in
      let ex : length x ≡ lanes t * w = length-pack t w d in
      rw (delta-leaves t v b o ev eo eb, pack-leaves t w d k hw ed ek, undelta-pack-leaves t w o' x b hw eo' ex eb) (
        delta-good t v b o ev eo eb,
        good_block t w d k hw ed ek,
        unpack-good t w o' x b hw eo' ex eb,
        delta-restores s w hw v b ev fv fb,
      )
