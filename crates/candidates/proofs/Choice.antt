-- The choice among the candidates: a body is as long as its entry says, the choice by entries and the choice by words
-- are one, no candidate is shorter than the chosen one, and no equally long one is of a lower kind.
-- Assumes nothing.
use Rattle.std.proofs.Common.{◌≡◌, ℕ, zero, suc, ◌*◌, ◌<◌, ◌≤◌, Bool, true, false, eqb, leb, List, length, take, sym, refl, ap, ◌∙◌, subst, inl, inr, arith, length-append, length-take-le, le-leb, leb-false, leb-true}
use borrow.Author.Tests.{lt-leb}
use Rattle.lists.specs.Pick.{pick}
use Rattle.lists.specs.Tab.{over}
use Rattle.lists.specs.Ends.{lowest_of}
use Rattle.lists.proofs.Overs.{over-front}
use Rattle.lists.proofs.Tabs.{length-tab}
use Rattle.lists.proofs.Lows.{lowest-element}
use Rattle.places.specs.Sizes.{t64}
use Rattle.packing.specs.Packed.{pack_of}
use Rattle.packing.proofs.Rounds.{length-pack}
use Rattle.deltas.proofs.Lanes.{length_for_pack}
use Rattle.little.specs.Little.{all_bytes}
use Rattle.little.proofs.Little.{same-leb}
use Rattle.little.proofs.Bytes.{length_all}
use Rattle.contents.specs.declared.Entry.{Entry}
use Rattle.contents.specs.Contents.{is_laid_out}
use Rattle.contents.proofs.Bytes.{Fits}
use Rattle.contents.proofs.Laid.{laid_plain}
use Rattle.bodies.specs.Bodies.{has_good_runs}
use Rattle.bodies.proofs.Bodies.{other-runs}
use Rattle.candidates.specs.declared.Measures.{Measures}
use Rattle.candidates.specs.Candidates.{Candidate, packed_entry, plain_at, frame_at, steps_at, plain, frame, steps, base_of, differences, framed, shorter, chosen, body_for}
use Rattle.candidates.specs.Measures.{measures_of, shorter_entry, entry_by, shorter_part, plain_by, frame_by, steps_by, words_by}
use Rattle.candidates.specs.Restored.{candidate_at, packs, candidate}
use Rattle.candidates.specs.Widths.{width_of}
use Rattle.candidates.proofs.Widths.{width-most}

-- There is a base word for each lane.
pub length-base : (values : List ℕ) → length (base_of values) ≡ 16
unfolding base_of
length-base values = length-tab 16 _

-- The body of a candidate has as many bytes as its entry says.
abbrev pub Sized : Candidate → Type 0
Sized c = c.entry.length ≡ 8 * length c.words

module _ (w : ℕ) (values : List ℕ) where
  pub plain_sized : Sized (plain_at w values)
  unfolding plain_at
  plain_sized = omega (arith, length-pack t64 w values)

  pub frame_sized : Sized (frame_at w values)
  unfolding frame_at
  frame_sized = omega (arith, length_for_pack t64 w values (lowest_of values))

  pub steps_sized : Sized (steps_at w values)
  unfolding steps_at
  steps_sized =
      omega (arith, length-append (base_of values) (pack_of t64 w (differences values)), length-base values, length-pack t64 w (differences values))

module _ (a b : Candidate) where
  pub shorter-entry : (shorter a b).entry ≡ shorter_entry a.entry b.entry
  unfolding shorter shorter_entry
  shorter-entry = go (leb a.entry.length b.entry.length)
    where
      go : (t : Bool) → (pick t a b).entry ≡ pick t a.entry b.entry
      go true = refl
      go false = refl

  pub shorter_sized : Sized a → Sized b → Sized (shorter a b)
  unfolding shorter
  shorter_sized sa sb = go (leb a.entry.length b.entry.length)
    where
      go : (t : Bool) → Sized (pick t a b)
      go true = sa
      go false = sb

  -- The shorter body is the one of the shorter entry.
  pub shorter-words : Sized a → Sized b → (shorter a b).words ≡ shorter_part a.words b.words
  unfolding shorter shorter_part
  shorter-words sa sb =
      go (leb a.entry.length b.entry.length)
      ∙ ap (λ t. pick t a.words b.words)
      (same-leb a.entry.length b.entry.length (length a.words) (length b.words) (λ h. omega arith) (λ h. omega arith))
    where
      go : (t : Bool) → (pick t a b).words ≡ pick t a.words b.words
      go true = refl
      go false = refl

  -- Neither is shorter than what is taken.
  pub shorter-least : ((shorter a b).entry.length ≤ a.entry.length) × ((shorter a b).entry.length ≤ b.entry.length)
  unfolding shorter
  shorter-least = go (leb a.entry.length b.entry.length) refl
    where
      go : (t : Bool) → leb a.entry.length b.entry.length ≡ t
          → ((pick t a b).entry.length ≤ a.entry.length) × ((pick t a b).entry.length ≤ b.entry.length)
      go true e = let h : a.entry.length ≤ b.entry.length = leb-true _ _ e in (omega arith, h)
      go false e = let h : b.entry.length < a.entry.length = leb-false _ _ e in (omega arith, omega arith)

module _ (values : List ℕ) where
  first_sized : Sized (shorter (plain values) (frame values))
  first_sized = shorter_sized (plain values) (frame values) (plain_sized _ values) (frame_sized _ values)

  pub chosen_sized : Sized (chosen values)
  unfolding chosen
  chosen_sized = shorter_sized (shorter (plain values) (frame values)) (steps values) first_sized (steps_sized _ values)

  -- The body of the chosen candidate has as many bytes as its entry says.
  pub body_sized : length (body_for values) ≡ (chosen values).entry.length
  unfolding body_for
  body_sized = length_all 8 (chosen values).words ∙ sym chosen_sized

  -- The choice by what was measured is the choice.
  pub entry-chosen : entry_by (measures_of values) ≡ (chosen values).entry
  unfolding chosen entry_by measures_of plain_at frame_at steps_at
  entry-chosen =
      sym
      (shorter-entry (shorter (plain values) (frame values)) (steps values)
      ∙ ap (λ e. shorter_entry e (steps values).entry) (shorter-entry (plain values) (frame values)))

  pub words-chosen : words_by (measures_of values) values ≡ (chosen values).words
  unfolding chosen words_by measures_of plain_at frame_at steps_at
  words-chosen =
      sym
      (shorter-words (shorter (plain values) (frame values)) (steps values) first_sized (steps_sized _ values)
      ∙ ap (λ x. shorter_part x (steps values).words) (shorter-words (plain values) (frame values) (plain_sized _ values) (frame_sized _ values)))

-- By any measures the entry that is chosen says how long the body is that is chosen.
pub sized_by : (m : Measures) (values : List ℕ) → (entry_by m).length ≡ 8 * length (words_by m values)
unfolding entry_by words_by
sized_by m values =
    ap (λ e. e.length) (sym entries) ∙ all_sized ∙ ap (λ x. 8 * length x) words
  where
    p : Candidate
    p = record { entry = packed_entry 0 m.plain 0 0; words = plain_by m values }

    f : Candidate
    f = record { entry = packed_entry 1 m.frame 0 m.low; words = frame_by m values }

    s : Candidate
    s = record { entry = packed_entry 2 m.steps 128 0; words = steps_by m values }

    p_sized : Sized p
    p_sized = omega (arith, length-pack t64 m.plain values)

    f_sized : Sized f
    f_sized = omega (arith, length_for_pack t64 m.frame values m.low)

    s_sized : Sized s
    s_sized =
        omega (arith, length-append (base_of values) (pack_of t64 m.steps (differences values)), length-base values, length-pack t64 m.steps (differences values))

    all_sized : Sized (shorter (shorter p f) s)
    all_sized = shorter_sized (shorter p f) s (shorter_sized p f p_sized f_sized) s_sized

    entries : (shorter (shorter p f) s).entry ≡ shorter_entry (shorter_entry p.entry f.entry) s.entry
    entries = shorter-entry (shorter p f) s ∙ ap (λ e. shorter_entry e s.entry) (shorter-entry p f)

    words : (shorter (shorter p f) s).words ≡ shorter_part (shorter_part p.words f.words) s.words
    words =
        shorter-words (shorter p f) s (shorter_sized p f p_sized f_sized) s_sized
        ∙ ap (λ x. shorter_part x s.words) (shorter-words p f p_sized f_sized)

-- The chosen candidate is one of the three: kind 0 where no other is shorter, kind 1 where it is shorter than kind 0
-- and kind 2 is not shorter still, kind 2 where it is shorter than both.
pub data Which (values : List ℕ) : Type 0 where
  is_plain : chosen values ≡ plain values → (plain values).entry.length ≤ (frame values).entry.length
      → (plain values).entry.length ≤ (steps values).entry.length → Which values
  is-frame : chosen values ≡ frame values → (frame values).entry.length < (plain values).entry.length
      → (frame values).entry.length ≤ (steps values).entry.length → Which values
  is-steps : chosen values ≡ steps values → (steps values).entry.length < (plain values).entry.length
      → (steps values).entry.length < (frame values).entry.length → Which values

pub which : (values : List ℕ) → Which values
unfolding chosen shorter
which values = go (leb p.entry.length f.entry.length) refl
  where
    p : Candidate
    p = plain values

    f : Candidate
    f = frame values

    s : Candidate
    s = steps values

    after_plain : (t : Bool) → leb p.entry.length s.entry.length ≡ t → shorter p f ≡ p → p.entry.length ≤ f.entry.length → Which values
    after_plain true e first h = is_plain (ap (λ x. shorter x s) first ∙ ap (λ t. pick t p s) e) h (leb-true _ _ e)
    after_plain false e first h =
        let l : s.entry.length < p.entry.length = leb-false _ _ e in
        is-steps (ap (λ x. shorter x s) first ∙ ap (λ t. pick t p s) e) l (omega arith)

    after_frame : (t : Bool) → leb f.entry.length s.entry.length ≡ t → shorter p f ≡ f → f.entry.length < p.entry.length → Which values
    after_frame true e first h = is-frame (ap (λ x. shorter x s) first ∙ ap (λ t. pick t f s) e) h (leb-true _ _ e)
    after_frame false e first h =
        let l : s.entry.length < f.entry.length = leb-false _ _ e in
        is-steps (ap (λ x. shorter x s) first ∙ ap (λ t. pick t f s) e) (omega arith) l

    go : (t : Bool) → leb p.entry.length f.entry.length ≡ t → Which values
    go true e = after_plain (leb p.entry.length s.entry.length) refl (ap (λ t. pick t p f) e) (leb-true _ _ e)
    go false e = after_frame (leb f.entry.length s.entry.length) refl (ap (λ t. pick t p f) e) (leb-false _ _ e)

-- No body is longer than 8,192 bytes, which the packed block has at width 64.
pub chosen_short : (values : List ℕ) → (chosen values).entry.length ≤ 8192
unfolding chosen plain_at
chosen_short values =
    let a = shorter-least (plain values) (frame values) in
    let b = shorter-least (shorter (plain values) (frame values)) (steps values) in
    let w : width_of values ≤ 64 = width-most values in
    omega (arith, a, b)

-- What holds of each of the three holds of the chosen one.
of-chosen : (values : List ℕ) (P : Candidate → Type 0) → P (plain values) → P (frame values) → P (steps values) → P (chosen values)
of-chosen values P p f s =
    elim (which values) [
      | is_plain e _ _ ↦ subst P (sym e) p
      | is-frame e _ _ ↦ subst P (sym e) f
      | is-steps e _ _ ↦ subst P (sym e) s
    ]

module _ (values : List ℕ) where
  -- The chosen candidate is the one of its kind,
  pub chosen-candidate : chosen values ≡ candidate (chosen values).entry.kind values
  unfolding candidate_at packs plain_at frame_at steps_at
  chosen-candidate = of-chosen values (λ c. c ≡ candidate c.entry.kind values) refl refl refl

  -- which is 0, 1 or 2,
  pub chosen_kind : (chosen values).entry.kind ≤ 2
  unfolding plain_at frame_at steps_at
  chosen_kind = of-chosen values (λ c. c.entry.kind ≤ 2) (omega arith) (omega arith) (omega arith)

  -- and its width is the least one that holds what it packs.
  pub chosen-width : (chosen values).entry.width ≡ width_of (packs (chosen values).entry.kind values)
  unfolding packs plain_at frame_at steps_at
  chosen-width = of-chosen values (λ c. c.entry.width ≡ width_of (packs c.entry.kind values)) refl refl refl

  -- The candidates by their kind are the three.
  pub candidates_are : (candidate 0 values ≡ plain values) × ((candidate 1 values ≡ frame values) × (candidate 2 values ≡ steps values))
  unfolding candidate_at packs
  candidates_are = (refl, (refl, refl))

  -- What an entry says is the length of the body in bytes.
  pub candidate_sized : (kind : ℕ) → length (all_bytes 8 (candidate kind values).words) ≡ (candidate kind values).entry.length
  unfolding candidate_at
  candidate_sized kind = length_all 8 (candidate kind values).words ∙ sym (go (eqb kind 0) (eqb kind 1) (width_of (packs kind values)))
    where
      go : (a b : Bool) (w : ℕ) → Sized (pick a (plain_at w values) (pick b (frame_at w values) (steps_at w values)))
      go true b w = plain_sized w values
      go false true w = frame_sized w values
      go false false w = steps_sized w values

  -- No candidate has a shorter body, and none of an equally long body has a lower kind.
  pub chosen_shortest : (kind : ℕ) → kind ≤ 2
      → ((chosen values).entry.length ≤ (candidate kind values).entry.length)
      × ((chosen values).entry.length ≡ (candidate kind values).entry.length → (chosen values).entry.kind ≤ kind)
  unfolding candidate_at packs plain_at frame_at steps_at
  chosen_shortest kind h = go kind h (which values)
    where
      go : (kind : ℕ) → kind ≤ 2 → Which values
          → ((chosen values).entry.length ≤ (candidate kind values).entry.length)
          × ((chosen values).entry.length ≡ (candidate kind values).entry.length → (chosen values).entry.kind ≤ kind)
      go zero h (is_plain e a b) = rw e (omega arith, λ same. omega arith)
      go zero h (is-frame e a b) = rw e (omega arith, λ same. omega arith)
      go zero h (is-steps e a b) = rw e (omega arith, λ same. omega arith)
      go (suc zero) h (is_plain e a b) = rw e (omega arith, λ same. omega arith)
      go (suc zero) h (is-frame e a b) = rw e (omega arith, λ same. omega arith)
      go (suc zero) h (is-steps e a b) = rw e (omega arith, λ same. omega arith)
      go (suc (suc zero)) h (is_plain e a b) = rw e (omega arith, λ same. omega arith)
      go (suc (suc zero)) h (is-frame e a b) = rw e (omega arith, λ same. omega arith)
      go (suc (suc zero)) h (is-steps e a b) = rw e (omega arith, λ same. omega arith)
      go (suc (suc (suc kind))) h w = absurd (omega arith)

  -- Its entry is as laid out,
  pub chosen_laid : is_laid_out (chosen values).entry ≡ true
  unfolding plain_at frame_at steps_at
  chosen_laid =
      of-chosen values (λ c. is_laid_out c.entry ≡ true)
      ((laid_plain (plain values).entry).1 (refl, inl (refl, (refl, (width-most values, omega arith)))))
      ((laid_plain (frame values).entry).1 (refl, inr (inl (refl, (width-most (framed values), omega arith)))))
      ((laid_plain (steps values).entry).1 (refl, inr (inr (inl (refl, (refl, (width-most (differences values), omega arith)))))))

  -- its fields fit their bytes,
  pub chosen-fits : Fits (chosen values).entry
  unfolding plain_at frame_at steps_at
  chosen-fits =
      let kind : (chosen values).entry.kind ≤ 2 = chosen_kind in
      let width : (chosen values).entry.width ≤ 64 = subst (λ w. w ≤ 64) (sym chosen-width) (width-most (packs (chosen values).entry.kind values)) in
      let length : (chosen values).entry.length ≤ 8192 = chosen_short values in
      record { kind = omega arith; width = omega arith; zero = chosen-zero; length = omega arith; reference = chosen_reference }
    where
      chosen-zero : (chosen values).entry.zero < 65536
      chosen-zero = of-chosen values (λ c. c.entry.zero < 65536) (omega arith) (omega arith) (omega arith)

      chosen_reference : (chosen values).entry.reference < 18446744073709551616
      chosen_reference = of-chosen values (λ c. c.entry.reference < 18446744073709551616) (omega arith) (lowest-element values) (omega arith)

  -- and it has no runs.
  pub chosen-runs : (body : List ℕ) → has_good_runs (chosen values).entry body ≡ true
  chosen-runs body = other-runs (chosen values).entry body (λ k. omega (arith, chosen_kind))

-- The shorter of two entries, by the test.
pub entry_first : (a b : Entry) → a.length ≤ b.length → a ≡ shorter_entry a b
unfolding shorter_entry
entry_first a b h = sym (ap (λ t. pick t a b) (le-leb a.length b.length h))

pub entry_second : (a b : Entry) → b.length < a.length → b ≡ shorter_entry a b
unfolding shorter_entry
entry_second a b h = sym (ap (λ t. pick t a b) (lt-leb a.length b.length h))

-- The fronts of two lists, of which the shorter one is handed back.
module _ (a b : List ℕ) (n k : ℕ) (ha : n ≤ length a) (hb : k ≤ length b) where
  pub part-first : n ≤ k → take n a ≡ shorter_part (take n a) (take k b)
  unfolding shorter_part
  part-first h =
      sym (ap (λ t. pick t (take n a) (take k b)) (le-leb (length (take n a)) (length (take k b)) (omega (arith, length-take-le n a ha, length-take-le k b hb))))

  pub part_second : k < n → take k b ≡ shorter_part (take n a) (take k b)
  unfolding shorter_part
  part_second h =
      sym (ap (λ t. pick t (take n a) (take k b)) (lt-leb (length (take n a)) (length (take k b)) (omega (arith, length-take-le n a ha, length-take-le k b hb))))

-- The front of a list that was written over is what was written.
pub front-over : (x l : List ℕ) (n : ℕ) → length x ≡ n → take n (over 0 x l) ≡ x
front-over x l n e = ap (λ k. take k (over 0 x l)) (sym e) ∙ over-front x l
