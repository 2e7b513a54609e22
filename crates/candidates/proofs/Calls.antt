-- The laws behind the calls on one block: what is measured, and what is answered and left by the tests.
-- Assumes nothing.
use Rattle.std.specs.Prelude.{Ok, Err}
use Rattle.std.proofs.Common.{◌≡◌, ℕ, ◌+◌, ◌-◌, ◌*◌, ◌^◌, ◌<◌, ◌≤◌, Bool, true, false, eqb, leb, List, [], ◌∷◌, length, take, sym, refl, ap, ◌∙◌, ap₂, arith, length-append, pow_pos, eq-eqb, ne_eqb, eqb-true, le-leb, leb-true}
use borrow.Author.Tests.{lt-leb}
use Rattle.lists.specs.Numbers.{Elements, minus}
use Rattle.lists.specs.Pick.{pick, both}
use Rattle.lists.specs.Tab.{over}
use Rattle.lists.specs.Ends.{highest_of, lowest_of}
use Rattle.lists.proofs.Tests.{both_true}
use Rattle.lists.proofs.Highs.{highest_bound, highest-below}
use Rattle.lists.proofs.Lows.{lowest_bound}
use Rattle.places.specs.Sizes.{t64}
use Rattle.deltas.specs.Deltas.{for_pack_of}
use Rattle.deltas.proofs.Lanes.{length_for_pack}
use Rattle.packing.specs.Packed.{pack_of}
use Rattle.packing.proofs.Rounds.{length-pack}
use Rattle.little.specs.Little.{write_leaves, all_bytes}
use Rattle.little.proofs.Bytes.{write_all, length_all}
use Rattle.contents.specs.declared.FileRefusal.{FileRefusal}
use Rattle.contents.specs.declared.FileRefusal.TheVariants.{Block, Room}
use Rattle.contents.specs.declared.Range.{Range}
use Rattle.contents.specs.Answers.{FileAnswer, file_answer, left, giving}
use Rattle.contents.specs.Contents.{no_entry, any_range}
use Rattle.contents.proofs.Answers.{passed, stopped, none_left}
use Rattle.candidates.specs.declared.Measured.{Measured}
use Rattle.candidates.specs.declared.Measures.{Measures}
use Rattle.candidates.specs.Calls.{entry_for, lay_tests, said_of, laid_of, lay_leaves, measured_of, entry_with, is_ready, by_tests, plain_leaves, frame_leaves, steps_leaves, by_leaves}
use Rattle.candidates.specs.Candidates.{base_of, differences, chosen, body_for}
use Rattle.candidates.specs.Measures.{measures_of, widths_by, entry_by, shorter_part, plain_by, frame_by, steps_by, words_by}
use Rattle.bodies.specs.Ranges.{true_range}
use Rattle.candidates.specs.Widths.{bits, width_of}
use Rattle.candidates.proofs.Choice.{length-base, body_sized, entry-chosen, words-chosen, sized_by, front-over}
use Rattle.candidates.proofs.Widths.{width-most, frame-highest, minus-low}

pub lowest-highest : (values : List ℕ) → length values ≡ 1024 → lowest_of values ≤ highest_of values
lowest-highest values long = omega (arith, lowest_bound values 0 (omega arith), highest_bound values 0 (omega arith))

-- By the true range of a block and the true width of its differences, what is measured is what is measured of it.
pub widths_measured : (values : List ℕ) → length values ≡ 1024 → Elements t64 values
    → widths_by (true_range values) (width_of (differences values)) ≡ measures_of values
unfolding measures_of widths_by width_of
widths_measured values long fits =
    let low : lowest_of values ≤ highest_of values = lowest-highest values long in
    let high : highest_of values < 2 ^ 64 = highest-below (2 ^ 64) values (pow_pos 64) (λ i _. fits i) in
    let wraps : minus t64 (highest_of values) (lowest_of values) ≡ highest_of values - lowest_of values = minus-low (highest_of values) (lowest_of values) low high in
    λ j. record {
      low = lowest_of values;
      plain = bits (highest_of values);
      frame = ap bits (wraps ∙ sym (frame-highest values long fits)) j;
      steps = bits (highest_of (differences values));
    }

-- Three lists whose fronts the candidates were written over hold them there.
pub fronts : (m : Measures) (values a b c x y z : List ℕ)
    → x ≡ over 0 (plain_by m values) a
    → y ≡ over 0 (frame_by m values) b
    → z ≡ over 0 (steps_by m values) c
    → shorter_part (shorter_part (take (16 * m.plain) x) (take (16 * m.frame) y)) (take (16 + 16 * m.steps) z) ≡ words_by m values
unfolding words_by
fronts m values a b c x y z ex ey ez =
    ap₂ shorter_part
    (ap₂ shorter_part
    (ap (take (16 * m.plain)) ex ∙ front-over (pack_of t64 m.plain values) a (16 * m.plain) (length-pack t64 m.plain values))
    (ap (take (16 * m.frame)) ey ∙ front-over (for_pack_of t64 m.frame values m.low) b (16 * m.frame) (length_for_pack t64 m.frame values m.low)))
    (ap (take (16 + 16 * m.steps)) ez
    ∙ front-over (steps_by m values) c (16 + 16 * m.steps)
    (length-append (base_of values) (pack_of t64 m.steps (differences values)) ∙ ap₂ ◌+◌ (length-base values) (length-pack t64 m.steps (differences values))))

-- What is measured of a list, by its length.
module _ (values : List ℕ) where
  pub measured_there : length values ≡ 1024
      → measured_of values ≡ record { entry = (chosen values).entry; range = true_range values; steps = width_of (differences values) }
  unfolding measured_of
  measured_there long =
      ap (λ b. pick b (record { entry = (chosen values).entry; range = true_range values; steps = width_of (differences values) }) (record { entry = no_entry; range = any_range; steps = 0 }))
      (eq-eqb (length values) 1024 long)

  pub measured_missing : (length values ≡ 1024 → ⊥) → measured_of values ≡ record { entry = no_entry; range = any_range; steps = 0 }
  unfolding measured_of
  measured_missing bad =
      ap (λ b. pick b (record { entry = (chosen values).entry; range = true_range values; steps = width_of (differences values) }) (record { entry = no_entry; range = any_range; steps = 0 }))
      (ne_eqb (length values) 1024 bad)

  -- Its entry is the one that the writer gives.
  pub measured_entry : (measured_of values).entry ≡ entry_for values
  unfolding measured_of entry_for
  measured_entry = go (eqb (length values) 1024)
    where
      go : (t : Bool) → (pick {A = Measured} t (record { entry = (chosen values).entry; range = true_range values; steps = width_of (differences values) }) (record { entry = no_entry; range = any_range; steps = 0 })).entry ≡ pick t (chosen values).entry no_entry
      go true = refl
      go false = refl

module _ (values : List ℕ) where
  pub entry_there : length values ≡ 1024 → entry_for values ≡ (chosen values).entry
  unfolding entry_for
  entry_there long = ap (λ b. pick b (chosen values).entry no_entry) (eq-eqb (length values) 1024 long)

  pub entry_missing : (length values ≡ 1024 → ⊥) → entry_for values ≡ no_entry
  unfolding entry_for
  entry_missing bad = ap (λ b. pick b (chosen values).entry no_entry) (ne_eqb (length values) 1024 bad)

module _ (values output : List ℕ) where
  -- An answer decides what is given and left.
  laid_by : (a : FileAnswer) → file_answer (lay_tests values output) ≡ a
      → (laid_of values output ≡ giving a (said_of values)) × (lay_leaves values output ≡ left a (over 0 (body_for values) output) output)
  unfolding laid_of lay_leaves
  laid_by a e = (
    ap (λ x. giving x (said_of values)) e,
    ap (λ x. left x (over 0 (body_for values) output) output) e,
  )

  pub bad_values : (length values ≡ 1024 → ⊥) → (Err Block ≡ laid_of values output) × (output ≡ lay_leaves values output)
  bad_values bad =
      let l = laid_by (Err Block) (stopped _ _ (ne_eqb (length values) 1024 bad)) in
      (sym l.0, sym l.1)

  module _ (long : length values ≡ 1024) where
    pub no_room : length output < (chosen values).entry.length → (Err Room ≡ laid_of values output) × (output ≡ lay_leaves values output)
    no_room h =
        let l = laid_by (Err Room)
        (passed _ _ (eq-eqb (length values) 1024 long) ∙ stopped _ _ (lt-leb (length (body_for values)) (length output) (omega (arith, body_sized values)))) in
        (sym l.0, sym l.1)

    pub laid_there : (chosen values).entry.length ≤ length output
        → (laid_of values output ≡ Ok (said_of values)) × (lay_leaves values output ≡ over 0 (body_for values) output)
    laid_there h =
        let room : length (body_for values) ≤ length output = omega (arith, body_sized values) in
        laid_by (Ok tt) (passed _ _ (eq-eqb (length values) 1024 long) ∙ passed _ _ (le-leb (length (body_for values)) (length output) room) ∙ none_left)

-- The entry by a range and a width, by whether that is one.
module _ (range : Range) (steps : ℕ) where
  pub with_there : steps ≤ 64 → entry_with range steps ≡ entry_by (widths_by range steps)
  unfolding entry_with
  with_there h = ap (λ b. pick b (entry_by (widths_by range steps)) no_entry) (le-leb steps 64 h)

  pub with_missing : 64 < steps → entry_with range steps ≡ no_entry
  unfolding entry_with
  with_missing h = ap (λ b. pick b (entry_by (widths_by range steps)) no_entry) (lt-leb steps 64 h)

-- ---- laid down by what was measured

-- Where the tests give an answer, that decides what is left.
module _ (range : Range) (steps : ℕ) (values : List ℕ) where
  abbrev Refuses : FileAnswer → Type 0
  Refuses a = (plain frame rest output : List ℕ) → (plain ≡ plain_leaves a range steps values plain) × ((frame ≡ frame_leaves a range steps values frame) × ((rest ≡ steps_leaves a range steps values rest) × (output ≡ by_leaves a range steps values output)))

  pub block_refuses : Refuses (Err Block)
  unfolding plain_leaves frame_leaves steps_leaves by_leaves
  block_refuses plain frame rest output = (refl, (refl, (refl, refl)))

  pub room-refuses : Refuses (Err Room)
  unfolding plain_leaves frame_leaves steps_leaves by_leaves
  room-refuses plain frame rest output = (refl, (refl, (refl, refl)))

  module _ (plain frame rest output : List ℕ) where
    pub by_bad_values : (length values ≡ 1024 → ⊥) → Err Block ≡ file_answer (by_tests range steps values plain frame rest output)
    by_bad_values bad = sym (stopped _ _ (ne_eqb (length values) 1024 bad))

    module _ (long : length values ≡ 1024) where
      pub by_bad_rooms : is_ready steps plain frame rest ≡ false → Err Room ≡ file_answer (by_tests range steps values plain frame rest output)
      by_bad_rooms bad = sym (passed _ _ (eq-eqb (length values) 1024 long) ∙ stopped _ _ bad)

      module _ (ready : is_ready steps plain frame rest ≡ true) where
        pub by_no-room : length output < (entry_by (widths_by range steps)).length → Err Room ≡ file_answer (by_tests range steps values plain frame rest output)
        by_no-room h =
            sym
            (passed _ _ (eq-eqb (length values) 1024 long)
            ∙ passed _ _ ready
            ∙ stopped _ _ (lt-leb (8 * length (words_by (widths_by range steps) values)) (length output) (omega (arith, sized_by (widths_by range steps) values))))

        pub by_done : (entry_by (widths_by range steps)).length ≤ length output → Ok tt ≡ file_answer (by_tests range steps values plain frame rest output)
        by_done h =
            sym
            (passed _ _ (eq-eqb (length values) 1024 long)
            ∙ passed _ _ ready
            ∙ passed _ _ (le-leb (8 * length (words_by (widths_by range steps) values)) (length output) (omega (arith, sized_by (widths_by range steps) values)))
            ∙ none_left)

        -- What is ready: the rooms are of these lengths, and the width is one.
        pub ready_says : (length plain ≡ 1024) × ((length frame ≡ 1024) × ((length rest ≡ 1040) × (steps ≤ 64)))
        ready_says =
            let t = both_true _ _ ready in
            let a = both_true _ _ t.0 in
            let b = both_true _ _ t.1 in
            (eqb-true _ _ a.0, (eqb-true _ _ a.1, (eqb-true _ _ b.0, leb-true _ _ b.1)))

  -- Where it is done, each room has its body at the front, and the output the bytes of the shortest.
  pub leaves-done : (plain frame rest output x y z o : List ℕ)
      → x ≡ over 0 (plain_by (widths_by range steps) values) plain
      → y ≡ over 0 (frame_by (widths_by range steps) values) frame
      → z ≡ over 0 (steps_by (widths_by range steps) values) rest
      → o ≡ write_leaves 8 (words_by (widths_by range steps) values) output
      → (entry_by (widths_by range steps)).length ≤ length output
      → (x ≡ plain_leaves (Ok tt) range steps values plain) × ((y ≡ frame_leaves (Ok tt) range steps values frame) × ((z ≡ steps_leaves (Ok tt) range steps values rest) × (o ≡ by_leaves (Ok tt) range steps values output)))
  unfolding plain_leaves frame_leaves steps_leaves by_leaves
  leaves-done plain frame rest output x y z o ex ey ez eo room =
      let m = widths_by range steps in
      (ex, (ey, (ez, eo ∙ write_all 8 (words_by m values) output (omega (arith, length_all 8 (words_by m values), sized_by m values)))))

-- By the true range and the true width of a block this is the writer's body for it.
module _ (values : List ℕ) (long : length values ≡ 1024) (fits : Elements t64 values) where
  abbrev wide : ℕ
  wide = width_of (differences values)

  pub true-entry : entry_with (true_range values) wide ≡ (chosen values).entry
  true-entry =
      with_there (true_range values) wide (width-most (differences values)) ∙ ap entry_by (widths_measured values long fits) ∙ entry-chosen values

  pub true-words : words_by (widths_by (true_range values) wide) values ≡ (chosen values).words
  true-words = ap (λ m. words_by m values) (widths_measured values long fits) ∙ words-chosen values

  pub true-answer : (plain frame rest output : List ℕ) → length plain ≡ 1024 → length frame ≡ 1024 → length rest ≡ 1040
      → file_answer (by_tests (true_range values) wide values plain frame rest output) ≡ file_answer (lay_tests values output)
  unfolding body_for
  true-answer plain frame rest output lp lf lr =
      let ready : is_ready wide plain frame rest ≡ true =
      ap₂ both (ap₂ both (eq-eqb (length plain) 1024 lp) (eq-eqb (length frame) 1024 lf)) (ap₂ both (eq-eqb (length rest) 1040 lr) (le-leb wide 64 (width-most (differences values)))) in
      passed _ _ (eq-eqb (length values) 1024 long)
      ∙ passed _ _ ready
      ∙ ap (λ n. file_answer ((leb n (length output), Err Room) ∷ [])) (ap (λ x. 8 * length x) true-words ∙ sym (length_all 8 (chosen values).words))
      ∙ sym (passed _ _ (eq-eqb (length values) 1024 long))

  pub true-leaves : (a : FileAnswer) (output : List ℕ) → by_leaves a (true_range values) wide values output ≡ left a (over 0 (body_for values) output) output
  unfolding by_leaves body_for
  true-leaves a output = ap (λ x. left a (over 0 (all_bytes 8 x) output) output) true-words

  -- So a block that is laid down by what is measured of it is answered and left as one that is laid down at once.
  pub laid_refused : (r : FileRefusal) (output : List ℕ) → Err r ≡ file_answer (lay_tests values output) → Err r ≡ laid_of values output
  laid_refused r output e = sym (laid_by values output (Err r) (sym e)).0

  pub laid_done : (output : List ℕ) → Ok tt ≡ file_answer (lay_tests values output) → Ok (said_of values) ≡ laid_of values output
  laid_done output e = sym (laid_by values output (Ok tt) (sym e)).0

  pub laid_left : (a : FileAnswer) (output : List ℕ) → a ≡ file_answer (lay_tests values output) → left a (over 0 (body_for values) output) output ≡ lay_leaves values output
  laid_left a output e = sym (laid_by values output a (sym e)).1
