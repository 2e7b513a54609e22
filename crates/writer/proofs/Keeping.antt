-- What is kept of the blocks grows block by block, and a block that is laid down by what was kept of it is written as
-- one that is measured then.
-- Assumes nothing.
use mathlib.Core.List.{List}
use mathlib.Core.Path.{◌≡◌, sym, ap, ap₂, ◌∙◌}
use Prim.Native.Nat.{ℕ, ◌+◌, ◌-◌, ◌*◌, ◌≤◌, ◌<◌}
use native.Mathlib.Decide.{dec_lt}
use native.Mathlib.Omega.{arith}
use lib.ListN.{length, get_or, set, length-set}
use lib.Seq.{get_or-set_same, get_or-set_other}
use borrow.Rule.Slice.PartMut.{mid_of, put_mid}
use Rattle.lists.specs.Ends.{lowest_of, highest_of}
use Rattle.lists.specs.Numbers.{Elements}
use Rattle.lists.specs.Tab.{over}
use Rattle.lists.proofs.Overs.{length_over}
use Rattle.places.specs.Sizes.{t64}
use Rattle.contents.specs.declared.Entry.{Entry}
use Rattle.contents.specs.declared.Range.{Range}
use Rattle.contents.specs.Answers.{FileAnswer, file_answer}
use Rattle.contents.specs.Bytes.{entry_leaves}
use Rattle.contents.specs.Contents.{entry_size, contents_size}
use Rattle.contents.proofs.Bytes.{entry-fits}
use Rattle.bodies.specs.Ranges.{true_range}
use Rattle.candidates.specs.Calls.{lay_tests, lay_leaves, entry_with, by_tests, by_leaves}
use Rattle.candidates.specs.Candidates.{chosen, body_for, differences}
use Rattle.candidates.specs.Widths.{width_of}
use Rattle.candidates.proofs.Calls.{true-answer, true-leaves, true-entry, laid_left}
use Rattle.candidates.proofs.Choice.{body_sized}
use Rattle.writer.specs.InnerKept.{Kept, Rooms}
use Rattle.writer.proofs.Laying.{written_entry, one_laid}

-- Three numbers that are stored one after another.
module _ (l : List ℕ) (p a b c : ℕ) (room : p + 2 < length l) where
  stored : List ℕ
  stored = set (set (set l p a) (p + 1) b) (p + 2) c

  two_long : length (set (set l p a) (p + 1) b) ≡ length l
  two_long = length-set (set l p a) (p + 1) b ∙ length-set l p a

  first_stored : get_or stored p 0 ≡ a
  unfolding stored
  first_stored =
      get_or-set_other (set (set l p a) (p + 1) b) (p + 2) p c 0 (λ e. omega arith)
      ∙ get_or-set_other (set l p a) (p + 1) p b 0 (λ e. omega arith)
      ∙ get_or-set_same l p a 0 (omega arith)

  second_stored : get_or stored (p + 1) 0 ≡ b
  unfolding stored
  second_stored =
      get_or-set_other (set (set l p a) (p + 1) b) (p + 2) (p + 1) c 0 (λ e. omega arith)
      ∙ get_or-set_same (set l p a) (p + 1) b 0 (omega (arith, length-set l p a))

  third_stored : get_or stored (p + 2) 0 ≡ c
  unfolding stored
  third_stored = get_or-set_same (set (set l p a) (p + 1) b) (p + 2) c 0 (omega (arith, two_long))

  before_stored : (k : ℕ) → k < p → get_or stored k 0 ≡ get_or l k 0
  unfolding stored
  before_stored k h =
      get_or-set_other (set (set l p a) (p + 1) b) (p + 2) k c 0 (λ e. omega arith)
      ∙ get_or-set_other (set l p a) (p + 1) k b 0 (λ e. omega arith)
      ∙ get_or-set_other l p k a 0 (λ e. omega arith)

pub kept_none : (block : ℕ → List ℕ) (kept : List ℕ) → Kept block kept 0
kept_none block kept i h = absurd (omega arith)

-- One block more is kept.
pub kept_next : {block : ℕ → List ℕ} {kept new : List ℕ} {n low high steps : ℕ} → Kept block kept n → length kept ≡ 768 → n < 256
    → low ≡ lowest_of (block n) → high ≡ highest_of (block n) → steps ≡ width_of (differences (block n))
    → new ≡ set (set (set kept (n * 3) low) (n * 3 + 1) high) (n * 3 + 2) steps → Kept block new (n + 1)
unfolding stored
kept_next {block} {kept} {new} {n} {low} {high} {steps} before long few el eh es e i h =
    elim (dec_lt i n) [
      | yes first ↦
          let b = before i first in
          record {
            low = ap (λ x. get_or x (i * 3) 0) e ∙ before_stored kept (n * 3) low high steps (omega arith) (i * 3) (omega arith) ∙ b.low;
            high = ap (λ x. get_or x (i * 3 + 1) 0) e ∙ before_stored kept (n * 3) low high steps (omega arith) (i * 3 + 1) (omega arith) ∙ b.high;
            steps = ap (λ x. get_or x (i * 3 + 2) 0) e ∙ before_stored kept (n * 3) low high steps (omega arith) (i * 3 + 2) (omega arith) ∙ b.steps;
          }
      | no last ↦
          let here : i ≡ n = omega arith in
          let at : i * 3 ≡ n * 3 = omega arith in
          record {
            low = ap₂ (λ x p. get_or x p 0) e at ∙ first_stored kept (n * 3) low high steps (omega arith) ∙ el ∙ ap (λ k. lowest_of (block k)) (sym here);
            high = ap₂ (λ x p. get_or x (p + 1) 0) e at ∙ second_stored kept (n * 3) low high steps (omega arith) ∙ eh ∙ ap (λ k. highest_of (block k)) (sym here);
            steps = ap₂ (λ x p. get_or x (p + 2) 0) e at ∙ third_stored kept (n * 3) low high steps (omega arith) ∙ es ∙ ap (λ k. width_of (differences (block k))) (sym here);
          }
    ]

pub kept_length : (l : List ℕ) (p a b c : ℕ) → length (set (set (set l p a) (p + 1) b) (p + 2) c) ≡ length l
kept_length l p a b c = length-set (set (set l p a) (p + 1) b) (p + 2) c ∙ length-set (set l p a) (p + 1) b ∙ length-set l p a

-- A block that is laid down through the tail of the output by what was kept of it, and its entry and its range in their
-- own place.
module _ (block : List ℕ) (long : length block ≡ 1024) (fits : Elements t64 block) (at : ℕ) (old : List ℕ) (room : at + (chosen block).entry.length ≤ length old) where
  abbrev tail : List ℕ
  tail = mid_of at (length old - at) old

  pub kept_written : (i : ℕ) (range : Range) (steps : ℕ) (plain frame rest body : List ℕ) (a : FileAnswer) (e : Entry)
      → contents_size 2 (i + 1) ≤ at → range ≡ true_range block → steps ≡ width_of (differences block) → Rooms plain frame rest
      → a ≡ file_answer (by_tests range steps block plain frame rest tail) → body ≡ by_leaves a range steps block tail → e ≡ entry_with range steps
      → (e.length ≡ (chosen block).entry.length)
      × (entry_leaves e range (contents_size 2 i) (put_mid at (length old - at) old body) ≡ over (contents_size 2 i) (written_entry block) (over at (body_for block) old))
  unfolding contents_size entry_size
  kept_written i range steps plain frame rest body a e before er es rooms ea eb ee =
      let entry : e ≡ (chosen block).entry = ee ∙ ap₂ entry_with er es ∙ true-entry block long fits in
      let answer : a ≡ file_answer (lay_tests block tail) =
      ea ∙ ap₂ (λ r s. file_answer (by_tests r s block plain frame rest tail)) er es ∙ true-answer block long fits plain frame rest tail rooms.0 rooms.1.0 rooms.1.1 in
      let left : body ≡ lay_leaves block tail =
      eb ∙ ap₂ (λ r s. by_leaves a r s block tail) er es ∙ true-leaves block long fits a tail ∙ laid_left block long fits a tail answer in (
        ap (λ e. e.length) entry,
        ap₂ (λ e r. entry_leaves e r (contents_size 2 i) (put_mid at (length old - at) old body)) entry er
            ∙ ap (entry_leaves (chosen block).entry (true_range block) (contents_size 2 i)) (ap (put_mid at (length old - at) old) left ∙ (one_laid block long at old room).1)
            ∙ entry-fits (chosen block).entry (true_range block) (contents_size 2 i) (over at (body_for block) old)
            (omega (arith, length_over at (body_for block) old (omega (arith, body_sized block)))),
      )
