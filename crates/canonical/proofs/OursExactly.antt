-- The theorems on the check of a file that another program wrote (R115 to R117): it says yes exactly when the file's
-- bytes are those that the writer gives for its rows, and else names the lowest block that differs.
-- Assumes nothing.
use mathlib.Core.Bool.{true}
use mathlib.Core.List.{List}
use mathlib.Core.Logic.{◌↔◌, ⊎_elim}
use mathlib.Core.Path.{◌≡◌, refl, sym, ap, ap₂, subst, ◌∙◌}
use Prim.Native.Nat.{ℕ, ◌<◌}
use native.Mathlib.Decide.{dec_lt, ℕ_discrete}
use native.Mathlib.Omega.{arith}
use lib.Dec.{eqb}
use borrow.Author.Tests.{eq-eqb, eqb-true}
use Rattle.std.specs.Prelude.{Ok, Err}
use Rattle.lists.specs.Numbers.{Elements}
use Rattle.lists.specs.Pick.{pick, both}
use Rattle.lists.specs.Search.{first_bad}
use Rattle.lists.specs.Ends.{lowest_of, highest_of}
use Rattle.lists.proofs.Tests.{both_true}
use Rattle.places.specs.Sizes.{t64}
use Rattle.contents.specs.declared.FileRefusal.TheVariants.{Edition, Foreign}
use Rattle.contents.specs.Answers.{FileAnswer, file_answer, number_of}
use Rattle.contents.specs.Contents.{edition, count, entry_of, range_of}
use Rattle.contents.proofs.Answers.{number-done}
use Rattle.bodies.specs.Ranges.{true_range, is_range}
use Rattle.candidates.specs.Candidates.{chosen, body_for}
use Rattle.files.specs.Files.{body_of, block_in, rows_of, has_true_range, file_tests}
use Rattle.files.specs.Reasons.{Reason}
use Rattle.bodywise.proofs.Told.{whole}
use Rattle.files.proofs.Ranges.{ranges_true}
use Rattle.files.proofs.Exactly.{lowest-found, none_found, before-holds, at-fails, all_hold, reason_gives, file_exactly}
use Rattle.files.proofs.Rows.{rows_fit}
use Rattle.writer.specs.Reasons.{Blocks}
use Rattle.writer.specs.Writer.{file_of}
use Rattle.writer.proofs.ReadBack.{edition-is, range-read, body-read, file-accepted}
use Rattle.rewrite.specs.Rewrite.{new_file}
use Rattle.rewrite.proofs.FileRewritten.{rewrite-same, rewrite-twice, new-accepted, new-edition, new-count, new-entry}
use Rattle.writer.proofs.FileRows.{right, few, rows_long, rows_whole, block_at_lem}
use Rattle.canonical.specs.Canonical.{is_same_entry, is_same_list, is_ours, foreign, canonical_tests}
use Rattle.canonical.specs.Reasons.{Ours, CanonicalReason, of_file, first_edition, a_foreign, as_ours}
use Rattle.canonical.proofs.Calls.{not-read, not_second, is-foreign, none-foreign}
use Rattle.canonical.proofs.Files.{alike_same}
use Rattle.canonical.proofs.Same.{entry-same, list_same}
use Rattle.canonical.proofs.Written.{file-bytes}

-- The test of a block says that its entry and its body are the writer's.
pub ours_plain : (l : List ℕ) (i : ℕ) → (is_ours l i ≡ true) ↔ Ours l i
unfolding is_ours
ours_plain l i = (
  λ e.
      let t = both_true (is_same_entry (entry_of l i) (chosen (block_in l i)).entry) (is_same_list (body_of l i) (body_for (block_in l i))) e in
      ((entry-same (entry_of l i) (chosen (block_in l i)).entry).0 t.0, (list_same (body_of l i) (body_for (block_in l i))).0 t.1),
  λ o. ap₂ both ((entry-same (entry_of l i) (chosen (block_in l i)).entry).1 o.0) ((list_same (body_of l i) (body_for (block_in l i))).1 o.1),
)

module _ (l : List ℕ) (bytes : Elements 8 l) (done : file_answer (file_tests l) ≡ Ok tt) (second : edition l ≡ 2) where
  new-body : (i : ℕ) → i < count l → body_of (new_file l) i ≡ body_for (block_in l i)
  new-body i h = body-read (rows_of l) (count l) (rows_long l done) (few l done) (rows_fit l bytes done) i h ∙ ap body_for (block_at_lem l done bytes i h)

  -- In an accepted file a range is the true one, and so is the new file's.
  own_range : (i : ℕ) → i < count l → range_of l i ≡ true_range (block_in l i)
  unfolding has_true_range
  own_range i h =
      let is = sym (ap (λ t. pick t (is_range (range_of l i) (block_in l i)) true) (eq-eqb (edition l) 2 second)) ∙ ranges_true l done i h in
      let t = both_true (eqb (range_of l i).smallest (lowest_of (block_in l i))) (eqb (range_of l i).largest (highest_of (block_in l i))) is in
      λ j. record { smallest = eqb-true (range_of l i).smallest (lowest_of (block_in l i)) t.0 j; largest = eqb-true (range_of l i).largest (highest_of (block_in l i)) t.1 j }

  new-range : (i : ℕ) → i < count l → range_of (new_file l) i ≡ range_of l i
  new-range i h =
      range-read (rows_of l) (count l) (rows_long l done) (few l done) (rows_fit l bytes done) i h
      ∙ ap true_range (block_at_lem l done bytes i h)
      ∙ sym (own_range i h)

  -- Where every block is the writer's, so is the file, byte for byte,
  pub ours_all : ((i : ℕ) → i < count l → Ours l i) → l ≡ file_of (rows_of l)
  ours_all all =
      alike_same l (new_file l) (λ k. bytes k) (file-bytes (rows_of l))
      (record {
        right_l = right l done;
        right_m = right (new_file l) (new-accepted l bytes done);
        second_l = second;
        second_m = new-edition l bytes done;
        counts = sym (new-count l bytes done);
        entries = λ i h. (all i h).0 ∙ sym (new-entry l bytes done i h);
        ranges = λ i h. sym (new-range i h);
        bodies = λ i h. (all i h).1 ∙ sym (new-body i h);
      })

  -- and where the file is, so is every block.
  pub all_ours : l ≡ file_of (rows_of l) → (i : ℕ) → i < count l → Ours l i
  all_ours e i h = (ap (λ x. entry_of x i) e ∙ new-entry l bytes done i h, ap (λ x. body_of x i) e ∙ new-body i h)

module _ (l : List ℕ) (bytes : Elements 8 l) where
  -- A reason gives its answer,
  canonical_gives : {a : FileAnswer} → CanonicalReason l a → file_answer (canonical_tests l) ≡ a
  unfolding foreign
  canonical_gives (of_file a n r) = not-read l (λ d. n (sym (reason_gives l r) ∙ d)) ∙ reason_gives l r
  canonical_gives (first_edition r one) = not_second l (reason_gives l r) (λ two. absurd (omega arith))
  canonical_gives (a_foreign p r second h bad before) =
      is-foreign l (reason_gives l r) second p (sym (lowest-found (count l) (is_ours l) (Ours l) (ours_plain l) p h bad before)) h
  canonical_gives (as_ours r second same) =
      none-foreign l (reason_gives l r) second
      (none_found (count l) (is_ours l) (Ours l) (ours_plain l) (all_ours l bytes (reason_gives l r) second same))

  -- and every file has one.
  from_second : Reason l (Ok tt) → edition l ≡ 2 → (a : FileAnswer) × CanonicalReason l a
  from_second r second =
      let bad = first_bad (count l) (is_ours l) in
      elim (dec_lt bad (count l)) [
        | yes h ↦ (
          Err (Foreign bad),
          a_foreign bad r second h (at-fails (count l) (is_ours l) (Ours l) (ours_plain l) h) (before-holds (count l) (is_ours l) (Ours l) (ours_plain l)),
        )
        | no h ↦ (Ok tt, as_ours r second (ours_all l bytes (reason_gives l r) second (all_hold (count l) (is_ours l) (Ours l) (ours_plain l) h)))
      ]

  from_file : (a : FileAnswer) × CanonicalReason l a
  from_file =
      let a = file_answer (file_tests l) in
      elim (ℕ_discrete (number_of a) 0) [
        | no other ↦ (a, of_file a (λ d. other (ap number_of d)) ((file_exactly l a).0 refl))
        | yes zero ↦
            let d = number-done a zero in
            let r : Reason l (Ok tt) = (file_exactly l (Ok tt)).0 d in
            ⊎_elim (λ one. (Err Edition, first_edition r one)) (λ two. from_second r two) (whole l (right l d)).first
      ]

  -- So each answer is given exactly when the file has the reason for it.
  pub canonical_exactly : (a : FileAnswer) → (file_answer (canonical_tests l) ≡ a) ↔ CanonicalReason l a
  canonical_exactly a = ((λ e. subst (CanonicalReason l) (sym (canonical_gives from_file.1) ∙ e) from_file.1), (λ r. canonical_gives r))

-- A file that our writer gave is accepted,
pub written-accepted : (values : List ℕ) → Blocks values → Elements t64 values → file_answer (canonical_tests (file_of values)) ≡ Ok tt
written-accepted values b fits =
    (canonical_exactly (file_of values) (λ k. file-bytes values k) (Ok tt)).1
    (as_ours ((file_exactly (file_of values) (Ok tt)).0 (file-accepted values b.n b.whole b.few fits)) (edition-is values b.n b.whole b.few fits)
    (sym (rewrite-same values b fits)))

-- and no other file is: the check says yes exactly when the file is what the writer gives for some numbers of 64 bits
-- in whole blocks, at most 256 of them.
pub canonical-yes : (l : List ℕ) → Elements 8 l
    → (file_answer (canonical_tests l) ≡ Ok tt) ↔ ((values : List ℕ) × Blocks values × Elements t64 values × (l ≡ file_of values))
canonical-yes l bytes = (
  λ e. own ((canonical_exactly l bytes (Ok tt)).0 e),
  λ v. ap (λ x. file_answer (canonical_tests x)) v.3 ∙ written-accepted v.0 v.1 v.2,
)
  where
    own : CanonicalReason l (Ok tt) → (values : List ℕ) × Blocks values × Elements t64 values × (l ≡ file_of values)
    own (of_file a n r) = absurd (n refl)
    own (as_ours r second e) = let done = reason_gives l r in (rows_of l, rows_whole l done, rows_fit l bytes done, e)

-- So is one that our rewrite gave.
pub rewritten_accepted : (l : List ℕ) → Elements 8 l → file_answer (file_tests l) ≡ Ok tt → file_answer (canonical_tests (new_file l)) ≡ Ok tt
rewritten_accepted l bytes done =
    (canonical_exactly (new_file l) (λ k. file-bytes (rows_of l) k) (Ok tt)).1
    (as_ours ((file_exactly (new_file l) (Ok tt)).0 (new-accepted l bytes done)) (new-edition l bytes done) (sym (rewrite-twice l bytes done)))

-- Of the files with the same rows at most one is accepted.
pub one-canonical : (l m : List ℕ) → Elements 8 l → Elements 8 m → file_answer (canonical_tests l) ≡ Ok tt → file_answer (canonical_tests m) ≡ Ok tt
    → rows_of l ≡ rows_of m → l ≡ m
one-canonical l m bl bm cl cm same = own l ((canonical_exactly l bl (Ok tt)).0 cl) ∙ ap file_of same ∙ sym (own m ((canonical_exactly m bm (Ok tt)).0 cm))
  where
    own : (l : List ℕ) → CanonicalReason l (Ok tt) → l ≡ file_of (rows_of l)
    own l (of_file a n r) = absurd (n refl)
    own l (as_ours r second e) = e
