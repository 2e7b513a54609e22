-- The list turned round undoes a renumbering: with the new and the old numbers read along the order as old and new, and the
-- order turned round, the new file is not refused where the output has room for any file of as many blocks, as many rows
-- change, and what is written is byte for byte the rewrite of the old file.
-- Assumes nothing.
use mathlib.Core.Bool.{true}
use mathlib.Core.List.{List}
use mathlib.Core.Logic.{inl, inr, ⊎_elim}
use mathlib.Core.Path.{◌≡◌, refl, sym, ap, ap₂, subst, ◌∙◌}
use Prim.Native.Nat.{ℕ, ◌+◌, ◌-◌, ◌*◌, ◌≤◌, ◌<◌}
use native.Mathlib.Decide.{dec_lt, ℕ_discrete}
use native.Mathlib.Omega.{arith}
use borrow.Author.Tests.{eq-eqb, ne_eqb}
use lib.Dec.{eqb}
use lib.ListN.{length, get_or}
use lib.Seq.{ext_get_or}
use Rattle.std.specs.Prelude.{Ok}
use Rattle.lists.specs.Members.{Stands, Rising}
use Rattle.lists.specs.Numbers.{Elements}
use Rattle.lists.specs.Passing.{failing_from}
use Rattle.lists.specs.Tab.{over}
use Rattle.lists.proofs.Failing.{failing_ext}
use Rattle.lists.proofs.Search.{first-before}
use Rattle.lists.proofs.Tabs.{length-tab, get_d_tab}
use Rattle.places.specs.Sizes.{t64}
use Rattle.contents.specs.Answers.{file_answer}
use Rattle.contents.specs.Contents.{count}
use Rattle.files.specs.Files.{row_at, row_count, rows_of, file_tests}
use Rattle.files.proofs.Rows.{rows-count}
use Rattle.writer.specs.Writer.{file_of}
use Rattle.writer.proofs.Laying.{file_short}
use Rattle.writer.proofs.FileRows as Old
use Rattle.renumber.specs.InnerPairs.{Paired}
use Rattle.renumber.specs.Pairs.{place_in, renumbered, is_free, along, turned}
use Rattle.renumber.specs.Reasons.{ListsRight}
use Rattle.renumber.specs.Renumber.{sizes, new_rows, new_file, changed_rows, taken_at, renumber_answer, renumbered_of, renumber_leaves}
use Rattle.renumber.proofs.Becoming.{becomes_new, stays, order_different, order-place, along-stands}
use Rattle.renumber.proofs.Calls.{nothing_stops, written}
use Rattle.renumber.proofs.Exactly.{none-fails, free-tested, tested-free, lists-right}
use Rattle.renumber.proofs.FileRenumbered.{row_is, all_taken, all_paired, new-accepted, new-count, new_row}
use Rattle.renumber.proofs.Places.{place_is, place-before, place_only}
use Rattle.renumber.proofs.Rows.{length-rows, get_d_rows}
use Rattle.renumber.proofs.Tested.{length-along, get_d_along}

-- In a rising list a number stands once.
rising_once : (xs : List ℕ) → Rising xs → (i j : ℕ) → i < length xs → j < length xs → get_or xs i 0 ≡ get_or xs j 0 → i ≡ j
rising_once xs rising i j h m e =
    elim (dec_lt i j) [
      | yes l ↦ absurd (omega (arith, rising i j l m))
      | no l ↦
          elim (ℕ_discrete i j) [
            | yes s ↦ s
            | no n ↦ absurd (omega (arith, rising j i (omega arith) h))
          ]
    ]

-- Its place is where it stands.
rising-place : (xs : List ℕ) → Rising xs → (i : ℕ) → i < length xs → (x : ℕ) → get_or xs i 0 ≡ x → i ≡ place_in xs x
rising-place xs rising i h x e = place_only xs x i (omega arith) (λ k b s. omega (arith, rising k i b h)) (λ _. e)

length-turned : (order : List ℕ) → length (turned order) ≡ length order
unfolding turned
length-turned order = length-tab (length order) (place_in order)

get_d_turned : (order : List ℕ) (p : ℕ) → p < length order → get_or (turned order) p 0 ≡ place_in order p
unfolding turned
get_d_turned order p h = get_d_tab (length order) (place_in order) p 0 h

module _ (old new order : List ℕ) (so : Paired old new order) where
  long : length order ≡ length new
  long = so.order_long ∙ sym so.new_long

  -- Every pair stands in the order, at one place.
  there : (p : ℕ) → p < length old → place_in order p < length order
  there p h = order-place new order long so.places so.along_rising p (omega (arith, so.new_long))

  at_place : (p : ℕ) → p < length old → get_or order (place_in order p) 0 ≡ p
  at_place p h = place_is order p (there p h)

  -- The old numbers along the order, at the place of a pair.
  old_at : (p : ℕ) → p < length old → get_or (along order old) (place_in order p) 0 ≡ get_or old p 0
  old_at p h = get_d_along order old (place_in order p) (there p h) ∙ ap (λ k. get_or old k 0) (at_place p h)

  new-at : (p : ℕ) → p < length old → get_or (along order new) (place_in order p) 0 ≡ get_or new p 0
  new-at p h = get_d_along order new (place_in order p) (there p h) ∙ ap (λ k. get_or new k 0) (at_place p h)

  -- The list turned round is one.
  turned_right : ListsRight (along order new) (along order old) (turned order)
  turned_right = record {
    lengths = (length-along order old ∙ sym (length-along order new), length-turned order ∙ sym (length-along order new));
    rises = λ i h some. so.along_rising (i - 1) i (omega arith) h;
    ordered = λ i h.
        let b : i < length order = omega (arith, length-turned order) in
        let c : i < length old = omega (arith, so.order_long) in (
          omega (arith, get_d_turned order i b, there i c, length-along order old),
          (λ some. inl
              (omega (
                arith,
                so.rising (i - 1) i (omega arith) c,
                old_at (i - 1) (omega arith),
                old_at i c,
                ap (λ k. get_or (along order old) k 0) (get_d_turned order (i - 1) (omega arith)),
                ap (λ k. get_or (along order old) k 0) (get_d_turned order i b),
              ))),
        );
    alone = λ i h q m other e.
        let hi : i < length order = omega (arith, length-along order old) in
        let hq : q < length order = omega (arith, length-along order old) in
        let same : get_or order q 0 ≡ get_or order i 0 =
        rising_once old so.rising (get_or order q 0) (get_or order i 0)
        (omega (arith, so.places q hq, so.new_long)) (omega (arith, so.places i hi, so.new_long))
        (sym (get_d_along order old q hq) ∙ e ∙ get_d_along order old i hi) in
        elim (dec_lt q i) [
          | yes l ↦ order_different new order long so.places so.along_rising q i l hi same
          | no l ↦
              elim (ℕ_discrete q i) [
                | yes z ↦ other z
                | no n ↦ order_different new order long so.places so.along_rising i q (omega arith) hq (sym same)
              ]
        ];
  }

  -- What stands among the old numbers along the order stands among the old ones.
  old_along : (x : ℕ) → Stands x (along order old) → Stands x old
  old_along x s =
      let h : s.0 < length order = omega (arith, s.1, length-along order old) in
      (get_or order s.0 0, omega (arith, so.places s.0 h, so.new_long), sym (get_d_along order old s.0 h) ∙ s.2)

  module _ (x : ℕ) (free : is_free old new x ≡ true) where
    y : ℕ
    y = renumbered old new x

    -- A number that is listed: its new one stands along the order at the place of its pair.
    listed : (h : place_in old x < length old) → get_or (along order new) (place_in order (place_in old x)) 0 ≡ y
    unfolding y
    listed h = new-at (place_in old x) h ∙ becomes_new old new x (place_in old x) refl h

    other : length old ≤ place_in old x → x ≡ y
    unfolding y
    other h = stays old new x (place_in old x) refl h

    not_new : length old ≤ place_in old x → Stands x new → ⊥
    not_new h s = ⊎_elim (λ a. place-before old x a.0 (omega (arith, a.1)) a.2) (λ n. n s) (tested-free old new x free)

    -- The list turned round gives the number back,
    pub undone : renumbered (along order new) (along order old) (renumbered old new x) ≡ x
    unfolding y
    undone =
        elim (dec_lt (place_in old x) (length old)) [
          | yes h ↦
              let i : ℕ = place_in order (place_in old x) in
              let hi : i < length (along order new) = omega (arith, there (place_in old x) h, length-along order new) in
              sym (becomes_new (along order new) (along order old) y i (rising-place (along order new) so.along_rising i hi y (listed h)) hi)
              ∙ old_at (place_in old x) h
              ∙ place_is old x h
          | no h ↦
              let out : (Stands y (along order new) → ⊥) =
              λ s. not_new (omega arith) (subst (λ v. Stands v new) (sym (other (omega arith))) (along-stands new order long so.places so.along_rising y s)) in
              sym (stays (along order new) (along order old) y (place_in (along order new) y) refl
              (elim (dec_lt (place_in (along order new) y) (length (along order new))) [
                | yes b ↦ absurd (out (place_in (along order new) y, b, place_is (along order new) y b))
                | no b ↦ omega arith
              ]))
              ∙ sym (other (omega arith))
        ]

    -- and does not refuse what it has become.
    pub undone_free : is_free (along order new) (along order old) (renumbered old new x) ≡ true
    unfolding y
    undone_free =
        free-tested (along order new) (along order old) y
        (elim (dec_lt (place_in old x) (length old)) [
          | yes h ↦ inl (place_in order (place_in old x), omega (arith, there (place_in old x) h, length-along order new), listed h)
          | no h ↦ inr
              (λ s.
              let t = old_along y s in
              place-before old x t.0 (omega (arith, t.1)) (t.2 ∙ sym (other (omega arith))))
        ])

eqb-turned : (a b : ℕ) → eqb a b ≡ eqb b a
eqb-turned a b =
    elim (ℕ_discrete a b) [
      | yes e ↦ eq-eqb a b e ∙ sym (eq-eqb b a (sym e))
      | no n ↦ ne_eqb a b n ∙ sym (ne_eqb b a (λ e. n (sym e)))
    ]

module _ (l old new order output : List ℕ) (bytes : Elements 8 l) (news : Elements t64 new) (done : renumber_answer l old new order output ≡ Ok tt) where
  accepted : file_answer (file_tests l) ≡ Ok tt
  accepted = (all_taken l old new order output done).file

  so : Paired old new order
  so = all_paired l old new order output (all_taken l old new order output done)

  free-at : (p : ℕ) → p < row_count l → is_free old new (row_at l p) ≡ true
  unfolding taken_at
  free-at p h =
      first-before (row_count l) (λ p. is_free old new (row_at l p)) p (omega (arith, (all_taken l old new order output done).free))

  as_many : row_count (new_file old new l) ≡ row_count l
  as_many = ap (λ n. 1024 * n) (new-count old new l bytes news accepted)

  row_back : (p : ℕ) → p < row_count l → renumbered (along order new) (along order old) (row_at (new_file old new l) p) ≡ row_at l p
  row_back p h =
      ap (renumbered (along order new) (along order old)) (new_row old new l bytes news accepted p h)
      ∙ undone old new order so (row_at l p) (free-at p h)

  -- The rows are those of the old file again,
  pub undone_rows : new_rows (along order new) (along order old) (new_file old new l) ≡ rows_of l
  undone_rows =
      ext_get_or 0 (new_rows (along order new) (along order old) (new_file old new l)) (rows_of l)
      (length-rows (along order new) (along order old) (new_file old new l) ∙ rows-count (new_file old new l) ∙ as_many ∙ sym (rows-count l))
      (λ p h.
      let b : p < row_count l =
      omega (arith, length-rows (along order new) (along order old) (new_file old new l), rows-count (new_file old new l), as_many) in
      get_d_rows (along order new) (along order old) (new_file old new l) p (omega (arith, rows-count (new_file old new l), as_many))
      ∙ ap (renumbered (along order new) (along order old)) (row_is (new_file old new l) p (omega (arith, as_many)))
      ∙ row_back p b
      ∙ sym (row_is l p b))

  -- so the file is the rewrite of the old one,
  pub undone_file : new_file (along order new) (along order old) (new_file old new l) ≡ file_of (rows_of l)
  undone_file = ap file_of undone_rows

  -- no row is taken,
  undone_taken : taken_at (along order new) (along order old) (new_file old new l) ≡ row_count (new_file old new l)
  unfolding taken_at
  undone_taken =
      none-fails (row_count (new_file old new l)) (λ p. is_free (along order new) (along order old) (row_at (new_file old new l) p))
      (λ p h.
      let b : p < row_count l = omega (arith, as_many) in
      ap (is_free (along order new) (along order old)) (new_row old new l bytes news accepted p b)
      ∙ undone_free old new order so (row_at l p) (free-at p b))

  -- and the same rows change.
  pub undone_changed : changed_rows (along order new) (along order old) (new_file old new l) ≡ changed_rows old new l
  unfolding changed_rows
  undone_changed =
      ap (λ n. failing_from 0 n (λ p. eqb (row_at (new_file old new l) p) (renumbered (along order new) (along order old) (row_at (new_file old new l) p)))) as_many
      ∙ failing_ext 0 (row_count l)
      (λ p. eqb (row_at (new_file old new l) p) (renumbered (along order new) (along order old) (row_at (new_file old new l) p)))
      (λ p. eqb (row_at l p) (renumbered old new (row_at l p)))
      (λ p _ h.
      let b : p < row_count l = omega arith in
      ap₂ eqb (new_row old new l bytes news accepted p b) (row_back p b) ∙ eqb-turned (renumbered old new (row_at l p)) (row_at l p))

  module _ (back : List ℕ) (room : 4 + 8224 * count l ≤ length back) where
    -- The call is not refused where there is room for any file of as many blocks,
    pub undo_answer : renumber_answer (new_file old new l) (along order new) (along order old) (turned order) back ≡ Ok tt
    undo_answer =
        nothing_stops (new_file old new l) (along order new) (along order old) (turned order) back (new-accepted old new l bytes news accepted)
        (lists-right (new_file old new l) (along order new) (along order old) (turned order) back (turned_right old new order so))
        undone_taken
        (omega (arith, ap length undone_file, file_short (rows_of l), Old.rows_blocks l accepted))

    -- it gives the length of the rewrite and the same count,
    pub undo_given : renumbered_of (new_file old new l) (along order new) (along order old) (turned order) back
        ≡ Ok (sizes (length (file_of (rows_of l))) (length (changed_rows old new l)))
    undo_given =
        sym (written (new_file old new l) (along order new) (along order old) (turned order) back undo_answer).0
        ∙ ap₂ (λ f c. Ok (sizes (length f) (length c))) undone_file undone_changed

    -- and it leaves the rewrite of the old file, byte for byte.
    pub undo_leaves : renumber_leaves (new_file old new l) (along order new) (along order old) (turned order) back ≡ over 0 (file_of (rows_of l)) back
    undo_leaves =
        sym (written (new_file old new l) (along order new) (along order old) (turned order) back undo_answer).1
        ∙ ap (λ f. over 0 f back) undone_file
