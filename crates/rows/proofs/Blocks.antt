-- Rows in a block: where a row stands, what a load of it gives, and the law behind every walk that lays a block down
-- row by row, over the element size.
-- Assumes nothing.
use Rattle.std.proofs.Common.{◌≡◌, ℕ, ◌+◌, ◌-◌, ◌*◌, ◌%◌, ◌<◌, ◌≤◌, List, ◌++◌, length, get_or, take, drop, sym, refl, ap, ◌∙◌, append_assoc, append-nil, add_assoc, mod-eq_of_lt, zero-add, arith, length-drop, drop_of_length-le, length-take, get_or-drop, get_or-take, drop-drop}
use native.Mathlib.Decide.{dec_lt}
use borrow.Rule.Slice.PartMut.{put_mid}
use Rattle.lists.specs.Tab.{tab, over}
use Rattle.lists.proofs.Tabs.{length-tab, get_d_tab, tab_ext, is-tab, length_over, get_d_over_in, get_d_over-before, get_d_over_after}
use Rattle.places.specs.Places.{order, place, lane, row, next_start_lem}
use Rattle.places.specs.Sizes.{Size, lanes}
use Rattle.places.proofs.Places.{size-most, lanes_some, place-row-lane, lane-lt, row_lt, row-place, place-lt, place-lane, row_within, start-next}
use Rattle.rows.specs.Rows.{load_of, store_of}
use Rattle.rows.proofs.Rows.{load-room, store-room}

-- a case for each side of a test
by-lt {ℓ} : {C : Type ℓ} (n m : ℕ) → (n < m → C) → (m ≤ n → C) → C
by-lt n m a b = elim (dec_lt n m) [ yes h ↦ a h | no h ↦ b (omega arith) ]

-- where a row starts

pub start-room : {t : ℕ} → Size t → (r : ℕ) → r < t → place r 0 + lanes t ≤ 1024
start-room {t} s r h =
    let p = lanes_some s in
    let b : place r (lanes t - 1) < 1024 = place-lt s r (lanes t - 1) h (omega arith) in
    omega (arith, place-lane r (lanes t - 1))

-- a load of a part gives the values that stand there
pub load_part : (t : ℕ) (x : List ℕ) (a : ℕ) → a + lanes t ≤ length x
    → load_of t (take (lanes t) (drop a x)) ≡ tab (lanes t) (λ l. get_or x (a + l) 0)
load_part t x a h =
    let room : lanes t ≤ length (take (lanes t) (drop a x)) = simp (length-take, length-drop) (omega arith) in
    sym (load-room t (take (lanes t) (drop a x)) room)
    ∙ tab_ext (lanes t) _ _ 0 (λ l b. get_or-take (lanes t) (drop a x) l 0 b ∙ get_or-drop a x l 0)

-- a store over the whole of a part, and the part back in its place
pub put_part : (x row : List ℕ) (a n : ℕ) → length row ≡ n → a + n ≤ length x → put_mid a n x (store_of (take n (drop a x)) row) ≡ over a row x
unfolding over
put_part x row a n e h =
    let long : length (take n (drop a x)) ≡ n = simp (length-take, length-drop) (omega arith) in
    let stored : store_of (take n (drop a x)) row ≡ row =
    sym (store-room (take n (drop a x)) row (omega arith))
    ∙ rw (e, zero-add, drop_of_length-le (take n (drop a x)) {i = n} (omega arith)) (append-nil row) in
    ap (λ l. take a x ++ (l ++ drop n (drop a x))) stored
    ∙ rw (e, drop-drop, ← append_assoc)

-- the row that stands from place a on
abbrev pub row_from_lem : ℕ → List ℕ → ℕ → List ℕ
row_from_lem t x a = tab (lanes t) (λ l. get_or x (a + l) 0)

-- the values at row r's places
abbrev pub row_of : ℕ → List ℕ → ℕ → List ℕ
row_of t values r = tab (lanes t) (λ l. get_or values (place r l) 0)

-- they stand from the row's start on
pub row_from : (t r start : ℕ) (values : List ℕ) → start ≡ place r 0 → row_from_lem t values start ≡ row_of t values r
row_from t r start values e = tab_ext (lanes t) _ _ 0 (λ l _. ap (λ p. get_or values p 0) (ap (λ n. n + l) e ∙ sym (place-lane r l)))

-- ---- a block that is laid down row by row

-- The law behind every walk over a block: its first n rows hold what the rule f gives for their places.
pub record Laid (t n : ℕ) (f : ℕ → ℕ) (y : List ℕ) : Type 0 where
  pub long : length y ≡ 1024
  pub rows : (p : ℕ) → p < 1024 → row t p < n → get_or y p 0 ≡ f p

-- no row is laid down yet
pub laid_none : {t : ℕ} {f : ℕ → ℕ} {y : List ℕ} → length y ≡ 1024 → Laid t 0 f y
laid_none e = record { long = e; rows = λ p _ b. absurd (omega arith) }

-- The next row is laid down: over the block, from the row's start on, stands what the rule gives for its places.
module _ {t : ℕ} (s : Size t) {r : ℕ} (hr : r < t) {f : ℕ → ℕ} {y : List ℕ} (w : Laid t r f y)
    {q : ℕ} (eq : q ≡ place r 0) {v : List ℕ} (ev : v ≡ tab (lanes t) (λ l. f (place r l))) where
  row-long : length v ≡ lanes t
  row-long = ap length ev ∙ length-tab (lanes t) (λ l. f (place r l))

  room : q + length v ≤ length y
  room = omega (arith, start-room s r hr, w.long, row-long)

  -- a place of the row is that of the lane that lies so far behind the row's start
  to_place : (p : ℕ) → q ≤ p → place r (p - q) ≡ p
  to_place p g = place-lane r (p - q) ∙ omega arith

  in_row : (p : ℕ) → q ≤ p → p < q + lanes t → get_or (over q v y) p 0 ≡ f p
  in_row p g b =
      let hl : p - q < lanes t = omega arith in
      get_d_over_in q v y room p 0 g (omega (arith, row-long))
      ∙ ap (λ x. get_or x (p - q) 0) ev
      ∙ get_d_tab (lanes t) _ (p - q) 0 hl
      ∙ ap f (to_place p g)

  -- a place of a row before it
  off_row : (p : ℕ) → p < 1024 → row t p < r → get_or (over q v y) p 0 ≡ get_or y p 0
  off_row p h less =
      by-lt p q
      (λ b. get_d_over-before q v y room p 0 b)
      (λ g.
      by-lt p (q + lanes t)
      (λ b.
      let own : row t p ≡ r = ap (row t) (sym (to_place p g)) ∙ row-place s r (p - q) hr (omega arith) in
      absurd (omega arith))
      (λ b. get_d_over_after q v y room p 0 (omega (arith, row-long))))

  -- a place of the row itself
  own_row : (p : ℕ) → p < 1024 → row t p ≡ r → get_or (over q v y) p 0 ≡ f p
  own_row p h e =
      let at : p ≡ place r (lane t p) = sym (place-row-lane s p h) ∙ ap (λ n. place n (lane t p)) e in
      let on : place r (lane t p) ≡ place r 0 + lane t p = place-lane r (lane t p) in
      in_row p (omega arith) (omega (arith, lane-lt s p h))

  pub laid_next : {z : List ℕ} → z ≡ over q v y → Laid t (r + 1) f z
  laid_next ez =
      record {
        long = ap length ez ∙ length_over q v y room ∙ w.long;
        rows = λ p h b.
            ap (λ x. get_or x p 0) ez
            ∙ by-lt (row t p) r
            (λ less. off_row p h less ∙ w.rows p h less)
            (λ g. own_row p h (omega arith));
      }

-- all rows are laid down
pub laid_all : {t : ℕ} (s : Size t) {n : ℕ} {f : ℕ → ℕ} {y : List ℕ} → Laid t n f y → t ≤ n → y ≡ tab 1024 f
laid_all s {f = f} {y} w h = is-tab y 1024 f 0 w.long (λ p b. w.rows p b (omega (arith, row_lt s p b)))

-- ---- walks that find a row's start with `row_start`, by eights

module _ {t : ℕ} (s : Size t) (o i q : ℕ) (hi : i < 8) (hr : o * 8 + i < t) (eq : q ≡ place (o % 8 * 8 + i % 8) 0) where
  pub start-at : q ≡ place (o * 8 + i) 0
  start-at =
      let small : t ≤ 64 = size-most s in
      eq ∙ row_within o i (omega arith) hi

  pub start_in : q + lanes t ≤ 1024
  start_in = omega (arith, start-at, start-room s (o * 8 + i) hr)

  -- the row is put in its place
  pub laid_put : {f : ℕ → ℕ} {y z v : List ℕ} → Laid t (o * 8 + i) f y
      → v ≡ tab (lanes t) (λ l. f (place (o * 8 + i) l)) → z ≡ over q v y → Laid t (o * 8 + (i + 1)) f z
  laid_put w ev ez = rw (← add_assoc (o * 8) i 1) (laid_next s hr w start-at ev ez)

-- ---- walks that go from row to row with `next_start`

-- Before row r the walk has the row's start; behind row 63 that is the start of row 0 again.
abbrev pub Starts : (r start : ℕ) → Type 0
Starts r start = start ≡ place (r % 64) 0

pub starts_first : Starts 0 0
unfolding order place
starts_first = refl

module _ {t : ℕ} (s : Size t) {r start : ℕ} (hr : r < t) (at : Starts r start) where
  pub starts_at : start ≡ place r 0
  starts_at =
      let small = size-most s in
      at ∙ ap (λ n. place n 0) (mod-eq_of_lt (omega arith))

  pub starts_room : start + lanes t ≤ 1024
  starts_room = omega (arith, starts_at, start-room s r hr)

  pub starts_next : {next : ℕ} → next ≡ next_start_lem start (r + 1) → Starts (r + 1) next
  starts_next e =
      let small = size-most s in
      e ∙ start-next r start (omega arith) at
