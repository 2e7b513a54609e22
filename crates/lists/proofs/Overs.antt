-- The laws of a list that is written over another, whatever stands in the two: one entry is written, nothing is, two
-- runs are written one after the other, two runs are written apart, and a run is written through a tail that was lent.
-- Assumes nothing.
use mathlib.Core.Path.{◌≡◌, sym, ap, ◌∙◌}
use mathlib.Core.List.{List, [], ◌∷◌, ◌++◌, append-nil, append_assoc}
use Prim.Native.Nat.{ℕ, ◌+◌, ◌≤◌, ◌<◌}
use native.Mathlib.Nat.{add_assoc, add-zero, zero-add}
use native.Mathlib.Numerals.{add-one}
use native.Mathlib.Omega.{arith}
use lib.ListN.{length, set, take, drop, length-append, length-take, length-drop, take-append-drop}
use lib.Seq.{set_split, length-take-le, take-append-le, drop-append-le, take-append-add, drop-append-add, take-append_seam, drop-append_seam, take_at, drop-drop}
use Rattle.lists.specs.Tab.{over}

-- the list keeps its length
pub length_over : {A : Type 0} (p : ℕ) (x l : List A) → p + length x ≤ length l → length (over p x l) ≡ length l
unfolding over
length_over p x l h = simp (length-append, length-take, length-drop) (omega arith)

-- one entry that is stored is written over its place
pub set-over : (l : List ℕ) (n v : ℕ) → n < length l → set l n v ≡ over n (v ∷ []) l
unfolding over
set-over l n v h =
    set_split l n v h ∙ ap (λ k. take n l ++ (v ∷ drop k l)) (sym (add-one n)) ∙ sym (append_assoc (take n l) (v ∷ []) (drop (n + 1) l))

-- nothing is written
pub over_nothing : {A : Type 0} (p : ℕ) (l : List A) → over p [] l ≡ l
unfolding over
over_nothing p l = rw (add-zero, append-nil, take-append-drop)

-- all of it lies behind a front, or before a rest
pub over-past : {A : Type 0} (p : ℕ) (x a b : List A) → over (length a + p) x (a ++ b) ≡ a ++ over p x b
unfolding over
over-past p x a b = rw (take-append-add, add_assoc, drop-append-add) (simp append_assoc)

pub over-within : {A : Type 0} (p : ℕ) (x a b : List A) → p + length x ≤ length a → over p x (a ++ b) ≡ over p x a ++ b
unfolding over
over-within p x a b h =
    let g : p ≤ length a = omega arith in
    rw (take-append-le p a b g, drop-append-le (p + length x) a b h) (sym (append_assoc (take p a ++ x) (drop (p + length x) a) b))

-- through a tail that was lent
pub over_tail : {A : Type 0} (p : ℕ) (x l : List A) → take p l ++ over 0 x (drop p l) ≡ over p x l
unfolding over
over_tail p x l = rw (zero-add, drop-drop) (sym (append_assoc (take p l) x (drop (p + length x) l)))

-- two runs, the second where the first ends
drop_past : {A : Type 0} (x y : List A) (n m : ℕ) → length x ≡ n → drop (n + m) (x ++ y) ≡ drop m y
drop_past x y n m e = rw (← e, drop-append-add)

pub over_append : {A : Type 0} (p : ℕ) (x y l : List A) → p + length x + length y ≤ length l
    → over (p + length x) y (over p x l) ≡ over p (x ++ y) l
unfolding over
over_append p x y l h =
    let e : length (take p l ++ x) ≡ p + length x = simp (length-append, length-take) (omega arith) in
    rw (
      take_at (take p l ++ x) (drop (p + length x) l) (p + length x) e,
      drop_past (take p l ++ x) (drop (p + length x) l) (p + length x) (length y) e,
      drop-drop (length y) (p + length x) l,
      length-append,
      ← append_assoc (take p l),
      add_assoc,
    )

-- two runs, the second behind the first: either may be written first
apart : {A : Type 0} (p r : ℕ) (x y a b : List A) → p + length x ≤ length a
    → over p x (over (length a + r) y (a ++ b)) ≡ over (length a + r) y (over p x (a ++ b))
apart p r x y a b h =
    ap (over p x) (over-past r y a b)
    ∙ over-within p x a (over r y b) h
    ∙ sym (over-past r y (over p x a) b)
    ∙ ap (λ n. over (n + r) y (over p x a ++ b)) (length_over p x a h)
    ∙ ap (over (length a + r) y) (sym (over-within p x a b h))

pub over-apart : {A : Type 0} (p q : ℕ) (x y l : List A) → p + length x ≤ q → q + length y ≤ length l
    → over p x (over q y l) ≡ over q y (over p x l)
over-apart p q x y l h k =
    let e : length (take q l) ≡ q = length-take-le q l (omega arith) in
    let m : length (take q l) + 0 ≡ q = omega arith in
    rw (m, take-append-drop) at (apart p 0 x y (take q l) (drop q l) (omega arith))

-- what stands at the front, and behind it
pub over-front : {A : Type 0} (x l : List A) → take (length x) (over 0 x l) ≡ x
unfolding over
over-front x l = take-append_seam x (drop (0 + length x) l)

pub over-rest : {A : Type 0} (x l : List A) → drop (length x) (over 0 x l) ≡ drop (length x) l
unfolding over
over-rest x l = drop-append_seam x (drop (0 + length x) l) ∙ ap (λ n. drop n l) (zero-add (length x))
