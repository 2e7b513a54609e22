-- The laws of tab, and the one law behind every loop that rewrites a list front to back.
-- Assumes nothing.
use mathlib.Core.Path.{◌≡◌, refl, sym, ap, ap₂, ◌∙◌}
use mathlib.Core.List.{List, [], ◌∷◌, ◌++◌, append-nil, append_assoc}
use Prim.Native.Nat.{ℕ, zero, suc, ◌+◌, ◌-◌, ◌*◌, ◌≤◌, ◌<◌}
use native.Mathlib.Nat.{mul-le-mul_right, suc-mul, add-zero, zero-add, add-suc, suc-add, le_of_suc-le-suc, not-suc-le-zero}
use native.Mathlib.Numerals.{add-one}
use native.Mathlib.Omega.{arith}
use lib.ListN.{length, get_or, take, drop, set, length-append, length-take, get_or-append}
use lib.Seq.{ext_get_or, get_or-take, append_snoc, get_or-drop, get_or-append-add, drop-length, drop-cons, set_at}
use Rattle.lists.specs.Tab.{tab, tab_from, over}
use Rattle.lists.proofs.Overs.{over_nothing, over_append}
pub use Rattle.lists.proofs.Overs.{length_over}

length_from : {A : Type 0} (s n : ℕ) (f : ℕ → A) → length (tab_from s n f) ≡ n
unfolding tab_from
length_from s zero f = refl
length_from s (suc n) f = ap suc (length_from (suc s) n f)

get_d_from : {A : Type 0} (s n : ℕ) (f : ℕ → A) (i : ℕ) (d : A) → i < n → get_or (tab_from s n f) i d ≡ f (s + i)
unfolding tab_from
get_d_from s zero f i d h = absurd (not-suc-le-zero h)
get_d_from s (suc n) f zero d h = ap f (sym (add-zero s))
get_d_from s (suc n) f (suc i) d h = get_d_from (suc s) n f i d (le_of_suc-le-suc h) ∙ ap f (suc-add s i ∙ sym (add-suc s i))

from_snoc : {A : Type 0} (s n : ℕ) (f : ℕ → A) → tab_from s (suc n) f ≡ tab_from s n f ++ (f (s + n) ∷ [])
unfolding tab_from
from_snoc s zero f = ap (λ k. f k ∷ []) (sym (add-zero s))
from_snoc s (suc n) f = ap (λ l. f s ∷ l) (from_snoc (suc s) n f ∙ ap (λ k. tab_from (suc s) n f ++ (f k ∷ [])) (suc-add s n ∙ sym (add-suc s n)))

pub length-tab : {A : Type 0} (n : ℕ) (f : ℕ → A) → length (tab n f) ≡ n
unfolding tab
length-tab n f = length_from 0 n f

pub get_d_tab : {A : Type 0} (n : ℕ) (f : ℕ → A) (i : ℕ) (d : A) → i < n → get_or (tab n f) i d ≡ f i
unfolding tab
get_d_tab n f i d h = get_d_from 0 n f i d h ∙ ap f (zero-add i)

-- one entry more
pub tab_snoc : {A : Type 0} (n : ℕ) (f : ℕ → A) → tab (n + 1) f ≡ tab n f ++ (f n ∷ [])
unfolding tab
tab_snoc n f = rw add-one (from_snoc 0 n f ∙ ap (λ k. tab_from 0 n f ++ (f k ∷ [])) (zero-add n))

-- n entries, and then m more
pub tab_append : {A : Type 0} (n m : ℕ) (f : ℕ → A) → tab (n + m) f ≡ tab n f ++ tab m (λ k. f (n + k))
unfolding tab tab_from
tab_append n zero f = rw (add-zero, append-nil)
tab_append n (suc m) f =
    ap (λ k. tab k f) (add-suc n m ∙ sym (add-one (n + m)))
    ∙ tab_snoc (n + m) f
    ∙ ap (λ l. l ++ (f (n + m) ∷ [])) (tab_append n m f)
    ∙ append_assoc (tab n f) (tab m (λ k. f (n + k))) (f (n + m) ∷ [])
    ∙ ap (λ l. tab n f ++ l) (sym (tab_snoc m (λ k. f (n + k))) ∙ ap (λ k. tab k (λ k. f (n + k))) (add-one m))

-- two rules that agree below n give one list
pub tab_ext : {A : Type 0} (n : ℕ) (f g : ℕ → A) (d : A) → ((i : ℕ) → i < n → f i ≡ g i) → tab n f ≡ tab n g
tab_ext n f g d h =
    ext_get_or d (tab n f) (tab n g) (length-tab n f ∙ sym (length-tab n g))
    (λ i b. let b' : i < n = omega (arith, length-tab n f) in
    get_d_tab n f i d b' ∙ h i b' ∙ sym (get_d_tab n g i d b'))

-- a list is the tab of its own entries
pub tab_get_d : {A : Type 0} (l : List A) (d : A) (n : ℕ) → length l ≡ n → tab n (λ i. get_or l i d) ≡ l
tab_get_d l d n e =
    ext_get_or d (tab n (λ i. get_or l i d)) l (length-tab n (λ i. get_or l i d) ∙ sym e)
    (λ i b. get_d_tab n (λ i. get_or l i d) i d (omega (arith, length-tab n (λ i. get_or l i d))))

-- a list is a tab exactly when it has the tab's length and entries
pub is-tab : {A : Type 0} (l : List A) (n : ℕ) (f : ℕ → A) (d : A) → length l ≡ n → ((i : ℕ) → i < n → get_or l i d ≡ f i) → l ≡ tab n f
is-tab l n f d e h = sym (tab_get_d l d n e) ∙ tab_ext n (λ i. get_or l i d) f d h

-- writing over a list: nothing, one entry more, a run more, all of it

over_none : {A : Type 0} (p : ℕ) (f : ℕ → A) (l : List A) → l ≡ over p (tab 0 f) l
unfolding tab tab_from
over_none p f l = sym (over_nothing p l)

over_more : {A : Type 0} (p n : ℕ) (f : ℕ → A) (l : List A) (d : A) → p + n < length l
    → set (over p (tab n f) l) (p + n) (f n) ≡ over p (tab (n + 1) f) l
unfolding over
over_more p n f l d h =
    let e : length (take p l ++ tab n f) ≡ p + n = simp (length-append, length-take, length-tab) (omega arith) in
    simp length-tab
    (rw (drop-cons l (p + n) d h, set_at (take p l ++ tab n f) (get_or l (p + n) d) (drop (suc (p + n)) l) (f n) (p + n) e)
    (rw (tab_snoc, ← append_assoc (take p l) (tab n f) (f n ∷ []), append_snoc, add-one, add-suc)))

over-run : {A : Type 0} (p n m : ℕ) (f : ℕ → A) (l : List A) → p + n + m ≤ length l
    → over (p + n) (tab m (λ k. f (n + k))) (over p (tab n f) l) ≡ over p (tab (n + m) f) l
over-run p n m f l h =
    let law = over_append p (tab n f) (tab m (λ k. f (n + k))) l (simp length-tab h) in
    rw (tab_append) (simp length-tab at law)

over_all : {A : Type 0} (n : ℕ) (f : ℕ → A) (l : List A) → length l ≡ n → over 0 (tab n f) l ≡ tab n f
unfolding over
over_all n f l e = rw (length-tab, zero-add, ← e, drop-length, append-nil)

-- the entries of what was written over, and those before and after it
module _ {A : Type 0} (p : ℕ) (x l : List A) (h : p + length x ≤ length l) (i : ℕ) (d : A) where
  front_long : length (take p l ++ x) ≡ p + length x
  front_long = simp (length-append, length-take) (omega arith)

  pub get_d_over_after : p + length x ≤ i → get_or (over p x l) i d ≡ get_or l i d
  unfolding over
  get_d_over_after g =
      let e : i ≡ length (take p l ++ x) + (i - (p + length x)) = omega (arith, front_long) in
      ap (λ k. get_or (over p x l) k d) e
      ∙ get_or-append-add (take p l ++ x) (drop (p + length x) l) (i - (p + length x)) d
      ∙ get_or-drop (p + length x) l (i - (p + length x)) d
      ∙ ap (λ k. get_or l k d) (omega arith)

  pub get_d_over_in : p ≤ i → i < p + length x → get_or (over p x l) i d ≡ get_or x (i - p) d
  unfolding over
  get_d_over_in g b =
      let t : length (take p l) ≡ p = simp length-take (omega arith) in
      let e : i ≡ length (take p l) + (i - p) = omega arith in
      get_or-append (take p l ++ x) (drop (p + length x) l) d i (omega (arith, front_long))
      ∙ ap (λ k. get_or (take p l ++ x) k d) e
      ∙ get_or-append-add (take p l) x (i - p) d

  pub get_d_over-before : i < p → get_or (over p x l) i d ≡ get_or l i d
  unfolding over
  get_d_over-before b =
      let t : length (take p l) ≡ p = simp length-take (omega arith) in
      get_or-append (take p l ++ x) (drop (p + length x) l) d i (omega (arith, front_long))
      ∙ get_or-append (take p l) x d i (omega arith)
      ∙ get_or-take p l i d b

-- The law behind every loop that writes front to back: y is x with f 0, .., f (n - 1) written over it from place p on.
pub record Written {A : Type 0} (p n : ℕ) (f : ℕ → A) (x y : List A) : Type 0 where
  pub room : p + n ≤ length x
  pub is : y ≡ over p (tab n f) x

-- nothing is written yet
pub written_none : {A : Type 0} {p : ℕ} {f : ℕ → A} {x : List A} → p ≤ length x → Written p 0 f x x
written_none {p = p} {f} {x} h = record { room = omega arith; is = over_none p f x }

-- the list keeps its length
pub written-length : {A : Type 0} {p n : ℕ} {f : ℕ → A} {x y : List A} → Written p n f x y → length y ≡ length x
written-length {p = p} {n} {f} {x} w =
    let h : p + length (tab n f) ≤ length x = rw length-tab w.room in
    ap length w.is ∙ length_over p (tab n f) x h

-- what is not written yet stands as it was
pub written_later : {A : Type 0} {p n : ℕ} {f : ℕ → A} {x y : List A} → Written p n f x y → (i : ℕ) (d : A) → p + n ≤ i
    → get_or y i d ≡ get_or x i d
written_later {p = p} {n} {f} {x} w i d g =
    let h : p + length (tab n f) ≤ length x = rw length-tab w.room in
    ap (λ l. get_or l i d) w.is ∙ get_d_over_after p (tab n f) x h i d (omega (arith, length-tab n f))

-- the next entry is written
pub written_next : {A : Type 0} {p n : ℕ} {f : ℕ → A} {x y : List A} → Written p n f x y → (i : ℕ) (v : A) → p + n < length x → i ≡ p + n → v ≡ f n
    → Written p (n + 1) f x (set y i v)
written_next {p = p} {n} {f} {x} w i v h e r =
    record { room = omega arith; is = (λ j. set (w.is j) (e j) (r j)) ∙ over_more p n f x v h }

-- a run that goes on where the one before ended
pub written-run : {A : Type 0} {p n m : ℕ} {f : ℕ → A} {x y z : List A} → Written p n f x y → (q : ℕ) → q ≡ p + n → Written q m (λ k. f (n + k)) y z
    → Written p (n + m) f x z
written-run {p = p} {n} {m} {f} {x} w q e v =
    let h : p + n + m ≤ length x = omega (arith, written-length w, v.room) in
    record {
      room = omega arith;
      is = v.is ∙ ap₂ (λ k l. over k (tab m (λ k. f (n + k))) l) e w.is ∙ over-run p n m f x h;
    }

-- the same with another rule, where the two agree on what is written
pub written_ext : {A : Type 0} {p n : ℕ} {f g : ℕ → A} {x y : List A} (d : A) → Written p n f x y → ((k : ℕ) → k < n → f k ≡ g k) → Written p n g x y
written_ext {p = p} {n} {f} {g} {x} d w h = record { room = w.room; is = w.is ∙ ap (λ l. over p l x) (tab_ext n f g d h) }

-- all is written
pub written_all : {A : Type 0} {n : ℕ} {f : ℕ → A} {x y : List A} → Written 0 n f x y → (m : ℕ) → n ≡ m → length x ≡ m → y ≡ tab m f
written_all {n = n} {f} {x} w m e h = w.is ∙ ap (λ k. over 0 (tab k f) x) e ∙ over_all m f x h

-- the entries of a strided run lie within the list if its last one does
pub strided : (from k s count n : ℕ) → k < count → from + count * s < n + s → from + k * s < n
strided from k s count n h b =
    let m : suc k * s ≤ count * s = mul-le-mul_right s h in
    let e : suc k * s ≡ k * s + s = suc-mul k s in
    omega arith
