-- A list that is cut into parts, each of which is turned into another list: the laws, for any rule that turns every
-- part of n entries into k entries.
-- Assumes nothing.
use mathlib.Core.List.{List, [], ◌∷◌, ◌++◌, append-nil, append_assoc}
use mathlib.Core.Path.{◌≡◌, refl, sym, ap, ap₂, ◌∙◌}
use Prim.Native.Nat.{ℕ, zero, suc, ◌+◌, ◌*◌, ◌≤◌, ◌<◌}
use native.Mathlib.Nat.{suc-mul, mul-le-mul_right, add-mul, add-zero, add-suc, suc-add, zero-add, zero-mul}
use native.Mathlib.Numerals.{add-one}
use native.Mathlib.Omega.{arith}
use lib.ListN.{length, take, drop, length-take, length-drop}
use lib.Seq.{drop-drop, drop-length, take_all, take-take, take-append_seam, drop-append_seam}
use borrow.Rule.Slice.PartMut.{put_mid}
use Rattle.lists.specs.Parts.{cut, joined}
use Rattle.lists.specs.Tab.{over}
use Rattle.lists.proofs.Overs.{over_append, over_nothing}
use Rattle.lists.proofs.Parts.{length-joined, joined_at}
use Rattle.lists.proofs.Tabs.{length_over}
use Rattle.drawers.specs.Drawers.{each_part_lem}

-- part b of m parts of n entries lies within them
pub part-within : (b m n : ℕ) → b < m → b * n + n ≤ m * n
part-within b m n h = let p : suc b * n ≤ m * n = mul-le-mul_right n h in let e : suc b * n ≡ b * n + n = suc-mul b n in omega arith

module _ (n k : ℕ) (g : List ℕ → List ℕ) (long : (x : List ℕ) → length (g x) ≡ k) (x : List ℕ) where
  pub each_long : (m : ℕ) → length (each_part_lem n g m x) ≡ m * k
  unfolding each_part_lem
  each_long m = length-joined k m _ (λ b _. long (cut n x b))

  -- one part more
  pub each_next : (m : ℕ) → each_part_lem n g (m + 1) x ≡ each_part_lem n g m x ++ g (cut n x m)
  unfolding each_part_lem joined
  each_next m = ap (λ m. joined m (λ b. g (cut n x b))) (add-one m)

-- A list as long as another, written over it, is itself.
over-whole : (x l : List ℕ) → length x ≡ length l → over 0 x l ≡ x
unfolding over
over-whole x l e = rw (zero-add, e, drop-length) (append-nil x)

-- A part of a list is lent to a call, which turns a part of another list by the rule g and leaves that in it.
module _ (leaves : (part room : List ℕ) → List ℕ) (g : List ℕ → List ℕ) (n k : ℕ) (long : (x : List ℕ) → length (g x) ≡ k)
    (gives : (part room : List ℕ) → length part ≡ n → length room ≡ k → leaves part room ≡ g part) where
  pub part_turned : (x y z : List ℕ) (b from to n' k' : ℕ) → from ≡ b * n → b * n + n ≤ length x → to + k ≤ length y → n' ≡ n → k' ≡ k
      → z ≡ leaves (take n' (drop from x)) (take k' (drop to y)) → put_mid to k' y z ≡ over to (g (cut n x b)) y
  unfolding cut over
  part_turned x y z b from to n' k' ef hx hy en ek ez =
      let part = take n (drop (b * n) x) in
      let room = take k (drop to y) in
      let lp : length part ≡ n = simp (length-take, length-drop) (omega arith) in
      let lr : length room ≡ k = simp (length-take, length-drop) (omega arith) in
      ap (put_mid to k' y) ez
      ∙ (λ j. put_mid to (ek j) y (leaves (take (en j) (drop (ef j) x)) (take (ek j) (drop to y))))
      ∙ ap (put_mid to k y) (gives part room lp lr)
      ∙ rw (long, drop-drop, ← append_assoc)

-- The first b parts of the list x are turned, and written over the front of a list.
pub record Turned (n k : ℕ) (g : List ℕ → List ℕ) (b : ℕ) (x old new : List ℕ) : Type 0 where
  pub room : b * k ≤ length old
  pub is : new ≡ over 0 (each_part_lem n g b x) old

module _ {n k : ℕ} {g : List ℕ → List ℕ} (long : (x : List ℕ) → length (g x) ≡ k) {x old : List ℕ} where
  pub turned_none : Turned n k g 0 x old old
  unfolding each_part_lem joined
  turned_none = record { room = omega (arith, zero-mul k); is = sym (over_nothing 0 old) }

  module _ {b : ℕ} {new : List ℕ} (so : Turned n k g b x old new) where
    pub turned-length : length new ≡ length old
    turned-length = ap length so.is ∙ length_over 0 (each_part_lem n g b x) old (omega (arith, each_long n k g long x b, so.room))

    pub turned-next : (next : List ℕ) → b * k + k ≤ length old → next ≡ over (b * k) (g (cut n x b)) new → Turned n k g (b + 1) x old next
    turned-next next room e =
        let all = each_long n k g long x b in
        let one = long (cut n x b) in
        let more : (b + 1) * k ≡ b * k + k = ap (λ m. m * k) (add-one b) ∙ suc-mul b k in
        record {
          room = omega (arith, more);
          is =
              e
              ∙ ap₂ (λ p l. over p (g (cut n x b)) l) (sym (ap (λ p. 0 + p) all ∙ zero-add (b * k))) so.is
              ∙ over_append 0 (each_part_lem n g b x) (g (cut n x b)) old (omega (arith, all, one))
              ∙ ap (λ l. over 0 l old) (sym (each_next n k g long x b));
        }

    -- All parts are turned, and fill the list.
    pub turned_all : b * k ≡ length old → new ≡ each_part_lem n g b x
    turned_all full = so.is ∙ over-whole (each_part_lem n g b x) old (each_long n k g long x b ∙ full)

-- ---- the parts of what is left

-- lists of which each is equal
joined_ext : (m : ℕ) (f g : ℕ → List ℕ) → ((b : ℕ) → b < m → f b ≡ g b) → joined m f ≡ joined m g
unfolding joined
joined_ext zero f g all = refl
joined_ext (suc m) f g all = ap₂ ◌++◌ (joined_ext m f g (λ b h. all b (omega arith))) (all m (omega arith))

-- lists in two groups
joined-split : (i j : ℕ) (f : ℕ → List ℕ) → joined (i + j) f ≡ joined i f ++ joined j (λ b. f (i + b))
unfolding joined
joined-split i zero f = ap (λ m. joined m f) (add-zero i) ∙ sym (append-nil (joined i f))
joined-split i (suc j) f =
    ap (λ m. joined m f) (add-suc i j)
    ∙ ap (λ l. l ++ f (i + j)) (joined-split i j f)
    ∙ append_assoc (joined i f) (joined j (λ b. f (i + b))) (f (i + j))

take_nil : (n : ℕ) → take {A = ℕ} n [] ≡ []
take_nil zero = refl
take_nil (suc n) = refl

-- what stands behind p entries of a front of p + n
behind-front : (p n : ℕ) (l : List ℕ) → drop p (take (p + n) l) ≡ take n (drop p l)
behind-front zero n l = ap (λ k. take k l) (zero-add n)
behind-front (suc p) n [] = ap (λ k. drop (suc p) (take k [])) (suc-add p n) ∙ sym (take_nil n)
behind-front (suc p) n (x ∷ xs) = ap (λ k. drop (suc p) (take k (x ∷ xs))) (suc-add p n) ∙ behind-front p n xs

module _ (n : ℕ) (x : List ℕ) where
  -- a part of a front, and of what is behind a front
  cut-front : (i b : ℕ) → b < i → cut n (take (i * n) x) b ≡ cut n x b
  unfolding cut
  cut-front i b h =
      let inside = part-within b i n h in
      sym (behind-front (b * n) n (take (i * n) x))
      ∙ ap (drop (b * n)) (take-take (b * n + n) (i * n) x inside)
      ∙ behind-front (b * n) n x

  cut-behind : (i b : ℕ) → cut n (drop (i * n) x) b ≡ cut n x (i + b)
  unfolding cut
  cut-behind i b = ap (take n) (drop-drop (b * n) (i * n) x ∙ ap (λ k. drop k x) (sym (add-mul i b n)))

  -- one list is its own only part
  pub cut_all : length x ≡ n → cut n x 0 ≡ x
  unfolding cut
  cut_all e = ap (λ k. take n (drop k x)) (zero-mul n) ∙ take_all n x (omega arith)

module _ (n k : ℕ) (g : List ℕ → List ℕ) (long : (x : List ℕ) → length (g x) ≡ k) (x : List ℕ) where
  -- Part b of what is left is part b turned.
  pub each_part : (m b : ℕ) → b < m → cut k (each_part_lem n g m x) b ≡ g (cut n x b)
  unfolding each_part_lem cut
  each_part m b h =
      let f : ℕ → List ℕ = λ b. g (cut n x b) in
      let at = joined_at m f b h in
      let before = length-joined k b f (λ b _. long (cut n x b)) in
      ap (λ l. take k (drop (b * k) l)) at.1
      ∙ ap (λ p. take k (drop p (joined b f ++ (f b ++ at.0)))) (sym before)
      ∙ ap (take k) (drop-append_seam (joined b f) (f b ++ at.0))
      ∙ ap (λ p. take p (f b ++ at.0)) (sym (long (cut n x b)))
      ∙ take-append_seam (f b) at.0

  -- A list in two is turned in two.
  pub each-split : (i j : ℕ) → each_part_lem n g (i + j) x ≡ each_part_lem n g i (take (i * n) x) ++ each_part_lem n g j (drop (i * n) x)
  unfolding each_part_lem
  each-split i j =
      joined-split i j (λ b. g (cut n x b))
      ∙ ap₂ ◌++◌
      (joined_ext i _ _ (λ b h. ap g (sym (cut-front n x i b h))))
      (joined_ext j _ _ (λ b _. ap g (sym (cut-behind n x i b))))
