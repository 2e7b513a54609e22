-- The laws of the bytes that numbers are written as: how many they are, that each is a byte, that reading them gives
-- the numbers back, and what the stores of a write come to.
-- Assumes nothing.
use mathlib.Core.Bool.{true, false}
use mathlib.Core.Path.{◌≡◌, refl, sym, ap, ap₂, ◌∙◌}
use mathlib.Core.List.{List, [], ◌∷◌, ◌++◌, append-nil, append_assoc}
use Prim.Native.Nat.{ℕ, zero, suc, ◌+◌, ◌*◌, ◌/◌, ◌%◌, ◌^◌, ◌≤◌, ◌<◌, zero-le}
use native.Mathlib.Nat.{add-zero, add_comm, zero-add, suc-add, mul_comm, mul-zero, mul-suc, suc-mul, zero-mul, mul-le-mul_left, div-one, div-div-eq-div-mul, mod-add-div', mod-eq_of_lt, pow-suc, pow-succ', not-suc-le-zero, le_of_suc-le-suc}
use native.Mathlib.Numerals.{add-one}
use native.Mathlib.Omega.{arith}
use lib.Dec.{leb}
use lib.ListN.{length, get_or, take, set, length-append}
use lib.Pow.{pow-add, field, mod-mod-pow}
use lib.Seq.{length-take-le, sets-eq, take-length, take-suc}
use borrow.Author.Tests.{le-leb, lt-leb}
use Rattle.lists.specs.Numbers.{Elements}
use Rattle.lists.specs.Pick.{pick}
use Rattle.lists.specs.Tab.{over}
use Rattle.lists.proofs.Overs.{length_over, over_append, over_nothing}
use Rattle.lists.proofs.Tabs.{is-tab}
use Rattle.little.specs.Little.{little, numbers_of, bytes_of, all_bytes, put_leaves, write_leaves}
use Rattle.little.proofs.Little.{little-past}

-- how many bytes there are
pub length-bytes : (k x : ℕ) → length (bytes_of k x) ≡ k
unfolding bytes_of
length-bytes zero x = refl
length-bytes (suc k) x = ap suc (length-bytes k (x / 256))

pub length_all : (k : ℕ) (l : List ℕ) → length (all_bytes k l) ≡ k * length l
unfolding all_bytes
length_all k [] = sym (mul-zero k)
length_all k (x ∷ l) =
    length-append (bytes_of k x) (all_bytes k l)
    ∙ ap₂ (λ m n. m + n) (length-bytes k x) (length_all k l)
    ∙ add_comm k (k * length l)
    ∙ sym (mul-suc k (length l))

-- each of them is a byte
pub bytes_small : (k x i : ℕ) → get_or (bytes_of k x) i 0 < 256
unfolding bytes_of
bytes_small zero x i = omega arith
bytes_small (suc k) x zero = omega arith
bytes_small (suc k) x (suc i) = bytes_small k (x / 256) i

-- what is below n in two lists is so in both of them one after the other
pub below_append : (n : ℕ) (a b : List ℕ) → ((i : ℕ) → get_or a i 0 < n) → ((i : ℕ) → get_or b i 0 < n) → (i : ℕ) → get_or (a ++ b) i 0 < n
below_append n [] b f g i = g i
below_append n (x ∷ a) b f g zero = f 0
below_append n (x ∷ a) b f g (suc i) = below_append n a b (λ j. f (suc j)) g i

pub all_small : (k : ℕ) (l : List ℕ) (i : ℕ) → get_or (all_bytes k l) i 0 < 256
unfolding all_bytes
all_small k [] i = omega arith
all_small k (x ∷ l) i = below_append 256 (bytes_of k x) (all_bytes k l) (bytes_small k x) (all_small k l) i

-- k bytes hold 8 · k bits; at a numeral, as 2, 4 and 8, both sides compute to one number
pub pow_bytes : (k : ℕ) → 256 ^ k ≡ 2 ^ (8 * k)
pow_bytes zero = refl
pow_bytes (suc k) = pow-suc 256 k ∙ ap (λ n. n * 256) (pow_bytes k) ∙ sym (pow-add 2 (8 * k) 8) ∙ ap (λ n. 2 ^ n) (sym (mul-suc 8 k))

-- reading a number's bytes gives the number back
bytes_back : (k x : ℕ) (c : List ℕ) → x < 256 ^ k → little (bytes_of k x ++ c) 0 k ≡ x
unfolding little bytes_of
bytes_back zero x c h = omega arith
bytes_back (suc k) x c h =
    let g : x < 256 ^ k * 256 = rw pow-suc at h in
    ap (λ n. x % 256 + n * 256) (little-past (x % 256 ∷ []) (bytes_of k (x / 256) ++ c) 0 k ∙ bytes_back k (x / 256) c (omega arith))
    ∙ mod-add-div' x 256

pub little-bytes : (k x : ℕ) (a c : List ℕ) → x < 256 ^ k → little (a ++ bytes_of k x ++ c) (length a) k ≡ x
little-bytes k x a c h =
    ap₂ (λ l n. little l n k) (append_assoc a (bytes_of k x) c) (sym (add-zero (length a)))
    ∙ little-past a (bytes_of k x ++ c) 0 k
    ∙ bytes_back k x c h

-- reading the bytes of a list of numbers gives the list back
all_at : (k : ℕ) (l c : List ℕ) → ((i : ℕ) → get_or l i 0 < 256 ^ k) → (i : ℕ) → i < length l → little (all_bytes k l ++ c) (i * k) k ≡ get_or l i 0
unfolding all_bytes
all_at k [] c small i h = absurd (not-suc-le-zero h)
all_at k (x ∷ l) c small zero h =
    ap₂ (λ m n. little m n k) (append_assoc (bytes_of k x) (all_bytes k l) c) (zero-mul k) ∙ bytes_back k x (all_bytes k l ++ c) (small 0)
all_at k (x ∷ l) c small (suc i) h =
    let e : suc i * k ≡ length (bytes_of k x) + i * k = suc-mul i k ∙ add_comm (i * k) k ∙ ap (λ n. n + i * k) (sym (length-bytes k x)) in
    ap₂ (λ m n. little m n k) (append_assoc (bytes_of k x) (all_bytes k l) c) e
    ∙ little-past (bytes_of k x) (all_bytes k l ++ c) (i * k) k
    ∙ all_at k l c (λ j. small (suc j)) i (le_of_suc-le-suc h)

pub numbers_all : (k : ℕ) (l c : List ℕ) → ((i : ℕ) → get_or l i 0 < 256 ^ k) → numbers_of k (all_bytes k l ++ c) (length l) ≡ l
unfolding numbers_of
numbers_all k l c small =
    sym (is-tab l (length l) (λ i. little (all_bytes k l ++ c) (i * k) k) 0 refl (λ i h. sym (all_at k l c small i h)))

-- the same of words
pub words_all : (l c : List ℕ) → Elements 64 l → numbers_of 8 (all_bytes 8 l ++ c) (length l) ≡ l
words_all l c small = numbers_all 8 l c small

-- the bytes of j + k are the first j and then those of the rest
pub bytes_append : (j k x : ℕ) → bytes_of (j + k) x ≡ bytes_of j x ++ bytes_of k (x / 256 ^ j)
unfolding bytes_of
bytes_append zero k x = ap₂ bytes_of (zero-add k) (sym (div-one x))
bytes_append (suc j) k x =
    ap (λ n. bytes_of n x) (suc-add j k)
    ∙ ap (λ l. x % 256 ∷ l)
    (bytes_append j k (x / 256)
    ∙ ap (λ n. bytes_of j (x / 256) ++ bytes_of k n) (div-div-eq-div-mul x 256 (256 ^ j) ∙ ap (λ n. x / n) (sym (pow-succ' 256 j))))

-- bytes know nothing of what is above them
pub bytes_cut : (k x : ℕ) → bytes_of k (x % 256 ^ k) ≡ bytes_of k x
unfolding bytes_of
bytes_cut zero x = refl
bytes_cut (suc k) x =
    let e : 256 ^ suc k ≡ 2 ^ (8 * k + 8) = pow_bytes (suc k) ∙ ap (λ n. 2 ^ n) (mul-suc 8 k) in
    let low : x % 256 ^ suc k % 256 ≡ x % 256 = ap (λ n. x % n % 256) e ∙ mod-mod-pow x (8 * k) 8 in
    let high : x % 256 ^ suc k / 256 ≡ x / 256 % 256 ^ k = ap (λ n. x % n / 256) e ∙ field x (8 * k) 8 ∙ ap (λ n. x / 256 % n) (sym (pow_bytes k)) in
    ap₂ (λ n l. n ∷ l) low (ap (bytes_of k) high ∙ bytes_cut k (x / 256))

-- a number is written by its halves
pub bytes_halves : (k x : ℕ) → bytes_of k (x % 256 ^ k) ++ bytes_of k (x / 256 ^ k) ≡ bytes_of (k + k) x
bytes_halves k x = ap (λ l. l ++ bytes_of k (x / 256 ^ k)) (bytes_cut k x) ∙ sym (bytes_append k k x)

-- two stores of a byte, and two stores of a half, come to one write
pub put_two : (x at : ℕ) (l : List ℕ) → x < 2 ^ 16 → at + 2 ≤ length l → set (set l at (x % 256)) (at + 1) (x / 256) ≡ over at (bytes_of 2 x) l
unfolding over bytes_of
put_two x at l small h =
    ap₂ (λ i v. set (set l at (x % 256)) i v) (add-one at) (sym (mod-eq_of_lt (omega arith)))
    ∙ sets-eq (x % 256 ∷ (x / 256 % 256 ∷ [])) l at h

pub put_halves : (k x at : ℕ) (l m n : List ℕ) → at + (k + k) ≤ length l → m ≡ over at (bytes_of k (x % 256 ^ k)) l
    → n ≡ over (at + k) (bytes_of k (x / 256 ^ k)) m → n ≡ over at (bytes_of (k + k) x) l
put_halves k x at l m n h e g =
    let low = bytes_of k (x % 256 ^ k) in
    let high = bytes_of k (x / 256 ^ k) in
    let long : length low ≡ k = length-bytes k (x % 256 ^ k) in
    g
    ∙ ap₂ (λ i r. over (at + i) high r) (sym long) e
    ∙ over_append at low high l (omega (arith, length-bytes k (x / 256 ^ k)))
    ∙ ap (λ r. over at r l) (bytes_halves k x)

-- a number that is put, and one that does not fit
module _ (k x at : ℕ) (bytes : List ℕ) where
  pub put_there : leb (at + k) (length bytes) ≡ true → put_leaves k x at bytes ≡ over at (bytes_of k x) bytes
  unfolding put_leaves
  put_there e = ap (λ b. pick b (over at (bytes_of k x) bytes) bytes) e

  pub put_missing : leb (at + k) (length bytes) ≡ false → put_leaves k x at bytes ≡ bytes
  unfolding put_leaves
  put_missing e = ap (λ b. pick b (over at (bytes_of k x) bytes) bytes) e

  -- as an order of numbers
  pub put_within : at + k ≤ length bytes → put_leaves k x at bytes ≡ over at (bytes_of k x) bytes
  put_within h = put_there (le-leb (at + k) (length bytes) h)

-- a list that is written, and one that does not fit
module _ (k : ℕ) (numbers bytes : List ℕ) where
  pub write_all : k * length numbers ≤ length bytes → write_leaves k numbers bytes ≡ over 0 (all_bytes k numbers) bytes
  unfolding write_leaves
  write_all h = simp (le-leb (k * length numbers) (length bytes) h)

  pub write-none : length bytes < k * length numbers → write_leaves k numbers bytes ≡ bytes
  unfolding write_leaves
  write-none h = simp (lt-leb (k * length numbers) (length bytes) h)

-- The law behind a loop that lays numbers down front to back: y is x with the bytes of the first n numbers of l written
-- over its front.
pub record Laid (k n : ℕ) (l x y : List ℕ) : Type 0 where
  pub room : k * length l ≤ length x
  pub within : n ≤ length l
  pub is : y ≡ over 0 (all_bytes k (take n l)) x

-- one list after another, and one number more
pub all_append : (k : ℕ) (a b : List ℕ) → all_bytes k (a ++ b) ≡ all_bytes k a ++ all_bytes k b
unfolding all_bytes
all_append k [] b = refl
all_append k (x ∷ a) b = ap (λ l. bytes_of k x ++ l) (all_append k a b) ∙ sym (append_assoc (bytes_of k x) (all_bytes k a) (all_bytes k b))

all_next : (k n : ℕ) (l : List ℕ) → n < length l → all_bytes k (take (n + 1) l) ≡ all_bytes k (take n l) ++ bytes_of k (get_or l n 0)
unfolding all_bytes
all_next k n l h =
    ap (λ m. all_bytes k (take m l)) (add-one n)
    ∙ ap (all_bytes k) (take-suc l n 0 h)
    ∙ all_append k (take n l) (get_or l n 0 ∷ [])
    ∙ ap (λ m. all_bytes k (take n l) ++ m) (append-nil (bytes_of k (get_or l n 0)))

-- how far the first n numbers reach
laid_long : {k n : ℕ} {l x y : List ℕ} → Laid k n l x y → length (all_bytes k (take n l)) ≡ n * k
laid_long {k} {n} {l} w = length_all k (take n l) ∙ ap (λ m. k * m) (length-take-le n l w.within) ∙ mul_comm k n

-- nothing is laid down yet
pub laid_none : {k : ℕ} {l x : List ℕ} → k * length l ≤ length x → Laid k 0 l x x
unfolding all_bytes
laid_none {x = x} h = record { room = h; within = zero-le; is = sym (over_nothing 0 x) }

-- the bytes keep their number
pub laid_length : {k n : ℕ} {l x y : List ℕ} → Laid k n l x y → length y ≡ length x
laid_length {k} {n} {l} {x} w =
    let m : k * n ≤ k * length l = mul-le-mul_left k w.within in
    ap length w.is ∙ length_over 0 (all_bytes k (take n l)) x (omega (arith, laid_long w, mul_comm k n, w.room))

-- the next number is laid down
pub laid_next : {k n : ℕ} {l x y z : List ℕ} → Laid k n l x y → n < length l → z ≡ over (n * k) (bytes_of k (get_or l n 0)) y → Laid k (n + 1) l x z
laid_next {k} {n} {l} {x} w h e =
    let b = bytes_of k (get_or l n 0) in
    let m : k * suc n ≤ k * length l = mul-le-mul_left k h in
    let at : n * k ≡ 0 + length (all_bytes k (take n l)) = omega (arith, laid_long w) in
    record {
      room = w.room;
      within = omega arith;
      is =
          e
          ∙ ap₂ (λ i r. over i b r) at w.is
          ∙ over_append 0 (all_bytes k (take n l)) b x (omega (arith, laid_long w, length-bytes k (get_or l n 0), mul_comm k n, mul-suc k n, w.room))
          ∙ ap (λ r. over 0 r x) (sym (all_next k n l h));
    }

-- all are laid down
pub laid_all : {k n : ℕ} {l x y : List ℕ} → Laid k n l x y → n ≡ length l → y ≡ over 0 (all_bytes k l) x
laid_all {k} {l = l} {x} w e = w.is ∙ ap (λ m. over 0 (all_bytes k (take m l)) x) e ∙ ap (λ r. over 0 (all_bytes k r) x) (take-length l)
