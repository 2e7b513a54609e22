-- The laws of little-endian numbers: a number is made of its two halves, and knows nothing of the bytes before its own.
-- Assumes nothing.
use mathlib.Core.Bool.{true, false}
use mathlib.Core.Path.{◌≡◌, refl, sym, ap, ◌∙◌}
use mathlib.Core.List.{List, [], ◌∷◌, ◌++◌}
use Prim.Native.Nat.{ℕ, zero, suc, ◌+◌, ◌*◌, ◌≤◌, ◌<◌}
use native.Mathlib.Nat.{zero-add, suc-add}
use native.Mathlib.Decide.{dec_le}
use native.Mathlib.Omega.{arith}
use lib.Dec.{leb}
use lib.ListN.{length, get_or}
use borrow.Author.Tests.{le-leb, lt-leb}
use Rattle.lists.specs.Pick.{pick}
use Rattle.lists.proofs.Tabs.{length-tab}
use Rattle.little.specs.Little.{little, little_or, numbers_of, read_leaves}

-- one byte
pub little-one : (l : List ℕ) (at : ℕ) → get_or l at 0 ≡ little l at 1
unfolding little
little-one l at = omega arith

-- two bytes
pub little_two : (l : List ℕ) (at : ℕ) → get_or l at 0 + get_or l (at + 1) 0 * 256 ≡ little l at 2
unfolding little
little_two l at =
    let e : at + 1 ≡ suc at = omega arith in
    rw e (omega arith)

-- twice two bytes
pub little_four : (l : List ℕ) (at : ℕ) → little l at 2 + little l (at + 2) 2 * 65536 ≡ little l at 4
unfolding little
little_four l at =
    let e : at + 2 ≡ suc (suc at) = omega arith in
    rw e (omega arith)

-- twice four bytes
pub little_eight : (l : List ℕ) (at : ℕ) → little l at 4 + little l (at + 4) 4 * 4294967296 ≡ little l at 8
unfolding little
little_eight l at =
    let e : at + 4 ≡ suc (suc (suc (suc at))) = omega arith in
    rw e (omega arith)

-- past a front, whatever it is
little_cons : (x : ℕ) (l : List ℕ) (at k : ℕ) → little (x ∷ l) (suc at) k ≡ little l at k
unfolding little
little_cons x l at zero = refl
little_cons x l at (suc k) = ap (λ n. get_or l at 0 + n * 256) (little_cons x l (suc at) k)

pub little-past : (a b : List ℕ) (at k : ℕ) → little (a ++ b) (length a + at) k ≡ little b at k
little-past [] b at k = ap (λ n. little b n k) (zero-add at)
little-past (x ∷ a) b at k =
    ap (λ n. little (x ∷ (a ++ b)) n k) (suc-add (length a) at) ∙ little_cons x (a ++ b) (length a + at) k ∙ little-past a b at k

-- where the bytes are all there, and where they are not
module _ (l : List ℕ) (at k : ℕ) where
  pub little_there : leb (at + k) (length l) ≡ true → little_or l at k ≡ little l at k
  unfolding little_or
  little_there e = ap (λ b. pick b (little l at k) 0) e

  pub little_missing : leb (at + k) (length l) ≡ false → little_or l at k ≡ 0
  unfolding little_or
  little_missing e = ap (λ b. pick b (little l at k) 0) e

  -- as an order of numbers
  pub little-within : at + k ≤ length l → little_or l at k ≡ little l at k
  little-within h = little_there (le-leb (at + k) (length l) h)

-- two tests of an order that say the same are one
pub same-leb : (a b c d : ℕ) → (a ≤ b → c ≤ d) → (c ≤ d → a ≤ b) → leb a b ≡ leb c d
same-leb a b c d f g =
    elim (dec_le a b) [
      | yes h ↦ le-leb a b h ∙ sym (le-leb c d (f h))
      | no h ↦ lt-leb a b (omega arith) ∙ sym (lt-leb c d (elim (dec_le c d) [
        | yes m ↦ absurd (h (g m))
        | no m ↦ omega arith
      ]))
    ]

-- a list that is read whole, and one that is left
module _ (k : ℕ) (bytes numbers : List ℕ) where
  pub read_all : k * length numbers ≤ length bytes → read_leaves k bytes numbers ≡ numbers_of k bytes (length numbers)
  unfolding read_leaves
  read_all h = simp (le-leb (k * length numbers) (length bytes) h)

  pub read_none : length bytes < k * length numbers → read_leaves k bytes numbers ≡ numbers
  unfolding read_leaves
  read_none h = simp (lt-leb (k * length numbers) (length bytes) h)

-- There are as many numbers as are asked for.
pub length-numbers : (k : ℕ) (bytes : List ℕ) (n : ℕ) → length (numbers_of k bytes n) ≡ n
unfolding numbers_of
length-numbers k bytes n = length-tab n _

-- Where there are enough bytes, a list of n places that is read from them holds their first n numbers.
pub numbers-read : (k : ℕ) (bytes numbers : List ℕ) (n : ℕ) → length numbers ≡ n → k * n ≤ length bytes
    → read_leaves k bytes numbers ≡ numbers_of k bytes n
numbers-read k bytes numbers n l h = read_all k bytes numbers (rw l h) ∙ ap (numbers_of k bytes) l
