-- Numbers as little-endian bytes. A column file and a case stream are made of them.
-- Assumes nothing.
use Rattle.std.specs.Prelude.{List, [], ◌∷◌, ◌++◌, ℕ, zero, suc, ◌+◌, ◌*◌, ◌/◌, ◌%◌, leb, length, get_or}
use Rattle.lists.specs.Pick.{pick}
use Rattle.lists.specs.Tab.{tab, over}

-- This is the number whose bytes, lowest first, are the k bytes of l from place `at` on.
unfoldable pub little : (l : List ℕ) (at k : ℕ) → ℕ
little l at zero = 0
little l at (suc k) = get_or l at 0 + little l (suc at) k * 256

-- The same where all k bytes are there, and else 0.
unfoldable pub little_or : (l : List ℕ) (at k : ℕ) → ℕ
little_or l at k = pick (leb (at + k) (length l)) (little l at k) 0

-- These are the first n numbers of k bytes each that the bytes hold.
unfoldable pub numbers_of : (k : ℕ) (bytes : List ℕ) (n : ℕ) → List ℕ
numbers_of k bytes n = tab n (λ i. little bytes (i * k) k)

-- Reading fills the whole list with the numbers of k bytes that stand from the front of the bytes on. Where there are
-- too few bytes, the list is left as it was.
unfoldable pub read_leaves : (k : ℕ) (bytes numbers : List ℕ) → List ℕ
read_leaves k bytes numbers = pick (leb (k * length numbers) (length bytes)) (numbers_of k bytes (length numbers)) numbers

-- These are the k bytes of a number, lowest first. Of a number that k bytes do not hold, they are those of its
-- remainder.
unfoldable pub bytes_of : (k x : ℕ) → List ℕ
bytes_of zero x = []
bytes_of (suc k) x = x % 256 ∷ bytes_of k (x / 256)

-- These are the bytes of all the numbers, k for each, one number after another.
unfoldable pub all_bytes : (k : ℕ) (numbers : List ℕ) → List ℕ
all_bytes k [] = []
all_bytes k (x ∷ numbers) = bytes_of k x ++ all_bytes k numbers

-- Putting a number writes its k bytes from place `at` on. Where they do not all fit, the bytes are left as they were.
unfoldable pub put_leaves : (k x at : ℕ) (bytes : List ℕ) → List ℕ
put_leaves k x at bytes = pick (leb (at + k) (length bytes)) (over at (bytes_of k x) bytes) bytes

-- Writing lays the numbers down from the front of the bytes on, k bytes for each. Where they do not all fit, the bytes
-- are left as they were.
unfoldable pub write_leaves : (k : ℕ) (numbers bytes : List ℕ) → List ℕ
write_leaves k numbers bytes = pick (leb (k * length numbers) (length bytes)) (over 0 (all_bytes k numbers) bytes) bytes
