-- The laws of the contents as bytes: how many there are, and that reading them gives the contents back.
-- Assumes nothing.
use mathlib.Core.List.{List, [], ◌∷◌, ◌++◌, append_assoc}
use mathlib.Core.Path.{◌≡◌, refl, sym, ap, ap₂, ◌∙◌}
use Prim.Native.Nat.{ℕ, ◌+◌, ◌≤◌, ◌<◌}
use native.Mathlib.Decide.{dec_le}
use native.Mathlib.Nat.{add-zero, add_assoc}
use native.Mathlib.Numerals.{add-one}
use native.Mathlib.Omega.{arith}
use borrow.Author.Tests.{le-leb, lt-leb}
use lib.ListN.{length, get_or, set, length-append}
use lib.Seq.{get_or-append-add, sets-eq}
use Rattle.lists.specs.Pick.{pick}
use Rattle.lists.specs.Tab.{over}
use Rattle.lists.proofs.Overs.{over_append, length_over}
use Rattle.little.specs.Little.{little, bytes_of, put_leaves}
use Rattle.little.proofs.Bytes.{length-bytes, little-bytes, put_within}
use Rattle.little.proofs.Little.{little-past}
use Rattle.contents.specs.declared.Entry.{Entry}
use Rattle.contents.specs.declared.Range.{Range}
use Rattle.contents.specs.Bytes.{head_bytes, first_bytes, range_bytes, entry_bytes, head_leaves, first_leaves, entry_leaves}
use Rattle.contents.specs.Contents.{edition, count, entry_at, range_at_lem}

-- The first four bytes are read back.
pub length-head : (n : ℕ) → length (head_bytes n) ≡ 4
unfolding head_bytes
length-head n = length-append (bytes_of 2 2) (bytes_of 2 n) ∙ ap₂ ◌+◌ (length-bytes 2 2) (length-bytes 2 n)

pub head-edition : (n : ℕ) (rest : List ℕ) → edition (head_bytes n ++ rest) ≡ 2
unfolding head_bytes
head-edition n rest =
    ap (λ l. little l 0 2) (append_assoc (bytes_of 2 2) (bytes_of 2 n) rest) ∙ little-bytes 2 2 [] (bytes_of 2 n ++ rest) (omega arith)

pub head-count : (n : ℕ) (rest : List ℕ) → n < 65536 → count (head_bytes n ++ rest) ≡ n
unfolding head_bytes
head-count n rest h = ap (λ k. little ((bytes_of 2 2 ++ bytes_of 2 n) ++ rest) k 2) (sym (length-bytes 2 2)) ∙ little-bytes 2 n (bytes_of 2 2) rest h

-- Each field of the entry fits its bytes.
pub record Fits (e : Entry) : Type 0 where
  pub kind : e.kind < 256
  pub width : e.width < 256
  pub zero : e.zero < 65536
  pub length : e.length < 4294967296
  pub reference : e.reference < 18446744073709551616

module _ (e : Entry) where
  abbrev first : List ℕ
  first = e.kind ∷ e.width ∷ []

  pub length-first : length (first_bytes e) ≡ 16
  unfolding first_bytes
  length-first =
      simp (length-append, length-bytes) refl

  -- The first sixteen bytes are read back.
  pub first_back : (a c : List ℕ) → Fits e → entry_at (a ++ (first_bytes e ++ c)) (length a) ≡ e
  unfolding first_bytes
  first_back a c fits =
      λ j. record { kind = kind_back j; width = width_back j; zero = zero_back j; length = length_back j; reference = reference_back j }
    where
      two : List ℕ
      two = bytes_of 2 e.zero

      four : List ℕ
      four = bytes_of 4 e.length

      eight : List ℕ
      eight = bytes_of 8 e.reference

      tail : List ℕ
      tail = first_bytes e ++ c

      kind_back : get_or (a ++ tail) (length a) 0 ≡ e.kind
      kind_back = ap (λ k. get_or (a ++ tail) k 0) (sym (add-zero (length a))) ∙ get_or-append-add a tail 0 0

      width_back : get_or (a ++ tail) (length a + 1) 0 ≡ e.width
      width_back = get_or-append-add a tail 1 0

      zero_back : little (a ++ tail) (length a + 2) 2 ≡ e.zero
      zero_back =
          little-past a tail 2 2
          ∙ ap (λ l. little l 2 2) (append_assoc (first ++ two ++ four) eight c ∙ append_assoc (first ++ two) four (eight ++ c))
          ∙ little-bytes 2 e.zero first (four ++ (eight ++ c)) fits.zero

      length_back : little (a ++ tail) (length a + 4) 4 ≡ e.length
      length_back =
          little-past a tail 4 4
          ∙ ap₂ (λ l k. little l k 4) (append_assoc (first ++ two ++ four) eight c) (sym (length-append first two ∙ ap (λ k. 2 + k) (length-bytes 2 e.zero)))
          ∙ little-bytes 4 e.length (first ++ two) (eight ++ c) fits.length

      reference_back : little (a ++ tail) (length a + 8) 8 ≡ e.reference
      reference_back =
          little-past a tail 8 8
          ∙ ap (λ k. little (first ++ two ++ four ++ eight ++ c) k 8)
          (sym (length-append (first ++ two) four ∙ ap₂ ◌+◌ (length-append first two ∙ ap (λ k. 2 + k) (length-bytes 2 e.zero)) (length-bytes 4 e.length)))
          ∙ little-bytes 8 e.reference (first ++ two ++ four) c fits.reference

-- The smallest and the largest value fit their bytes.
pub record RangeFits (r : Range) : Type 0 where
  pub small : r.smallest < 18446744073709551616
  pub large : r.largest < 18446744073709551616

module _ (e : Entry) (r : Range) where
  length-range : length (range_bytes r) ≡ 16
  unfolding range_bytes
  length-range = simp (length-append, length-bytes) refl

  pub length-entry : length (entry_bytes e r) ≡ 32
  unfolding entry_bytes
  length-entry = length-append (first_bytes e) (range_bytes r) ∙ ap₂ ◌+◌ (length-first e) length-range

  -- An entry is read back,
  pub entry_back : (a c : List ℕ) → Fits e → entry_at (a ++ (entry_bytes e r ++ c)) (length a) ≡ e
  unfolding entry_bytes
  entry_back a c fits =
      ap (λ l. entry_at (a ++ l) (length a)) (append_assoc (first_bytes e) (range_bytes r) c) ∙ first_back e a (range_bytes r ++ c) fits

  -- and so is its range.
  pub range_back : (a c : List ℕ) → RangeFits r → range_at_lem (a ++ (entry_bytes e r ++ c)) (length a + 16) ≡ r
  unfolding entry_bytes range_bytes
  range_back a c fits =
      λ j. record { smallest = small_back j; largest = large_back j }
    where
      small : List ℕ
      small = bytes_of 8 r.smallest

      large : List ℕ
      large = bytes_of 8 r.largest

      tail : List ℕ
      tail = entry_bytes e r ++ c

      parts : tail ≡ first_bytes e ++ small ++ (large ++ c)
      parts =
          append_assoc (first_bytes e) (small ++ large) c
          ∙ ap (λ l. first_bytes e ++ l) (append_assoc small large c)
          ∙ sym (append_assoc (first_bytes e) small (large ++ c))

      small_back : little (a ++ tail) (length a + 16) 8 ≡ r.smallest
      small_back =
          little-past a tail 16 8
          ∙ ap₂ (λ l k. little l k 8) parts (sym (length-first e))
          ∙ little-bytes 8 r.smallest (first_bytes e) (large ++ c) fits.small

      large_back : little (a ++ tail) (length a + 16 + 8) 8 ≡ r.largest
      large_back =
          ap (λ k. little (a ++ tail) k 8) (add_assoc (length a) 16 8)
          ∙ little-past a tail 24 8
          ∙ ap₂ (λ l k. little l k 8) (parts ∙ sym (append_assoc (first_bytes e ++ small) large c))
          (sym (length-append (first_bytes e) small ∙ ap₂ ◌+◌ (length-first e) (length-bytes 8 r.smallest)))
          ∙ little-bytes 8 r.largest (first_bytes e ++ small) c fits.large

-- A number that is put where a list written before it ends is written on.
put_on : (k v p q : ℕ) (x l m : List ℕ) → m ≡ over p x l → q ≡ p + length x → q + k ≤ length l → put_leaves k v q m ≡ over p (x ++ bytes_of k v) l
put_on k v p q x l m e at room =
    let size : length m ≡ length l = ap length e ∙ length_over p x l (omega arith) in
    put_within k v q m (omega arith)
    ∙ ap₂ (λ i y. over i (bytes_of k v) y) at e
    ∙ over_append p x (bytes_of k v) l (omega (arith, length-bytes k v))

-- Two numbers make the first four bytes.
pub head_put : (n : ℕ) (l : List ℕ) → 4 ≤ length l → put_leaves 2 n 2 (put_leaves 2 2 0 l) ≡ head_leaves n l
unfolding head_leaves head_bytes
head_put n l h =
    put_on 2 n 0 2 (bytes_of 2 2) l (put_leaves 2 2 0 l) (put_within 2 2 0 l (omega arith)) (omega (arith, length-bytes 2 2)) h
    ∙ sym (ap (λ b. pick b (over 0 (head_bytes n) l) l) (le-leb 4 (length l) h))

pub head-fits : (n : ℕ) (l : List ℕ) → 4 ≤ length l → head_leaves n l ≡ over 0 (head_bytes n) l
unfolding head_leaves
head-fits n l h = ap (λ b. pick b (over 0 (head_bytes n) l) l) (le-leb 4 (length l) h)

pub head_missing : (n : ℕ) (l : List ℕ) → length l < 4 → head_leaves n l ≡ l
unfolding head_leaves
head_missing n l h = ap (λ b. pick b (over 0 (head_bytes n) l) l) (lt-leb 4 (length l) h)

module _ (e : Entry) (at : ℕ) (l : List ℕ) where
  -- Two bytes and three numbers make the first sixteen bytes.
  pub first_put : at + 16 ≤ length l
      → put_leaves 8 e.reference (at + 8) (put_leaves 4 e.length (at + 4) (put_leaves 2 e.zero (at + 2) (set (set l at e.kind) (at + 1) e.width)))
      ≡ first_leaves e at l
  unfolding first_leaves first_bytes over
  first_put h =
      let bytes = ap (λ i. set (set l at e.kind) i e.width) (add-one at) ∙ sets-eq (first e) l at (omega arith) in
      let front = first e ++ bytes_of 2 e.zero in
      let four-long = length-append (first e) (bytes_of 2 e.zero) ∙ ap (λ k. 2 + k) (length-bytes 2 e.zero) in
      let eight-long = length-append front (bytes_of 4 e.length) ∙ ap₂ ◌+◌ four-long (length-bytes 4 e.length) in
      let two = put_on 2 e.zero at (at + 2) (first e) l _ bytes refl (omega arith) in
      let four = put_on 4 e.length at (at + 4) front l _ two (sym (ap (λ k. at + k) four-long)) (omega arith) in
      put_on 8 e.reference at (at + 8) (front ++ bytes_of 4 e.length) l _ four (sym (ap (λ k. at + k) eight-long)) (omega arith)
      ∙ sym (ap (λ b. pick b (over at (first_bytes e) l) l) (le-leb (at + 16) (length l) h))

  pub first_fits : at + 16 ≤ length l → first_leaves e at l ≡ over at (first_bytes e) l
  unfolding first_leaves
  first_fits h = ap (λ b. pick b (over at (first_bytes e) l) l) (le-leb (at + 16) (length l) h)

  pub first-left : length l < at + 16 → first_leaves e at l ≡ l
  unfolding first_leaves
  first-left h = ap (λ b. pick b (over at (first_bytes e) l) l) (lt-leb (at + 16) (length l) h)

  -- Nothing is longer or shorter for it.
  pub first-length : length (first_leaves e at l) ≡ length l
  unfolding first_leaves
  first-length =
      elim (dec_le (at + 16) (length l)) [
        | yes h ↦ ap length (first_fits h) ∙ length_over at (first_bytes e) l (omega (arith, length-first e))
        | no h ↦ ap length (first-left (omega arith))
      ]

module _ (e : Entry) (r : Range) (at : ℕ) (l : List ℕ) where
  -- The first sixteen bytes and two numbers make an entry.
  pub entry_put : at + 32 ≤ length l
      → put_leaves 8 r.largest (at + 24) (put_leaves 8 r.smallest (at + 16) (first_leaves e at l)) ≡ entry_leaves e r at l
  unfolding entry_leaves entry_bytes range_bytes
  entry_put h =
      let small = bytes_of 8 r.smallest in
      let more = length-append (first_bytes e) small ∙ ap₂ ◌+◌ (length-first e) (length-bytes 8 r.smallest) in
      let one = put_on 8 r.smallest at (at + 16) (first_bytes e) l _ (first_fits e at l (omega arith)) (sym (ap (λ k. at + k) (length-first e))) (omega arith) in
      put_on 8 r.largest at (at + 24) (first_bytes e ++ small) l _ one (sym (ap (λ k. at + k) more)) (omega arith)
      ∙ ap (λ x. over at x l) (append_assoc (first_bytes e) small (bytes_of 8 r.largest))
      ∙ sym (ap (λ b. pick b (over at (entry_bytes e r) l) l) (le-leb (at + 32) (length l) h))

  pub entry-fits : at + 32 ≤ length l → entry_leaves e r at l ≡ over at (entry_bytes e r) l
  unfolding entry_leaves
  entry-fits h = ap (λ b. pick b (over at (entry_bytes e r) l) l) (le-leb (at + 32) (length l) h)

  pub entry-left : length l < at + 32 → entry_leaves e r at l ≡ l
  unfolding entry_leaves
  entry-left h = ap (λ b. pick b (over at (entry_bytes e r) l) l) (lt-leb (at + 32) (length l) h)
