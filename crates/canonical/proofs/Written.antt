-- The file that the writer gives is made of bytes.
-- Assumes nothing.
use mathlib.Core.List.{List, [], ◌∷◌, ◌++◌}
use Prim.Native.Nat.{ℕ, zero, suc, ◌<◌}
use native.Mathlib.Omega.{arith}
use Rattle.lists.specs.Parts.{joined}
use Rattle.little.specs.Little.{bytes_of, all_bytes}
use Rattle.little.proofs.Bytes.{bytes_small, all_small, below_append}
use Rattle.contents.specs.declared.Entry.{Entry}
use Rattle.contents.specs.declared.Range.{Range}
use Rattle.contents.specs.Bytes.{head_bytes, first_bytes, range_bytes, entry_bytes}
use Rattle.bodies.specs.Ranges.{true_range}
use Rattle.candidates.specs.Candidates.{chosen, body_for}
use Rattle.contents.proofs.Bytes.{Fits}
use Rattle.candidates.proofs.Choice.{chosen-fits}
use Rattle.writer.specs.Writer.{block_count, block_at, entries_for, bodies_for, file_of}
use Rattle.canonical.proofs.Files.{Bytes}

both_bytes : (a b : List ℕ) → Bytes a → Bytes b → Bytes (a ++ b)
both_bytes a b = below_append 256 a b

joined_bytes : (n : ℕ) (f : ℕ → List ℕ) → ((b : ℕ) → Bytes (f b)) → Bytes (joined n f)
unfolding joined
joined_bytes zero f all = λ k. omega arith
joined_bytes (suc n) f all = both_bytes (joined n f) (f n) (joined_bytes n f all) (all n)

pair-bytes : (x y : ℕ) → x < 256 → y < 256 → Bytes (x ∷ y ∷ [])
pair-bytes x y hx hy zero = hx
pair-bytes x y hx hy (suc zero) = hy
pair-bytes x y hx hy (suc (suc k)) = omega arith

entry-bytes : (e : Entry) (r : Range) → Fits e → Bytes (entry_bytes e r)
unfolding entry_bytes first_bytes range_bytes
entry-bytes e r fits =
    let zero-bytes = bytes_of 2 e.zero in
    let length-bytes = bytes_of 4 e.length in
    let reference-bytes = bytes_of 8 e.reference in
    let kinds = e.kind ∷ e.width ∷ [] in
    both_bytes (kinds ++ zero-bytes ++ length-bytes ++ reference-bytes) (bytes_of 8 r.smallest ++ bytes_of 8 r.largest)
    (first-bytes kinds zero-bytes length-bytes reference-bytes (pair-bytes e.kind e.width fits.kind fits.width) (bytes_small 2 e.zero) (bytes_small 4 e.length) (bytes_small 8 e.reference))
    (both_bytes (bytes_of 8 r.smallest) (bytes_of 8 r.largest) (bytes_small 8 r.smallest) (bytes_small 8 r.largest))
  where
    first-bytes : (a b c d : List ℕ) → Bytes a → Bytes b → Bytes c → Bytes d → Bytes (a ++ b ++ c ++ d)
    first-bytes a b c d ha hb hc hd = both_bytes ((a ++ b) ++ c) d (both_bytes (a ++ b) c (both_bytes a b ha hb) hc) hd

pub file-bytes : (values : List ℕ) → Bytes (file_of values)
unfolding file_of head_bytes entries_for bodies_for body_for
file-bytes values =
    let n = block_count values in
    let head = bytes_of 2 2 ++ bytes_of 2 n in
    both_bytes (head ++ entries_for values n) (bodies_for values n)
    (both_bytes head (entries_for values n) (both_bytes (bytes_of 2 2) (bytes_of 2 n) (bytes_small 2 2) (bytes_small 2 n))
    (joined_bytes n (λ b. entry_bytes (chosen (block_at values b)).entry (true_range (block_at values b)))
    (λ b. entry-bytes (chosen (block_at values b)).entry (true_range (block_at values b)) (chosen-fits (block_at values b)))))
    (joined_bytes n (λ b. all_bytes 8 (chosen (block_at values b)).words) (λ b. all_small 8 (chosen (block_at values b)).words))
