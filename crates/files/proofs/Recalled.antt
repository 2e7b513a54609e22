-- Whoever keeps a checked file in memory recalls by the walk over its bodies: in a file whose check is done, i steps
-- behind the first body is body i of the file, the block that is laid down from there is block i, and a row of block i
-- that is looked up there is the row that the lookup in the whole file gives.
-- Assumes nothing.
use Rattle.std.specs.Prelude.{Ok, Err}
use Rattle.std.proofs.Common.{◌≡◌, ℕ, ◌*◌, ◌/◌, ◌%◌, ◌<◌, List, length, get_or, replicate, sym, refl, ap, ◌∙◌, ap₂, arith}
use Rattle.lists.specs.Pick.{pick}
use Rattle.contents.specs.declared.FileRefusal.TheVariants.{Runs}
use Rattle.contents.specs.Answers.{file_answer}
use Rattle.contents.specs.Contents.{count, entry_of, body_start}
use Rattle.bodywise.specs.Cursor.{walked}
use Rattle.bodywise.proofs.Fronts.{whole-front}
use Rattle.bodywise.proofs.Walking.{walked-is}
use Rattle.files.specs.Files.{body_of, block_in, file_tests}
use Rattle.files.specs.Froms.{body_from, from_tests, from_leaves}
use Rattle.files.specs.Rows.{given, row_of, row_from_lem}
use Rattle.files.proofs.Froms.{body_from-is, from_tested, from_block}
use Rattle.files.proofs.Places.{from_file}
use Rattle.files.proofs.Ranges.{contents-right, runs-good, file-runs}
use Rattle.files.proofs.Rows.{row-place, row_block}

module _ (l : List ℕ) (done : file_answer (file_tests l) ≡ Ok tt) (fits : length l < 18446744073709551616) (i : ℕ) (h : i < count l) where
  -- where the walk leads
  there : ((walked l i).number ≡ i) × ((walked l i).at ≡ body_start l i)
  there =
      let walk = walked-is l l (whole-front l) (contents-right l (file-runs l done)) fits i (omega arith) in
      (walk.1, walk.0.start ∙ ap (body_start l) walk.1)

  -- what is asked there is asked of body i
  at-number : {A : Type 0} (ask : (i at : ℕ) → A) → ask (walked l i).number (walked l i).at ≡ ask i (body_start l i)
  at-number ask = ap₂ ask there.0 there.1

  pub recalled : (output : List ℕ) → length output ≡ 1024
      → (body_from l (walked l i).number (walked l i).at ≡ body_of l i)
      × (file_answer (from_tests l (walked l i).number (walked l i).at output) ≡ Ok tt)
      × (from_leaves l (walked l i).number (walked l i).at output ≡ block_in l i)
  recalled output long =
      let right = contents-right l (file-runs l done) in
      let good = runs-good l (file-runs l done) i h in
      let start = body_start l i in (
        at-number (body_from l) ∙ body_from-is l right i h start refl,
        at-number (λ i at. file_answer (from_tests l i at output)) ∙ from_tested l right i h start refl output long ∙ ap (λ t. pick t (Ok tt) (Err (Runs 0))) good,
        at-number (λ i at. from_leaves l i at output) ∙ from_block l right i h start refl output long good,
      )

-- A row of a checked file is looked up in the body that the walk leads to.
pub row_recalled : (l : List ℕ) → file_answer (file_tests l) ≡ Ok tt → length l < 18446744073709551616 → (p : ℕ) → p < 1024 * count l
    → row_from_lem l (walked l (p / 1024)).number (walked l (p / 1024)).at p ≡ row_of l p
row_recalled l done fits p h =
    let i : ℕ = p / 1024 in
    let there : i < count l = omega arith in
    at-number l done fits i there (λ i at. row_from_lem l i at p)
    ∙ from_file l (contents-right l (file-runs l done)) i (body_start l i) p there refl refl
    ∙ ap (λ t. pick t (Ok (given (entry_of l i) (p % 1024) (get_or (block_in l i) (p % 1024) 0))) (Err (Runs i))) (runs-good l (file-runs l done) i there)
    ∙ ap (λ v. Ok (given (entry_of l i) (p % 1024) v)) (sym (row-place l p h))
    ∙ sym (row_block l done p h (replicate 1024 0) refl).0
