-- Why transposing helps the dates (R25 to R27): the proofs. The page at the head of specs/Dates.antt tells what the
-- theorems mean. What is said of a rule over all rows and lanes, or over all places, is a test that is computed at each
-- of them.
-- Assumes nothing.
use mathlib.Core.List.{List}
use mathlib.Core.Path.{◌≡◌, refl, sym, ap, ap₂, ◌∙◌, subst, subst₂}
use mathlib.Core.Bool.{Bool, true, false}
use Prim.Native.Nat.{ℕ, zero, suc, ◌+◌, ◌-◌, ◌*◌, ◌/◌, ◌%◌, ◌^◌, ◌≤◌, ◌<◌}
use native.Mathlib.Nat.{add-zero}
use native.Mathlib.Omega.{arith}
use lib.Arith.{digits_lt, digits_div, digits_mod}
use lib.Dec.{eqb, lit<}
use lib.ListN.{length, get_or}
use lib.Pow.{pow_pos}
use lib.Seq.{ext_get_or}
use Rattle.lists.specs.Numbers.{minus}
use Rattle.lists.specs.Pick.{pick}
use Rattle.lists.proofs.Digits.{elements-of}
use Rattle.lists.proofs.Every.{Same, same}
use Rattle.lists.proofs.Tabs.{get_d_tab, length-tab}
use Rattle.places.specs.Answers.{left}
use Rattle.places.specs.Places.{order, place, lane, row, source, target}
use Rattle.places.specs.Sizes.{t8, t16, t32, t64, Size, lanes}
use Rattle.places.specs.Transposes.{transpose_of, transpose_leaves}
use Rattle.places.proofs.Places.{each, size_some, size-lanes, place-lt, lane-lt, row_lt, place-row-lane, source-lt, source-target, target-lt}
use Rattle.places.proofs.Walks.{good_blocks}
use Rattle.deltas.specs.Deltas.{delta_of}
use Rattle.deltas.proofs.Answers.{delta-good, delta-leaves}
use Rattle.deltas.proofs.Lanes.{delta-first, delta-next}
use Rattle.dates.specs.Dates.{RowSources, Lent, transposed_of, stored_of, BothDone, Neighbours, FirstRows, EachDate, transposed, Blocks, EightRestore, lone, LoneFits, NoFewer}

-- ---- the source of row r in lane l

-- a rule over sizes, rows and lanes, tested at each row of each lane of one size
abbrev Grid : (f g : (t r l : ℕ) → ℕ) (t : ℕ) → Type 0
Grid f g t = Same 1024 (λ k. f t (k / lanes t) (k % lanes t)) (λ k. g t (k / lanes t) (k % lanes t))

on_grid : (f g : (t r l : ℕ) → ℕ) → Grid f g t8 → Grid f g t16 → Grid f g t32 → Grid f g t64
    → (t : ℕ) → Size t → (r l : ℕ) → r < t → l < lanes t → f t r l ≡ g t r l
on_grid f g a b c d t s r l hr hl =
    subst₂ (λ r l. f t r l ≡ g t r l) (digits_div r hl) (digits_mod r hl)
    (same 1024 (λ k. f t (k / lanes t) (k % lanes t)) (λ k. g t (k / lanes t) (k % lanes t)) (each (Grid f g) a b c d s) (r * lanes t + l)
    (subst (λ n. r * lanes t + l < n) (size-lanes s) (digits_lt hr hl)))

pub row_sources : RowSources
unfolding order place source
row_sources = on_grid _ _ tt tt tt tt

-- ---- what transpose leaves

module _ (block output : List ℕ) (e : length block ≡ 1024) (f : length output ≡ 1024) where
  transpose-leaves : transpose_leaves block output ≡ transpose_of block
  unfolding transpose_leaves
  transpose-leaves = ap (λ a. left a (transpose_of block) output) (good_blocks block output e f)

  transpose-long : length (transpose_leaves block output) ≡ 1024
  unfolding transpose_of
  transpose-long = ap length transpose-leaves ∙ length-tab 1024 _

  transpose-at : (i : ℕ) → i < 1024 → get_or (transpose_leaves block output) i 0 ≡ get_or block (source i) 0
  unfolding transpose_of
  transpose-at i h = ap (λ x. get_or x i 0) transpose-leaves ∙ get_d_tab 1024 _ i 0 h

-- ---- delta on a transposed block

pub both-done : BothDone
both-done t s x = (
  good_blocks x.dates x.between x.dates_long x.between_long,
  delta-good t (transposed_of x) x.base x.output
      (transpose-long x.dates x.between x.dates_long x.between_long) x.output_long x.base_long,
)

module _ {t : ℕ} (s : Size t) (x : Lent t) where
  -- row r of lane l of the transposed block holds this date
  row-holds : (r l : ℕ) → r < t → l < lanes t → get_or (transposed_of x) (place r l) 0 ≡ get_or x.dates (source l + r) 0
  row-holds r l hr hl =
      transpose-at x.dates x.between x.dates_long x.between_long (place r l) (place-lt s r l hr hl)
      ∙ ap (λ i. get_or x.dates i 0) (row_sources t s r l hr hl)

  -- so what delta leaves there is said by its rule for a lane
  stored_is : stored_of x ≡ delta_of t (transposed_of x) x.base
  stored_is =
      delta-leaves t (transposed_of x) x.base x.output
      (transpose-long x.dates x.between x.dates_long x.between_long) x.output_long x.base_long

  stored_next : (r l : ℕ) → r + 1 < t → l < lanes t
      → get_or (stored_of x) (place (r + 1) l) 0 ≡ minus t (get_or x.dates (source l + (r + 1)) 0) (get_or x.dates (source l + r) 0)
  stored_next r l hr hl =
      ap (λ d. get_or d (place (r + 1) l) 0) stored_is
      ∙ delta-next s (transposed_of x) x.base l hl r hr
      ∙ ap₂ (minus t) (row-holds (r + 1) l hr hl) (row-holds r l (omega arith) hl)

pub neighbours : Neighbours
neighbours t s x r l h hr hl =
    let back : r - 1 + 1 ≡ r = omega arith in
    let before : source l + (r - 1) ≡ source l + r - 1 = omega arith in
    let law = stored_next s x (r - 1) l (rw back hr) hl in
    rw (back, before) at law

pub first_rows : FirstRows
first_rows t s x l hl =
    ap (λ d. get_or d (place 0 l) 0) (stored_is s x)
    ∙ delta-first s (transposed_of x) x.base l hl
    ∙ ap (λ n. minus t n (get_or x.base l 0))
    (row-holds s x 0 l (size_some s) hl ∙ ap (λ i. get_or x.dates i 0) (add-zero (source l)))

-- ---- the same by the number of a date

-- the row of a date is what is left of its number by t
row-left : {t : ℕ} → Size t → (i : ℕ) → i < 1024 → row t (target i) ≡ i % t
unfolding order lane row target
row-left {t} s =
    same 1024 (λ i. row t (target i)) (λ i. i % t)
    (each (λ t. Same 1024 (λ i. row t (target i)) (λ i. i % t)) tt tt tt tt s)

pub each-date : EachDate
each-date t s x i hi h =
    let p : ℕ = target i in
    let hp : p < 1024 = target-lt i hi in
    let at : place (row t p) (lane t p) ≡ p = place-row-lane s p hp in
    let from : source (lane t p) + row t p ≡ i =
    sym (row_sources t s (row t p) (lane t p) (row_lt s p hp) (lane-lt s p hp)) ∙ ap source at ∙ source-target i hi in
    let later : 1 ≤ row t p = omega (arith, row-left s i hi) in
    let law = neighbours t s x (row t p) (lane t p) later (row_lt s p hp) (lane-lt s p hp) in
    rw (at, from) at law

-- ---- transposes one after another

-- where the value that stands at i after n transposes stood at first
sources : (n i : ℕ) → ℕ
sources zero i = i
sources (suc n) i = sources n (source i)

module _ (outputs : ℕ → List ℕ) (blocks : Blocks outputs) (block : List ℕ) (e : length block ≡ 1024) where
  transposed-long : (n : ℕ) → length (transposed n outputs block) ≡ 1024
  unfolding transposed
  transposed-long zero = e
  transposed-long (suc n) = transpose-long (transposed n outputs block) (outputs n) (transposed-long n) (blocks n)

  transposed-at : (n i : ℕ) → i < 1024 → get_or (transposed n outputs block) i 0 ≡ get_or block (sources n i) 0
  unfolding transposed sources
  transposed-at zero i h = refl
  transposed-at (suc n) i h =
      transpose-at (transposed n outputs block) (outputs n) (transposed-long n) (blocks n) i h
      ∙ transposed-at n (source i) (source-lt i h)

  -- if each value comes from its own place the block is restored
  restored : (n : ℕ) → Same 1024 (sources n) (λ i. i) → transposed n outputs block ≡ block
  restored n test =
      ext_get_or 0 (transposed n outputs block) block (transposed-long n ∙ sym e)
      (λ i h.
      let hi : i < 1024 = omega (arith, transposed-long n) in
      transposed-at n i hi ∙ ap (λ k. get_or block k 0) (same 1024 (sources n) (λ i. i) test i hi))

pub eight_restore : EightRestore
unfolding order source sources
eight_restore outputs blocks block e = restored outputs blocks block e _ tt

-- the rule of the block that has a 1 at place 1
mark : ℕ → ℕ
mark i = pick (eqb i 1) 1 0

lone-long : length lone ≡ 1024
unfolding lone
lone-long = length-tab 1024 _

lone-at : (i : ℕ) → i < 1024 → get_or lone i 0 ≡ mark i
unfolding lone mark
lone-at i h = get_d_tab 1024 mark i 0 h

pub lone-fits : LoneFits
unfolding mark
lone-fits = (lone-long, λ t s. elements-of t 1024 lone lone-long (λ i h. rw (lone-at i h) (small t s (eqb i 1))))
  where
    small : (t : ℕ) → Size t → (b : Bool) → pick b 1 0 < 2 ^ t
    small t s true = each (λ t. 1 < 2 ^ t) (lit< tt) (lit< tt) (lit< tt) (lit< tt) s
    small t s false = pow_pos t

-- after 1 to 7 transposes another value stands at place 1
moved : (n : ℕ) → 1 ≤ n → n < 8 → mark (sources n 1) ≡ 0
unfolding order source sources mark
moved n h1 h =
    let back : suc (n - 1) ≡ n = omega arith in
    rw back at (same 7 (λ k. mark (sources (suc k) 1)) (λ _. 0) tt (n - 1) (omega arith))

sources_lt : (n i : ℕ) → i < 1024 → sources n i < 1024
unfolding sources
sources_lt zero i h = h
sources_lt (suc n) i h = sources_lt n (source i) (source-lt i h)

pub no_fewer : NoFewer
unfolding mark
no_fewer outputs blocks n h1 h e =
    let one : 1 < 1024 = lit< tt in
    let came : get_or lone 1 0 ≡ 0 =
    ap (λ x. get_or x 1 0) (sym e)
    ∙ transposed-at outputs blocks lone lone-long n 1 one
    ∙ lone-at (sources n 1) (sources_lt n 1 one)
    ∙ moved n h1 (omega arith) in
    let z : ◌≡◌ {A = ℕ} 1 0 = sym (lone-at 1 one) ∙ came in
    omega arith
