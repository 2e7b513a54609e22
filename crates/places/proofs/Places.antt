-- The laws of places, lanes, rows and sources, each once, over the element size. A law of all 1,024 places is a test
-- that is computed at each of them.
-- Assumes nothing.
use mathlib.Core.Path.{◌≡◌, refl, sym, ap, ap₂, ◌∙◌, subst, subst₂, subst⁻¹}
use mathlib.Core.Logic.{⊎_elim, inl, inr}
use Prim.Native.Nat.{ℕ, ◌+◌, ◌*◌, ◌/◌, ◌%◌, ◌≤◌, ◌<◌}
use native.Mathlib.Nat.{add-zero, mul-mod_left}
use native.Mathlib.Omega.{arith}
use lib.Arith.{digits_lt, digits_div, digits_mod}
use lib.Dec.{lit<, lit≤}
use lib.ListN.{get_or}
use Rattle.lists.specs.Tab.{tab}
use Rattle.lists.proofs.Every.{Same, Below, same, below}
use Rattle.lists.proofs.Tabs.{get_d_tab}
use Rattle.places.specs.Sizes.{t8, t16, t32, t64, Size, lanes}
use Rattle.places.specs.Places.{order, place, next_start_lem, lane, row, source, target}

-- what holds at each of the four sizes holds at a size
pub each : (P : ℕ → Type 0) → P t8 → P t16 → P t32 → P t64 → {t : ℕ} → Size t → P t
each P a b c d s =
    ⊎_elim (λ e. subst⁻¹ P e a)
    (⊎_elim (λ e. subst⁻¹ P e b) (⊎_elim (λ e. subst⁻¹ P e c) (λ e. subst⁻¹ P e d))) s

pub size8 : Size t8
size8 = inl refl

pub size16 : Size t16
size16 = inr (inl refl)

pub size32 : Size t32
size32 = inr (inr (inl refl))

pub size64 : Size t64
size64 = inr (inr (inr refl))

-- an element has a bit, and at most 64
pub size_some : {t : ℕ} → Size t → 0 < t
size_some s = each (λ t. 0 < t) (lit< tt) (lit< tt) (lit< tt) (lit< tt) s

pub size-least : {t : ℕ} → Size t → 8 ≤ t
size-least s = each (λ t. 8 ≤ t) (lit≤ tt) (lit≤ tt) (lit≤ tt) (lit≤ tt) s

pub size-most : {t : ℕ} → Size t → t ≤ 64
size-most s = each (λ t. t ≤ 64) (lit≤ tt) (lit≤ tt) (lit≤ tt) (lit≤ tt) s

-- a block has a lane
pub lanes_some : {t : ℕ} → Size t → 0 < lanes t
lanes_some s = each (λ t. 0 < lanes t) (lit< tt) (lit< tt) (lit< tt) (lit< tt) s

-- a value of t bits begins where its word does, and ends with it
pub whole_word : (t r : ℕ) {w : ℕ} → w ≡ t → r * w % t + w ≤ t
whole_word t r e = subst (λ w. r * w % t + w ≤ t) (sym e) (omega (arith, mul-mod_left r t))

-- the rows of a block go by eights
pub size-eights : {t : ℕ} → Size t → t / 8 * 8 ≡ t
size-eights s = each (λ t. t / 8 * 8 ≡ t) refl refl refl refl s

-- a block has t rows of LANES values
pub size-lanes : {t : ℕ} → Size t → t * lanes t ≡ 1024
size-lanes s = each (λ t. t * lanes t ≡ 1024) refl refl refl refl s

-- the order list, applied twice, gives its argument back
pub order-order : (n : ℕ) → n < 8 → order (order n) ≡ n
unfolding order
order-order = same 8 (λ n. order (order n)) (λ n. n) tt

pub order_lt : (n : ℕ) → n < 8 → order n < 8
unfolding order
order_lt = below 8 order (λ _. 8) tt

-- lane and row of a place are in range, and the place formula takes them back to it

module _ {t : ℕ} (s : Size t) (p : ℕ) (h : p < 1024) where
  pub place-row-lane : place (row t p) (lane t p) ≡ p
  unfolding order place lane row
  place-row-lane =
      same 1024 (λ p. place (row t p) (lane t p)) (λ p. p)
      (each (λ t. Same 1024 (λ p. place (row t p) (lane t p)) (λ p. p)) tt tt tt tt s) p h

  -- and so it does with what stands in the two tables
  pub place_tables : place (get_or (tab 1024 (row t)) p 0) (get_or (tab 1024 (lane t)) p 0) ≡ p
  place_tables = ap₂ place (get_d_tab 1024 (row t) p 0 h) (get_d_tab 1024 (lane t) p 0 h) ∙ place-row-lane

  pub lane-lt : lane t p < lanes t
  unfolding lane
  lane-lt = below 1024 (lane t) (λ _. lanes t) (each (λ t. Below 1024 (lane t) (λ _. lanes t)) tt tt tt tt s) p h

  pub row_lt : row t p < t
  unfolding order lane row
  row_lt = below 1024 (row t) (λ _. t) (each (λ t. Below 1024 (row t) (λ _. t)) tt tt tt tt s) p h

-- every place is below 1,024, and the lane and the row of place r l are l and r

module _ {t : ℕ} (s : Size t) (r l : ℕ) (hr : r < t) (hl : l < lanes t) where
  -- what the tests below say of number k, said of the row and the lane that k stands for
  of_grid : (P : ℕ → ℕ → Type 0) → ((k : ℕ) → k < 1024 → P (k / lanes t) (k % lanes t)) → P r l
  of_grid P f =
      subst₂ P (digits_div r hl) (digits_mod r hl)
      (f (r * lanes t + l) (subst (λ n. r * lanes t + l < n) (size-lanes s) (digits_lt hr hl)))

  pub lane_place : lane t (place r l) ≡ l
  unfolding order place lane
  lane_place =
      of_grid (λ r l. lane t (place r l) ≡ l)
      (same 1024 (λ k. lane t (place (k / lanes t) (k % lanes t))) (λ k. k % lanes t)
      (each (λ t. Same 1024 (λ k. lane t (place (k / lanes t) (k % lanes t))) (λ k. k % lanes t)) tt tt tt tt s))

  pub row-place : row t (place r l) ≡ r
  unfolding order place lane row
  row-place =
      of_grid (λ r l. row t (place r l) ≡ r)
      (same 1024 (λ k. row t (place (k / lanes t) (k % lanes t))) (λ k. k / lanes t)
      (each (λ t. Same 1024 (λ k. row t (place (k / lanes t) (k % lanes t))) (λ k. k / lanes t)) tt tt tt tt s))

  pub place-lt : place r l < 1024
  unfolding order place
  place-lt =
      of_grid (λ r l. place r l < 1024)
      (below 1024 (λ k. place (k / lanes t) (k % lanes t)) (λ _. 1024)
      (each (λ t. Below 1024 (λ k. place (k / lanes t) (k % lanes t)) (λ _. 1024)) tt tt tt tt s))

-- so no place has two lanes or two rows
pub one_place : {t : ℕ} → Size t → (r l r' l' : ℕ) → r < t → l < lanes t → r' < t → l' < lanes t
    → place r l ≡ place r' l' → (r ≡ r') × (l ≡ l')
one_place {t} s r l r' l' hr hl hr' hl' e = (
  sym (row-place s r l hr hl) ∙ ap (row t) e ∙ row-place s r' l' hr' hl',
  sym (lane_place s r l hr hl) ∙ ap (lane t) e ∙ lane_place s r' l' hr' hl',
)

-- source and target are permutations of 0 to 1023, each the other's inverse

pub target-source : (i : ℕ) → i < 1024 → target (source i) ≡ i
unfolding order source target
target-source = same 1024 (λ i. target (source i)) (λ i. i) tt

pub source-target : (j : ℕ) → j < 1024 → source (target j) ≡ j
unfolding order source target
source-target = same 1024 (λ j. source (target j)) (λ j. j) tt

pub source-lt : (i : ℕ) → i < 1024 → source i < 1024
unfolding order source
source-lt = below 1024 source (λ _. 1024) tt

pub target-lt : (j : ℕ) → j < 1024 → target j < 1024
unfolding order target
target-lt = below 1024 target (λ _. 1024) tt

-- no two places have one source
pub one-source : (i k : ℕ) → i < 1024 → k < 1024 → source i ≡ source k → i ≡ k
one-source i k hi hk e = sym (target-source i hi) ∙ ap target e ∙ target-source k hk

-- where a row starts, and where it stands in its eight rows

pub place-lane : (r l : ℕ) → place r l ≡ place r 0 + l
unfolding place
place-lane r l = omega arith

pub row-start : (o i : ℕ) → i < 8 → place (o * 8 + i) 0 ≡ order o * 16 + i * 128
unfolding place
row-start o i h =
    let q : (o * 8 + i) / 8 ≡ o = omega arith in
    let r : (o * 8 + i) % 8 ≡ i = omega arith in
    rw (q, r, add-zero)

pub row_within : (o i : ℕ) → o < 8 → i < 8 → place (o % 8 * 8 + i % 8) 0 ≡ place (o * 8 + i) 0
row_within o i ho hi = ap (λ r. place r 0) (omega arith)

-- a walk that goes from row to row finds each row's start from the one before; after the last row the starts begin
-- again
pub start-next : (r q : ℕ) → r < 64 → q ≡ place (r % 64) 0 → next_start_lem q (r + 1) ≡ place ((r + 1) % 64) 0
unfolding order place next_start_lem
start-next r q h e = ap (λ q. next_start_lem q (r + 1)) e ∙ same 64 (λ r. next_start_lem (place (r % 64) 0) (r + 1)) (λ r. place ((r + 1) % 64) 0) tt r h
