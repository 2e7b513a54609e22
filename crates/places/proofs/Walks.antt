-- The arithmetic of the walk that transpose and untranspose are made of, and the laws of the two.
-- Assumes nothing.
use mathlib.Core.Path.{◌≡◌, sym, ap, ◌∙◌, subst}
use mathlib.Core.List.{List}
use Prim.Native.Nat.{ℕ, zero, suc, ◌+◌, ◌*◌, ◌/◌, ◌%◌, ◌≤◌, ◌<◌}
use native.Mathlib.Nat.{zero-add, add_assoc, add-mul, mul_comm, mul_left_comm, mul_right_comm, mul-suc, suc-mul, mul-zero, mul-le-mul_right}
use native.Mathlib.Numerals.{add-one}
use native.Mathlib.Omega.{arith}
use lib.Arith.{digits_lt, digits_div, digits_mod}
use lib.ListN.{length, get_or}
use borrow.Author.Tests.{eq-eqb, ne_eqb}
use Rattle.lists.specs.Tab.{tab}
use Rattle.lists.proofs.Every.{same}
use Rattle.lists.proofs.Tabs.{get_d_tab, is-tab, tab_ext, Written, written_ext, written-run}
use Rattle.places.specs.declared.Answer.TheVariants.{Done, Block}
use Rattle.places.specs.Places.{order, source, target}
use Rattle.places.specs.Takes.{answer_for}
use Rattle.places.specs.Transposes.{transpose_of, untranspose_of, transpose_takes}
use Rattle.places.specs.InnerWalks.{walk}
use Rattle.places.proofs.Places.{order_lt, source-target, target-source, source-lt, target-lt}

left_factor : (a b : ℕ) → a * b ≡ 128 → a ≤ 128
left_factor a zero e = let z : a * zero ≡ zero = mul-zero a in omega arith
left_factor a (suc b) e = let z : a * suc b ≡ a * b + a = mul-suc a b in omega arith

-- that run o of a part, which begins at w in the order list, lies within the input and fits where it is put
pub record Run (parts count part o w : ℕ) : Type 0 where
  pub few : parts ≤ 128
  pub start : w * parts + part < 8 * parts
  pub inside : (w * parts + part) + count * (8 * parts) < 1024 + 8 * parts
  pub room : (part * 8 + o) * count + count ≤ 1024

module _ (parts count : ℕ) (whole : parts * count ≡ 128) where
  -- eight runs in each of the parts
  pub all_runs : parts * 8 * count ≡ 1024
  all_runs = mul_right_comm parts 8 count ∙ ap (λ n. n * 8) whole

  pub part_room : (part : ℕ) → part < parts → part * 8 * count + 8 * count ≤ 1024
  part_room part hp =
      let m : (part * 8 + 8) * count ≤ parts * 8 * count = mul-le-mul_right count (omega arith) in
      omega (arith, all_runs, add-mul (part * 8) 8 count)

  module _ (part o w : ℕ) (hp : part < parts) (ho : o < 8) (ew : w ≡ order o) where
    pub run : Run parts count part o w
    run =
        let hw : w < 8 = subst (λ n. n < 8) (sym ew) (order_lt o ho) in
        let s : w * parts + part < 8 * parts = digits_lt hw hp in
        let e : count * (8 * parts) ≡ 1024 = mul_left_comm count 8 parts ∙ ap (λ n. 8 * n) (mul_comm count parts ∙ whole) in
        let m : suc (part * 8 + o) * count ≤ parts * 8 * count = mul-le-mul_right count (omega arith) in
        record {
          few = left_factor parts count whole;
          start = s;
          inside = omega arith;
          room = omega (arith, all_runs, suc-mul (part * 8 + o) count);
        }

    -- where the walk finds the values of the run
    walk_at : (k : ℕ) → k < count → walk parts count ((part * 8 + o) * count + k) ≡ (w * parts + part) + k * (8 * parts)
    unfolding walk
    walk_at k hk =
        let q : (part * 8 + o) / 8 ≡ part = omega arith in
        let r : (part * 8 + o) % 8 ≡ o = omega arith in
        rw (digits_div (part * 8 + o) hk, digits_mod (part * 8 + o) hk, q, r, ew)

  -- one run more of a part of the output
  pub run_more : (input : List ℕ) {x y z : List ℕ} (part o w : ℕ) → part < parts → o < 8 → w ≡ order o
      → Written (part * 8 * count) (o * count) (λ i. get_or input (walk parts count (part * 8 * count + i)) 0) x y
      → Written ((part * 8 + o) * count) count (λ k. get_or input ((w * parts + part) + k * (8 * parts)) 0) y z
      → Written (part * 8 * count) ((o + 1) * count) (λ i. get_or input (walk parts count (part * 8 * count + i)) 0) x z
  run_more input {x} {y} {z} part o w hp ho ew before run =
      let p : ℕ = part * 8 * count in
      let at : (part * 8 + o) * count ≡ p + o * count = add-mul (part * 8) o count in
      let values : (k : ℕ) → k < count → get_or input ((w * parts + part) + k * (8 * parts)) 0 ≡ get_or input (walk parts count (p + (o * count + k))) 0 =
      λ k hk.
      ap (λ i. get_or input i 0)
      (sym (walk_at part o w hp ho ew k hk)
      ∙ ap (walk parts count) (ap (λ n. n + k) at ∙ add_assoc p (o * count) k)) in
      subst (λ n. Written p n (λ i. get_or input (walk parts count (p + i)) 0) x z) (sym (suc-mul o count) ∙ ap (λ n. n * count) (sym (add-one o)))
      (written-run before ((part * 8 + o) * count) at (written_ext 0 run values))

  -- one part more of the output
  pub part_more : {f : ℕ → ℕ} {x y z : List ℕ} (part : ℕ)
      → Written 0 (part * 8 * count) f x y
      → Written (part * 8 * count) (8 * count) (λ i. f (part * 8 * count + i)) y z
      → Written 0 ((part + 1) * 8 * count) f x z
  part_more {f} {x} {z = z} part before more =
      let e : part * 8 * count + 8 * count ≡ (part + 1) * 8 * count = sym (ap (λ n. n * count) (omega arith) ∙ add-mul (part * 8) 8 count) in
      subst (λ n. Written 0 n f x z) e (written-run before (part * 8 * count) (sym (zero-add (part * 8 * count))) more)

-- the walk's rule at the two ways in which it is used

pub walk_source : (v : List ℕ) → tab 1024 (λ i. get_or v (walk 8 16 i) 0) ≡ transpose_of v
unfolding order source walk transpose_of
walk_source v = tab_ext 1024 _ _ 0 (λ i h. ap (λ k. get_or v k 0) (same 1024 (walk 8 16) source tt i h))

pub walk_target : (v : List ℕ) → tab 1024 (λ i. get_or v (walk 16 8 i) 0) ≡ untranspose_of v
unfolding order target walk untranspose_of
walk_target v = tab_ext 1024 _ _ 0 (λ i h. ap (λ k. get_or v k 0) (same 1024 (walk 16 8) target tt i h))

-- untranspose puts the value found at i at the source of i
pub untranspose_puts : (v : List ℕ) (i : ℕ) → i < 1024 → get_or (untranspose_of v) (source i) 0 ≡ get_or v i 0
unfolding untranspose_of
untranspose_puts v i h =
    get_d_tab 1024 (λ j. get_or v (target j) 0) (source i) 0 (source-lt i h) ∙ ap (λ k. get_or v k 0) (target-source i h)

-- and that fixes the whole block
pub untranspose_only : (v x : List ℕ) → length x ≡ 1024 → ((i : ℕ) → i < 1024 → get_or x (source i) 0 ≡ get_or v i 0) → x ≡ untranspose_of v
unfolding untranspose_of
untranspose_only v x e puts =
    is-tab x 1024 (λ j. get_or v (target j) 0) 0 e
    (λ j h. ap (λ k. get_or x k 0) (sym (source-target j h)) ∙ puts (target j) (target-lt j h))

-- each undoes the other, for every block

pub untranspose-transpose : (v : List ℕ) → length v ≡ 1024 → untranspose_of (transpose_of v) ≡ v
unfolding transpose_of untranspose_of
untranspose-transpose v e =
    sym (is-tab v 1024 _ 0 e
    (λ j h.
    ap (λ k. get_or v k 0) (sym (source-target j h))
    ∙ sym (get_d_tab 1024 (λ i. get_or v (source i) 0) (target j) 0 (target-lt j h))))

pub transpose-untranspose : (v : List ℕ) → length v ≡ 1024 → transpose_of (untranspose_of v) ≡ v
unfolding transpose_of untranspose_of
transpose-untranspose v e =
    sym (is-tab v 1024 _ 0 e
    (λ j h.
    ap (λ k. get_or v k 0) (sym (target-source j h))
    ∙ sym (get_d_tab 1024 (λ i. get_or v (target i) 0) (source j) 0 (source-lt j h))))

-- what the two calls answer, by the tests that they make

pub bad_input : (i o : List ℕ) → (length i ≡ 1024 → ⊥) → answer_for (transpose_takes i o) ≡ Block
unfolding answer_for
bad_input i o h = simp (ne_eqb (length i) 1024 h)

pub bad_output : (i o : List ℕ) → length i ≡ 1024 → (length o ≡ 1024 → ⊥) → answer_for (transpose_takes i o) ≡ Block
unfolding answer_for
bad_output i o e h = simp (eq-eqb (length i) 1024 e, ne_eqb (length o) 1024 h)

pub good_blocks : (i o : List ℕ) → length i ≡ 1024 → length o ≡ 1024 → answer_for (transpose_takes i o) ≡ Done
unfolding answer_for
good_blocks i o e f = simp (eq-eqb (length i) 1024 e, eq-eqb (length o) 1024 f)
