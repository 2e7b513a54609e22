-- What the row operations give of rows that are given by rules, over the element size.
-- Assumes nothing.
use Rattle.std.proofs.Common.{◌≡◌, ℕ, ◌*◌, ◌/◌, ◌%◌, ◌^◌, ◌<◌, ◌≤◌, List, ◌++◌, length, get_or, take, drop, get_or-take, length-take, zero-add, sym, ap, ◌∙◌, ap₂, mod-eq_of_lt, one-mul, arith, le-leb}
use lib.Bits.{bit_or}
use lib.Pow.{pow-lt}
use borrow.Author.Tests.{lt-leb}
use Rattle.lists.specs.Tab.{tab, over}
use Rattle.lists.specs.Numbers.{plus, minus}
use Rattle.lists.proofs.Tabs.{tab_ext, tab_get_d, get_d_tab}
use Rattle.places.specs.Sizes.{lanes}
use Rattle.rows.specs.Rows.{splat_of, load_of, store_of, shr_of, or_shl_of, mask_of, add_of, sub_of}

-- one, shifted up by less than t, is the power itself
pub one_shifted : (t w : ℕ) → w < t → 1 * 2 ^ w % 2 ^ t ≡ 2 ^ w
one_shifted t w h = ap (λ k. k % 2 ^ t) (one-mul (2 ^ w)) ∙ mod-eq_of_lt (pow-lt h)

-- a load and a store by the test of their room

pub load_short : (t : ℕ) (source : List ℕ) → length source < lanes t → splat_of t 0 ≡ load_of t source
unfolding load_of
load_short t source h = simp (lt-leb (lanes t) (length source) h)

pub load-room : (t : ℕ) (source : List ℕ) → lanes t ≤ length source → tab (lanes t) (λ l. get_or source l 0) ≡ load_of t source
unfolding load_of
load-room t source h = simp (le-leb (lanes t) (length source) h)

pub store_short : (out x : List ℕ) → length out < length x → out ≡ store_of out x
unfolding store_of
store_short out x h = simp (lt-leb (length x) (length out) h)

pub store-room : (out x : List ℕ) → length x ≤ length out → over 0 x out ≡ store_of out x
unfolding store_of
store-room out x h = simp (le-leb (length x) (length out) h)

-- what stands at the front is loaded, and the row is stored over the front

pub load-take : (t : ℕ) (source : List ℕ) → lanes t ≤ length source → take (lanes t) source ≡ load_of t source
load-take t source h =
    sym (tab_get_d (take (lanes t) source) 0 (lanes t) (simp length-take (omega arith)))
    ∙ tab_ext (lanes t) _ _ 0 (λ l b. get_or-take (lanes t) source l 0 b)
    ∙ load-room t source h

pub store-front : (out x : List ℕ) (n : ℕ) → length x ≡ n → n ≤ length out → x ++ drop n out ≡ store_of out x
unfolding over
store-front out x n e h = ap (λ k. x ++ drop k out) (sym e ∙ sym (zero-add (length x))) ∙ store-room out x (omega (arith, e))

-- what an operation gives of rows that are given by rules

module _ (t : ℕ) (f g : ℕ → ℕ) where
  -- a shift or a width below t is taken as it is
  pub shr-tab : (s : ℕ) → s < t → shr_of t (tab (lanes t) f) s ≡ tab (lanes t) (λ l. f l / 2 ^ s)
  unfolding shr_of
  shr-tab s h = tab_ext (lanes t) _ _ 0 (λ l b. ap₂ (λ n k. n / 2 ^ k) (get_d_tab (lanes t) f l 0 b) (mod-eq_of_lt h))

  pub mask-tab : (w : ℕ) → w < t → mask_of t (tab (lanes t) f) w ≡ tab (lanes t) (λ l. f l % 2 ^ w)
  unfolding mask_of
  mask-tab w h = tab_ext (lanes t) _ _ 0 (λ l b. ap₂ (λ n k. n % 2 ^ k) (get_d_tab (lanes t) f l 0 b) (mod-eq_of_lt h))

  pub or_shl-tab : (s : ℕ) → s < t → or_shl_of t (tab (lanes t) f) (tab (lanes t) g) s ≡ tab (lanes t) (λ l. bit_or (f l) (g l * 2 ^ s % 2 ^ t))
  unfolding or_shl_of
  or_shl-tab s h =
      tab_ext (lanes t) _ _ 0
      (λ l b.
      ap₂ (λ m n. bit_or m (n * 2 ^ (s % t) % 2 ^ t)) (get_d_tab (lanes t) f l 0 b) (get_d_tab (lanes t) g l 0 b)
      ∙ ap (λ k. bit_or (f l) (g l * 2 ^ k % 2 ^ t)) (mod-eq_of_lt h))

  pub add_tab : add_of t (tab (lanes t) f) (tab (lanes t) g) ≡ tab (lanes t) (λ l. plus t (f l) (g l))
  unfolding add_of
  add_tab = tab_ext (lanes t) _ _ 0 (λ l h. ap₂ (plus t) (get_d_tab (lanes t) f l 0 h) (get_d_tab (lanes t) g l 0 h))

  pub sub_tab : sub_of t (tab (lanes t) f) (tab (lanes t) g) ≡ tab (lanes t) (λ l. minus t (f l) (g l))
  unfolding sub_of
  sub_tab = tab_ext (lanes t) _ _ 0 (λ l h. ap₂ (minus t) (get_d_tab (lanes t) f l 0 h) (get_d_tab (lanes t) g l 0 h))
