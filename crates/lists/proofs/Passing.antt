-- The laws of the numbers that pass a test: one more, two runs of them one after the other, another test that tells
-- the same, and a rule for each.
-- Assumes nothing.
use mathlib.Core.Bool.{Bool, true, false}
use mathlib.Core.List.{List, [], ◌∷◌, ◌++◌, map, append-nil, append_assoc}
use mathlib.Core.Path.{◌≡◌, refl, sym, ap, ap₂, ◌∙◌}
use Prim.Native.Nat.{ℕ, zero, suc, ◌+◌, ◌≤◌, ◌<◌}
use native.Mathlib.Nat.{add_assoc, add-zero, add-suc, zero-add}
use native.Mathlib.Numerals.{add-one}
use native.Mathlib.Omega.{arith}
use lib.ListN.{length, length-append}
use Rattle.lists.specs.Pick.{pick}
use Rattle.lists.specs.Passing.{passing}

-- What one number adds: itself where it passes.
abbrev pub one : (b : Bool) (k : ℕ) → List ℕ
one b k = pick b (k ∷ []) []

one-length : (b : Bool) (k : ℕ) → length (one b k) ≤ 1
one-length true k = omega arith
one-length false k = omega arith

same_length : (b : Bool) (k m : ℕ) → length (one b k) ≡ length (one b m)
same_length true k m = refl
same_length false k m = refl

pub passing-none_yet : (s : ℕ) (test : ℕ → Bool) → passing s 0 test ≡ []
unfolding passing
passing-none_yet s test = refl

pub passing-next : (s n : ℕ) (test : ℕ → Bool) → passing s (n + 1) test ≡ passing s n test ++ one (test (s + n)) (s + n)
unfolding passing
passing-next s n test = rw add-one

pub passing-split : (s a b : ℕ) (test : ℕ → Bool) → passing s (a + b) test ≡ passing s a test ++ passing (s + a) b test
unfolding passing
passing-split s a zero test = rw (add-zero, append-nil)
passing-split s a (suc b) test =
    ap (λ n. passing s n test) (add-suc a b)
    ∙ ap₂ (λ l k. l ++ one (test k) k) (passing-split s a b test) (sym (add_assoc s a b))
    ∙ append_assoc (passing s a test) (passing (s + a) b test) (one (test (s + a + b)) (s + a + b))

-- Two tests that agree on these numbers pass the same ones.
pub passing_ext : (s n : ℕ) (f g : ℕ → Bool) → ((k : ℕ) → s ≤ k → k < s + n → f k ≡ g k) → passing s n f ≡ passing s n g
unfolding passing
passing_ext s zero f g same = refl
passing_ext s (suc n) f g same =
    ap₂ (λ l b. l ++ one b (s + n)) (passing_ext s n f g (λ k a b. same k a (omega arith))) (same (s + n) (omega arith) (omega arith))

-- Where none passes there is none.
pub passing_nothing : (s n : ℕ) (test : ℕ → Bool) → ((k : ℕ) → s ≤ k → k < s + n → test k ≡ false) → passing s n test ≡ []
unfolding passing
passing_nothing s zero test none = refl
passing_nothing s (suc n) test none =
    ap₂ (λ l b. l ++ one b (s + n)) (passing_nothing s n test (λ k a b. none k a (omega arith))) (none (s + n) (omega arith) (omega arith))

-- There are at most as many as there are numbers.
pub passing-length : (s n : ℕ) (test : ℕ → Bool) → length (passing s n test) ≤ n
unfolding passing
passing-length s zero test = omega arith
passing-length s (suc n) test =
    omega (arith, length-append (passing s n test) (one (test (s + n)) (s + n)), passing-length s n test, one-length (test (s + n)) (s + n))

-- How many pass does not depend on where the numbers begin.
pub passing_shift : (s n : ℕ) (f g : ℕ → Bool) → ((j : ℕ) → j < n → f (s + j) ≡ g j) → length (passing s n f) ≡ length (passing 0 n g)
unfolding passing
passing_shift s zero f g same = refl
passing_shift s (suc n) f g same =
    length-append (passing s n f) (one (f (s + n)) (s + n))
    ∙ ap₂ ◌+◌ (passing_shift s n f g (λ j h. same j (omega arith))) (ap (λ b. length (one b (s + n))) (same n (omega arith)) ∙ same_length (g n) (s + n) (0 + n))
    ∙ sym (length-append (passing 0 n g) (one (g n) (0 + n)))
    ∙ ap (λ k. length (passing 0 n g ++ one (g k) (0 + n))) (sym (zero-add n))

-- A rule for each of two lists that stand one behind the other.
pub map_both : {A B : Type 0} (f : A → B) (a b : List A) → map f (a ++ b) ≡ map f a ++ map f b
map_both f [] b = refl
map_both f (x ∷ a) b = ap (λ l. f x ∷ l) (map_both f a b)

-- Numbers that begin a later are those of the first, each a higher.
one-moved : (a : ℕ) (b : Bool) (k : ℕ) → one b (a + k) ≡ map (λ p. a + p) (one b k)
one-moved a true k = refl
one-moved a false k = refl

pub passing-moved : (a s n : ℕ) (test : ℕ → Bool) → passing (a + s) n test ≡ map (λ p. a + p) (passing s n (λ p. test (a + p)))
unfolding passing
passing-moved a s zero test = refl
passing-moved a s (suc n) test =
    ap₂ (λ l k. l ++ one (test k) k) (passing-moved a s n test) (add_assoc a s n)
    ∙ ap (λ l. map (λ p. a + p) (passing s n (λ p. test (a + p))) ++ l) (one-moved a (test (a + (s + n))) (s + n))
    ∙ sym (map_both (λ p. a + p) (passing s n (λ p. test (a + p))) (one (test (a + (s + n))) (s + n)))

-- Two rules that agree on these numbers make one list of those that pass.
one_same : {B : Type 0} (f g : ℕ → B) (b : Bool) (k : ℕ) → f k ≡ g k → map f (one b k) ≡ map g (one b k)
one_same f g true k e = ap (λ x. x ∷ []) e
one_same f g false k e = refl

pub map-passing : {B : Type 0} (f g : ℕ → B) (test : ℕ → Bool) (s n : ℕ) → ((p : ℕ) → s ≤ p → p < s + n → f p ≡ g p)
    → map f (passing s n test) ≡ map g (passing s n test)
unfolding passing
map-passing f g test s zero same = refl
map-passing f g test s (suc n) same =
    map_both f (passing s n test) (one (test (s + n)) (s + n))
    ∙ ap₂ ◌++◌ (map-passing f g test s n (λ p low high. same p low (omega arith)))
    (one_same f g (test (s + n)) (s + n) (same (s + n) (omega arith) (omega arith)))
    ∙ sym (map_both g (passing s n test) (one (test (s + n)) (s + n)))
