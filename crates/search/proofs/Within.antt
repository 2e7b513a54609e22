-- The laws behind the listing of a block: where its range lies within the bounds every row of it is found, and a value
-- lies between the bounds where it is no further above the lower one than the upper one is.
-- Assumes nothing.
use Rattle.std.specs.Prelude.{Ok}
use Rattle.std.proofs.Common.{◌≡◌, ℕ, zero, suc, ◌+◌, ◌-◌, ◌*◌, ◌%◌, ◌<◌, ◌≤◌, Bool, true, false, eqb, leb, List, [], ◌∷◌, ◌++◌, map, length, get_or, take, set, sym, refl, ap, ◌∙◌, ap₂, add-zero, add_assoc, mod-eq_of_lt, zero-add, add-one, arith, eqb-true, le-leb, leb-false, leb-true}
use mir.Val.{bool_byte}
use lib.ListN.{length-map, get_or-map}
use lib.Seq.{take-set-le}
use borrow.Author.Tests.{lt-leb}
use Rattle.lists.specs.Pick.{pick, both}
use Rattle.lists.specs.Tab.{tab, tab_from, over}
use Rattle.lists.specs.Passing.{passing}
use Rattle.lists.specs.Ends.{lowest_of, highest_of}
use Rattle.lists.proofs.Tests.{both_true}
use Rattle.lists.specs.Numbers.{plus}
use Rattle.lists.proofs.Tabs.{tab_snoc, tab_ext, tab_get_d, get_d_tab, Written, written_none, written-length, written-run}
use Rattle.places.specs.Sizes.{t64}
use Rattle.rows.specs.Rows.{add_of, splat_of}
use Rattle.lists.proofs.Passing.{one, passing-none_yet, passing-next, passing_ext, passing-moved, map-passing}
use Rattle.lists.proofs.Lows.{lowest_bound}
use Rattle.lists.proofs.Highs.{highest_bound}
use Rattle.contents.specs.Answers.{file_answer}
use Rattle.contents.specs.Contents.{edition, count, range_of, edition_or, range_or, contents_tests}
use Rattle.bodies.specs.Ranges.{is_range}
use Rattle.bodywise.proofs.Fronts.{whole-front}
use Rattle.files.specs.Files.{block_in, has_true_range}
use Rattle.search.specs.Search.{between}
use Rattle.search.specs.Steps.{in_block, found_in}
use Rattle.search.specs.InnerBlocks.{within_by}
use Rattle.search.proofs.Blocks.{in_block_lem, in_long}
use Rattle.search.proofs.Listing.{more_pass, same_pass}

-- Where every number passes, those that pass are all.
pub passing_all : (s n : ℕ) (test : ℕ → Bool) → ((k : ℕ) → s ≤ k → k < s + n → test k ≡ true) → passing s n test ≡ tab n (λ j. s + j)
unfolding passing tab tab_from
passing_all s zero test all = refl
passing_all s (suc n) test all =
    ap₂ (λ l b. l ++ one b (s + n)) (passing_all s n test (λ k a b. all k a (omega arith))) (all (s + n) (omega arith) (omega arith))
    ∙ sym (tab_snoc n (λ j. s + j))
    ∙ ap (λ m. tab m (λ j. s + j)) (add-one n)

-- The rows of a block whose range lies within the bounds are all found.
module _ (l : List ℕ) (low high i : ℕ) (done : file_answer (contents_tests l (length l)) ≡ Ok tt) (h : i < count l) (is_true : has_true_range l i ≡ true)
    (inside : within_by l low high i ≡ true) where
  inner : both (leb low (range_or l i).smallest) (leb (range_or l i).largest high) ≡ true
  inner = (both_true (eqb (edition_or l) 2) (both (leb low (range_or l i).smallest) (leb (range_or l i).largest high)) inside).1

  second : edition l ≡ 2
  second =
      sym ((whole-front l).edition-is done)
      ∙ eqb-true (edition_or l) 2 (both_true (eqb (edition_or l) 2) (both (leb low (range_or l i).smallest) (leb (range_or l i).largest high)) inside).0

  range-true : is_range (range_of l i) (block_in l i) ≡ true
  unfolding has_true_range
  range-true = sym (ap (λ e. pick (eqb e 2) (is_range (range_of l i) (block_in l i)) true) second) ∙ is_true

  ends : (eqb (range_of l i).smallest (lowest_of (block_in l i)) ≡ true) × (eqb (range_of l i).largest (highest_of (block_in l i)) ≡ true)
  ends = both_true (eqb (range_of l i).smallest (lowest_of (block_in l i))) (eqb (range_of l i).largest (highest_of (block_in l i))) range-true

  low-is : low ≤ lowest_of (block_in l i)
  low-is =
      let a = leb-true low (range_or l i).smallest (both_true (leb low (range_or l i).smallest) (leb (range_or l i).largest high) inner).0 in
      let b = ap (λ r. r.smallest) ((whole-front l).range-is done i h) in
      omega (arith, a, b, eqb-true (range_of l i).smallest (lowest_of (block_in l i)) ends.0)

  high_is : highest_of (block_in l i) ≤ high
  high_is =
      let a = leb-true (range_or l i).largest high (both_true (leb low (range_or l i).smallest) (leb (range_or l i).largest high) inner).1 in
      let b = ap (λ r. r.largest) ((whole-front l).range-is done i h) in
      omega (arith, a, b, eqb-true (range_of l i).largest (highest_of (block_in l i)) ends.1)

  pub all_found : found_in (block_in l i) (i * 1024) low high ≡ tab 1024 (λ j. i * 1024 + j)
  all_found =
      passing_all (i * 1024) (length (block_in l i)) (in_block (block_in l i) (i * 1024) low high)
      (λ k a b.
      let there : k - i * 1024 < length (block_in l i) = omega arith in
      ap₂ both
      (le-leb low (get_or (block_in l i) (k - i * 1024) 0) (omega (arith, low-is, lowest_bound (block_in l i) (k - i * 1024) there)))
      (le-leb (get_or (block_in l i) (k - i * 1024) 0) high (omega (arith, high_is, highest_bound (block_in l i) (k - i * 1024) there))))
      ∙ ap (λ n. tab n (λ j. i * 1024 + j)) (in_long l low high i)

-- A number r of 64 bits that gives a when b is added to it, modulo 2^64, is at most c - b exactly where a lies from b
-- to c.
pub no_further : (a b c r : ℕ) → a < 18446744073709551616 → b ≤ c → c < 18446744073709551616 → r < 18446744073709551616
    → (r + b) % 18446744073709551616 ≡ a → leb r (c - b) ≡ between b c a
no_further a b c r ha hbc hc hr e = go (leb b a) (leb a c) refl refl
  where
    go : (s t : Bool) → leb b a ≡ s → leb a c ≡ t → leb r (c - b) ≡ both s t
    go true true f g = le-leb r (c - b) (omega (arith, leb-true b a f, leb-true a c g))
    go true false f g = lt-leb r (c - b) (omega (arith, leb-true b a f, leb-false a c g))
    go false t f g = lt-leb r (c - b) (omega (arith, leb-false b a f))

-- No number lies between bounds that are turned round.
pub none_between : (low high v : ℕ) → high < low → between low high v ≡ false
none_between low high v h = go (leb low v) (leb v high) refl refl
  where
    go : (s t : Bool) → leb low v ≡ s → leb v high ≡ t → both s t ≡ false
    go true true f g = absurd (omega (arith, leb-true low v f, leb-true v high g))
    go true false f g = refl
    go false t f g = refl

-- What is stored behind the first n entries, and no entry of them, is entry n.
take_more : (x : List ℕ) (n v : ℕ) → n < length x → take (n + 1) (set x n v) ≡ take n x ++ (v ∷ [])
take_more x n v h = ap (λ k. take k (set x n v)) (add-one n) ∙ go x n h
  where
    go : (x : List ℕ) (n : ℕ) → n < length x → take (suc n) (set x n v) ≡ take n x ++ (v ∷ [])
    go [] n h = absurd (omega arith)
    go (y ∷ x) zero h = refl
    go (y ∷ x) (suc n) h = ap (λ r. y ∷ r) (go x n (omega arith))

-- The first k entries of x are the numbers that pass.
pub record Gathered (s n : ℕ) (test : ℕ → Bool) (k : ℕ) (x : List ℕ) : Type 0 where
  pub at : k ≡ length (passing s n test)
  pub is : take k x ≡ passing s n test

-- none is looked at yet
pub gathered_none : (s : ℕ) (test : ℕ → Bool) (x : List ℕ) → Gathered s 0 test 0 x
gathered_none s test x = record { at = sym (ap length (passing-none_yet s test)); is = sym (passing-none_yet s test) }

-- one number more, which is stored and counted only where it passes
pub gathered_next : {s n : ℕ} {test : ℕ → Bool} {k : ℕ} {x : List ℕ} (v : ℕ) (b : Bool) → Gathered s n test k x → k < length x → v ≡ s + n → test (s + n) ≡ b
    → Gathered s (n + 1) test (k + bool_byte b) (set x k v)
gathered_next {s} {n} {test} {k} {x} v true now h e t =
    record {
      at = omega (arith, now.at, more_pass s test n t);
      is =
          take_more x k v h
          ∙ ap₂ (λ l w. l ++ (w ∷ [])) now.is e
          ∙ sym (passing-next s n test ∙ ap (λ b. passing s n test ++ one b (s + n)) t);
    }
gathered_next {s} {n} {test} {k} {x} v false now h e t =
    record {
      at = omega (arith, now.at, ap length (same_pass s test n t));
      is = ap (λ m. take m (set x k v)) (add-zero k) ∙ take-set-le k x k v (omega arith) ∙ now.is ∙ sym (same_pass s test n t);
    }

-- Sixteen numbers, each sixteen higher, where the sums stay below 2^64.
sixteen_on : (s : ℕ) → s + 32 < 18446744073709551616 → add_of t64 (tab 16 (λ l. s + l)) (splat_of t64 16) ≡ tab 16 (λ l. s + 16 + l)
unfolding add_of splat_of plus
sixteen_on s h =
    tab_ext 16 _ _ 0
    (λ l b.
    let sum : s + l + 16 ≡ s + 16 + l = omega arith in
    ap₂ (λ x y. (x + y) % 18446744073709551616) (get_d_tab 16 (λ l. s + l) l 0 b) (get_d_tab 16 (λ _. 16) l 0 b)
    ∙ mod-eq_of_lt (omega arith)
    ∙ sum)

-- y is x with the numbers from `first` on, below `first` + j, written over it from place k on, and `run` has the next
-- sixteen.
pub record Numbered (first k j : ℕ) (x run y : List ℕ) : Type 0 where
  pub next : run ≡ tab 16 (λ l. first + j + l)
  pub written : Written k j (λ i. first + i) x y

-- none is written yet
pub numbered-none : (first k : ℕ) (x run : List ℕ) → k ≤ length x → run ≡ tab 16 (λ l. first + l) → Numbered first k 0 x run x
numbered-none first k x run h e = record { next = e ∙ ap (λ s. tab 16 (λ l. s + l)) (sym (add-zero first)); written = written_none h }

-- sixteen more
pub numbered_next : {first k j : ℕ} {x run y : List ℕ} → Numbered first k j x run y → first + j + 32 < 18446744073709551616 → k + j + 16 ≤ length x
    → (more z step : List ℕ) → step ≡ splat_of t64 16 → more ≡ add_of t64 run step → z ≡ over (k + j) run y → Numbered first k (j + 16) x more z
numbered_next {first} {k} {j} {x} {run} {y} before h room more z step s e f =
    record {
      next =
          e
          ∙ ap₂ (add_of t64) before.next s
          ∙ sixteen_on (first + j) h
          ∙ ap (λ s. tab 16 (λ l. s + l)) (add_assoc first j 16);
      written =
          written-run before.written (k + j) refl
          (record {
            room = omega (arith, written-length before.written);
            is = f ∙ ap (λ r. over (k + j) r y) (before.next ∙ tab_ext 16 _ _ 0 (λ l _. add_assoc first j l));
          });
    }

-- A block that begins with row 0 has its places for rows.
pub zero-at : (block : List ℕ) (low high p : ℕ) → in_block block 0 low high p ≡ between low high (get_or block p 0)
zero-at block low high p = ap (in_block block 0 low high) (sym (zero-add p)) ∙ in_block_lem block 0 low high p

-- The rows of a block are its places, each as much higher as the block begins.
pub rows-of-places : (block : List ℕ) (first low high : ℕ) → length block ≡ 1024 → first + 1024 < 18446744073709551616
    → map (plus 64 first) (found_in block 0 low high) ≡ found_in block first low high
unfolding plus
rows-of-places block first low high long h =
    map-passing (plus 64 first) (λ p. first + p) (in_block block 0 low high) 0 (length block) (λ p a b. mod-eq_of_lt (omega arith))
    ∙ ap (map (λ p. first + p))
    (passing_ext 0 (length block) (in_block block 0 low high) (λ p. in_block block first low high (first + p)) (λ p a b. sym (in_block_lem block first low high p ∙ sym (zero-at block low high p))))
    ∙ sym (passing-moved first 0 (length block) (in_block block first low high))
    ∙ ap (λ s. passing s (length block) (in_block block first low high)) (add-zero first)

-- A list by a rule for the entries of another one.
pub tab-map : (f : ℕ → ℕ) (x : List ℕ) → tab (length x) (λ i. f (get_or x i 0)) ≡ map f x
tab-map f x =
    tab_ext (length x) (λ i. f (get_or x i 0)) (λ i. get_or (map f x) i (f 0)) 0 (λ i _. sym (get_or-map f x i 0))
    ∙ tab_get_d (map f x) (f 0) (length x) (length-map x f)
