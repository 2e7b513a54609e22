-- The calls answer by the table of the numbers 0 to 7 (R143): each number is given, with its place, exactly when it
-- applies and no lower one does (R3, R5). This is shown once, for every list of things taken that stands in the order
-- of the numbers, as each call's does.
-- Assumes nothing.
use mathlib.Core.Bool.{Bool, true, false}
use mathlib.Core.List.{List, [], ◌∷◌}
use mathlib.Core.Logic.Iff
use mathlib.Core.Logic.{◌↔◌, ◌⊎◌, inl, inr, ⊎_elim, ⊎_map}
use mathlib.Core.Path.{◌≡◌, refl, sym, ap, ap₂, subst, ◌∙◌}
use Prim.Native.Nat.{ℕ, zero, suc, ◌*◌, ◌≤◌, ◌<◌}
use native.Mathlib.Omega.{arith}
use lib.Dec.{eqb, ltb}
use lib.ListN.{length, get_or}
use borrow.Author.Tests.{lt-ltb, ltb-true, ltb-false, leb-true, leb-false, eqb-true, eqb-false}
use Rattle.lists.specs.Tests.{unless}
use Rattle.lists.specs.Pick.{pick, both, either}
use Rattle.lists.specs.Search.{first_beyond}
use Rattle.lists.proofs.Tests.{both_true, either_true, false-true}
use Rattle.lists.proofs.Search.{first-beyond_le, first-beyond-before, first-beyond-at, first-beyond_only, first-beyond-none}
use Rattle.places.specs.declared.Answer.{Answer}
use Rattle.places.specs.declared.Answer.TheVariants.{Done, Width, Block, Packed, Base, Lists, Index, Dictionary}
use Rattle.places.specs.Answers.{number_of, place_of}
use Rattle.places.specs.Sizes.{lanes}
use Rattle.places.specs.Takes.{Taken, tested, answer_for}
use Rattle.places.specs.Takes.{a_width, a_block, a_packed, a_base, two_lists, an_index, an_index_list, dictionary_indices}
use Rattle.promises.specs.Tables.{Lowest, number_for, Condition, Applies, Given, Gives, Exactly}

-- ---- the lowest place

module _ (limit : ℕ) (list : List ℕ) where
  -- The search finds it where there is one,
  lowest-is : (first_beyond limit list ≡ length list → ⊥) → Lowest limit list (first_beyond limit list)
  lowest-is some =
      let h : first_beyond limit list < length list = omega (arith, first-beyond_le limit list) in
      record { within = h; beyond = first-beyond-at limit list h; earlier = first-beyond-before limit list }

  -- there is none where every number is below the limit, as where the search gives the list's length,
  not-lowest : ((i : ℕ) → i < length list → get_or list i 0 < limit) → (p : ℕ) → ¬ Lowest limit list p
  not-lowest all p c = omega (arith, all p c.within, c.beyond)

  all_below : eqb (first_beyond limit list) (length list) ≡ true → (i : ℕ) → i < length list → get_or list i 0 < limit
  all_below e = (first-beyond-none limit list).0 (eqb-true (first_beyond limit list) (length list) e)

  -- and no other place is it, so that two such places are one.
  lowest_only : (p : ℕ) → Lowest limit list p → first_beyond limit list ≡ p
  lowest_only p c = sym (first-beyond_only limit list p (omega (arith, c.within)) c.earlier (λ _. c.beyond))

  pub lowest-one : (p q : ℕ) → Lowest limit list p → Lowest limit list q → p ≡ q
  lowest-one p q c d = sym (lowest_only p c) ∙ lowest_only q d

-- ---- one thing that a call takes

-- The refusal has the number of the table, which is not 0.
numbered : (x : Taken) → (number_of (tested x).1 ≡ number_for x) × (0 < number_for x)
numbered (a_width t w) = (refl, omega arith)
numbered (a_block values) = (refl, omega arith)
numbered (a_packed t w words) = (refl, omega arith)
numbered (a_base t starts) = (refl, omega arith)
numbered (two_lists list output) = (refl, omega arith)
numbered (an_index i) = (refl, omega arith)
numbered (an_index_list list) = (refl, omega arith)
numbered (dictionary_indices dictionary list) = (refl, omega arith)

-- What is taken is in order: the table's condition the other way round, in plain arithmetic.
abbrev pub InOrder : Taken → Type 0
InOrder (a_width t w) = w ≤ t
InOrder (a_block values) = length values ≡ 1024
InOrder (a_packed t w words) = length words ≡ lanes t * w
InOrder (a_base t starts) = length starts ≡ lanes t
InOrder (two_lists list output) = length output ≡ length list
InOrder (an_index i) = i < 1024
InOrder (an_index_list list) = (i : ℕ) → i < length list → get_or list i 0 < 1024
InOrder (dictionary_indices dictionary list) = (i : ℕ) → i < length list → get_or list i 0 < length dictionary

-- Where the test passes, it is,
passed : (x : Taken) → (tested x).0 ≡ true → InOrder x
passed (a_width t w) e = leb-true w t e
passed (a_block values) e = eqb-true (length values) 1024 e
passed (a_packed t w words) e = eqb-true (length words) (lanes t * w) e
passed (a_base t starts) e = eqb-true (length starts) (lanes t) e
passed (two_lists list output) e = eqb-true (length output) (length list) e
passed (an_index i) e = ltb-true i 1024 e
passed (an_index_list list) e = all_below 1024 list e
passed (dictionary_indices dictionary list) e = all_below (length dictionary) list e

-- and where it is, the condition holds at no place.
no_condition : (x : Taken) → InOrder x → (p : ℕ) → ¬ Condition x p
no_condition (a_width t w) o p c = omega arith
no_condition (a_block values) o p c = c.0 o
no_condition (a_packed t w words) o p c = c.0 o
no_condition (a_base t starts) o p c = c.0 o
no_condition (two_lists list output) o p c = c.0 o
no_condition (an_index i) o p c = omega arith
no_condition (an_index_list list) o p c = not-lowest 1024 list o p c
no_condition (dictionary_indices dictionary list) o p c = not-lowest (length dictionary) list o p c

-- Where the test fails, the condition holds at the refusal's place,
failed : (x : Taken) → (tested x).0 ≡ false → Condition x (place_of (tested x).1)
failed (a_width t w) e = (leb-false w t e, refl)
failed (a_block values) e = (eqb-false (length values) 1024 e, refl)
failed (a_packed t w words) e = (eqb-false (length words) (lanes t * w) e, refl)
failed (a_base t starts) e = (eqb-false (length starts) (lanes t) e, refl)
failed (two_lists list output) e = (eqb-false (length output) (length list) e, refl)
failed (an_index i) e = (ltb-false i 1024 e, refl)
failed (an_index_list list) e = lowest-is 1024 list (eqb-false (first_beyond 1024 list) (length list) e)
failed (dictionary_indices dictionary list) e =
    lowest-is (length dictionary) list (eqb-false (first_beyond (length dictionary) list) (length list) e)

-- and at no other.
placed : (x : Taken) (p : ℕ) → Condition x p → place_of (tested x).1 ≡ p
placed (a_width t w) p c = sym c.1
placed (a_block values) p c = sym c.1
placed (a_packed t w words) p c = sym c.1
placed (a_base t starts) p c = sym c.1
placed (two_lists list output) p c = sym c.1
placed (an_index i) p c = sym c.1
placed (an_index_list list) p c = lowest_only 1024 list p c
placed (dictionary_indices dictionary list) p c = lowest_only (length dictionary) list p c

-- The place is 0 for every number but 6 and 7.
pub place-zero : (a : Answer) → number_of a < 6 → place_of a ≡ 0
place-zero Done h = refl
place-zero Width h = refl
place-zero Block h = refl
place-zero Packed h = refl
place-zero Base h = refl
place-zero Lists h = refl
place-zero (Index p) h = absurd (omega arith)
place-zero (Dictionary p) h = absurd (omega arith)

-- ---- in the order of the numbers

-- y may stand after x where it has a higher number, or the same one, as two blocks have, if that one's place is always
-- 0.
abbrev follows : Taken → Taken → Bool
follows x y = either (ltb (number_for x) (number_for y)) (both (eqb (number_for x) (number_for y)) (ltb (number_for x) 6))

abbrev all_follow : Taken → List Taken → Bool
all_follow x [] = true
all_follow x (y ∷ ys) = both (follows x y) (all_follow x ys)

abbrev ordered : List Taken → Bool
ordered [] = true
ordered (x ∷ xs) = both (all_follow x xs) (ordered xs)

-- So what applies after x has a higher number, or x's own number and place.
later : (x y : Taken) → follows x y ≡ true → (p : ℕ) → Condition y p
    → (number_for x < number_for y) ⊎ ((number_for x ≡ number_for y) × (place_of (tested x).1 ≡ p))
later x y e p c =
    ⊎_elim
    (λ h. inl (ltb-true (number_for x) (number_for y) h))
    (λ h.
    let f : (eqb (number_for x) (number_for y) ≡ true) × (ltb (number_for x) 6 ≡ true) =
    both_true (eqb (number_for x) (number_for y)) (ltb (number_for x) 6) h in
    let same : number_for x ≡ number_for y = eqb-true (number_for x) (number_for y) f.0 in
    let low : number_for x < 6 = ltb-true (number_for x) 6 f.1 in
    inr (
      same,
      place-zero (tested x).1 (omega (arith, numbered x)) ∙ sym (place-zero (tested y).1 (omega (arith, numbered y))) ∙ placed y p c,
    ))
    (either_true (ltb (number_for x) (number_for y)) (both (eqb (number_for x) (number_for y)) (ltb (number_for x) 6)) e)

after : (x : Taken) (ys : List Taken) → all_follow x ys ≡ true → (n p : ℕ) → Applies ys n p
    → (number_for x < n) ⊎ ((number_for x ≡ n) × (place_of (tested x).1 ≡ p))
after x [] e n p a = absurd a
after x (y ∷ ys) e n p (inl h) =
    subst (λ (n : ℕ). (number_for x < n) ⊎ ((number_for x ≡ n) × (place_of (tested x).1 ≡ p))) h.0
    (later x y (both_true (follows x y) (all_follow x ys) e).0 p h.1)
after x (y ∷ ys) e n p (inr a) = after x ys (both_true (follows x y) (all_follow x ys) e).1 n p a

-- ---- the answer is the table's

module _ (x : Taken) (xs : List Taken) where
  -- Where the first test passes, what is taken after it decides.
  rest : (tested x).0 ≡ true → (n p : ℕ) → Applies (x ∷ xs) n p → Applies xs n p
  rest e n p (inl h) = absurd (no_condition x (passed x e) p h.1)
  rest e n p (inr a) = a

  given-rest : (tested x).0 ≡ true → (n p : ℕ) → Given xs n p ↔ Given (x ∷ xs) n p
  given-rest e zero p = (
    (λ g. (g.0, λ m q a. g.1 m q (rest e m q a))),
    (λ g. (g.0, λ m q a. g.1 m q (inr a))),
  )
  given-rest e (suc n) p = (
    (λ g. (inr g.0, λ m q h a. g.1 m q h (rest e m q a))),
    (λ g. (rest e (suc n) p g.0, λ m q h a. g.1 m q h (inr a))),
  )

  -- Where it fails, its own number and place are given, since what is taken after it has no lower number.
  given-first : (tested x).0 ≡ false → all_follow x xs ≡ true → (n p : ℕ)
      → Gives (tested x).1 n p ↔ Given (x ∷ xs) n p
  given-first e f zero p = (
    (λ h. absurd (omega (arith, numbered x))),
    (λ g. absurd (g.1 (number_for x) (place_of (tested x).1) (inl (refl, failed x e)))),
  )
  given-first e f (suc n) p = (
    (λ h. (
      inl (sym (numbered x).0 ∙ h.0, subst (Condition x) h.1 (failed x e)),
      λ m q below.
          ⊎_elim
          (λ g. omega (arith, numbered x))
          (λ a. ⊎_elim (λ g. omega (arith, numbered x)) (λ g. omega (arith, numbered x)) (after x xs f m q a)),
    )),
    (λ g.
        ⊎_elim
        (λ h. ((numbered x).0 ∙ h.0, placed x p h.1))
        (λ a.
        ⊎_elim
        (λ h. absurd (g.1 (number_for x) (place_of (tested x).1) h (inl (refl, failed x e))))
        (λ h. ((numbered x).0 ∙ h.0, h.1))
        (after x xs f (suc n) p a))
        g.0),
  )

-- A call that tests what it takes in the order of the numbers answers by the table.
pub exactly : (xs : List Taken) → ordered xs ≡ true → Exactly (answer_for xs) xs
unfolding answer_for
exactly [] o zero p = ((λ h. (sym h.1, λ m q a. a)), (λ g. (refl, sym g.0)))
exactly [] o (suc n) p = ((λ h. absurd (omega arith)), (λ g. absurd g.0))
exactly (x ∷ xs) o n p = go (tested x).0 refl (exactly xs (both_true (all_follow x xs) (ordered xs) o).1 n p)
  where
    go : (b : Bool) → (tested x).0 ≡ b → Gives (answer_for xs) n p ↔ Given xs n p
        → Gives (unless b (tested x).1 (answer_for xs)) n p ↔ Given (x ∷ xs) n p
    go true e r = Iff.trans r (given-rest x xs e n p)
    go false e r = given-first x xs e (both_true (all_follow x xs) (ordered xs) o).0 n p

-- ---- the table admits one answer

-- An answer is known by its number and its place,
abbrev answer_with : ℕ → ℕ → Answer
answer_with n p = get_or (Done ∷ Width ∷ Block ∷ Packed ∷ Base ∷ Lists ∷ Index p ∷ Dictionary p ∷ []) n Done

known : (a : Answer) → answer_with (number_of a) (place_of a) ≡ a
known Done = refl
known Width = refl
known Block = refl
known Packed = refl
known Base = refl
known Lists = refl
known (Index p) = refl
known (Dictionary p) = refl

-- so two answers by the table, for the same things taken, are one.
pub one_answer : (a b : Answer) (xs : List Taken) → Exactly a xs → Exactly b xs → a ≡ b
one_answer a b xs table other =
    let same : Gives b (number_of a) (place_of a) = (other (number_of a) (place_of a)).1 ((table (number_of a) (place_of a)).0 (refl, refl)) in
    sym (known a) ∙ sym (ap₂ answer_with same.0 same.1) ∙ known b

-- ---- the table in plain arithmetic

-- This is what is taken whose number passes the test.
abbrev keep : (ℕ → Bool) → List Taken → List Taken
keep test [] = []
keep test (x ∷ xs) = pick (test (number_for x)) (x ∷ keep test xs) (keep test xs)

-- All that stands in the list is in order, and then Q holds.
abbrev AllThen : List Taken → Type 0 → Type 0
AllThen [] Q = Q
AllThen (x ∷ xs) Q = InOrder x × AllThen xs Q

-- The condition of one that stands in the list holds at place p. It has no case too many, so that it reads well where
-- it is computed.
abbrev OneOf : List Taken → ℕ → Type 0
OneOf [] p = ⊥
OneOf (x ∷ []) p = Condition x p
OneOf (x ∷ y ∷ ys) p = Condition x p ⊎ OneOf (y ∷ ys) p

-- `Given` with all that is to be shown spelled out. Where the number is known, this computes to plain arithmetic over
-- what the call takes.
abbrev pub Plain : List Taken → ℕ → ℕ → Type 0
Plain taken zero p = AllThen (keep (λ m. true) taken) (p ≡ 0)
Plain taken (suc n) p = AllThen (keep (λ m. ltb m (suc n)) taken) (OneOf (keep (λ m. eqb m (suc n)) taken) p)

-- What meets its condition nowhere is in order.
in_order : (x : Taken) → ((p : ℕ) → ¬ Condition x p) → InOrder x
in_order x none = go (tested x).0 refl
  where
    go : (b : Bool) → (tested x).0 ≡ b → InOrder x
    go true e = passed x e
    go false e = absurd (none (place_of (tested x).1) (failed x e))

-- No number that passes the test applies exactly when all that has such a number is in order.
all_kept : (test : ℕ → Bool) (xs : List Taken) (Q : Type 0)
    → (((m q : ℕ) → test m ≡ true → ¬ Applies xs m q) × Q) ↔ AllThen (keep test xs) Q
all_kept test [] Q = ((λ h. h.1), (λ q. ((λ m r e a. a), q)))
all_kept test (x ∷ xs) Q = go (test (number_for x)) refl (all_kept test xs Q)
  where
    go : (b : Bool) → test (number_for x) ≡ b → (((m q : ℕ) → test m ≡ true → ¬ Applies xs m q) × Q) ↔ AllThen (keep test xs) Q
        → (((m q : ℕ) → test m ≡ true → ¬ Applies (x ∷ xs) m q) × Q) ↔ AllThen (pick b (x ∷ keep test xs) (keep test xs)) Q
    go true e later = (
      (λ h. (in_order x (λ p c. h.0 (number_for x) p e (inl (refl, c))), later.0 ((λ m q t a. h.0 m q t (inr a)), h.1))),
      (λ h. ((λ m q t. ⊎_elim (λ c. no_condition x h.0 q c.1) ((later.1 h.1).0 m q t)), (later.1 h.1).1)),
    )
    go false e later = (
      (λ h. later.0 ((λ m q t a. h.0 m q t (inr a)), h.1)),
      (λ h. ((λ m q t. ⊎_elim (λ c. false-true (sym e ∙ ap test c.0 ∙ t)) ((later.1 h).0 m q t)), (later.1 h).1)),
    )

one_more : (x : Taken) (xs : List Taken) (p : ℕ) → (Condition x p ⊎ OneOf xs p) ↔ OneOf (x ∷ xs) p
one_more x [] p = (⊎_elim (λ c. c) (λ a. absurd a), inl)
one_more x (y ∷ ys) p = Iff.rfl

-- Number n applies exactly when something that has it meets its condition.
one_kept : (xs : List Taken) (n p : ℕ) → Applies xs n p ↔ OneOf (keep (λ m. eqb m n) xs) p
one_kept [] n p = Iff.rfl
one_kept (x ∷ xs) n p = go (eqb (number_for x) n) refl (one_kept xs n p)
  where
    go : (b : Bool) → eqb (number_for x) n ≡ b → Applies xs n p ↔ OneOf (keep (λ m. eqb m n) xs) p
        → Applies (x ∷ xs) n p ↔ OneOf (pick b (x ∷ keep (λ m. eqb m n) xs) (keep (λ m. eqb m n) xs)) p
    go true e later =
        Iff.trans
        (⊎_map (λ c. c.1) later.0, ⊎_map (λ c. (eqb-true (number_for x) n e, c)) later.1)
        (one_more x (keep (λ m. eqb m n) xs) p)
    go false e later = (⊎_elim (λ c. absurd (eqb-false (number_for x) n e c.0)) later.0, λ o. inr (later.1 o))

plain : (xs : List Taken) (n p : ℕ) → Given xs n p ↔ Plain xs n p
plain xs zero p = Iff.trans ((λ g. ((λ m q t. g.1 m q), g.0)), (λ h. (h.1, λ m q. h.0 m q refl))) (all_kept (λ m. true) xs (p ≡ 0))
plain xs (suc n) p =
    Iff.trans (
      (λ g. ((λ m q t. g.1 m q (ltb-true m (suc n) t)), (one_kept xs (suc n) p).0 g.0)),
      (λ h. ((one_kept xs (suc n) p).1 h.1, λ m q t. h.0 m q (lt-ltb m (suc n) t))),
    )
    (all_kept (λ m. ltb m (suc n)) xs (OneOf (keep (λ m. eqb m (suc n)) xs) p))

-- So a call answers by the table in plain arithmetic.
pub plainly : (xs : List Taken) → ordered xs ≡ true → (n p : ℕ) → Gives (answer_for xs) n p ↔ Plain xs n p
plainly xs o n p = Iff.trans (exactly xs o n p) (plain xs n p)
