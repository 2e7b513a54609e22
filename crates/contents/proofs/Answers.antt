-- The tests of a call go one by one: a test that passes leaves the answer to the tests behind it, and one that fails
-- gives its refusal. A list that stands in front of another is gone through first.
-- Assumes nothing.
use mathlib.Core.Bool.{Bool, true, false}
use mathlib.Core.List.{List, [], ◌∷◌, ◌++◌}
use mathlib.Core.Path.{◌≡◌, refl, sym, ap, ◌∙◌}
use native.Mathlib.Omega.{arith}
use borrow.Author.Tests.{ne_eqb}
use Rattle.std.specs.Prelude.{Result, Ok, Err, is_ok, IfErr, OnOk}
use Rattle.lists.specs.Tests.{unless}
use Rattle.lists.specs.Pick.{pick}
use Rattle.lists.proofs.Tests.{false-true}
use Rattle.lists.proofs.Answers as every
use Rattle.contents.specs.declared.FileRefusal.{FileRefusal}
use Rattle.contents.specs.declared.FileRefusal.TheVariants.{Block, Cut, Edition, BadEntry, Over, Beyond, Runs, Room, Range, Foreign}
use Rattle.contents.specs.Answers.{FileAnswer, FileTest, file_answer, refusal_number, number_of, is_done, left, giving, answer_of}

module _ (x : FileTest) (xs : List FileTest) where
  pub passed : x.0 ≡ true → file_answer (x ∷ xs) ≡ file_answer xs
  unfolding file_answer
  passed e = ap (λ b. unless b x.1 (file_answer xs)) e

  pub stopped : x.0 ≡ false → file_answer (x ∷ xs) ≡ x.1
  unfolding file_answer
  stopped e = ap (λ b. unless b x.1 (file_answer xs)) e

pub none_left : file_answer [] ≡ Ok tt
unfolding file_answer
none_left = refl

-- No refusal of a list says that the call is done. Of a list that is written out, this computes to true.
abbrev pub refuses : List FileTest → Bool
refuses [] = true
refuses (x ∷ xs) = pick (is_done x.1) false (refuses xs)

pub refuses-first : (x : FileTest) (xs : List FileTest) → refuses (x ∷ xs) ≡ true → (x.1 ≡ Ok tt → ⊥) × (refuses xs ≡ true)
refuses-first x xs r = (
  λ e. false-true (sym (ap (λ a. pick (is_done a) false (refuses xs)) e) ∙ r),
  go (is_done x.1) r,
)
  where
    go : (b : Bool) → pick b false (refuses xs) ≡ true → refuses xs ≡ true
    go true r = absurd (false-true r)
    go false r = r

-- Where the tests in front are done, those behind them decide.
pub in_front-done : (xs ys : List FileTest) → refuses xs ≡ true → file_answer xs ≡ Ok tt → file_answer (xs ++ ys) ≡ file_answer ys
in_front-done [] ys r e = refl
in_front-done (x ∷ xs) ys r e = go x.0 refl (in_front-done xs ys (refuses-first x xs r).1)
  where
    go : (b : Bool) → x.0 ≡ b → (file_answer xs ≡ Ok tt → file_answer (xs ++ ys) ≡ file_answer ys) → file_answer (x ∷ (xs ++ ys)) ≡ file_answer ys
    go true p rest = passed x (xs ++ ys) p ∙ rest (sym (passed x xs p) ∙ e)
    go false p rest = absurd ((refuses-first x xs r).0 (sym (stopped x xs p) ∙ e))

-- Where they are not, their refusal is given.
pub in_front-refused : (xs ys : List FileTest) → (file_answer xs ≡ Ok tt → ⊥) → file_answer (xs ++ ys) ≡ file_answer xs
in_front-refused [] ys n = absurd (n none_left)
in_front-refused (x ∷ xs) ys n = go x.0 refl (in_front-refused xs ys)
  where
    go : (b : Bool) → x.0 ≡ b → ((file_answer xs ≡ Ok tt → ⊥) → file_answer (xs ++ ys) ≡ file_answer xs)
        → file_answer (x ∷ (xs ++ ys)) ≡ file_answer (x ∷ xs)
    go true p rest = passed x (xs ++ ys) p ∙ rest (λ e. n (passed x xs p ∙ e)) ∙ sym (passed x xs p)
    go false p rest = stopped x (xs ++ ys) p ∙ sym (stopped x xs p)

-- After every refusal, that is after every number but 0, a lent buffer holds what it held.
pub left-refused : {A : Type 0} (a : FileAnswer) (new old : A) → (number_of a ≡ 0 → ⊥) → left a new old ≡ old
left-refused = every.left-refused number_of

-- No refusal has number 0.
pub refusal_numbered : (r : FileRefusal) → refusal_number r ≡ 0 → ⊥
refusal_numbered Block e = omega arith
refusal_numbered Cut e = omega arith
refusal_numbered Edition e = omega arith
refusal_numbered (BadEntry p) e = omega arith
refusal_numbered Over e = omega arith
refusal_numbered Beyond e = omega arith
refusal_numbered (Runs p) e = omega arith
refusal_numbered Room e = omega arith
refusal_numbered (Range p) e = omega arith
refusal_numbered (Foreign p) e = omega arith

-- So a lent buffer holds what it held after a refusal.
pub left-err : {A : Type 0} (r : FileRefusal) (new old : A) → left (Err r) new old ≡ old
left-err r new old = left-refused (Err r) new old (refusal_numbered r)

-- The answer with number 0 is that the call is done.
pub number-done : (a : FileAnswer) → number_of a ≡ 0 → a ≡ Ok tt
number-done (Ok _) e = refl
number-done (Err r) e = absurd (refusal_numbered r e)

-- After a refusal nothing is handed over, whatever it would have been.
pub refused-same : {A : Type 0} (a : FileAnswer) → (number_of a ≡ 0 → ⊥) → (x y : A) → giving a x ≡ giving a y
refused-same (Ok _) n x y = absurd (n refl)
refused-same (Err r) n x y = refl

-- What is handed over says the answer.
pub says_answer : {A R : Type 0} (a : Result (Unit {0}) R) (given : A) → answer_of (giving a given) ≡ a
says_answer (Ok _) given = refl
says_answer (Err r) given = refl

-- What is known of an answer, by whether it is a refusal.
pub told_err : {a b : FileAnswer} → a ≡ b → IfErr a (λ r. Err r ≡ b)
told_err {a = Ok _} e = tt
told_err {a = Err r} e = e

pub told_ok : {P : Type 0} {a b : FileAnswer} → a ≡ b → (b ≡ Ok tt → P) → OnOk a P
told_ok {a = Ok _} e p = p (sym e)
told_ok {a = Err r} e p = tt

-- The two tests that a call is done agree.
pub ok_done : (a : FileAnswer) → is_ok a ≡ is_done a
ok_done (Ok _) = refl
ok_done (Err r) = sym (ne_eqb (refusal_number r) 0 (refusal_numbered r))
