-- The laws of the walk over the bodies of a file whose contents are right: the first body begins behind the contents,
-- and each step goes to the next. What a walk keeps is one record, for every loop that walks and for the program that
-- holds no more than a front of the file.
-- Assumes nothing.
use mathlib.Core.Bool.{Bool, true}
use mathlib.Core.List.{List}
use mathlib.Core.Path.{◌≡◌, refl, sym, ap, ap₂, subst, ◌∙◌}
use Prim.Native.Nat.{ℕ, zero, suc, ◌+◌, ◌≤◌, ◌<◌, zero-le}
use native.Mathlib.Numerals.{add-one}
use native.Mathlib.Omega.{arith}
use lib.ListN.{length}
use borrow.Author.Count.{below_more}
use Rattle.std.specs.Prelude.{Ok}
use Rattle.contents.specs.Answers.{file_answer}
use Rattle.contents.specs.Contents.{count, contents_size, entry_of, body_start, contents_tests}
use Rattle.bodywise.specs.declared.Body.{Body}
use Rattle.bodywise.specs.Cursor.{first_body, next_body, walked}
use Rattle.bodywise.proofs.Fronts.{Front, whole-front}
use Rattle.bodywise.proofs.Told.{whole, next_start, first-start, body-ends}

-- A body of the walk is body number `number` of the file, or stands behind the last one.
pub record Walking (l : List ℕ) (b : Body) : Type 0 where
  pub within : b.number ≤ count l
  pub start : b.at ≡ body_start l b.number
  pub entry : b.number < count l → b.entry ≡ entry_of l b.number

module _ (l front : List ℕ) (held : Front l front) (done : file_answer (contents_tests l (length l)) ≡ Ok tt) where
  pub first_walking : Walking l (first_body front)
  unfolding first_body
  first_walking = record {
    within = zero-le;
    start = ap₂ contents_size (held.edition-is done) (held.count-is done) ∙ sym (first-start l done);
    entry = held.entry-is done 0;
  }

  first-number : (first_body front).number ≡ 0
  unfolding first_body
  first-number = refl

  module _ (fits : length l < 18446744073709551616) (b : Body) (walk : Walking l b) (more : b.number < count l) where
    number-next : (next_body front b).number ≡ suc b.number
    unfolding next_body
    number-next = omega (arith, (whole l done).few)

    pub next-number : (next_body front b).number ≡ b.number + 1
    next-number = number-next ∙ sym (add-one b.number)

    next-at : (next_body front b).at ≡ body_start l (suc b.number)
    unfolding next_body
    next-at =
        let long : b.entry.length ≡ (entry_of l b.number).length = ap (λ e. e.length) (walk.entry more) in
        omega (arith, walk.start, long, body-ends l done b.number more, next_start l done b.number)

    pub next_walking : Walking l (next_body front b)
    unfolding next_body
    next_walking = record {
      within = omega (arith, number-next);
      start = next-at ∙ ap (body_start l) (sym number-next);
      entry = held.entry-is done (next_body front b).number;
    }

  -- So i steps behind the first body is body i of the file.
  module _ (fits : length l < 18446744073709551616) where
    pub walked-is : (i : ℕ) → i ≤ count l → Walking l (walked front i) × ((walked front i).number ≡ i)
    unfolding walked
    walked-is zero h = (first_walking, first-number)
    walked-is (suc i) h =
        let before = walked-is i (omega arith) in
        let more : (walked front i).number < count l = omega (arith, before.1) in (
          next_walking fits (walked front i) before.0 more,
          number-next fits (walked front i) before.0 more ∙ ap suc before.1,
        )

-- The whole file is its own front: the same for whoever holds it, of the body that a call gave.
module _ (l : List ℕ) (done : file_answer (contents_tests l (length l)) ≡ Ok tt) where
  module _ {b : Body} (begun : b ≡ first_body l) where
    pub file-first : Walking l b
    file-first = subst (Walking l) (sym begun) (first_walking l l (whole-front l) done)

    pub file-zero : b.number ≡ 0
    file-zero = ap (λ b. b.number) begun ∙ first-number l l (whole-front l) done

    -- No body stands before the first.
    pub file-none : (P : ℕ → Type 0) (k : ℕ) → k < b.number → P k
    file-none P k h = absurd (omega (arith, file-zero))

  module _ (fits : length l < 18446744073709551616) {b : Body} (walk : Walking l b) (more : b.number < count l) {c : Body} (step : c ≡ next_body l b) where
    pub file-number : c.number ≡ b.number + 1
    file-number = ap (λ b. b.number) step ∙ next-number l l (whole-front l) done fits b walk more

    pub file-next : Walking l c
    file-next = subst (Walking l) (sym step) (next_walking l l (whole-front l) done fits b walk more)

    -- What holds of the bodies before a body, and of that body, holds of those before the next.
    pub file-passed : {test : ℕ → Bool} → ((k : ℕ) → k < b.number → test k ≡ true) → test b.number ≡ true → (k : ℕ) → k < c.number → test k ≡ true
    file-passed {test} before this k h = below_more (λ k. test k ≡ true) b.number before this k (omega (arith, file-number))
