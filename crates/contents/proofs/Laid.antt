-- What an entry that is as laid out says of itself, kind by kind, and which kinds an edition takes.
-- Assumes nothing.
use mathlib.Core.Bool.{Bool, true, false}
use mathlib.Core.Logic.{◌↔◌, ◌⊎◌, inl, inr, ⊎_elim}
use mathlib.Core.Path.{◌≡◌, refl, ap₂}
use Prim.Native.Nat.{ℕ, ◌+◌, ◌*◌, ◌-◌, ◌/◌, ◌%◌, ◌≤◌}
use native.Mathlib.Omega.{arith}
use lib.Dec.{eqb, leb, ltb}
use borrow.Author.Tests.{eq-eqb, le-leb, lt-ltb, leb-true, ltb-true, eqb-true, eqb-false}
use Rattle.lists.specs.Pick.{pick, both}
use Rattle.lists.proofs.Tests.{both_true, false-true}
use Rattle.contents.specs.declared.Entry.{Entry}
use Rattle.contents.specs.Contents.{is_packed, is_runs, is_of_kind, is_laid_out, is_taken_in}
use Rattle.contents.specs.Reasons.{RunLength, LaidOut, TakenIn}

module _ (e : Entry) (good : is_laid_out e ≡ true) where
  of_kind : is_of_kind e ≡ true
  unfolding is_laid_out
  of_kind = (both_true (eqb e.zero 0) (is_of_kind e) good).1

  packed : (more : ℕ) → is_packed more e ≡ true → (e.width ≤ 64) × (e.length ≡ more + 128 * e.width)
  packed more h =
      let t = both_true (leb e.width 64) (eqb e.length (more + 128 * e.width)) h in
      (leb-true e.width 64 t.0, eqb-true e.length (more + 128 * e.width) t.1)

  pub laid_packed : e.kind ≡ 0 → (e.width ≤ 64) × (e.length ≡ 128 * e.width)
  unfolding is_of_kind
  laid_packed k =
      let h = both_true (eqb e.reference 0) (is_packed 0 e) (simp (eq-eqb e.kind 0 k) at of_kind) in
      let p = packed 0 h.1 in
      (p.0, omega (arith, p.1))

  -- a packed block has no reference
  pub laid_unreferred : e.kind ≡ 0 → e.reference ≡ 0
  unfolding is_of_kind
  laid_unreferred k =
      eqb-true e.reference 0 (both_true (eqb e.reference 0) (is_packed 0 e) (simp (eq-eqb e.kind 0 k) at of_kind)).0

  pub laid_frame : e.kind ≡ 1 → (e.width ≤ 64) × (e.length ≡ 128 * e.width)
  unfolding is_of_kind
  laid_frame k =
      let p = packed 0 (rw k at of_kind) in
      (p.0, omega (arith, p.1))

  pub laid_differences : e.kind ≡ 2 → (e.width ≤ 64) × (e.length ≡ 128 + 128 * e.width)
  unfolding is_of_kind
  laid_differences k = packed 128 (both_true (eqb e.reference 0) (is_packed 128 e) (rw k at of_kind)).1

  pub laid_runs : e.kind ≡ 3
      → (e.length ≡ 2048 + 8 * ((e.length - 2048) / 8)) × (1 ≤ (e.length - 2048) / 8) × ((e.length - 2048) / 8 ≤ 1024)
  unfolding is_of_kind
  laid_runs k =
      let runs = (both_true (eqb e.reference 0) (is_runs e) (rw k at of_kind)).1 in
      let sizes = (both_true (eqb e.width 0) (both (leb 2056 e.length) (both (leb e.length 10240) (eqb (e.length % 8) 0))) runs).1 in
      let most = both_true (leb 2056 e.length) (both (leb e.length 10240) (eqb (e.length % 8) 0)) sizes in
      let last = both_true (leb e.length 10240) (eqb (e.length % 8) 0) most.1 in
      let low : 2056 ≤ e.length = leb-true 2056 e.length most.0 in
      let high : e.length ≤ 10240 = leb-true e.length 10240 last.0 in
      let even : e.length % 8 ≡ 0 = eqb-true (e.length % 8) 0 last.1 in
      (omega arith, omega arith, omega arith)

  -- and there is no other kind
  pub laid_kind : e.kind ≤ 3
  unfolding is_of_kind
  laid_kind =
      go (eqb e.kind 0) (eqb e.kind 1) (eqb e.kind 2) (eqb e.kind 3) refl refl refl refl of_kind
    where
      go : (a b c d : Bool) → eqb e.kind 0 ≡ a → eqb e.kind 1 ≡ b → eqb e.kind 2 ≡ c → eqb e.kind 3 ≡ d
          → pick a (both (eqb e.reference 0) (is_packed 0 e)) (pick b (is_packed 0 e) (pick c (both (eqb e.reference 0) (is_packed 128 e)) (pick d (both (eqb e.reference 0) (is_runs e)) false))) ≡ true
          → e.kind ≤ 3
      go true b c d p q r s h = omega (arith, eqb-true e.kind 0 p)
      go false true c d p q r s h = omega (arith, eqb-true e.kind 1 q)
      go false false true d p q r s h = omega (arith, eqb-true e.kind 2 r)
      go false false false true p q r s h = omega (arith, eqb-true e.kind 3 s)
      go false false false false p q r s h = absurd (false-true h)

-- ---- the tests say what R81 and R82 say

-- a test and what it stands for
eqb_is : (a b : ℕ) → (eqb a b ≡ true) ↔ (a ≡ b)
eqb_is a b = (eqb-true a b, eq-eqb a b)

pub leb-is : (a b : ℕ) → (leb a b ≡ true) ↔ (a ≤ b)
leb-is a b = (leb-true a b, le-leb a b)

pub both_is : {P Q : Type 0} (a b : Bool) → (a ≡ true) ↔ P → (b ≡ true) ↔ Q → (both a b ≡ true) ↔ (P × Q)
both_is a b f g = (
  (λ h. let t = both_true a b h in (f.0 t.0, g.0 t.1)),
  (λ h. ap₂ both (f.1 h.0) (g.1 h.1)),
)

-- one of two by a test, the other way where it fails
pick_is : {P Q : Type 0} (k n : ℕ) (a b : Bool) → (a ≡ true) ↔ P → (b ≡ true) ↔ Q → ((k ≡ n) → Q → ⊥)
    → (pick (eqb k n) a b ≡ true) ↔ (((k ≡ n) × P) ⊎ Q)
pick_is {P} {Q} k n a b f g apart = go (eqb k n) refl
  where
    go : (t : Bool) → eqb k n ≡ t → (pick t a b ≡ true) ↔ (((k ≡ n) × P) ⊎ Q)
    go true e = (
      (λ h. inl (eqb-true k n e, f.0 h)),
      (⊎_elim (λ h. f.1 h.1) (λ q. absurd (apart (eqb-true k n e) q))),
    )
    go false e = (
      (λ h. inr (g.0 h)),
      (⊎_elim (λ h. absurd (eqb-false k n e h.0)) (λ q. g.1 q)),
    )

runs-length : (bytes : ℕ) → (both (leb 2056 bytes) (both (leb bytes 10240) (eqb (bytes % 8) 0)) ≡ true) ↔ RunLength bytes
runs-length bytes =
    let plain = both_is _ _ (leb-is 2056 bytes) (both_is _ _ (leb-is bytes 10240) (eqb_is (bytes % 8) 0)) in (
      (λ h. let q = plain.0 h in record { n = (bytes - 2048) / 8; low = omega arith; high = omega arith; is = omega arith }),
      (λ r. plain.1 (omega (arith, r.low, r.is), (omega (arith, r.high, r.is), omega (arith, r.is)))),
    )

last_is : {P : Type 0} (k n : ℕ) (a : Bool) → (a ≡ true) ↔ P → (pick (eqb k n) a false ≡ true) ↔ ((k ≡ n) × P)
last_is {P} k n a f = go (eqb k n) refl
  where
    go : (t : Bool) → eqb k n ≡ t → (pick t a false ≡ true) ↔ ((k ≡ n) × P)
    go true e = ((λ h. (eqb-true k n e, f.0 h)), (λ h. f.1 h.1))
    go false e = ((λ h. absurd (false-true h)), (λ h. absurd (eqb-false k n e h.0)))

packed_is : (more w bytes asked : ℕ) → more + 128 * w ≡ asked
    → (both (leb w 64) (eqb bytes (more + 128 * w)) ≡ true) ↔ ((w ≤ 64) × (bytes ≡ asked))
packed_is more w bytes asked e = rw e (both_is _ _ (leb-is w 64) (eqb_is bytes asked))

-- The tests of an entry pass exactly when it is as laid out.
pub laid_plain : (e : Entry) → (is_laid_out e ≡ true) ↔ LaidOut e
unfolding is_laid_out is_of_kind
laid_plain e =
    both_is _ _ (eqb_is e.zero 0)
    (pick_is e.kind 0 _ _ (both_is _ _ (eqb_is e.reference 0) (packed_is 0 e.width e.length (128 * e.width) (omega arith)))
    (pick_is e.kind 1 _ _ (packed_is 0 e.width e.length (128 * e.width) (omega arith))
    (pick_is e.kind 2 _ _ (both_is _ _ (eqb_is e.reference 0) (packed_is 128 e.width e.length (128 + 128 * e.width) refl))
    (last_is e.kind 3 _ (both_is _ _ (eqb_is e.reference 0) (both_is _ _ (eqb_is e.width 0) (runs-length e.length))))
    (λ k q. omega (arith, k, q.0)))
    (λ k q. ⊎_elim (λ r. omega (arith, k, r.0)) (λ r. omega (arith, k, r.0)) q))
    (λ k q. ⊎_elim (λ r. omega (arith, k, r.0)) (⊎_elim (λ r. omega (arith, k, r.0)) (λ r. omega (arith, k, r.0))) q))

-- The test of the kind by the edition passes exactly when the edition takes it.
pub taken-plain : (edition : ℕ) (e : Entry) → (is_taken_in edition e ≡ true) ↔ TakenIn edition e
taken-plain edition e = go (eqb edition 2) refl
  where
    go : (t : Bool) → eqb edition 2 ≡ t → (pick t (ltb e.kind 3) true ≡ true) ↔ TakenIn edition e
    go true k = ((λ h _. ltb-true e.kind 3 h), (λ h. lt-ltb e.kind 3 (h (eqb-true edition 2 k))))
    go false k = ((λ _ q. absurd (eqb-false edition 2 k q)), (λ _. refl))
