-- What the calls on a drawer answer: by the tests that they make, and each answer exactly when there is the reason for
-- it.
-- Assumes nothing.
use mathlib.Core.Logic.{◌↔◌, inl, inr}
use mathlib.Core.Path.{◌≡◌, sym, subst, ◌∙◌}
use mathlib.Core.List.{List}
use Prim.Native.Nat.{ℕ, ◌*◌, ◌≤◌, ◌<◌}
use native.Mathlib.Decide.{dec_le, ℕ_discrete}
use native.Mathlib.Omega.{arith}
use lib.ListN.{length}
use borrow.Author.Tests.{le-leb, lt-leb, eq-eqb, ne_eqb}
use Rattle.places.specs.declared.Answer.{Answer}
use Rattle.places.specs.declared.Answer.TheVariants.{Done, Width, Block, Packed}
use Rattle.places.specs.Sizes.{lanes}
use Rattle.drawers.specs.Drawers.{drawer_answer}
use Rattle.drawers.specs.Reasons.{Fits, DrawerReason, too_wide, no_blocks, no_packed, fits}

module _ (t w m : ℕ) (values packed : List ℕ) where
  pub bad_width : t < w → drawer_answer t w m values packed ≡ Width
  unfolding drawer_answer
  bad_width h = simp (lt-leb w t h)

  pub too_many : w ≤ t → 256 < m → drawer_answer t w m values packed ≡ Block
  unfolding drawer_answer
  too_many h g = simp (le-leb w t h, lt-leb m 256 g)

  pub bad_blocks : w ≤ t → m ≤ 256 → (length values ≡ m * 1024 → ⊥) → drawer_answer t w m values packed ≡ Block
  unfolding drawer_answer
  bad_blocks h g b = simp (le-leb w t h, le-leb m 256 g, ne_eqb (length values) (m * 1024) b)

  pub bad_packed : w ≤ t → m ≤ 256 → length values ≡ m * 1024 → (length packed ≡ m * (lanes t * w) → ⊥) → drawer_answer t w m values packed ≡ Packed
  unfolding drawer_answer
  bad_packed h g e b = simp (le-leb w t h, le-leb m 256 g, eq-eqb (length values) (m * 1024) e, ne_eqb (length packed) (m * (lanes t * w)) b)

  pub good-drawer : w ≤ t → m ≤ 256 → length values ≡ m * 1024 → length packed ≡ m * (lanes t * w) → drawer_answer t w m values packed ≡ Done
  unfolding drawer_answer
  good-drawer h g e f = simp (le-leb w t h, le-leb m 256 g, eq-eqb (length values) (m * 1024) e, eq-eqb (length packed) (m * (lanes t * w)) f)

  -- The reason gives the answer,
  gives : {a : Answer} → DrawerReason t w m values packed a → drawer_answer t w m values packed ≡ a
  gives (too_wide h) = bad_width h
  gives (no_blocks h (inl many)) = too_many h many
  gives (no_blocks h (inr other)) =
      elim (dec_le m 256) [
        | yes few ↦ bad_blocks h few other
        | no many ↦ too_many h (omega arith)
      ]
  gives (no_packed h few whole other) = bad_packed h few whole other
  gives (fits f) = good-drawer f.narrow f.few f.whole f.full

  -- and there always is one.
  reason : (a : Answer) × DrawerReason t w m values packed a
  reason =
      elim (dec_le w t) [
        | no wide ↦ (Width, too_wide (omega arith))
        | yes h ↦ elim (dec_le m 256) [
          | no many ↦ (Block, no_blocks h (inl (omega arith)))
          | yes few ↦ elim (ℕ_discrete (length values) (m * 1024)) [
            | no other ↦ (Block, no_blocks h (inr other))
            | yes whole ↦ elim (ℕ_discrete (length packed) (m * (lanes t * w))) [
              | no other ↦ (Packed, no_packed h few whole other)
              | yes full ↦ (Done, fits (record { narrow = h; few = few; whole = whole; full = full }))
            ]
          ]
        ]
      ]

  -- Each answer is given exactly when there is the reason for it (R3).
  pub drawer_exactly : (a : Answer) → (drawer_answer t w m values packed ≡ a) ↔ DrawerReason t w m values packed a
  drawer_exactly a = ((λ e. subst (DrawerReason t w m values packed) (sym (gives reason.1) ∙ e) reason.1), gives)

  -- A drawer that is done fits.
  pub drawer-taken : drawer_answer t w m values packed ≡ Done → Fits t w m values packed
  drawer-taken e = go ((drawer_exactly Done).0 e)
    where
      go : DrawerReason t w m values packed Done → Fits t w m values packed
      go (fits f) = f
