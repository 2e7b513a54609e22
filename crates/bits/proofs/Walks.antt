-- The walks of the two calls move each bit where R63 and R64 say. A law of all 1,024 bits is a test that is computed at
-- each of them.
-- Assumes nothing.
use mathlib.Core.Path.{◌≡◌}
use mathlib.Core.List.{List}
use Prim.Native.Nat.{ℕ, ◌+◌, ◌-◌, ◌*◌, ◌/◌, ◌%◌, ◌≤◌, ◌<◌}
use native.Mathlib.Nat.{mod-lt, div-mul-le_self, le-div_iff_mul-le, mul-le-mul_right}
use native.Mathlib.Omega.{arith}
use Rattle.lists.proofs.Every.{Same, Below, same, below}
use Rattle.places.specs.Places.{order, place, lane, row}
use Rattle.places.specs.Sizes.{t64, Size}
use Rattle.places.proofs.Places.{each}
use Rattle.bits.specs.Bits.{goes_to, comes_from, transpose_bits_of, untranspose_bits_of}
use Rattle.bits.specs.InnerSteps.{gathers_of, turns_of, group_start, round_start, scatter_start, unscatter_start, ungroup_start}
use Rattle.bits.proofs.Blocks.{gather_from, turn_from, two_walks}

-- The bytes that a walk gathers are among the 128.
pub group-room : {t : ℕ} → Size t → (g : ℕ) → g < 16 → group_start t g + 7 * (t / 8) < 128
unfolding group_start order
group-room {t} s =
    below 16 (λ g. group_start t g + 7 * (t / 8)) (λ _. 128) (each (λ t. Below 16 (λ g. group_start t g + 7 * (t / 8)) (λ _. 128)) tt tt tt tt s)

pub round_room : (d near far : ℕ) → 0 < d → (d - 1) * near + 15 / d * far + 7 * 8 < 128 → (w : ℕ) → w < 16 → round_start d near far w + 7 * 8 < 128
unfolding round_start
round_room d near far some room w h =
    let a : w % d * near ≤ (d - 1) * near = mul-le-mul_right near (omega (arith, mod-lt w some)) in
    let b : w / d * far ≤ 15 / d * far = mul-le-mul_right far ((le-div_iff_mul-le some).1 (omega (arith, div-mul-le_self w d))) in
    omega arith

unscatter-room : (g : ℕ) → g < 16 → unscatter_start g + 7 * 16 < 128
unfolding unscatter_start order
unscatter-room = below 16 (λ g. unscatter_start g + 7 * 16) (λ _. 128) tt

-- Group and scatter are the transpose, at each size.
pub transpose-walks : {t : ℕ} → Size t → (b : List ℕ) → gathers_of scatter_start 8 (turns_of (group_start t) (t / 8) b) ≡ transpose_bits_of t b
unfolding group_start round_start order lane row comes_from transpose_bits_of
transpose-walks {t} s b =
    two_walks b (group_start t) (t / 8) scatter_start 8 (comes_from t) (group-room s) (round_room 2 64 1 (omega arith) (omega arith))
    (below 1024 (gather_from scatter_start 8) (λ _. 1024) tt)
    (same 1024 (λ q. turn_from (group_start t) (t / 8) (gather_from scatter_start 8 q)) (comes_from t)
    (each (λ t. Same 1024 (λ q. turn_from (group_start t) (t / 8) (gather_from scatter_start 8 q)) (comes_from t)) tt tt tt tt s))

-- Unscatter and ungroup are its inverse at size 64.
pub untranspose-walks : (b : List ℕ) → gathers_of ungroup_start 8 (turns_of unscatter_start 16 b) ≡ untranspose_bits_of b
unfolding unscatter_start round_start order place goes_to untranspose_bits_of
untranspose-walks b =
    two_walks b unscatter_start 16 ungroup_start 8 (goes_to t64) unscatter-room (round_room 8 1 64 (omega arith) (omega arith))
    (below 1024 (gather_from ungroup_start 8) (λ _. 1024) tt)
    (same 1024 (λ q. turn_from unscatter_start 16 (gather_from ungroup_start 8 q)) (goes_to t64) tt)
