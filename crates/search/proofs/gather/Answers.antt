-- `search::gather` meets its contract. The loops' invariant: the places among those passed that lie between the bounds
-- stand at the front.
-- Assumes nothing.
use Rattle.std.proofs.Common.{◌≡◌, ℕ, ◌+◌, ◌-◌, ◌*◌, ◌<◌, ◌≤◌, Bool, true, false, leb, List, [], length, get_or, sym, ap, ◌∙◌, zero-add, arith, length-set, rules}
use mir.Val.{bool_byte}
use Rattle.lists.specs.Passing.{passing}
use Rattle.lists.proofs.Passing.{passing_nothing}
use Rattle.search.specs.Steps.{in_block, found_in}
use Rattle.search.proofs.Within.{gathered_none, gathered_next, no_further, none_between, zero-at}
use Rattle.search.proofs.gather.Goals as goal
use Rattle.search.proofs.gather.Goals.{After-wrapping_sub_u64}

-- where the bounds are turned round no value lies between them
none : (block : List ℕ) (low high : ℕ) → high < low → found_in block 0 low high ≡ []
none block low high h = passing_nothing 0 (length block) (in_block block 0 low high) (λ p a b. none_between low high (get_or block (p - 0) 0) h)

pub returns-then-high-low : goal.returns-then-high-low
returns-then-high-low c =
    let args = c.args in
    let is = none args.block.now args.low args.high c.if-high-low.true in
    record { value = sym (ap length is); found_after = sym is; found_len_2 = c.requires.found_len }

pub loop-o-init : goal.loop-o-init
loop-o-init c = (omega arith, search rules, gathered_none _ _ _)

pub loop-i-init : goal.loop-i-init
loop-i-init c =
    let n : c.loop-o.o * 8 ≡ c.loop-o.o * 8 + 0 = omega arith in
    (omega arith, c.loop-o.invariant.1, rw n at c.loop-o.invariant.2)

-- how much the count rises
risen : (b : Bool) → bool_byte b ≤ 1
risen true = omega arith
risen false = omega arith

-- the test that was made is that of the place
tested-is : (c : After-wrapping_sub_u64)
    → let args = c.args in
    in_block args.block.now 0 args.low args.high (0 + (c.loop-o.o * 8 + c.loop-i.i)) ≡ leb c.wrapping_sub_u64.result (args.high - args.low)
tested-is c =
    let args = c.args in
    let j = c.loop-o.o * 8 + c.loop-i.i in
    ap (in_block args.block.now 0 args.low args.high) (zero-add j)
    ∙ zero-at args.block.now args.low args.high j
    ∙ sym (no_further (get_or args.block.now j 0) args.low args.high c.wrapping_sub_u64.result (search rules) (omega arith) (search rules) (search rules) c.wrapping_sub_u64.ensures.value)

pub overflow_add-n : goal.overflow_add-n
overflow_add-n c =
    let args = c.args in
    omega (arith, risen (leb c.wrapping_sub_u64.result (args.high - args.low)))

pub loop-i-preserved : goal.loop-i-preserved
loop-i-preserved c =
    let args = c.args in
    let bit = leb c.wrapping_sub_u64.result (args.high - args.low) in
    let next : c.loop-o.o * 8 + c.loop-i.i + 1 ≡ c.loop-o.o * 8 + (c.loop-i.i + 1) = omega arith in (
      omega (arith, risen bit),
      length-set c.loop-i.found c.loop-i.n _ ∙ c.loop-i.invariant.1,
      rw next at (gathered_next _ bit c.loop-i.invariant.2 (omega arith) (sym (zero-add _)) (tested-is (goal.at.loop-i-preserved c).After-wrapping_sub_u64)),
    )

pub loop-o-preserved : goal.loop-o-preserved
loop-o-preserved c =
    let n : c.loop-o.o * 8 + c.loop-i.i ≡ (c.loop-o.o + 1) * 8 = omega arith in
    (omega arith, c.loop-i.invariant.1, rw n at c.loop-i.invariant.2)

pub returns : goal.returns
returns c =
    let args = c.args in
    let test = in_block args.block.now 0 args.low args.high in
    let all : c.loop-o.o * 8 ≡ length args.block.now = omega (arith, c.requires.block_len) in record { value = c.loop-o.invariant.2.at ∙ ap (λ n. length (passing 0 n test)) all; found_after = c.loop-o.invariant.2.is ∙ ap (λ n. passing 0 n test) all; found_len_2 = c.loop-o.invariant.1 }
