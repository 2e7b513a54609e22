-- `bits::transpose_8x8` meets its contract. That each mask keeps apart what it exchanges, and that the three moves
-- together are the 8 by 8 step, are tests that are computed at each of the 64 bits.
-- Assumes nothing.
use mathlib.Core.Path.{ap, ◌∙◌}
use native.Mathlib.Omega.{arith}
use Rattle.lists.specs.Numbers.{digit}
use Rattle.lists.proofs.Every.{below}
use Rattle.bits.specs.InnerSteps.{crossed, exchange_of}
use Rattle.bits.proofs.Exchanges.{exchanges_turn}
use Rattle.bits.proofs.transpose_8x8.Goals as goal

pub exchange-twos-requires : goal.exchange-twos-requires
unfolding digit
exchange-twos-requires c = record { shift_bound = omega arith; by_index = below 64 _ (λ _. 2) tt }

pub exchange-fours-requires : goal.exchange-fours-requires
unfolding digit
exchange-fours-requires c = record { shift_bound = omega arith; by_index = below 64 _ (λ _. 2) tt }

pub exchange-requires : goal.exchange-requires
unfolding digit
exchange-requires c = record { shift_bound = omega arith; by_index = below 64 _ (λ _. 2) tt }

pub returns : goal.returns
unfolding digit crossed
returns c =
    c.exchange.ensures
    ∙ ap (λ y. exchange_of y _ _) (c.exchange-fours.ensures ∙ ap (λ y. exchange_of y _ _) c.exchange-twos.ensures)
    ∙ exchanges_turn c.args.x _ _ _ _ _ _ tt tt tt
