-- The counts of a run: modulo 2^64, and of the first case that differs its number and its call.
-- Assumes nothing.
use Rattle.std.specs.Prelude.{ℕ, ◌+◌, ◌%◌, ◌^◌, ◌==◌}
use Rattle.lists.specs.Pick.{pick}
use Rattle.stream.specs.declared.Head.{Head}
use Rattle.stream.specs.declared.Tally.{Tally}

-- This is one more, modulo 2^64.
abbrev pub one_more_lem : ℕ → ℕ
one_more_lem n = (n + 1) % 2 ^ 64

-- No case was replayed yet.
abbrev pub no_case : Tally
no_case = record { cases = 0; differ = 0; first = 0; op = 0; t = 0; width = 0 }

-- One more case went as expected.
abbrev pub one_same_lem : Tally → Tally
one_same_lem x = record {
  cases = one_more_lem x.cases;
  differ = x.differ;
  first = x.first;
  op = x.op;
  t = x.t;
  width = x.width;
}

-- One more case did not, and where it is the first such case it is kept.
abbrev pub one_differs : Tally → Head → Tally
one_differs x head =
    pick (x.differ == 0)
    (record {
      cases = one_more_lem x.cases;
      differ = one_more_lem x.differ;
      first = x.cases;
      op = head.op;
      t = head.t;
      width = head.width;
    })
    (record {
      cases = one_more_lem x.cases;
      differ = one_more_lem x.differ;
      first = x.first;
      op = x.op;
      t = x.t;
      width = x.width;
    })
