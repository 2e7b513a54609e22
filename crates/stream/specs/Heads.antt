-- The head of a record: 56 bytes, little-endian.
-- Assumes nothing.
use Rattle.std.specs.Prelude.{ℕ, List, slice_index}
use Rattle.little.specs.Little.{little}
use Rattle.stream.specs.declared.Head.{Head}

-- The bytes l hold this head.
abbrev pub head_of : List ℕ → Head
head_of l = record {
  op = slice_index l 0;
  t = slice_index l 1;
  width = little l 2 2;
  number = little l 4 1;
  zero = little l 5 3;
  place = little l 8 8;
  value = little l 16 8;
  reference = little l 24 8;
  index = little l 32 8;
  n_a = little l 40 4;
  n_b = little l 44 4;
  n_c = little l 48 4;
  n_d = little l 52 4;
}
