-- Two files that differ only in the bodies of blocks that a search does not open.
-- Assumes nothing.
use Rattle.std.specs.Prelude.{◌≡◌, ℕ, ◌<◌, true, List, length, slice_index}
use Rattle.contents.specs.Contents.{edition, count, contents_size}
use Rattle.files.specs.Files.{body_of}
use Rattle.search.specs.Search.{opens}

-- They are of the same length, the contents of the second are those of the first, byte by byte, and so is the body of
-- every block that is opened.
pub record SameOpened (l m : List ℕ) (low high : ℕ) : Type 0 where
  pub size : length m ≡ length l
  pub contents : (k : ℕ) → k < contents_size (edition l) (count l) → slice_index m k ≡ slice_index l k
  pub bodies : (i : ℕ) → i < count l → opens l low high i ≡ true → body_of m i ≡ body_of l i
