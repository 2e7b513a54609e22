-- The laws behind the walks over the blocks: what the opened blocks are known to be, and the rows that are found up to
-- a block.
-- Assumes nothing.
use Rattle.std.specs.Prelude.{Ok}
use Rattle.std.proofs.Common.{◌≡◌, ℕ, ◌+◌, ◌*◌, ◌<◌, ◌≤◌, Bool, true, false, eqb, List, ◌++◌, length, sym, ap, ◌∙◌, ap₂, append-nil, zero-add, arith, length-append}
use Rattle.lists.specs.Pick.{pick, either}
use Rattle.lists.specs.Tab.{over}
use Rattle.lists.specs.Passing.{passing}
use Rattle.lists.proofs.Overs.{over_append}
use Rattle.lists.proofs.Search.{first-before}
use Rattle.lists.proofs.Passing.{passing-split, passing_ext, passing_nothing}
use Rattle.contents.specs.Answers.{file_answer}
use Rattle.contents.specs.Contents.{count, contents_tests}
use Rattle.bodywise.proofs.Fronts.{Front, whole-front}
use Rattle.files.specs.Files.{block_in, row_count}
use Rattle.search.specs.InnerBlocks.{asked, bad_in}
use Rattle.search.specs.Steps.{opens_by, in_block, found_in}
use Rattle.search.specs.Search.{meets, opens, listed, found}
use Rattle.search.proofs.Blocks.{in_long, listed_in, not_listed}
use Rattle.search.proofs.Listing.{pass_mono}

-- These are the rows that are found in the blocks below i.
abbrev pub found_to : (l : List ℕ) (low high i : ℕ) → List ℕ
found_to l low high i = passing 0 (i * 1024) (listed l low high)

module _ (l : List ℕ) (low high : ℕ) (done : file_answer (contents_tests l (length l)) ≡ Ok tt) (i : ℕ) (h : i < count l) where
  -- A front that tells of the contents what the file does tells which blocks are opened,
  pub front-opens : {front : List ℕ} → Front l front → opens_by front low high i ≡ opens l low high i
  unfolding opens_by opens
  front-opens held = ap₂ (λ e r. either (eqb e 1) (meets r low high)) (held.edition-is done) (held.range-is done i h)

  -- and the whole file is its own front.
  pub file-opens : opens_by l low high i ≡ opens l low high i
  file-opens = front-opens (whole-front l)

module _ (l : List ℕ) (low high : ℕ) where
  -- Where no opened block is bad, each is as asked.
  pub opened-asked : (ranges : Bool) → bad_in l low high ranges ≡ count l → (i : ℕ) → i < count l → opens l low high i ≡ true → asked l ranges i ≡ true
  opened-asked ranges none i h is_open =
      sym (ap (λ t. pick t (asked l ranges i) true) is_open)
      ∙ first-before (count l) (λ i. pick (opens l low high i) (asked l ranges i) true) i (omega arith)

  -- Block i adds the rows that are found in it, where it is opened, and else nothing.
  module _ (i : ℕ) where
    more : found_to l low high (i + 1) ≡ found_to l low high i ++ passing (i * 1024) 1024 (listed l low high)
    more =
        let e : (i + 1) * 1024 ≡ i * 1024 + 1024 = omega arith in
        ap (λ n. passing 0 n (listed l low high)) e
        ∙ passing-split 0 (i * 1024) 1024 (listed l low high)
        ∙ ap (λ s. found_to l low high i ++ passing s 1024 (listed l low high)) (zero-add (i * 1024))

    pub found_open : opens l low high i ≡ true → found_to l low high (i + 1) ≡ found_to l low high i ++ found_in (block_in l i) (i * 1024) low high
    found_open is_open =
        more
        ∙ ap (λ x. found_to l low high i ++ x)
        (sym
        (ap (λ n. passing (i * 1024) n (in_block (block_in l i) (i * 1024) low high)) (in_long l low high i)
        ∙ passing_ext (i * 1024) 1024 (in_block (block_in l i) (i * 1024) low high) (listed l low high) (listed_in l low high i is_open)))

    pub found_shut : opens l low high i ≡ false → found_to l low high (i + 1) ≡ found_to l low high i
    found_shut shut =
        more
        ∙ ap (λ x. found_to l low high i ++ x) (passing_nothing (i * 1024) 1024 (listed l low high) (not_listed l low high i shut))
        ∙ append-nil (found_to l low high i)

    -- how many that makes
    pub found-length : opens l low high i ≡ true
        → length (found_to l low high (i + 1)) ≡ length (found_to l low high i) + length (found_in (block_in l i) (i * 1024) low high)
    found-length is_open = ap length (found_open is_open) ∙ length-append (found_to l low high i) (found_in (block_in l i) (i * 1024) low high)

    -- and no more than there are in all
    pub found_within : i ≤ count l → length (found_to l low high i) ≤ length (found l low high)
    unfolding found
    found_within h = pass_mono 0 (listed l low high) (i * 1024) (row_count l) (omega arith)

    pub found_all : i ≡ count l → found_to l low high i ≡ found l low high
    unfolding found
    found_all e = let n : i * 1024 ≡ row_count l = omega arith in ap (λ n. passing 0 n (listed l low high)) n

    -- The rows of block i are listed behind those of the blocks below it.
    pub listed_more : opens l low high i ≡ true → (k : ℕ) (x y : List ℕ) → k ≡ length (found_to l low high i) → y ≡ over 0 (found_to l low high i) x
        → length (found_to l low high (i + 1)) ≤ length x → over k (found_in (block_in l i) (i * 1024) low high) y ≡ over 0 (found_to l low high (i + 1)) x
    listed_more is_open k x y e f room =
        let at : k ≡ 0 + length (found_to l low high i) = e ∙ sym (zero-add (length (found_to l low high i))) in
        let rows = found_in (block_in l i) (i * 1024) low high in
        ap₂ (λ p l. over p rows l) at f
        ∙ over_append 0 (found_to l low high i) rows x (omega (arith, found-length is_open))
        ∙ ap (λ r. over 0 r x) (sym (found_open is_open))
