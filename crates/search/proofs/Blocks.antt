-- The rows of one block among the rows of the file: what is found in an opened block, and that nothing is in another.
-- Assumes nothing.
use Rattle.std.proofs.Common.{◌≡◌, ℕ, ◌+◌, ◌-◌, ◌*◌, ◌/◌, ◌%◌, ◌<◌, ◌≤◌, Bool, true, false, eqb, List, length, get_or, sym, ap, ◌∙◌, zero-add, arith}
use Rattle.lists.specs.Pick.{pick, both}
use Rattle.lists.proofs.Tabs.{length-tab}
use Rattle.lists.proofs.Passing.{passing_shift}
use Rattle.packing.specs.Packed.{unpack_of}
use Rattle.deltas.specs.Deltas.{unfor_pack_of, undelta_pack_of}
use Rattle.runs.specs.Runs.{decode_of}
use Rattle.contents.specs.declared.Entry.{Entry}
use Rattle.bodies.specs.Bodies.{block_of}
use Rattle.files.specs.Files.{block_in, row_at}
use Rattle.search.specs.Search.{between, opens, listed}
use Rattle.search.specs.Steps.{in_block, found_in}

-- Row `first` + j of a block is its value j.
pub in_block_lem : (block : List ℕ) (first low high j : ℕ) → in_block block first low high (first + j) ≡ between low high (get_or block j 0)
in_block_lem block first low high j = let e : first + j - first ≡ j = omega arith in ap (λ n. between low high (get_or block n 0)) e

-- How many rows are found does not depend on where the block begins.
pub found_shift : (block : List ℕ) (first low high : ℕ) → length (found_in block first low high) ≡ length (found_in block 0 low high)
found_shift block first low high =
    passing_shift first (length block) (in_block block first low high) (in_block block 0 low high)
    (λ j _. in_block_lem block first low high j ∙ sym (ap (in_block block 0 low high) (sym (zero-add j)) ∙ in_block_lem block 0 low high j))

-- Whatever a body holds, its block has 1,024 values.
picked_long : (b : Bool) (x y : List ℕ) → length x ≡ 1024 → length y ≡ 1024 → length (pick b x y) ≡ 1024
picked_long true x y e f = e
picked_long false x y e f = f

block_long : (e : Entry) (body : List ℕ) → length (block_of e body) ≡ 1024
unfolding block_of unpack_of unfor_pack_of undelta_pack_of decode_of
block_long e body =
    picked_long (eqb e.kind 0) _ _ (length-tab 1024 _)
    (picked_long (eqb e.kind 1) _ _ (length-tab 1024 _) (picked_long (eqb e.kind 2) _ _ (length-tab 1024 _) (length-tab 1024 _)))

module _ (l : List ℕ) (low high i : ℕ) where
  pub in_long : length (block_in l i) ≡ 1024
  unfolding block_in
  in_long = block_long _ _

  -- In an opened block a row is listed where its value lies between the bounds,
  pub listed_in : opens l low high i ≡ true → (p : ℕ) → i * 1024 ≤ p → p < i * 1024 + 1024 → in_block (block_in l i) (i * 1024) low high p ≡ listed l low high p
  unfolding listed row_at
  listed_in is_open p from to =
      let b : i ≡ p / 1024 = omega arith in
      let m : p - i * 1024 ≡ p % 1024 = omega arith in
      ap (λ n. between low high (get_or (block_in l i) n 0)) m
      ∙ ap (λ b. between low high (get_or (block_in l b) (p % 1024) 0)) b
      ∙ ap (λ t. both t (between low high (get_or (block_in l (p / 1024)) (p % 1024) 0))) (sym (ap (opens l low high) (sym b) ∙ is_open))

  -- and in another block no row is.
  pub not_listed : opens l low high i ≡ false → (p : ℕ) → i * 1024 ≤ p → p < i * 1024 + 1024 → listed l low high p ≡ false
  unfolding listed
  not_listed shut p from to = let b : p / 1024 ≡ i = omega arith in ap (λ b. both (opens l low high b) (between low high (row_at l p))) b ∙ ap (λ t. both t (between low high (row_at l p))) shut
