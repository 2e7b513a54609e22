-- `canonical::is_ours` meets its contract: where the entry is the writer's, so is the body, of differences with the base
-- that the writer would give.
-- Assumes nothing.
use mathlib.Core.Bool.{true}
use mathlib.Core.Path.{◌≡◌, sym, ap, ap₂, ◌∙◌}
use native.Mathlib.Omega.{arith}
use lib.ListN.{length}
use Rattle.lists.specs.Numbers.{Elements}
use Rattle.lists.specs.Pick.{both}
use Rattle.contents.specs.Contents.{entry_of}
use Rattle.contents.proofs.Laid.{laid_differences}
use Rattle.bodies.specs.Bodies.{words_from}
use Rattle.candidates.specs.Candidates.{base_of, chosen, body_for}
use Rattle.files.specs.Files.{body_of, block_in}
use Rattle.bodywise.proofs.Told.{entry_read, body_laid}
use Rattle.files.proofs.Files.{body-long}
use Rattle.files.proofs.Froms.{body_from-is}
use Rattle.files.proofs.Ranges.{contents-right}
use Rattle.writer.proofs.FileRows.{runs_block}
use Rattle.canonical.specs.Canonical.{is_same_entry, is_same_list, is_ours}
use Rattle.canonical.proofs.Back.{body_same, base_same}
use Rattle.canonical.proofs.Same.{entry-same, list_same, same_test}
use Rattle.canonical.proofs.is_ours.Goals as goal
use Rattle.canonical.proofs.is_ours.Goals.{After-body_from, After-same_entry, Else-e-ne2, Else-not-same_entry}

read_is : (c : After-same_entry) → c.entry_or-e.result ≡ entry_of c.args.file.now c.args.i
read_is c =
    let l = c.args.file.now in
    c.entry_or-e.ensures ∙ entry_read l (contents-right l c.requires.file_value) c.args.i c.requires.i_bound

tested-is : (c : After-same_entry) → c.same_entry.result ≡ is_same_entry (entry_of c.args.file.now c.args.i) (chosen (block_in c.args.file.now c.args.i)).entry
tested-is c = c.same_entry.ensures ∙ ap₂ is_same_entry (read_is c) c.requires.value

pub returns-then-not-same_entry : goal.returns-then-not-same_entry
unfolding is_ours
returns-then-not-same_entry c =
    let l = c.args.file.now in
    let i = c.args.i in
    sym (ap (λ t. both t (is_same_list (body_of l i) (body_for (block_in l i)))) (sym (tested-is (goal.at.returns-then-not-same_entry c).After-same_entry) ∙ c.if-not-same_entry.true))

is_same : (c : Else-not-same_entry) → is_same_entry (entry_of c.args.file.now c.args.i) (chosen (block_in c.args.file.now c.args.i)).entry ≡ true
is_same c = sym (let it : c.same_entry.result ≡ is_same_entry (entry_of c.args.file.now c.args.i) (chosen (block_in c.args.file.now c.args.i)).entry = c.same_entry.ensures ∙ ap₂ is_same_entry (let it : c.entry_or-e.result ≡ entry_of c.args.file.now c.args.i = let l = c.args.file.now in
    c.entry_or-e.ensures ∙ entry_read l (contents-right l c.requires.file_value) c.args.i c.requires.i_bound in it) c.requires.value in it) ∙ c.if-not-same_entry.false

same : (c : Else-not-same_entry) → entry_of c.args.file.now c.args.i ≡ (chosen (block_in c.args.file.now c.args.i)).entry
same c = (entry-same _ _).0 (is_same c)

elements : (c : Else-not-same_entry) → Elements 8 c.args.file.now
elements c k = omega (arith, c.type_inv.file k)

pub returns-then-e-ne2 : goal.returns-then-e-ne2
unfolding is_ours
returns-then-e-ne2 c =
    let l = c.args.file.now in
    let i = c.args.i in
    let body = body_same l (elements (goal.at.returns-then-e-ne2 c).Else-not-same_entry) (contents-right l c.requires.file_value) i c.requires.i_bound (same (goal.at.returns-then-e-ne2 c).Else-not-same_entry)
    (λ k. absurd (c.if-e-ne2.true (ap (λ e. e.kind) (read_is (goal.at.returns-then-e-ne2 c).After-same_entry) ∙ k))) in
    sym (ap₂ both (is_same (goal.at.returns-then-e-ne2 c).Else-not-same_entry) ((list_same (body_of l i) (body_for (block_in l i))).1 body))

-- the kind is 2, and the body is that of the block
kind-is : (c : Else-e-ne2) → (entry_of c.args.file.now c.args.i).kind ≡ 2
kind-is c = sym (ap (λ e. e.kind) (let it : c.entry_or-e.result ≡ entry_of c.args.file.now c.args.i = let l = c.args.file.now in
    c.entry_or-e.ensures ∙ entry_read l (contents-right l c.requires.file_value) c.args.i c.requires.i_bound in it)) ∙ c.if-e-ne2.false

body_is : (c : After-body_from) → c.body_from.result.now ≡ body_of c.args.file.now c.args.i
body_is c =
    let l = c.args.file.now in
    c.body_from.ensures ∙ body_from-is l (contents-right l c.requires.file_value) c.args.i c.requires.i_bound c.args.at c.requires.at_value

pub is_base-requires : goal.is_base-requires
is_base-requires c =
    let l = c.args.file.now in
    let i = c.args.i in
    let right = contents-right l c.requires.file_value in
    record { in_bounds = omega (arith, ap length (body_is (goal.at.is_base-requires c).After-body_from), body-long l right i c.requires.i_bound, (laid_differences (entry_of l i) (body_laid l right i c.requires.i_bound) (kind-is (goal.at.is_base-requires c).Else-e-ne2)).1); block_len = ap length c.requires.block_value ∙ (runs_block l c.requires.file_value (elements (goal.at.is_base-requires c).Else-not-same_entry) i c.requires.i_bound).0 }

pub returns : goal.returns
unfolding is_ours
returns c =
    let l = c.args.file.now in
    let i = c.args.i in
    let right = contents-right l c.requires.file_value in
    let bytes = elements (goal.at.returns c).Else-not-same_entry in
    let fits = (runs_block l c.requires.file_value bytes i c.requires.i_bound).1 in
    same_test c.is_base.result (body_of l i) (body_for (block_in l i)) (
      λ t. body_same l bytes right i c.requires.i_bound (same (goal.at.returns c).Else-not-same_entry) (λ _. ap (λ b. words_from b 0 16) (sym (body_is (goal.at.returns c).After-body_from)) ∙ c.is_base.ensures.0 t ∙ ap base_of c.requires.block_value),
      λ e. c.is_base.ensures.1 (ap (λ b. words_from b 0 16) (body_is (goal.at.returns c).After-body_from) ∙ base_same l bytes right i c.requires.i_bound (same (goal.at.returns c).Else-not-same_entry) fits (kind-is (goal.at.returns c).Else-e-ne2) e ∙ sym (ap base_of c.requires.block_value)),
    )
    ∙ sym (ap (λ t. both t (is_same_list (body_of l i) (body_for (block_in l i)))) (is_same (goal.at.returns c).Else-not-same_entry))
