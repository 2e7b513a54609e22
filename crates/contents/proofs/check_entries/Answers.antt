-- `contents::check_entries` meets its contract: each refusal by its test.
-- Assumes nothing.
use mathlib.Core.Path.{◌≡◌, sym, ap, ap₂, ◌∙◌}
use Prim.Native.Nat.{◌+◌, ◌≤◌}
use native.Mathlib.Omega.{arith}
use Rattle.std.specs.Prelude.{Err}
use Rattle.lists.specs.Search.{first_bad}
use Rattle.lists.proofs.Search.{first_le}
use Rattle.contents.specs.declared.FileRefusal.TheVariants.{BadEntry}
use Rattle.contents.specs.Contents.{count, contents_size, is_right, bad_entry, bodies_size, body_start}
use Rattle.contents.proofs.Checks.{bad_entries, short_bodies, left_over, entries-done}
use Rattle.contents.proofs.Sizes.{size-most}
use Rattle.contents.proofs.check_entries.Goals as goal
use Rattle.contents.proofs.check_entries.Goals.{After-bad_entry-lowest, After-bodies_of}

-- the entry that was found is the lowest bad one
lowest : (c : After-bad_entry-lowest) → c.bad_entry-lowest.result ≡ bad_entry c.args.front.now
unfolding bad_entry
lowest c =
    let l = c.args.front.now in
    c.bad_entry-lowest.ensures ∙ ap (λ n. first_bad n (is_right l)) c.requires.n_value

-- it is one of them, or there is none
within : (c : After-bad_entry-lowest) → bad_entry c.args.front.now ≤ count c.args.front.now
unfolding bad_entry
within c = first_le _ _

-- the file's end
end : (c : After-bodies_of) → c.contents_size.result + c.bodies_of.result ≡ body_start c.args.front.now (count c.args.front.now)
unfolding body_start
end c =
    let l = c.args.front.now in
    ap₂ ◌+◌ (c.contents_size.ensures ∙ ap₂ contents_size c.requires.edition_value c.requires.n_value) (c.bodies_of.ensures.0 ∙ ap (bodies_size l) c.requires.n_value)

-- no entry is bad
none : (c : After-bodies_of) → bad_entry c.args.front.now ≡ count c.args.front.now
unfolding bad_entry
none c =
    omega (
      arith,
      (let it : c.bad_entry-lowest.result ≡ bad_entry c.args.front.now = let l = c.args.front.now in
          c.bad_entry-lowest.ensures ∙ ap (λ n. first_bad n (is_right l)) c.requires.n_value in it),
      (let it : bad_entry c.args.front.now ≤ count c.args.front.now = first_le _ _ in it),
      c.requires.n_value,
      c.if-lowest-n.false,
    )

pub returns-then-lowest-n : goal.returns-then-lowest-n
returns-then-lowest-n c =
    let l = c.args.front.now in
    ap (λ p. Err (BadEntry p)) (lowest (goal.at.returns-then-lowest-n c).After-bad_entry-lowest) ∙ sym (bad_entries l _ (omega (arith, lowest (goal.at.returns-then-lowest-n c).After-bad_entry-lowest, c.requires.n_value, c.if-lowest-n.true)))

pub contents_size-requires : goal.contents_size-requires
contents_size-requires c =
    let args = c.args in
    omega (arith, size-most args.edition args.n)

pub overflow_add-end : goal.overflow_add-end
overflow_add-end c =
    let args = c.args in
    omega (arith, c.contents_size.ensures, size-most args.edition args.n)

pub returns-then-size-end : goal.returns-then-size-end
returns-then-size-end c =
    let l = c.args.front.now in
    sym (short_bodies l _ (none (goal.at.returns-then-size-end c).After-bodies_of) (omega (arith, end (goal.at.returns-then-size-end c).After-bodies_of, c.if-size-end.true)))

pub returns-then-end-size : goal.returns-then-end-size
returns-then-end-size c =
    let l = c.args.front.now in
    sym (left_over l _ (none (goal.at.returns-then-end-size c).After-bodies_of) (omega (arith, end (goal.at.returns-then-end-size c).After-bodies_of, c.if-size-end.false)) (omega (arith, end (goal.at.returns-then-end-size c).After-bodies_of, c.if-end-size.true)))

pub returns : goal.returns
returns c =
    let l = c.args.front.now in
    sym (entries-done l _ (none (goal.at.returns c).After-bodies_of) (omega (arith, end (goal.at.returns c).After-bodies_of, c.if-size-end.false)) (omega (arith, end (goal.at.returns c).After-bodies_of, c.if-end-size.false)))
