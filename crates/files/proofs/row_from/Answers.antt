-- `files::row_from` meets its contract: each refusal by its test, and then the lookup in the body that is lent.
-- Assumes nothing.
use Rattle.std.specs.Prelude.{Result, Ok, Err}
use Rattle.std.proofs.Common.{◌≡◌, ℕ, ◌+◌, ◌-◌, ◌%◌, ◌≤◌, true, leb, List, length, get_or, take, drop, sym, ap, ◌∙◌, arith, rules, leb-true}
use Rattle.lists.specs.Pick.{pick}
use Rattle.contents.specs.declared.Entry.{Entry}
use Rattle.contents.specs.declared.FileRefusal.{FileRefusal}
use Rattle.contents.specs.declared.FileRefusal.TheVariants.{Runs}
use Rattle.contents.specs.Contents.{is_laid_out, entry_or, has_right_entry}
use Rattle.contents.proofs.Entries.{right_laid}
use Rattle.bodies.specs.Bodies.{block_of, has_good_runs}
use Rattle.files.specs.declared.Row.{Row}
use Rattle.files.specs.Rows.{given}
use Rattle.files.proofs.Places.{from_cut, from_wrong, from_lent, from_beyond, from_runs}
use Rattle.files.proofs.row_from.Goals as goal
use Rattle.files.proofs.row_from.Goals.{After-holds, Else-not-holds, Else-not-is_right, Else-p-i}

-- what the lookup in a body gives
abbrev lookedUp : (i p : ℕ) (e : Entry) (body : List ℕ) → Result Row FileRefusal
lookedUp i p e body = pick (has_good_runs e body) (Ok (given e (p % 1024) (get_or (block_of e body) (p % 1024) 0))) (Err (Runs i))

-- the test of the body's end, of the entry that was read
held-is : (c : After-holds) → c.holds.result ≡ leb (c.args.at + (entry_or c.args.file.now c.args.i).length) (length c.args.file.now)
held-is c =
    c.holds.ensures ∙ ap (λ e. leb (c.args.at + e.length) (length c.args.file.now)) c.entry_or-e.ensures

whole : (c : Else-not-holds) → leb (c.args.at + (entry_or c.args.file.now c.args.i).length) (length c.args.file.now) ≡ true
whole c = sym (let it : c.holds.result ≡ leb (c.args.at + (entry_or c.args.file.now c.args.i).length) (length c.args.file.now) = c.holds.ensures ∙ ap (λ e. leb (c.args.at + e.length) (length c.args.file.now)) c.entry_or-e.ensures in it) ∙ c.if-not-holds.false

right : (c : Else-not-is_right) → has_right_entry c.args.file.now c.args.i ≡ true
right c = sym c.is_right.ensures ∙ c.if-not-is_right.false

-- the body ends within the bytes
ends : (c : Else-p-i) → c.args.at + c.entry_or-e.result.length ≤ length c.args.file.now
ends c =
    leb-true _ _ (sym c.holds.ensures ∙ c.if-not-holds.false)

pub returns-then-not-holds : goal.returns-then-not-holds
returns-then-not-holds c =
    sym (from_cut c.args.file.now c.args.i c.args.at c.args.p (sym (held-is (goal.at.returns-then-not-holds c).After-holds) ∙ c.if-not-holds.true))

pub is_right-requires : goal.is_right-requires
is_right-requires c = c.entry_or-e.ensures

pub returns-then-not-is_right : goal.returns-then-not-is_right
returns-then-not-is_right c =
    sym (from_wrong c.args.file.now c.args.i c.args.at c.args.p (whole (goal.at.returns-then-not-is_right c).Else-not-holds) (sym c.is_right.ensures ∙ c.if-not-is_right.true))

pub returns-then-p-i : goal.returns-then-p-i
returns-then-p-i c =
    sym (from_beyond c.args.file.now c.args.i c.args.at c.args.p (whole (goal.at.returns-then-p-i c).Else-not-holds) (right (goal.at.returns-then-p-i c).Else-not-is_right) c.if-p-i.true)

pub overflow_add-end : goal.overflow_add-end
overflow_add-end c = omega (arith, ends (goal.at.overflow_add-end c).Else-p-i)

pub slice_bounds-row_in-end : goal.slice_bounds-row_in-end
slice_bounds-row_in-end c = omega (arith, ends (goal.at.slice_bounds-row_in-end c).Else-p-i)

pub row_in-requires : goal.row_in-requires
row_in-requires c =
    let l = c.args.file.now in
    let laid = ap is_laid_out c.entry_or-e.ensures ∙ right_laid l c.args.i (right (goal.at.row_in-requires c).Else-not-is_right) in
    record { e_value = laid; body_len = search rules; place_bound = omega arith }

pub returns : goal.returns
returns c =
    let l = c.args.file.now in
    let i = c.args.i in
    let p = c.args.p in
    let w = whole (goal.at.returns c).Else-not-holds in
    c.row_in.ensures
    ∙ ap (λ e. lookedUp i p e (take (c.args.at + e.length - c.args.at) (drop c.args.at l))) c.entry_or-e.ensures
    ∙ ap (lookedUp i p (entry_or l i)) (from_lent l i c.args.at p w)
    ∙ sym (from_runs l i c.args.at p w (right (goal.at.returns c).Else-not-is_right) c.if-p-i.false)
