-- `search::list_rows` meets its contract: the rows of the blocks that the walk has passed are listed, and k is how many
-- they are.
-- Assumes nothing.
use Rattle.std.proofs.Common.{◌≡◌, ℕ, ◌+◌, ◌<◌, ◌≤◌, true, false, length, sym, refl, ap, ◌∙◌, arith}
use Rattle.lists.specs.Tab.{over}
use Rattle.lists.proofs.Overs.{length_over, over_nothing}
use Rattle.lists.proofs.Passing.{passing-none_yet}
use Rattle.contents.specs.Contents.{count}
use Rattle.bodywise.proofs.Told.{count-read}
use Rattle.bodywise.proofs.Walking.{file-first, file-zero, file-number, file-next}
use Rattle.search.specs.Search.{opens, listed}
use Rattle.search.proofs.Walks.{found_to, file-opens, opened-asked, found-length, found_shut, found_within, found_all, listed_more}
use Rattle.search.proofs.list_rows.Goals as goal
use Rattle.search.proofs.list_rows.Goals.{then-opens, else-opens}
use Rattle.search.proofs.list_rows.Goals.{After-next-next, After-opens, At-loop-body}

-- there is room for the rows of the blocks up to any block
room : (c : At-loop-body) → (i : ℕ) → i ≤ count c.args.file.now → length (found_to c.args.file.now c.args.low c.args.high i) ≤ length c.args.rows.now
room c i h =
    omega (arith, found_within c.args.file.now c.args.low c.args.high i h, c.requires.high_in_bounds)

-- and the room keeps its length
same-room : (c : At-loop-body) → length c.loop-body.rows ≡ length c.args.rows.now
same-room c =
    let args = c.args in
    let i = c.loop-body.body.number in
    ap length c.loop-body.invariant.3 ∙ length_over 0 (found_to args.file.now args.low args.high i) args.rows.now (omega (arith, room c i c.loop-body.invariant.0.within))

-- what was asked of the contents
opened-is : (c : After-opens) → c.opens.result ≡ opens c.args.file.now c.args.low c.args.high c.loop-body.body.number
opened-is c =
    c.opens.ensures ∙ file-opens c.args.file.now c.args.low c.args.high c.requires.contents_taken c.loop-body.body.number (omega (arith, c.loop-body.invariant.1))

-- one body further
next-number : (c : After-next-next) → c.next-next.result.number ≡ c.loop-body.body.number + 1
next-number c =
    file-number c.args.file.now c.requires.contents_taken (omega arith) c.loop-body.invariant.0 (omega (arith, c.loop-body.invariant.1)) c.next-next.ensures

pub loop-body-init : goal.loop-body-init
loop-body-init c =
    let l = c.args.file.now in
    let low = c.args.low in
    let high = c.args.high in
    let none = ap (found_to l low high) (file-zero l c.requires.contents_taken c.first-body.ensures) ∙ passing-none_yet 0 (listed l low high) in (
      file-first l c.requires.contents_taken c.first-body.ensures,
      c.count-n.ensures ∙ count-read l c.requires.contents_taken,
      sym (ap length none),
      sym (ap (λ x. over 0 x c.args.rows.now) none ∙ over_nothing 0 c.args.rows.now),
      refl,
      refl,
    )

pub list_from-k-requires : goal.list_from-k-requires
list_from-k-requires c =
    let l = c.args.file.now in
    let low = c.args.low in
    let high = c.args.high in
    let i = c.loop-body.body.number in
    let there : i < count l = omega (arith, c.loop-body.invariant.1) in
    let is_open = sym (opened-is (goal.at.list_from-k-requires c).After-opens) ∙ c.if-opens.true in record { contents_taken = c.requires.contents_taken; i_bound = there; at_value = c.loop-body.invariant.0.start; i_value = opened-asked l low high false c.requires.false_value i there is_open; i_value_2 = opened-asked l low high true c.requires.true_value i there is_open; block_len = c.loop-body.invariant.4; found_len = c.loop-body.invariant.5; high_in_bounds = omega (arith, c.loop-body.invariant.2, found-length l low high i is_open, room (goal.at.list_from-k-requires c).At-loop-body (i + 1) (omega arith), same-room (goal.at.list_from-k-requires c).At-loop-body) }

pub loop-body-smaller : goal.loop-body-smaller
loop-body-smaller c = omega (arith, next-number (goal.at.loop-body-smaller c).After-next-next)

pub loop-body-preserved : goal.loop-body-preserved
loop-body-preserved c =
    let l = c.args.file.now in
    let low = c.args.low in
    let high = c.args.high in
    let old = c.args.rows.now in
    let i = c.loop-body.body.number in
    let there : i < count l = omega (arith, c.loop-body.invariant.1) in
    let further = ap (found_to l low high) (next-number (goal.at.loop-body-preserved c).After-next-next) in (
      file-next l c.requires.contents_taken (omega arith) c.loop-body.invariant.0 there c.next-next.ensures,
      c.loop-body.invariant.1,
      elim c.if-opens.branch [
        | then-opens w ↦ omega (arith, w.k-is, w.list_from-k.ensures.value, c.loop-body.invariant.2, ap length further, found-length l low high i (sym (opened-is (goal.at.loop-body-preserved c).After-opens) ∙ w.if-opens.true))
        | else-opens w ↦ omega (arith, w.k-is, c.loop-body.invariant.2, ap length further, ap length (found_shut l low high i (sym (opened-is (goal.at.loop-body-preserved c).After-opens) ∙ w.if-opens.false)))
      ],
      elim c.if-opens.branch [
        | then-opens w ↦
            w.rows-is
            ∙ w.list_from-k.ensures.rows_after
            ∙ listed_more l low high i (sym (opened-is (goal.at.loop-body-preserved c).After-opens) ∙ w.if-opens.true) c.loop-body.k old c.loop-body.rows c.loop-body.invariant.2 c.loop-body.invariant.3 (room (goal.at.loop-body-preserved c).At-loop-body (i + 1) (omega arith))
        | else-opens w ↦ w.rows-is ∙ c.loop-body.invariant.3 ∙ ap (λ x. over 0 x old) (sym (found_shut l low high i (sym (opened-is (goal.at.loop-body-preserved c).After-opens) ∙ w.if-opens.false)))
      ] ∙ sym (ap (λ x. over 0 x old) further),
      elim c.if-opens.branch [ then-opens w ↦ ap length w.block-is ∙ w.list_from-k.ensures.block_len_2 | else-opens w ↦ ap length w.block-is ∙ c.loop-body.invariant.4 ],
      elim c.if-opens.branch [ then-opens w ↦ ap length w.found-is ∙ w.list_from-k.ensures.found_len_2 | else-opens w ↦ ap length w.found-is ∙ c.loop-body.invariant.5 ],
    )

pub returns : goal.returns
returns c =
    let args = c.args in
    let l = args.file.now in
    let all : c.loop-body.body.number ≡ count l = omega (arith, c.loop-body.invariant.0.within, c.loop-body.invariant.1) in
    let rows = found_all l args.low args.high c.loop-body.body.number all in
    record { value = c.loop-body.invariant.2 ∙ ap length rows; rows_after = c.loop-body.invariant.3 ∙ ap (λ x. over 0 x args.rows.now) rows }
