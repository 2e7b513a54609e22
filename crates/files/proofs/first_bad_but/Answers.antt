-- `files::first_bad_but` meets its contract: every block that the walk has passed is block b or has its run indices in
-- range.
-- Assumes nothing.
use Rattle.std.proofs.Common.{◌≡◌, ◌+◌, ◌<◌, true, eqb, sym, ap, ◌∙◌, arith, eq-eqb, ne_eqb}
use Rattle.lists.specs.Pick.{either}
use Rattle.lists.proofs.Search.{first_only}
use Rattle.contents.specs.Contents.{count}
use Rattle.bodywise.proofs.Told.{count-read, edition-read}
use Rattle.bodywise.proofs.Walking.{file-first, file-none, file-number, file-next, file-passed}
use Rattle.files.proofs.Files.{good_in, second_good}
use Rattle.files.proofs.Froms.{good_from-is}
use Rattle.files.proofs.Others.{none_but}
use Rattle.files.proofs.first_bad_but.Goals as goal
use Rattle.files.proofs.first_bad_but.Goals.{After-is_good_from, After-next-next, Joined-body-b, then-body-b+else-not-is_good_from, else-body-b}

-- what was asked of the body of the walk is asked of its block
tested-is : (c : After-is_good_from) → c.is_good_from.result ≡ good_in c.args.file.now c.loop-body.body.number
tested-is c =
    let body = c.loop-body.body in
    c.is_good_from.ensures
    ∙ good_from-is c.args.file.now c.requires body.number (omega (arith, c.loop-body.invariant.1)) body.at c.loop-body.invariant.0.start

-- the block is block b, or its body was found good
passed_over : (c : Joined-body-b) → either (eqb c.loop-body.body.number c.args.b) (good_in c.args.file.now c.loop-body.body.number) ≡ true
passed_over c =
    let i = c.loop-body.body.number in
    let good = good_in c.args.file.now i in
    elim c.if-body-b.branch [
      | then-body-b+else-not-is_good_from w ↦
          ap (λ t. either t good) (ne_eqb i c.args.b w.if-body-b.true) ∙ sym (w.is_good_from.ensures ∙ good_from-is c.args.file.now c.requires i (omega (arith, c.loop-body.invariant.1)) c.loop-body.body.at c.loop-body.invariant.0.start) ∙ w.if-not-is_good_from.false
      | else-body-b w ↦
          ap (λ t. either t good) (eq-eqb i c.args.b w.if-body-b.false)
    ]

-- one body further
next-number : (c : After-next-next) → c.next-next.result.number ≡ c.loop-body.body.number + 1
next-number c =
    file-number c.args.file.now c.requires (omega arith) c.loop-body.invariant.0 (omega (arith, c.loop-body.invariant.1)) c.next-next.ensures

-- in edition 2 every block is good
pub returns-then-edition-eq2 : goal.returns-then-edition-eq2
returns-then-edition-eq2 c =
    let l = c.args.file.now in
    let second = sym (c.edition.ensures ∙ edition-read l c.requires) ∙ c.if-edition-eq2.true in
    c.count-n.ensures
    ∙ count-read l c.requires
    ∙ sym (none_but l c.args.b (second_good l c.requires second))

pub loop-body-init : goal.loop-body-init
loop-body-init c =
    let l = c.args.file.now in
    (file-first l c.requires c.first-body.ensures, c.count-n.ensures ∙ count-read l c.requires, file-none l c.requires c.first-body.ensures _)

pub returns-then-not-is_good_from : goal.returns-then-not-is_good_from
returns-then-not-is_good_from c =
    let l = c.args.file.now in
    let b = c.args.b in
    let i = c.loop-body.body.number in
    first_only (count l) i (λ k. either (eqb k b) (good_in l k)) c.loop-body.invariant.0.within c.loop-body.invariant.2
    (λ _. ap (λ t. either t (good_in l i)) (ne_eqb i b c.if-body-b.true) ∙ sym (tested-is (goal.at.returns-then-not-is_good_from c).After-is_good_from) ∙ c.if-not-is_good_from.true)

pub loop-body-smaller : goal.loop-body-smaller
loop-body-smaller c = omega (arith, next-number (goal.at.loop-body-smaller c).After-next-next)

pub loop-body-preserved : goal.loop-body-preserved
loop-body-preserved c =
    let l = c.args.file.now in
    let walk = c.loop-body.invariant.0 in
    let more : c.loop-body.body.number < count l = omega (arith, c.loop-body.invariant.1) in (
      file-next l c.requires (omega arith) walk more c.next-next.ensures,
      c.loop-body.invariant.1,
      file-passed l c.requires (omega arith) walk more c.next-next.ensures c.loop-body.invariant.2 (passed_over (goal.at.loop-body-preserved c).Joined-body-b),
    )

pub returns : goal.returns
returns c =
    let l = c.args.file.now in
    let all : c.loop-body.body.number ≡ count l = omega (arith, c.loop-body.invariant.0.within, c.loop-body.invariant.1) in
    c.loop-body.invariant.1
    ∙ first_only (count l) (count l) (λ k. either (eqb k c.args.b) (good_in l k)) (omega arith) (λ k h. c.loop-body.invariant.2 k (omega arith))
    (λ h. absurd (omega arith))
