-- The laws of the lines: how long they are, and how one text is laid behind another.
-- Assumes nothing.
use mathlib.Core.List.{List, [], ◌∷◌, ◌++◌, append-nil, append_assoc}
use mathlib.Core.Path.{◌≡◌, refl, sym, ap, ap₂, ◌∙◌}
use Prim.Native.Nat.{ℕ, ◌+◌, ◌*◌, ◌-◌, ◌≤◌, ◌<◌}
use native.Mathlib.Decide.{ℕ_discrete}
use native.Mathlib.Nat.{add_assoc, zero-add}
use native.Mathlib.Numerals.{add-one}
use native.Mathlib.Omega.{arith}
use lib.ListN.{length, get_or, set, take, drop, length-append, length-take, length-drop}
use lib.Seq.{take_all, take-suc, drop-length, length-take-le}
use borrow.Author.Tests.{le-leb, eq-eqb, ne_eqb}
use borrow.Rule.Slice.PartMut.{put_mid, Post-is}
use Rattle.lists.specs.Pick.{pick}
use Rattle.lists.specs.Tab.{over}
use Rattle.lists.proofs.Overs.{over_append, length_over, over_nothing, over_tail, set-over}
use Rattle.decimal.specs.Calls.{laid_of, lay_leaves}
use Rattle.decimal.specs.Decimal.{text_of}
use Rattle.decimal.proofs.Texts.{long-most}
use Rattle.contents.specs.Answers.{FileAnswer, number_of, place_of}
use Rattle.compare.specs.declared.Change.{Change}
use Rattle.wishes.specs.declared.Side.{Side}
use Rattle.wishes.specs.declared.Side.TheVariants.{Left, Right}
use Rattle.listing.specs.Text.{field_of, change_line, lines_of, refused_text, refusal_line, rows_text, rows_line, differences_text, count_line, last_lines}

-- ---- how long they are

pub field-long : (n end : ℕ) → length (field_of n end) ≡ length (text_of n) + 1
unfolding field_of
field-long n end = length-append (text_of n) (end ∷ [])

pub field-most : (n end : ℕ) → n < 18446744073709551616 → length (field_of n end) ≤ 21
field-most n end h = omega (arith, field-long n end, long-most n h)

-- ---- a text that is laid

-- A text was laid from a place on, and this is the place behind it.
pub record Laid (at : ℕ) (text old new : List ℕ) (next : ℕ) : Type 0 where
  pub ends : next ≡ at + length text
  pub is : new ≡ over at text old

-- One behind another.
pub laid_then : {at next last : ℕ} {x y old mid new : List ℕ} → Laid at x old mid next → Laid next y mid new last → at + length x + length y ≤ length old
    → Laid at (x ++ y) old new last
laid_then {at} {next} {last} {x} {y} {old} {mid} {new} first second room = record {
  ends = second.ends ∙ ap (λ n. n + length y) first.ends ∙ add_assoc at (length x) (length y) ∙ ap (λ n. at + n) (sym (length-append x y));
  is = second.is ∙ ap₂ (λ n l. over n y l) first.ends first.is ∙ over_append at x y old room;
}

-- The output keeps its length.
pub laid_keeps : {at next : ℕ} {x old new : List ℕ} → Laid at x old new next → at + length x ≤ length old → length new ≡ length old
laid_keeps {at} {next} {x} {old} first room = ap length first.is ∙ length_over at x old room

-- One byte more of a text.
pub text-next : (text old new : List ℕ) (at i : ℕ) → i < length text → at + length text ≤ length old → new ≡ over at (take i text) old
    → set new (at + i) (get_or text i 0) ≡ over at (take (i + 1) text) old
text-next text old new at i h room e =
    let long : length (take i text) ≡ i = length-take-le i text (omega arith) in
    let keeps : length (over at (take i text) old) ≡ length old = length_over at (take i text) old (omega arith) in
    ap (λ l. set l (at + i) (get_or text i 0)) e
    ∙ set-over (over at (take i text) old) (at + i) (get_or text i 0) (omega arith)
    ∙ ap (λ n. over (at + n) (get_or text i 0 ∷ []) (over at (take i text) old)) (sym long)
    ∙ over_append at (take i text) (get_or text i 0 ∷ []) old (omega arith)
    ∙ ap (λ x. over at x old) (sym (ap (λ n. take n text) (add-one i) ∙ take-suc text i 0 h))

-- ---- a number, laid through the tail of the output that is lent

pub number_laid : (n at : ℕ) (out : List ℕ) → n < 18446744073709551616 → at + 21 ≤ length out
    → laid_of n (take (length out - at) (drop at out)) ≡ length (text_of n)
number_laid n at out h r =
    let few = long-most n h in
    let long : length (take (length out - at) (drop at out)) ≡ length out - at = simp (length-take, length-drop) (omega arith) in
    simp (le-leb (length (text_of n)) (length (take (length out - at) (drop at out))) (omega (arith, few, long)))

pub number-leaves : (n at : ℕ) (out : List ℕ) → n < 18446744073709551616 → at + 21 ≤ length out
    → put_mid at (length out - at) out (lay_leaves n (take (length out - at) (drop at out))) ≡ over at (text_of n) out
number-leaves n at out h r =
    let few = long-most n h in
    let long : length (take (length out - at) (drop at out)) ≡ length out - at = simp (length-take, length-drop) (omega arith) in
    let tail : take (length out - at) (drop at out) ≡ drop at out = take_all (length out - at) (drop at out) (omega (arith, length-drop at out)) in
    let e : lay_leaves n (take (length out - at) (drop at out)) ≡ over 0 (text_of n) (drop at out) =
    simp (le-leb (length (text_of n)) (length (take (length out - at) (drop at out))) (omega (arith, few, long))) (ap (over 0 (text_of n)) tail) in
    ap (put_mid at (length out - at) out) e
    ∙ ap (λ z. take at out ++ (over 0 (text_of n) (drop at out) ++ z)) (Post-is at (length out) out (omega arith) ∙ drop-length out)
    ∙ ap (λ z. take at out ++ z) (append-nil (over 0 (text_of n) (drop at out)))
    ∙ over_tail at (text_of n) out

pub field_laid : (n end at k : ℕ) (out mid : List ℕ) → n < 18446744073709551616 → at + 21 ≤ length out → k ≡ length (text_of n)
    → mid ≡ over at (text_of n) out → set mid (at + k) end ≡ over at (field_of n end) out
unfolding field_of
field_laid n end at k out mid h r ek em =
    let few = long-most n h in
    let keeps : length (over at (text_of n) out) ≡ length out = length_over at (text_of n) out (omega (arith, few)) in
    (λ j. set (em j) (at + ek j) end)
    ∙ set-over (over at (text_of n) out) (at + length (text_of n)) end (omega (arith, few, keeps))
    ∙ over_append at (text_of n) (end ∷ []) out (omega (arith, few))

-- ---- the line of a change

pub change_laid : (c : Change) {at second third last : ℕ} {old a b new : List ℕ}
    → Laid at (field_of c.row 32) old a second → Laid second (field_of c.left 32) a b third → Laid third (field_of c.right 10) b new last
    → c.row < 18446744073709551616 → c.left < 18446744073709551616 → c.right < 18446744073709551616 → at + 63 ≤ length old
    → Laid at (change_line c) old new last
unfolding change_line
change_laid c {at} {second} {third} {last} {old} {a} {b} {new} x y z hx hy hz room =
    let fx = field-most c.row 32 hx in
    let fy = field-most c.left 32 hy in
    let fz = field-most c.right 10 hz in
    let keeps : length a ≡ length old = laid_keeps x (omega (arith, fx)) in
    let rest : Laid second (field_of c.left 32 ++ field_of c.right 10) a new last = laid_then y z (omega (arith, fx, fy, fz, keeps, x.ends)) in
    laid_then x rest (omega (arith, fx, fy, fz, length-append (field_of c.left 32) (field_of c.right 10)))

pub change_most : (c : Change) → c.row < 18446744073709551616 → c.left < 18446744073709551616 → c.right < 18446744073709551616 → length (change_line c) ≤ 63
unfolding change_line
change_most c hx hy hz =
    omega (
      arith,
      field-most c.row 32 hx,
      field-most c.left 32 hy,
      field-most c.right 10 hz,
      length-append (field_of c.row 32) (field_of c.left 32 ++ field_of c.right 10),
      length-append (field_of c.left 32) (field_of c.right 10),
    )

-- ---- the lines

pub lines_none : lines_of [] ≡ []
unfolding lines_of
lines_none = refl

pub lines_append : (a b : List Change) → lines_of (a ++ b) ≡ lines_of a ++ lines_of b
unfolding lines_of
lines_append [] b = refl
lines_append (c ∷ a) b = ap (λ x. change_line c ++ x) (lines_append a b) ∙ sym (append_assoc (change_line c) (lines_of a) (lines_of b))

pub lines-one : (c : Change) → lines_of (c ∷ []) ≡ change_line c
unfolding lines_of
lines-one c = append-nil (change_line c)

-- The lines of the first changes of a list are laid, and have so many bytes, at most 63 each.
pub record LaidTo (changes : List Change) (k : ℕ) (old new : List ℕ) (at : ℕ) : Type 0 where
  pub laid : Laid 0 (lines_of (take k changes)) old new at
  pub few : at ≤ 63 * k

pub laid_none : (changes : List Change) (old : List ℕ) → LaidTo changes 0 old old 0
laid_none changes old = record {
  laid = record { ends = sym (zero-add (length (lines_of [])) ∙ ap length lines_none); is = sym (ap (λ x. over 0 x old) lines_none ∙ over_nothing 0 old) };
  few = omega arith;
}

pub laid_next : (changes : List Change) (none c : Change) (k : ℕ) {old mid new : List ℕ} {at next : ℕ} → LaidTo changes k old mid at → k < length changes
    → c ≡ get_or changes k none → Laid at (change_line c) mid new next → length (change_line c) ≤ 63 → 63 * (k + 1) ≤ length old → LaidTo changes (k + 1) old new next
laid_next changes none c k {old} {mid} {new} {at} {next} before h e line most room =
    let one : take (k + 1) changes ≡ take k changes ++ (c ∷ []) =
    ap (λ n. take n changes) (add-one k) ∙ take-suc changes k none h ∙ ap (λ x. take k changes ++ (x ∷ [])) (sym e) in
    let text : lines_of (take (k + 1) changes) ≡ lines_of (take k changes) ++ change_line c =
    ap lines_of one ∙ lines_append (take k changes) (c ∷ []) ∙ ap (λ x. lines_of (take k changes) ++ x) (lines-one c) in
    let all = laid_then before.laid line (omega (arith, before.laid.ends, before.few)) in
    record {
      laid = record { ends = all.ends ∙ ap (λ x. 0 + length x) (sym text); is = all.is ∙ ap (λ x. over 0 x old) (sym text) };
      few = omega (arith, line.ends, before.few);
    }

-- ---- the line of a refusal

pub refused-most : (side : Side) → length (refused_text side) ≤ 14
refused-most Left = omega arith
refused-most Right = omega arith

pub refusal_laid : (side : Side) (a : FileAnswer) (old : List ℕ) {number place second third last : ℕ} {x y new : List ℕ} → number ≡ number_of a → place ≡ place_of a
    → second ≡ length (refused_text side) → x ≡ over 0 (refused_text side) old
    → Laid second (field_of number 32) x y third → Laid third (field_of place 10) y new last
    → number < 18446744073709551616 → place < 18446744073709551616 → 64 ≤ length old
    → (last ≡ length (refusal_line side a)) × (new ≡ over 0 (refusal_line side a) old)
unfolding refusal_line
refusal_laid side a old {number} {place} {second} {third} {last} {x} {y} {new} en ep es ex first next hn hp room =
    let few = refused-most side in
    let fn = field-most number 32 hn in
    let fp = field-most place 10 hp in
    let words : Laid 0 (refused_text side) old x second = record { ends = es ∙ sym (zero-add (length (refused_text side))); is = ex } in
    let keeps : length x ≡ length old = laid_keeps words (omega (arith, few)) in
    let both = laid_then first next (omega (arith, fn, fp, keeps, es, few)) in
    let all = laid_then words both (omega (arith, few, fn, fp, length-append (field_of number 32) (field_of place 10))) in
    let text = ap₂ (λ n p. refused_text side ++ (field_of n 32 ++ field_of p 10)) en ep in
    (all.ends ∙ zero-add _ ∙ ap length text, all.is ∙ ap (λ t. over 0 t old) text)

-- ---- the last lines

pub rows_none : (a b : ℕ) (old : List ℕ) → a ≡ b → (0 ≡ length (rows_line a b)) × (old ≡ over 0 (rows_line a b) old)
unfolding rows_line
rows_none a b old e =
    let none : rows_line a b ≡ [] = ap (λ t. pick t [] (rows_text ++ (field_of a 32 ++ field_of b 10))) (eq-eqb a b e) in
    (sym (ap length none), sym (ap (λ x. over 0 x old) none ∙ over_nothing 0 old))

rows_some : (a b : ℕ) → (a ≡ b → ⊥) → rows_line a b ≡ rows_text ++ (field_of a 32 ++ field_of b 10)
unfolding rows_line
rows_some a b n = ap (λ t. pick t [] (rows_text ++ (field_of a 32 ++ field_of b 10))) (ne_eqb a b n)

pub rows-most : (a b : ℕ) → a < 18446744073709551616 → b < 18446744073709551616 → length (rows_line a b) ≤ 47
rows-most a b ha hb =
    elim (ℕ_discrete a b) [
      | yes e ↦ omega (arith, (rows_none a b [] e).0)
      | no n ↦ omega (
        arith,
        ap length (rows_some a b n),
        length-append rows_text (field_of a 32 ++ field_of b 10),
        length-append (field_of a 32) (field_of b 10),
        field-most a 32 ha,
        field-most b 10 hb,
      )
    ]

pub rows_laid : (a b : ℕ) → (a ≡ b → ⊥) → {second third last : ℕ} {old x y new : List ℕ} → Laid 0 rows_text old x second → Laid second (field_of a 32) x y third
    → Laid third (field_of b 10) y new last → a < 18446744073709551616 → b < 18446744073709551616 → 64 ≤ length old
    → (last ≡ length (rows_line a b)) × (new ≡ over 0 (rows_line a b) old)
rows_laid a b n {second} {third} {last} {old} {x} {y} {new} words first next ha hb room =
    let fa = field-most a 32 ha in
    let fb = field-most b 10 hb in
    let keeps : length x ≡ length old = laid_keeps words (omega arith) in
    let both = laid_then first next (omega (arith, fa, fb, keeps, words.ends)) in
    let all = laid_then words both (omega (arith, fa, fb, length-append (field_of a 32) (field_of b 10))) in
    let text = sym (rows_some a b n) in
    (all.ends ∙ zero-add _ ∙ ap length text, all.is ∙ ap (λ t. over 0 t old) text)

pub last_laid : (a b d : ℕ) (old : List ℕ) {second third last : ℕ} {x y new : List ℕ} → second ≡ length (rows_line a b) → x ≡ over 0 (rows_line a b) old
    → Laid second differences_text x y third → Laid third (field_of d 10) y new last
    → a < 18446744073709551616 → b < 18446744073709551616 → d < 18446744073709551616 → 128 ≤ length old
    → (last ≡ length (last_lines a b d)) × (new ≡ over 0 (last_lines a b d) old)
unfolding last_lines count_line
last_laid a b d old {second} {third} {last} {x} {y} {new} es ex first next ha hb hd room =
    let few = rows-most a b ha hb in
    let fd = field-most d 10 hd in
    let rows : Laid 0 (rows_line a b) old x second = record { ends = es ∙ sym (zero-add (length (rows_line a b))); is = ex } in
    let keeps : length x ≡ length old = laid_keeps rows (omega (arith, few)) in
    let both = laid_then first next (omega (arith, fd, keeps, es, few)) in
    let all = laid_then rows both (omega (arith, few, fd, length-append differences_text (field_of d 10))) in
    (all.ends ∙ zero-add _, all.is)
