-- The laws of feeds: what is held after one, and that two feeds one after another are one feed of both chunks.
-- Assumes nothing.
use mathlib.Core.List.{List, [], ◌∷◌, ◌++◌}
use mathlib.Core.Path.{◌≡◌, sym, ap, ap₂, ◌∙◌}
use Prim.Native.Nat.{ℕ, ◌+◌, ◌-◌, ◌≤◌}
use native.Mathlib.Nat.{add-zero}
use native.Mathlib.Omega.{arith}
use lib.ListN.{length, take, length-append}
use lib.Seq.{length-take-le, take_all}
use Rattle.lists.specs.Tab.{over}
use Rattle.lists.proofs.Overs.{length_over, over_nothing, over_append}
use Rattle.trickle.specs.declared.State.{State}
use Rattle.trickle.specs.Trickle.{body_size, width_of, count_of, held_of, counts_as, taken_of, state_after, fed_all, bytes_of_all}
use Rattle.trickle.proofs.Fronts.{front-min, front-both, front-over, before-over}
use Rattle.trickle.proofs.States.{counted, counts_long, length-held, itself}

-- So many bytes the body still lacks.
abbrev lacks : (s : State) → ℕ
lacks s = body_size (width_of s) - count_of s

module _ (s : State) (chunk : List ℕ) where
  -- A feed takes no more than the chunk has, and no more than is lacking.
  pub taken-most : (taken_of s chunk ≤ length chunk) × (count_of s + taken_of s chunk ≤ body_size (width_of s))
  unfolding taken_of
  taken-most = (omega arith, omega (arith, (counted s).1))

  long-taken : length (take (taken_of s chunk) chunk) ≡ taken_of s chunk
  long-taken = length-take-le (taken_of s chunk) chunk taken-most.0

  -- the state after a feed is one that can be
  after_itself : counts_as (state_after s chunk) ≡ state_after s chunk
  unfolding state_after
  after_itself = itself (state_after s chunk) ((counted s).0, taken-most.1)

  pub after_width : width_of (state_after s chunk) ≡ width_of s
  unfolding state_after
  after_width = ap (λ c. c.width) after_itself

  pub after_count : count_of (state_after s chunk) ≡ count_of s + taken_of s chunk
  unfolding state_after
  after_count = ap (λ c. c.held) after_itself

  module _ (long : length s.room ≡ 8192) where
    written-within : count_of s + length (take (taken_of s chunk) chunk) ≤ length (counts_as s).room
    written-within = omega (arith, long-taken, taken-most.1, (counted s).0, counts_long s long)

    pub after_long : length (state_after s chunk).room ≡ 8192
    unfolding state_after
    after_long = length_over (count_of s) (take (taken_of s chunk) chunk) (counts_as s).room written-within ∙ counts_long s long

    -- No byte that is held is changed.
    pub after_keeps : take (count_of s) (state_after s chunk).room ≡ held_of s
    unfolding state_after held_of
    after_keeps =
        before-over (count_of s) (take (taken_of s chunk) chunk) (counts_as s).room (omega (arith, (counted s).0, (counted s).1, counts_long s long))

    -- What is held after a feed is what was held with the chunk behind it, up to the length of the body.
    pub after_held : held_of (state_after s chunk) ≡ take (body_size (width_of s)) (held_of s ++ chunk)
    unfolding held_of state_after taken_of
    after_held =
        let held = take (count_of s) (counts_as s).room in
        let all : length held ≡ count_of s = length-held s long in
        ap (λ c. take c.held c.room) after_itself
        ∙ front-over (count_of s) (taken_of s chunk) (take (taken_of s chunk) chunk) (counts_as s).room long-taken
        (omega (arith, taken-most.1, (counted s).0, counts_long s long))
        ∙ ap₂ ◌++◌ (sym (take_all (body_size (width_of s)) held (omega (arith, all, (counted s).1))))
        (front-min (lacks s) chunk ∙ ap (λ n. take (body_size (width_of s) - n) chunk) (sym all))
        ∙ sym (front-both (body_size (width_of s)) held chunk)

-- A feed that takes nothing gives the state that this one counts as.
module _ (s : State) (chunk : List ℕ) (nothing : taken_of s chunk ≡ 0) where
  pub after_nothing : state_after s chunk ≡ counts_as s
  unfolding state_after
  after_nothing = λ i. record {
    width = width_of s;
    held = (ap (λ n. count_of s + n) nothing ∙ add-zero (count_of s)) i;
    room = (ap (λ n. over (count_of s) (take n chunk) (counts_as s).room) nothing ∙ over_nothing (count_of s) (counts_as s).room) i;
  }

-- Of no bytes none are taken.
pub taken_none : (s : State) → taken_of s [] ≡ 0
unfolding taken_of
taken_none s = omega arith

-- A chunk a, and then a chunk b.
module _ (s : State) (a b : List ℕ) where
  -- Together they are taken as far as both in one,
  pub taken-both : taken_of s a + taken_of (state_after s a) b ≡ taken_of s (a ++ b)
  unfolding taken_of
  taken-both = omega (arith, length-append a b, after_width s a, after_count s a)

  -- and these bytes are taken.
  front-taken : take (taken_of s a) a ++ take (taken_of (state_after s a) b) b ≡ take (taken_of s (a ++ b)) (a ++ b)
  unfolding taken_of
  front-taken =
      let e : lacks (state_after s a) ≡ lacks s - length a = omega (arith, after_width s a, after_count s a) in
      ap₂ ◌++◌ (front-min (lacks s) a) (front-min (lacks (state_after s a)) b ∙ ap (λ n. take n b) e)
      ∙ sym (front-both (lacks s) a b)
      ∙ sym (front-min (lacks s) (a ++ b))

  -- The state after both is the one after both in one, to the last byte of its room.
  pub after_both : length s.room ≡ 8192 → state_after (state_after s a) b ≡ state_after s (a ++ b)
  unfolding state_after
  after_both long =
      let room = (counts_as s).room in
      let first = take (taken_of s a) a in
      let second = take (taken_of (state_after s a) b) b in
      let fit : count_of s + length first + length second ≤ length room =
      omega (arith, long-taken s a, long-taken (state_after s a) b, taken-both, (taken-most s (a ++ b)).1, (counted s).0, counts_long s long) in
      let held : count_of (state_after s a) + taken_of (state_after s a) b ≡ count_of s + taken_of s (a ++ b) = omega (arith, after_count s a, taken-both) in
      λ i. record {
        width = after_width s a i;
        held = held i;
        room = (ap (λ c. over c.held second c.room) (after_itself s a)
            ∙ ap (λ n. over n second (over (count_of s) first room)) (ap (λ n. count_of s + n) (sym (long-taken s a)))
            ∙ over_append (count_of s) first second room fit
            ∙ ap (λ l. over (count_of s) l room) front-taken) i;
      }

-- All chunks of a list, one after another, are one feed of all their bytes.
pub all_taken : (s : State) (chunks : List (List ℕ)) → (fed_all s chunks).taken ≡ taken_of s (bytes_of_all chunks)
unfolding fed_all bytes_of_all
all_taken s [] = sym (taken_none s)
all_taken s (chunk ∷ chunks) =
    ap (λ n. taken_of s chunk + n) (all_taken (state_after s chunk) chunks) ∙ taken-both s chunk (bytes_of_all chunks)

pub all_after : (s : State) → length s.room ≡ 8192 → (chunks : List (List ℕ)) → counts_as (fed_all s chunks).state ≡ state_after s (bytes_of_all chunks)
unfolding fed_all bytes_of_all
all_after s long [] = sym (after_nothing s [] (taken_none s))
all_after s long (chunk ∷ chunks) =
    all_after (state_after s chunk) (after_long s chunk long) chunks ∙ after_both s chunk (bytes_of_all chunks) long

-- the room keeps its length
pub all_long : (s : State) → length s.room ≡ 8192 → (chunks : List (List ℕ)) → length (fed_all s chunks).state.room ≡ 8192
unfolding fed_all
all_long s long [] = long
all_long s long (chunk ∷ chunks) = all_long (state_after s chunk) (after_long s chunk long) chunks
