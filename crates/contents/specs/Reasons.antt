-- An entry that is as laid out, and the kinds that an edition takes, said a second time: in plain arithmetic, kind by
-- kind, as R81 and R82 have it. It guards the tests in Contents; that the two agree is a law.
-- Assumes nothing.
use Rattle.std.specs.Prelude.{◌⊎◌, ◌≡◌, ℕ, ◌+◌, ◌*◌, ◌≤◌, ◌<◌}
use Rattle.contents.specs.declared.Entry.{Entry}

-- There is a number n from 1 to 1,024 of run values.
pub record RunLength (length : ℕ) : Type 0 where
  pub n : ℕ
  pub low : 1 ≤ n
  pub high : n ≤ 1024
  pub is : length ≡ 2048 + 8 * n

-- The third field is zero; kind 0 is packed, with reference 0, width 0 to 64 and 128·W bytes; kind 1 is a frame, the
-- same with any reference; kind 2 has sixteen base words before the packed differences, reference 0 and 128 + 128·W
-- bytes; kind 3 has runs, width and reference 0 and 2048 + 8·n bytes.
abbrev pub LaidOut : (e : Entry) → Type 0
LaidOut e =
    (e.zero ≡ 0)
    × (((e.kind ≡ 0) × ((e.reference ≡ 0) × ((e.width ≤ 64) × (e.length ≡ 128 * e.width))))
    ⊎ (((e.kind ≡ 1) × ((e.width ≤ 64) × (e.length ≡ 128 * e.width)))
    ⊎ (((e.kind ≡ 2) × ((e.reference ≡ 0) × ((e.width ≤ 64) × (e.length ≡ 128 + 128 * e.width))))
    ⊎ ((e.kind ≡ 3) × ((e.reference ≡ 0) × ((e.width ≡ 0) × RunLength e.length))))))

-- In edition 2 the kind is below 3. Kind 3 is taken in edition 1 alone.
abbrev pub TakenIn : (edition : ℕ) (e : Entry) → Type 0
TakenIn edition e = edition ≡ 2 → e.kind < 3
