-- An answer against the 18 words that are stored of it. Assumes nothing.
use Rattle.std.specs.Prelude.{ℕ, zero, suc, ◌/◌, ◌%◌, Bool, List, [], ◌∷◌, ◌==◌, from_bits, nat_le, slice_index, to_bits, Float}
use Rattle.std.specs.Float.{binary64}
use Rattle.std.specs.Float.Ieee.{eq}
use Rattle.text.specs.Choice.{pick, both}
use Rattle.error.specs.Answers.{NONE}
use Rattle.checker.specs.declared.flat.Flat.{Flat}
use Rattle.stored.specs.Stored.{place_after, word_behind, number_at}

-- an f64's pattern, the same one for every NaN
unfoldable pub pattern_of : Float → ℕ
pattern_of x = pick (eq x x) (to_bits binary64 x) 0x7ff8_0000_0000_0000

unfoldable pub low_of : ℕ → ℕ
low_of x = x % 4294967296

unfoldable pub high_of : ℕ → ℕ
high_of x = x / 4294967296

-- the words of an answer, its two f64 as low and high word
unfoldable pub words_of : Flat → List ℕ
words_of flat =
    flat.number ∷ flat.table ∷ flat.place ∷ flat.node ∷ flat.schema ∷ flat.hint ∷ flat.detail ∷ flat.a ∷ flat.b ∷ flat.steps ∷ flat.kinds ∷ flat.notes ∷ flat.schemas ∷ flat.links ∷ low_of (pattern_of flat.value) ∷ high_of (pattern_of flat.value) ∷ low_of (pattern_of flat.bound) ∷ high_of (pattern_of flat.bound) ∷ []

-- the pattern of the f64 stored at a place
unfoldable pub pattern_at : List ℕ → ℕ → ℕ
pattern_at input at = pattern_of (from_bits binary64 (number_at input at))

-- only a compile has used counts
unfoldable pub used_at : List ℕ → ℕ → Bool → ℕ → ℕ
used_at input at compiled field = pick compiled (word_behind input at field) NONE

-- the word that a field has to have: 11 to 13 are the used counts, 14 to 17 the two f64
unfoldable pub expected_of : List ℕ → ℕ → Bool → ℕ → ℕ
expected_of input at compiled field =
    pick (both (nat_le 11 field) (nat_le field 13)) (used_at input at compiled field)
    (pick (field == 14) (low_of (pattern_at input (place_after at 14)))
    (pick (field == 15) (high_of (pattern_at input (place_after at 14)))
    (pick (field == 16) (low_of (pattern_at input (place_after at 16)))
    (pick (field == 17) (high_of (pattern_at input (place_after at 16)))
    (word_behind input at field)))))

-- 1 where a field is another than expected, else what the fields before gave
unfoldable pub judged_of : ℕ → ℕ → ℕ → ℕ
judged_of expected found wrong = pick (expected == found) wrong 1

-- the same of the first fields, so many
unfoldable pub wrong_in : (ℕ → ℕ) → (ℕ → ℕ) → ℕ → ℕ → ℕ
wrong_in expected found zero before = before
wrong_in expected found (suc n) before = judged_of (expected n) (found n) (wrong_in expected found n before)

-- all 18 words of an answer
unfoldable pub compared_of : List ℕ → ℕ → Flat → Bool → ℕ
compared_of input at flat compiled = wrong_in (expected_of input at compiled) (λ k. slice_index (words_of flat) k) 18 0
