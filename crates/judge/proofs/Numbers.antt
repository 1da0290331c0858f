-- A number schema, test by test. Assumes nothing.
use mathlib.Core.Path.{◌≡◌, refl, sym, ap, ◌∙◌}
use mathlib.Core.List.{List}
use Prim.Native.Nat.{ℕ, ◌+◌, ◌<◌}
use lib.ListN.{get_or}
use lib.Ieee.{Float, nan, binary64, of_bits}
use Rattle.number.specs.declared.tests.Bounds.{Bounds}
use Rattle.layout.specs.Layout.{schema_word}
use Rattle.schema.specs.Look.{own_words}
use Rattle.schema.proofs.Slices.{own_word}
use Rattle.judge.specs.Judge.{real_at, bounds_of}

-- the pattern of the one NaN
pub nan_pattern : of_bits binary64 0x7ff8000000000000 ≡ nan
unfolding of_bits
nan_pattern = refl

-- bound k of a number schema, as the code reads it
pub bound_at : (numbers schemas : List ℕ) (s k : ℕ) {x : Float} {place : ℕ} → k < 14 → x ≡ real_at numbers place → place ≡ schema_word schemas s (2 + k) → x ≡ real_at numbers (get_or (own_words schemas s 2 14) k 0)
bound_at numbers schemas s k h p q = p ∙ ap (real_at numbers) (q ∙ sym (own_word schemas s 2 14 k h))

pub bounds_are : (numbers words : List ℕ) {a b c d e : Float} → a ≡ real_at numbers (get_or words 0 0) → b ≡ real_at numbers (get_or words 1 0) → c ≡ real_at numbers (get_or words 2 0) → d ≡ real_at numbers (get_or words 3 0) → e ≡ real_at numbers (get_or words 4 0) → ◌≡◌ {A = Bounds} (record { minimum = a; maximum = b; exclusive_minimum = c; exclusive_maximum = d; multiple_of = e }) (bounds_of numbers words)
unfolding bounds_of
bounds_are numbers words p q r s t =
    λ i. record {
      minimum = p i;
      maximum = q i;
      exclusive_minimum = r i;
      exclusive_maximum = s i;
      multiple_of = t i;
    }
