-- Equality of a document's numbers. Assumes nothing.
use Rattle.std.specs.Prelude.{ℕ, ◌/◌, ◌^◌, Bool, true, false, ◌&&◌, ◌==◌, from_bits}
use Rattle.std.specs.Float.{binary64}
use Rattle.std.specs.Float.Ieee.{eq}
use Rattle.number.specs.Nearest.{nearest_of}
use Rattle.number.specs.Pattern.{finite_of}
use Rattle.number.specs.declared.equal.Equality.{Equality}
use Rattle.number.specs.declared.equal.Equality.TheVariants.{Enum, Unique, Standard}
use Rattle.number.specs.declared.equal.Number.{Number}
use Rattle.number.specs.declared.equal.Number.TheVariants.{Integer, Real}

-- an integer and a real never equal each other, save in standard mode, where the integer's nearest f64 is to equal the real
unfoldable pub mixed_of : Equality → ℕ → ℕ → Bool
mixed_of Enum word bits = false
mixed_of Unique word bits = false
mixed_of Standard word bits = eq (nearest_of word) (from_bits binary64 bits)

-- unique tells 0.0 from -0.0: the signs have to agree
abbrev pub signs_agree : Equality → ℕ → ℕ → Bool
signs_agree Enum p q = true
signs_agree Unique p q = p / 2 ^ 63 == q / 2 ^ 63
signs_agree Standard p q = true

-- reals equal reals as numbers, so -0.0 equals 0.0 save in unique; a NaN equals nothing, and an infinity itself
unfoldable pub equal_reals_of : Equality → ℕ → ℕ → Bool
equal_reals_of way p q = eq (from_bits binary64 p) (from_bits binary64 q) && signs_agree way p q

-- integers equal integers, reals equal reals
unfoldable pub equal_numbers_of : Equality → Number → Number → Bool
equal_numbers_of way (Integer x) (Integer y) = x == y
equal_numbers_of way (Integer x) (Real q) = mixed_of way x q
equal_numbers_of way (Real p) (Integer y) = mixed_of way y p
equal_numbers_of way (Real p) (Real q) = equal_reals_of way p q

-- ---- what the laws of equality ask
-- an integer, or the pattern of a finite number
abbrev pub finite_number : Number → Bool
finite_number (Integer x) = true
finite_number (Real p) = finite_of p

-- the ways of source mode
abbrev pub of_source : Equality → Bool
of_source Enum = true
of_source Unique = true
of_source Standard = false
