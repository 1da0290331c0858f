-- A float's pattern. Assumes nothing.
use Rattle.std.specs.Prelude.{ℕ, Bool, true, false, from_bits, Float}
use Rattle.std.specs.Float.{nan, inf, fin, binary64}

-- neither a NaN nor an infinity
abbrev pub is_finite : Float → Bool
is_finite nan = false
is_finite (inf s) = false
is_finite (fin s m e) = true

-- the pattern of a finite number; the others are null in JSON equality
unfoldable pub finite_of : ℕ → Bool
finite_of bits = is_finite (from_bits binary64 bits)
