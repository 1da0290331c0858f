-- What the pattern of a finite float says of its size, in units of the smallest value, 2 ^ -1074: a significand times a power of two. Assumes nothing.
use Rattle.std.specs.Prelude.{ℕ, ◌+◌, ◌-◌, ◌/◌, ◌%◌, ◌^◌, Bool, cond, eqb, ltb}

-- of a pattern without its sign: the digits, and the leading one unless the exponent's field is 0
abbrev pub significand_of : ℕ → ℕ
significand_of pattern = cond (eqb (pattern / 2 ^ 52) 0) (pattern % 2 ^ 52) (2 ^ 52 + pattern % 2 ^ 52)

-- the exponent's field less one, and 0 for a field of 0
abbrev pub power_of : ℕ → ℕ
power_of pattern = pattern / 2 ^ 52 - 1

-- so many units are more than 2 ^ -52
unfoldable pub above_step : ℕ → Bool
above_step units = ltb (2 ^ 1022) units
