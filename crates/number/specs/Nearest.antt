-- An integer as a float. Assumes nothing.
use Rattle.std.specs.Prelude.{◌≡◌, ℕ, suc, ◌+◌, ◌-◌, ◌*◌, ◌%◌, ◌^◌, ◌<◌, ◌≤◌, Bool, true, false, cond, T, ℤ, pos, negsuc, nat_lt, unsigned_abs, Float}
use Rattle.std.specs.Bool.{beq}
use Rattle.std.specs.Float.{fin, binary64}
use Rattle.std.specs.Float.Ieee.{fits, of_int}
use Rattle.std.specs.Float.Ieee.Exact.{HasValue}

-- the integer whose two's complement of 64 bits is w
abbrev pub signed : ℕ → ℤ
signed w = cond (nat_lt w (2 ^ 63)) (pos w) (negsuc (2 ^ 64 - suc w))

-- integers become the nearest f64, ties to even, over all of i64
unfoldable pub nearest_of : ℕ → Float
nearest_of w = of_int binary64 (signed w)

-- ---- what nearest means, with no rounding in it. A value is a sign and a magnitude, and magnitudes are counted in units of the smallest value, 2 ^ -1074
-- the sign of an integer
abbrev pub negative : ℤ → Bool
negative (pos n) = false
negative (negsuc n) = true

-- how far a and b are apart
abbrev pub gap : ℕ → ℕ → ℕ
gap a b = (a - b) + (b - a)

-- how far ±a and ±b are apart
abbrev pub apart : Bool → ℕ → Bool → ℕ → ℕ
apart s a t b = cond (beq s t) (gap a b) (a + b)

-- the significand of a value of so many units, in its one form of 53 digits, is even
pub record EvenSignificand (units : ℕ) : Type 0 where
  pub significand : ℕ
  pub power : ℕ
  pub whole : units ≡ significand * 2 ^ power
  pub least : 2 ^ 52 ≤ significand
  pub most : significand < 2 ^ 53
  pub even : significand % 2 ≡ 0

-- x is a finite value of the format, no other lies nearer to ±n, and where another value is as near, the significand of x is even
pub record NearestTo (s : Bool) (n : ℕ) (x : Float) : Type 0 where
  pub held : T (fits binary64 x)
  pub sign : Bool
  pub units : ℕ
  pub value : HasValue x sign units (2 ^ 1074)
  pub best : (t : Bool) (m : ℕ) (e : ℤ) (other : ℕ) → T (fits binary64 (fin t m e)) → HasValue (fin t m e) t other (2 ^ 1074)
      → apart sign units s (n * 2 ^ 1074) ≤ apart t other s (n * 2 ^ 1074)
  pub ties : (t : Bool) (m : ℕ) (e : ℤ) (other : ℕ) → T (fits binary64 (fin t m e)) → HasValue (fin t m e) t other (2 ^ 1074)
      → apart sign units s (n * 2 ^ 1074) ≡ apart t other s (n * 2 ^ 1074) → 0 < apart sign units t other → EvenSignificand units

-- x is the f64 nearest to the integer z, ties to even
abbrev pub Nearest : ℤ → Float → Type 0
Nearest z x = NearestTo (negative z) (unsigned_abs z) x
