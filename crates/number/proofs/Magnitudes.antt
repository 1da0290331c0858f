-- What a pattern says of its float, by its magnitude, which is the pattern without the sign: a NaN, an infinity, or so many units. Assumes nothing.
use Rattle.std.proofs.Common.{◌≡◌, ℕ, zero, suc, ◌+◌, ◌-◌, ◌*◌, ◌/◌, ◌%◌, ◌^◌, ◌<◌, ◌≤◌, Bool, true, false, cond, T, eqb, leb, sym, refl, ap, ◌∙◌, subst, ne_eqb, eq-eqb, eqb-true, arith}
use lib.Bits.{bit_and, and_mask}
use lib.Ieee.{Float, nan, inf, binary64, odd, of_fields, of_bits}
use lib.Ieee.Exact.{HasValue, odd_sign}
use Rattle.number.specs.Magnitude.{significand_of, power_of}

-- ---- by the fields
fields-value : (s : Bool) (x t : ℕ) → x < 2047 → HasValue (of_fields binary64 s x t) s (cond (eqb x 0) t (2 ^ 52 + t) * 2 ^ (x - 1)) (2 ^ 1074)
unfolding of_fields
fields-value s zero t h = odd_sign 53 s t 0 1074
fields-value s (suc x) t h = subst (λ (n : ℕ). HasValue (of_fields binary64 s (suc x) t) s n (2 ^ 1074)) (sym units) (go (eqb (suc x) 2047) (ne_eqb (suc x) 2047 (λ e. omega arith)))
  where
    go : (b : Bool) → b ≡ false → HasValue (cond b (cond (eqb t 0) (inf s) nan) (odd 53 s (2 ^ 52 + t) x 1074)) s ((2 ^ 52 + t) * 2 ^ x) (2 ^ 1074)
    go true e = absurd (subst T e tt)
    go false e = odd_sign 53 s (2 ^ 52 + t) x 1074

    units : cond (eqb (suc x) 0) t (2 ^ 52 + t) * 2 ^ (suc x - 1) ≡ (2 ^ 52 + t) * 2 ^ x
    units = ap (λ (b : Bool). cond b t (2 ^ 52 + t) * 2 ^ (suc x - 1)) (ne_eqb (suc x) 0 (λ e. omega arith)) ∙ ap (λ (k : ℕ). (2 ^ 52 + t) * 2 ^ k) (omega arith)

ones-value : (s : Bool) (x t : ℕ) → x ≡ 2047 → of_fields binary64 s x t ≡ cond (eqb t 0) (inf s) nan
unfolding of_fields
ones-value s zero t e = absurd (omega arith)
ones-value s (suc x) t e = ap (λ (b : Bool). cond b (cond (eqb t 0) (inf s) nan) (odd 53 s (2 ^ 52 + t) x 1074)) (eq-eqb (suc x) 2047 e)

-- ---- by the magnitude m, which is what a pattern p is below its sign
module _ (p m : ℕ) (is : m ≡ bit_and p (2 ^ 63 - 1)) where
  masked : p % 2 ^ 63 ≡ m
  masked = sym (is ∙ and_mask p 63)

  abbrev pub sign : Bool
  sign = leb (2 ^ 63) p

  by-fields : of_bits binary64 p ≡ of_fields binary64 sign (m / 2 ^ 52) (m % 2 ^ 52)
  unfolding of_bits
  by-fields = ap (λ (x : ℕ). of_fields binary64 (leb (2 ^ 63) p) (x / 2 ^ 52) (p % 2 ^ 52)) masked ∙ ap (λ (t : ℕ). of_fields binary64 (leb (2 ^ 63) p) (m / 2 ^ 52) t) (low masked)
    where
      low : p % 2 ^ 63 ≡ m → p % 2 ^ 52 ≡ m % 2 ^ 52
      low h = omega arith

  pub value : m < 0x7ff0_0000_0000_0000 → (s : Bool) × HasValue (of_bits binary64 p) s (significand_of m * 2 ^ power_of m) (2 ^ 1074)
  value h = (sign, subst (λ (x : Float). HasValue x sign (significand_of m * 2 ^ power_of m) (2 ^ 1074)) (sym by-fields) (fields-value sign (m / 2 ^ 52) (m % 2 ^ 52) (omega arith)))

  pub infinite : m ≡ 0x7ff0_0000_0000_0000 → of_bits binary64 p ≡ inf sign
  infinite h =
      by-fields
      ∙ ones-value sign (m / 2 ^ 52) (m % 2 ^ 52) (omega arith)
      ∙ ap (λ (b : Bool). cond b (inf sign) nan) (eq-eqb (m % 2 ^ 52) 0 (omega arith))

  pub no_number : 0x7ff0_0000_0000_0000 < m → of_bits binary64 p ≡ nan
  no_number h =
      by-fields
      ∙ ones-value sign (m / 2 ^ 52) (m % 2 ^ 52) (let l : m < 2 ^ 63 = below in omega arith)
      ∙ ap (λ (b : Bool). cond b (inf sign) nan) (ne_eqb (m % 2 ^ 52) 0 (let l : m < 2 ^ 63 = below in λ e. omega arith))
    where
      below : m < 2 ^ 63
      below = let e : p % 2 ^ 63 ≡ m = masked in omega arith

-- ---- the digits of a finite magnitude
pub few-digits : (m : ℕ) → significand_of m < 2 ^ 53
few-digits m = go (eqb (m / 2 ^ 52) 0)
  where
    go : (b : Bool) → cond b (m % 2 ^ 52) (2 ^ 52 + m % 2 ^ 52) < 2 ^ 53
    go true = omega arith
    go false = omega arith

-- above a power of 0 the leading one is there
pub leading-digit : (m : ℕ) → 0 < power_of m → 2 ^ 52 ≤ significand_of m
leading-digit m h = go (eqb (m / 2 ^ 52) 0) (ne_eqb (m / 2 ^ 52) 0 (λ e. omega arith))
  where
    go : (b : Bool) → b ≡ false → 2 ^ 52 ≤ cond b (m % 2 ^ 52) (2 ^ 52 + m % 2 ^ 52)
    go true e = absurd (subst T e tt)
    go false e = omega arith

pub some-digit : (m : ℕ) → 0 < m → 0 < significand_of m
some-digit m h = go (eqb (m / 2 ^ 52) 0) refl
  where
    go : (b : Bool) → eqb (m / 2 ^ 52) 0 ≡ b → 0 < cond b (m % 2 ^ 52) (2 ^ 52 + m % 2 ^ 52)
    go true e = let z : m / 2 ^ 52 ≡ 0 = eqb-true _ _ e in omega arith
    go false e = omega arith
