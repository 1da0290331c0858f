-- The test of a number schema at each kind of floats, and by their patterns. Assumes nothing.
use Rattle.std.proofs.Common.{◌≡◌, ℕ, ◌-◌, ◌*◌, ◌/◌, ◌%◌, ◌^◌, ◌<◌, ◌≤◌, Bool, false, cond, T, ⊎_elim, sym, refl, ap, ◌∙◌, subst, zero-mul, mul-pos, pow_pos, eq-eqb, arith}
use native.Mathlib.Nat.{mod-eq-sub-mul-div, eq_of_mul-eq-mul_right}
use lib.Bits.{bit_and}
use lib.Ieee.{Float, nan, inf, fin, binary64, up, down, round, rem, lt, fits, of_bits}
use lib.Ieee.Bits.{of_bits-fits}
use lib.Ieee.Exact.{HasValue}
use lib.Ieee.Fits.{up_pos}
use Rattle.number.specs.Check.{abs, step, not_multiple_of}
use Rattle.number.specs.Magnitude.{significand_of, power_of, above_step}
use Rattle.number.proofs.Passing.{absent_multiple}
use Rattle.number.proofs.Units.{lt_or_ge}
use Rattle.number.proofs.Remainder.{remainder_exact}
use Rattle.number.proofs.Step.{above-is}
use Rattle.number.proofs.Short.{dividend-left, digits-left}
use Rattle.number.proofs.Magnitudes.{sign, value, infinite, no_number, few-digits, leading-digit, some-digit}

-- ---- no remainder: a NaN or an infinity on the left, a NaN or zero on the right
pub nan_passes : (w : Float) → false ≡ not_multiple_of nan w
unfolding not_multiple_of rem abs lt
nan_passes w = refl

infinity-passes : (s : Bool) (w : Float) → false ≡ not_multiple_of (inf s) w
unfolding not_multiple_of rem abs lt
infinity-passes s w = refl

zero-multiple : (v w : Float) (t : Bool) → HasValue w t 0 (2 ^ 1074) → false ≡ not_multiple_of v w
unfolding not_multiple_of rem abs lt
zero-multiple v nan t h = absurd h
zero-multiple v (inf u) t h = absurd h
zero-multiple nan (fin u n d) t h = refl
zero-multiple (inf s) (fin u n d) t h = refl
zero-multiple (fin s m e) (fin u n d) t h =
    ap (λ (b : Bool). lt step (abs (cond b nan (round binary64 s (m * up e * down d % (n * up d * down e)) (down e * down d))))) (sym (eq-eqb n 0 none))
  where
    none : n ≡ 0
    none =
        eq_of_mul-eq-mul_right (up d) (up_pos d) n 0
        (eq_of_mul-eq-mul_right (2 ^ 1074) (pow_pos 1074) (n * up d) (0 * up d)
        (h.1 ∙ zero-mul (down d) ∙ sym (ap (λ (x : ℕ). x * 2 ^ 1074) (zero-mul (up d)) ∙ zero-mul (2 ^ 1074))))

-- ---- an infinity on the right leaves the left one
infinite-multiple : (v : Float) (s t : Bool) (a : ℕ) → HasValue v s a (2 ^ 1074) → above_step a ≡ not_multiple_of v (inf t)
unfolding not_multiple_of rem
infinite-multiple nan s t a h = absurd h
infinite-multiple (inf u) s t a h = absurd h
infinite-multiple (fin u m e) s t a h = above-is (fin u m e) s a h

-- ---- a and b units leave the remainder of a by b
finite-multiple : (v w : Float) (s t : Bool) (a b : ℕ) → T (fits binary64 v) → T (fits binary64 w) → 0 < b → HasValue v s a (2 ^ 1074) → HasValue w t b (2 ^ 1074) → above_step (a % b) ≡ not_multiple_of v w
unfolding not_multiple_of
finite-multiple v w s t a b X Y B va wb =
    ap above_step (mod-eq-sub-mul-div a b) ∙ above-is (rem binary64 v w) s (a - b * (a / b)) (remainder_exact v w s t a b X Y B va wb)

-- ---- by the patterns p and q, of the magnitudes m and n
module _ (p q m n : ℕ) (left : m ≡ bit_and p (2 ^ 63 - 1)) (right : n ≡ bit_and q (2 ^ 63 - 1)) where
  pub no-dividend : 0x7ff0_0000_0000_0000 ≤ m → false ≡ not_multiple_of (of_bits binary64 p) (of_bits binary64 q)
  no-dividend h =
      ⊎_elim
      (λ (g : 0x7ff0_0000_0000_0000 < m). nan_passes _ ∙ ap (λ (x : Float). not_multiple_of x (of_bits binary64 q)) (sym (no_number p m left g)))
      (λ (g : m ≤ 0x7ff0_0000_0000_0000). infinity-passes _ _ ∙ ap (λ (x : Float). not_multiple_of x (of_bits binary64 q)) (sym (infinite p m left (omega arith))))
      (lt_or_ge 0x7ff0_0000_0000_0000 m)

  pub no-divisor : 0x7ff0_0000_0000_0000 < n → false ≡ not_multiple_of (of_bits binary64 p) (of_bits binary64 q)
  no-divisor h = sym (absent_multiple _) ∙ ap (not_multiple_of (of_bits binary64 p)) (sym (no_number q n right h))

  pub divisor-zero : n ≡ 0 → false ≡ not_multiple_of (of_bits binary64 p) (of_bits binary64 q)
  divisor-zero h =
      let v = value q n right (omega arith) in
      zero-multiple (of_bits binary64 p) (of_bits binary64 q) v.0
      (subst (λ (x : ℕ). HasValue (of_bits binary64 q) v.0 x (2 ^ 1074)) (ap (λ (x : ℕ). significand_of x * 2 ^ power_of x) h) v.1)

  -- both finite
  finite : m < 0x7ff0_0000_0000_0000 → n < 0x7ff0_0000_0000_0000 → 0 < n
      → above_step (significand_of m * 2 ^ power_of m % (significand_of n * 2 ^ power_of n)) ≡ not_multiple_of (of_bits binary64 p) (of_bits binary64 q)
  finite M N P =
      let v = value p m left M in
      let w = value q n right N in
      finite-multiple (of_bits binary64 p) (of_bits binary64 q) v.0 w.0 (significand_of m * 2 ^ power_of m) (significand_of n * 2 ^ power_of n)
      (of_bits-fits binary64 p) (of_bits-fits binary64 q) (mul-pos (some-digit n P) (pow_pos (power_of n))) v.1 w.1

  -- the divisor has the larger power: the dividend is left, as with an infinite divisor
  pub lower : m < 0x7ff0_0000_0000_0000 → n ≤ 0x7ff0_0000_0000_0000 → 0 < n → power_of m < power_of n
      → above_step (significand_of m * 2 ^ power_of m) ≡ not_multiple_of (of_bits binary64 p) (of_bits binary64 q)
  lower M N P h =
      ⊎_elim
      (λ (g : n < 0x7ff0_0000_0000_0000).
      ap above_step (sym (dividend-left (significand_of m) (significand_of n) (power_of m) (power_of n) 52 (few-digits m) (leading-digit n (omega arith)) h)) ∙ finite M g P)
      (λ (g : 0x7ff0_0000_0000_0000 ≤ n).
      let v = value p m left M in
      infinite-multiple (of_bits binary64 p) v.0 (sign q n right) (significand_of m * 2 ^ power_of m) v.1
      ∙ ap (not_multiple_of (of_bits binary64 p)) (sym (infinite q n right (omega arith))))
      (lt_or_ge n 0x7ff0_0000_0000_0000)

  pub higher : m < 0x7ff0_0000_0000_0000 → n ≤ 0x7ff0_0000_0000_0000 → 0 < n → power_of n ≤ power_of m
      → above_step (significand_of m * 2 ^ (power_of m - power_of n) % significand_of n * 2 ^ power_of n) ≡ not_multiple_of (of_bits binary64 p) (of_bits binary64 q)
  higher M N P h =
      ap above_step (sym (digits-left (significand_of m) (significand_of n) (power_of m) (power_of n) (some-digit n P) h))
      ∙ finite M (omega arith) P
