-- Which patterns are a NaN's, and which are a finite number's, by one comparison of the magnitude. Assumes nothing.
use Rattle.std.proofs.Common.{◌≡◌, ℕ, zero, suc, ◌+◌, ◌/◌, ◌%◌, ◌^◌, ◌<◌, ◌≤◌, Bool, true, false, cond, not, T, eqb, ltb, leb, sym, refl, ap, ◌∙◌, subst, arith, ltb-false, ltb-true, le-ltb, lt-ltb, eq-eqb, ne_eqb}
use lib.Bits.{bit_and, and_mask}
use lib.Ieee.{Float, nan, inf, fin, eq, binary64, top, odd, of_fields, of_bits, nan_bits, is_nan}
use lib.Ieee.Bits.{nan_bits_is, nan_bits_above}
use Rattle.number.specs.Pattern.{is_finite, finite_of}

-- a pattern is a NaN's where its magnitude is above that of an infinity
pub nan_above : (p : ℕ) → 0x7ff0_0000_0000_0000 < bit_and p 0x7fff_ffff_ffff_ffff → nan_bits binary64 p ≡ true
nan_above p h = nan_bits_above binary64 p ∙ lt-ltb 0x7ff0_0000_0000_0000 (p % 2 ^ 63) (subst (λ (n : ℕ). 0x7ff0_0000_0000_0000 < n) (and_mask p 63) h)

pub nan_not : (p : ℕ) → bit_and p 0x7fff_ffff_ffff_ffff ≤ 0x7ff0_0000_0000_0000 → nan_bits binary64 p ≡ false
nan_not p h = nan_bits_above binary64 p ∙ le-ltb 0x7ff0_0000_0000_0000 (p % 2 ^ 63) (subst (λ (n : ℕ). n ≤ 0x7ff0_0000_0000_0000) (and_mask p 63) h)

pub only_nan : (x : Float) → is_nan x ≡ true → x ≡ nan
unfolding is_nan
only_nan nan e = refl
only_nan (inf s) e = absurd (subst T (sym e) tt)
only_nan (fin s m f) e = absurd (subst T (sym e) tt)

pub is_nan_lem : (p : ℕ) → nan_bits binary64 p ≡ true → of_bits binary64 p ≡ nan
is_nan_lem p e = only_nan (of_bits binary64 p) (sym (nan_bits_is binary64 p) ∙ e)

-- what equals itself is no NaN, so it has a pattern of its own
pub equal_itself_no_nan : (x : Float) → eq x x ≡ true → T (not (is_nan x))
unfolding eq is_nan
equal_itself_no_nan nan e = subst T (sym e) tt
equal_itself_no_nan (inf s) e = tt
equal_itself_no_nan (fin s m f) e = tt

-- a pattern is a finite number's where its magnitude is below that of an infinity
odd_finite : (d : ℕ) (s : Bool) (q k l : ℕ) → is_finite (odd d s q k l) ≡ true
unfolding odd
odd_finite d s zero k l = refl
odd_finite d s (suc q) k l = refl

fields_finite : (s : Bool) (x t : ℕ) → is_finite (of_fields binary64 s x t) ≡ not (eqb x 2047)
unfolding of_fields
fields_finite s zero t = odd_finite 53 s t 0 1074
fields_finite s (suc x) t = go (eqb (suc x) 2047) (eqb t 0)
  where
    go : (b z : Bool) → is_finite (cond b (cond z (inf s) nan) (odd 53 s (2 ^ 52 + t) x 1074)) ≡ not b
    go true true = refl
    go true false = refl
    go false z = odd_finite 53 s (2 ^ 52 + t) x 1074

below_ones : (r : ℕ) → r < 2 ^ 63 → ltb r 0x7ff0_0000_0000_0000 ≡ not (eqb (r / 2 ^ 52) 2047)
below_ones r h = go (ltb r 0x7ff0_0000_0000_0000) refl
  where
    go : (b : Bool) → ltb r 0x7ff0_0000_0000_0000 ≡ b → b ≡ not (eqb (r / 2 ^ 52) 2047)
    go true e = let l : r < 0x7ff0_0000_0000_0000 = ltb-true _ _ e in sym (ap not (ne_eqb (r / 2 ^ 52) 2047 (λ q. omega arith)))
    go false e = let l : 0x7ff0_0000_0000_0000 ≤ r = ltb-false _ _ e in sym (ap not (eq-eqb (r / 2 ^ 52) 2047 (omega arith)))

pub finite_below : (p : ℕ) → ltb (bit_and p 0x7fff_ffff_ffff_ffff) 0x7ff0_0000_0000_0000 ≡ finite_of p
unfolding finite_of of_bits
finite_below p =
    ap (λ (r : ℕ). ltb r 0x7ff0_0000_0000_0000) (and_mask p 63)
    ∙ below_ones (p % 2 ^ 63) (omega arith)
    ∙ sym (fields_finite (leb (top binary64) p) (p % 2 ^ 63 / 2 ^ 52) (p % 2 ^ 52))
