-- On finite reals unique's equality is that of the patterns. Assumes nothing.
use Rattle.std.proofs.Common.{◌≡◌, ℕ, zero, suc, ◌+◌, ◌-◌, ◌*◌, ◌/◌, ◌%◌, ◌^◌, ◌<◌, ◌≤◌, Bool, true, false, cond, not, T, eqb, leb, sym, refl, ap, ◌∙◌, subst, ap₂, mul_right_comm, arith, eq-eqb, eqb-true, le-leb, leb-true}
use mathlib.Core.Bool.{false≢true}
use lib.Ieee.{Float, nan, inf, fin, binary64, up, down, size, odd, eq, of_fields, of_bits, to_bits, is_nan}
use lib.Ieee.Bits.{to_bits-of_bits}
use lib.Ieee.Fits.{down_pos}
use lib.Ieee.Nearest.{div_same}
use Rattle.number.specs.Pattern.{is_finite, finite_of}
use Rattle.number.specs.Equal.{equal_reals_of, equal_numbers_of}
use Rattle.number.specs.declared.equal.Equality.TheVariants.{Unique}
use Rattle.number.specs.declared.equal.Number.TheVariants.{Real}
use Rattle.text.specs.Choice.{same_test}
use Rattle.number.proofs.Equalities.{both, level_true, equal_refl}

-- ---- the sign of a finite number is its pattern's highest bit
abbrev sign_of : Float → Bool
sign_of nan = false
sign_of (inf s) = s
sign_of (fin s m e) = s

odd_sign : (d : ℕ) (s : Bool) (q k l : ℕ) → sign_of (odd d s q k l) ≡ s
unfolding odd
odd_sign d s zero k l = refl
odd_sign d s (suc q) k l = refl

fields-sign : (s : Bool) (x t : ℕ) → is_finite (of_fields binary64 s x t) ≡ true → sign_of (of_fields binary64 s x t) ≡ s
unfolding of_fields
fields-sign s zero t h = odd_sign 53 s t 0 1074
fields-sign s (suc x) t h = go (eqb (suc x) 2047) (eqb t 0) h
  where
    go : (b z : Bool) → is_finite (cond b (cond z (inf s) nan) (odd 53 s (2 ^ 52 + t) x 1074)) ≡ true → sign_of (cond b (cond z (inf s) nan) (odd 53 s (2 ^ 52 + t) x 1074)) ≡ s
    go true true h = refl
    go true false h = absurd (false≢true h)
    go false z h = odd_sign 53 s (2 ^ 52 + t) x 1074

pattern_sign : (p : ℕ) → is_finite (of_bits binary64 p) ≡ true → sign_of (of_bits binary64 p) ≡ leb (2 ^ 63) p
unfolding of_bits
pattern_sign p h = fields-sign (leb (2 ^ 63) p) (p % 2 ^ 63 / 2 ^ 52) (p % 2 ^ 52) h

same_bit : (p q : ℕ) → p < 2 ^ 64 → q < 2 ^ 64 → p / 2 ^ 63 ≡ q / 2 ^ 63 → leb (2 ^ 63) p ≡ leb (2 ^ 63) q
same_bit p q P Q e = same_test (leb (2 ^ 63) p) (leb (2 ^ 63) q) (λ h. le-leb (2 ^ 63) q (up_to p q e (leb-true (2 ^ 63) p h))) (λ h. le-leb (2 ^ 63) p (up_to q p (sym e) (leb-true (2 ^ 63) q h)))
  where
    up_to : (p q : ℕ) → p / 2 ^ 63 ≡ q / 2 ^ 63 → 2 ^ 63 ≤ p → 2 ^ 63 ≤ q
    up_to p q e h = omega arith

-- ---- equal finite numbers of one sign have one pattern
abbrev written : Bool → ℕ → ℕ
written s n = cond s (2 ^ 63) 0 + (size n - 53) * 2 ^ 52 + n / 2 ^ (size n - 53)

same_written : (x y : Float) → is_finite x ≡ true → is_finite y ≡ true → eq x y ≡ true → sign_of x ≡ sign_of y → to_bits binary64 x ≡ to_bits binary64 y
unfolding eq to_bits
same_written nan y f g h k = absurd (false≢true f)
same_written (inf s) y f g h k = absurd (false≢true f)
same_written (fin s m e) nan f g h k = absurd (false≢true g)
same_written (fin s m e) (inf t) f g h k = absurd (false≢true g)
same_written (fin s m e) (fin t n d) f g h k =
    ap₂ written k
    (div_same (m * up e * 2 ^ 1074) (down e) (n * up d * 2 ^ 1074) (down d) (down_pos e) (down_pos d)
    (mul_right_comm (m * up e) (2 ^ 1074) (down d)
    ∙ ap (λ (z : ℕ). z * 2 ^ 1074) (level_true s (m * up e * down d) t (n * up d * down e) h).0
    ∙ mul_right_comm (n * up d) (down e) (2 ^ 1074)))

no_nan : (x : Float) → is_finite x ≡ true → T (not (is_nan x))
unfolding is_nan
no_nan nan h = absurd (false≢true h)
no_nan (inf s) h = tt
no_nan (fin s m e) h = tt

unique_same : (p q : ℕ) → p < 2 ^ 64 → q < 2 ^ 64 → finite_of p ≡ true → finite_of q ≡ true → equal_numbers_of Unique (Real p) (Real q) ≡ true → p ≡ q
unfolding equal_numbers_of equal_reals_of finite_of
unique_same p q P Q f g h =
    let x = of_bits binary64 p in
    let y = of_bits binary64 q in
    let k = both (eq x y) (eqb (p / 2 ^ 63) (q / 2 ^ 63)) h in
    let s : sign_of x ≡ sign_of y = pattern_sign p f ∙ same_bit p q P Q (eqb-true _ _ k.1) ∙ sym (pattern_sign q g) in
    sym (to_bits-of_bits binary64 p P (no_nan x f)) ∙ same_written x y f g k.0 s ∙ to_bits-of_bits binary64 q Q (no_nan y g)

pub unique_patterns : (p q : ℕ) → p < 2 ^ 64 → q < 2 ^ 64 → finite_of p ≡ true → finite_of q ≡ true → equal_numbers_of Unique (Real p) (Real q) ≡ eqb p q
unique_patterns p q P Q f g =
    same_test (equal_numbers_of Unique (Real p) (Real q)) (eqb p q)
    (λ h. eq-eqb p q (unique_same p q P Q f g h))
    (λ h. subst (λ (r : ℕ). equal_numbers_of Unique (Real p) (Real r) ≡ true) (eqb-true p q h) (equal_refl Unique (Real p) f))
