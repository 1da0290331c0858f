-- The remainder of two finite numbers is exact: nothing is rounded in it. In units of the smallest value, 2 ^ -1074. Assumes nothing.
use Rattle.std.proofs.Common.{◌≡◌, ℕ, zero, suc, ◌+◌, ◌-◌, ◌*◌, ◌/◌, ◌%◌, ◌^◌, ◌<◌, ◌≤◌, Bool, cond, T, ℤ, sym, refl, ap, ◌∙◌, subst, ⊎_elim, lt_trans, le_of_eq, lt_of_lt_of_le, lt_of_le_of_lt, le_of_lt, lt_irrefl, mod-lt, mul_assoc, mul_comm, add-mul, lt_of_mul-lt-mul_right, mul-lt-mul_of_pos_right, mul-pos, div-add-mod', zero-mul, mul-one, mul_right_comm, arith, pow_pos, pow-add, ne_eqb}
use native.Mathlib.Nat.{mod-le, mod-eq-sub-mul-div, eq_of_mul-eq-mul_right}
use lib.Arith.{digits_mod}
use lib.Ieee.{Float, nan, inf, fin, binary64, up, down, round, rem, fits}
use lib.Ieee.Fits.{down_pos}
use lib.Ieee.Exact.{HasValue, round_exact}
use Rattle.number.proofs.Units.{small, bounded, units_are, lt_or_ge, again, scaled}

pub mod_scale : (a b c : ℕ) → 0 < b → 0 < c → a * c % (b * c) ≡ a % b * c
mod_scale a b c B C =
    ap (λ (x : ℕ). x * c % (b * c)) (sym (div-add-mod' a b))
    ∙ ap (λ (x : ℕ). x % (b * c)) (add-mul (a / b * b) (a % b) c ∙ ap (λ (x : ℕ). x + a % b * c) (mul_assoc (a / b) b c))
    ∙ digits_mod (a / b) (mul-lt-mul_of_pos_right (mod-lt a B) C)

-- a number of few digits times a power of two
record Short (x : ℕ) : Type 0 where
  digits : ℕ
  power : ℕ
  few : digits < 2 ^ 53
  whole : x ≡ digits * 2 ^ power

pub move : (m i j : ℕ) → i ≤ j → m * 2 ^ j ≡ m * 2 ^ (j - i) * 2 ^ i
move m i j h = ap (λ (x : ℕ). m * x) (ap (λ (x : ℕ). 2 ^ x) (sym (again j i h)) ∙ pow-add 2 (j - i) i) ∙ sym (mul_assoc m (2 ^ (j - i)) (2 ^ i))

-- so is the remainder of two such: its digits are no more than those of the one with the smaller power
short_rest : (m n i j : ℕ) → m < 2 ^ 53 → n < 2 ^ 53 → 0 < n → Short (m * 2 ^ i % (n * 2 ^ j))
short_rest m n i j M N P = ⊎_elim (λ h. finer (le_of_lt h)) coarser (lt_or_ge i j)
  where
    finer : i ≤ j → Short (m * 2 ^ i % (n * 2 ^ j))
    finer h = record {
      digits = m % (n * 2 ^ (j - i));
      power = i;
      few = lt_of_le_of_lt (mod-le m (n * 2 ^ (j - i))) M;
      whole = ap (λ (x : ℕ). m * 2 ^ i % x) (move n i j h) ∙ mod_scale m (n * 2 ^ (j - i)) (2 ^ i) (mul-pos P (pow_pos (j - i))) (pow_pos i);
    }

    coarser : j ≤ i → Short (m * 2 ^ i % (n * 2 ^ j))
    coarser h = record {
      digits = m * 2 ^ (i - j) % n;
      power = j;
      few = lt_trans (mod-lt (m * 2 ^ (i - j)) P) N;
      whole = ap (λ (x : ℕ). x % (n * 2 ^ j)) (move m j i h) ∙ mod_scale (m * 2 ^ (i - j)) n (2 ^ j) P (pow_pos j);
    }

-- one value, written as two fractions
same_value : (x : Float) (s : Bool) (a c a' c' : ℕ) → 0 < c → a * c' ≡ a' * c → HasValue x s a c → HasValue x s a' c'
same_value nan s a c a' c' C h v = absurd v
same_value (inf t) s a c a' c' C h v = absurd v
same_value (fin t m e) s a c a' c' C h v = (
  v.0,
  eq_of_mul-eq-mul_right c C (m * up e * c') (a' * down e)
      (mul_right_comm (m * up e) c' c
      ∙ ap (λ (x : ℕ). x * c') v.1
      ∙ mul_right_comm a (down e) c'
      ∙ ap (λ (x : ℕ). x * down e) h
      ∙ mul_right_comm a' c (down e)),
)

not_zero : (n u p b d : ℕ) → n * u * p ≡ b * d → 0 < b → 0 < d → n ≡ 0 → ⊥
not_zero n u p b d h B D e =
    lt_irrefl 0 (subst (λ (x : ℕ). 0 < x) (sym h ∙ ap (λ (x : ℕ). x * u * p) e ∙ ap (λ (x : ℕ). x * p) (zero-mul u) ∙ zero-mul p) (mul-pos B D))

positive : (n : ℕ) → (n ≡ 0 → ⊥) → 0 < n
positive zero h = absurd (h refl)
positive (suc n) h = omega arith

module _ (s t : Bool) (m n : ℕ) (e d : ℤ) (a b : ℕ) (X : T (fits binary64 (fin s m e))) (Y : T (fits binary64 (fin t n d))) (B : 0 < b) (va : m * up e * 2 ^ 1074 ≡ a * down e) (wb : n * up d * 2 ^ 1074 ≡ b * down d) where
  abbrev D : ℕ
  D = down e * down d

  abbrev rest : ℕ
  rest = m * up e * down d % (n * up d * down e)

  some : 0 < D
  some = mul-pos (down_pos e) (down_pos d)

  divisor : n * up d * down e * 2 ^ 1074 ≡ b * D
  divisor = scaled (n * up d) b (2 ^ 1074) (down d) (down e) wb ∙ ap (λ (z : ℕ). b * z) (mul_comm (down d) (down e))

  rest_is : rest * 2 ^ 1074 ≡ a % b * D
  rest_is =
      sym (mod_scale (m * up e * down d) (n * up d * down e) (2 ^ 1074) (positive _ (λ z. not_zero _ 1 (2 ^ 1074) b D (ap (λ (x : ℕ). x * 2 ^ 1074) (mul-one _) ∙ divisor) B some z)) (pow_pos 1074))
      ∙ ap (λ (x : ℕ). x % (n * up d * down e * 2 ^ 1074)) (scaled (m * up e) a (2 ^ 1074) (down e) (down d) va)
      ∙ ap (λ (x : ℕ). a * D % x) divisor
      ∙ mod_scale a b D B some

  below : b < 2 ^ 2098
  below =
      lt_of_mul-lt-mul_right (down d)
      (lt_of_le_of_lt (le_of_eq (sym wb))
      (lt_of_lt_of_le (mul-lt-mul_of_pos_right (bounded t n d Y) (pow_pos 1074))
      (le_of_eq (mul_right_comm (2 ^ 1024) (down d) (2 ^ 1074) ∙ ap (λ (x : ℕ). x * down d) (sym (pow-add 2 1024 1074))))))

  short : Short (a % b)
  short =
      let x = units_are s m e a X va in
      let y = units_are t n d b Y wb in
      subst (λ (k : ℕ). Short (k % b)) (sym x.1)
      (subst (λ (k : ℕ). Short (m * 2 ^ x.0 % k)) (sym y.1)
      (short_rest m n x.0 y.0 (small s m e X) (small t n d Y) (positive n (not_zero n (up d) (2 ^ 1074) b (down d) wb B (down_pos d)))))

  unrounded : HasValue (round binary64 s rest D) s (a % b) (2 ^ 1074)
  unrounded =
      same_value (round binary64 s rest D) s rest D (a % b) (2 ^ 1074) some rest_is
      (round_exact binary64 s rest D short.digits short.power some short.few
      (lt_of_le_of_lt (le_of_eq (sym short.whole)) (lt_trans (mod-lt a B) below))
      (rest_is ∙ ap (λ (x : ℕ). x * D) short.whole))

-- for finite v = ±a and w = ±b, b not 0: v % w is exactly v - w * q, where q is v / w cut towards zero, and has the sign of v
pub remainder_exact : (v w : Float) (s t : Bool) (a b : ℕ) → T (fits binary64 v) → T (fits binary64 w) → 0 < b → HasValue v s a (2 ^ 1074) → HasValue w t b (2 ^ 1074)
    → HasValue (rem binary64 v w) s (a - b * (a / b)) (2 ^ 1074)
unfolding rem
remainder_exact nan w s t a b X Y B va wb = absurd va
remainder_exact (inf p) w s t a b X Y B va wb = absurd va
remainder_exact (fin p m e) nan s t a b X Y B va wb = absurd wb
remainder_exact (fin p m e) (inf q) s t a b X Y B va wb = absurd wb
remainder_exact (fin p m e) (fin q n d) s t a b X Y B va wb =
    subst (λ (k : ℕ). HasValue (rem binary64 (fin p m e) (fin q n d)) s k (2 ^ 1074)) (mod-eq-sub-mul-div a b)
    (subst (λ (c : Bool). HasValue (cond c nan (round binary64 p (m * up e * down d % (n * up d * down e)) (down e * down d))) s (a % b) (2 ^ 1074))
    (sym (ne_eqb n 0 (not_zero n (up d) (2 ^ 1074) b (down d) wb.1 B (down_pos d))))
    (subst (λ (z : Bool). HasValue (round binary64 p (m * up e * down d % (n * up d * down e)) (down e * down d)) z (a % b) (2 ^ 1074)) va.0
    (unrounded p q m n e d a b X Y B va.1 wb.1)))
