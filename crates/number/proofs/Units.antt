-- A fitting float in units of the smallest value, 2 ^ -1074: a significand below 2 ^ 53, and a power of two. Assumes nothing.
use Rattle.std.proofs.Common.{◌≡◌, ℕ, zero, suc, ◌+◌, ◌-◌, ◌*◌, ◌%◌, ◌^◌, ◌<◌, ◌≤◌, Bool, true, false, not, ◌&&◌, T, eqb, ltb, leb, ◌⊎◌, ℤ, pos, negsuc, sym, refl, ap, ◌∙◌, subst, inl, inr, ⊎_elim, le_trans, le_of_eq, lt_of_lt_of_le, lt_irrefl, mul-le-mul_right, zero-lt-suc, mul_assoc, mul-pos, one-mul, zero-mul, mul-one, mul_right_comm, arith, lit≤, eqb→eq, ltb→lt, leb→le, nltb→le, pow_pos, pow-add}
use native.Mathlib.Nat.{eq_of_mul-eq-mul_right}
use lib.Pow.{pow-lt}
use lib.Ieee.{fin, binary64, low, up, down, fits}
use lib.Ieee.Exact.{HasValue}
use lib.Ieee.Fits.{up_pos, down_pos, and_l, and_r}

pub lt_or_ge : (a b : ℕ) → (a < b) ⊎ (b ≤ a)
lt_or_ge a b = go (ltb a b) (ltb→lt a b) (nltb→le a b)
  where
    go : (t : Bool) → (T t → a < b) → (T (not t) → b ≤ a) → (a < b) ⊎ (b ≤ a)
    go true h k = inl (h tt)
    go false h k = inr (k tt)

-- x / d = a / u, brought to the denominator d * g
pub scaled : (x a u d g : ℕ) → x * u ≡ a * d → x * g * u ≡ a * (d * g)
scaled x a u d g h = mul_right_comm x g u ∙ ap (λ (z : ℕ). z * g) h ∙ mul_assoc a d g

-- ---- what a fitting float says
pub small : (s : Bool) (m : ℕ) (e : ℤ) → T (fits binary64 (fin s m e)) → m < 2 ^ 53
unfolding fits
small s zero e t = zero-lt-suc _
small s (suc m) e t =
    ltb→lt (suc m) (2 ^ 53) (and_r (eqb (suc m % 2) 1) (ltb (suc m) (2 ^ 53))
    (and_l (eqb (suc m % 2) 1 && ltb (suc m) (2 ^ 53)) (leb (down e) (2 ^ low binary64))
    (and_l (eqb (suc m % 2) 1 && ltb (suc m) (2 ^ 53) && leb (down e) (2 ^ low binary64)) (ltb (suc m * up e) (2 ^ 1024 * down e)) t)))

fine : (s : Bool) (m : ℕ) (e : ℤ) → T (fits binary64 (fin s m e)) → down e ≤ 2 ^ 1074
unfolding fits
fine s zero e t = flat (up e) (down e) (up_pos e) (eqb→eq (up e * down e) 1 t)
  where
    flat : (u d : ℕ) → 0 < u → u * d ≡ 1 → d ≤ 2 ^ 1074
    flat u d U h = le_trans (le_trans (le_of_eq (sym (one-mul d))) (mul-le-mul_right d U)) (le_trans (le_of_eq h) (lit≤ tt))
fine s (suc m) e t =
    leb→le (down e) (2 ^ 1074) (and_r (eqb (suc m % 2) 1 && ltb (suc m) (2 ^ 53)) (leb (down e) (2 ^ 1074))
    (and_l (eqb (suc m % 2) 1 && ltb (suc m) (2 ^ 53) && leb (down e) (2 ^ 1074)) (ltb (suc m * up e) (2 ^ 1024 * down e)) t))

exponent : (k l : ℕ) → 2 ^ k ≤ 2 ^ l → k ≤ l
exponent k l h = ⊎_elim (λ g. absurd (lt_irrefl (2 ^ l) (lt_of_lt_of_le (pow-lt g) h))) (λ g. g) (lt_or_ge l k)

-- its value is below 2 ^ 1024
pub bounded : (s : Bool) (m : ℕ) (e : ℤ) → T (fits binary64 (fin s m e)) → m * up e < 2 ^ 1024 * down e
unfolding fits
bounded s zero e t = subst (λ (x : ℕ). x < 2 ^ 1024 * down e) (sym (zero-mul (up e))) (mul-pos (pow_pos 1024) (down_pos e))
bounded s (suc m) e t =
    ltb→lt (suc m * up e) (2 ^ 1024 * down e)
    (and_r (eqb (suc m % 2) 1 && ltb (suc m) (2 ^ 53) && leb (down e) (2 ^ low binary64)) (ltb (suc m * up e) (2 ^ 1024 * down e)) t)

pub again : (j k : ℕ) → k ≤ j → j - k + k ≡ j
again j k h = omega arith

in_units : (s : Bool) (m : ℕ) (e : ℤ) → T (fits binary64 (fin s m e)) → (j : ℕ) × (m * up e * 2 ^ 1074 ≡ m * 2 ^ j * down e)
in_units s m (pos k) t = (k + 1074, mul_assoc m (2 ^ k) (2 ^ 1074) ∙ ap (λ (x : ℕ). m * x) (sym (pow-add 2 k 1074)) ∙ sym (mul-one (m * 2 ^ (k + 1074))))
in_units s m (negsuc k) t =
    let l : suc k ≤ 1074 = exponent (suc k) 1074 (fine s m (negsuc k) t) in (
      1074 - suc k,
      ap (λ (x : ℕ). x * 2 ^ 1074) (mul-one m)
          ∙ ap (λ (x : ℕ). m * x) (ap (λ (x : ℕ). 2 ^ x) (sym (again 1074 (suc k) l)) ∙ pow-add 2 (1074 - suc k) (suc k))
          ∙ sym (mul_assoc m (2 ^ (1074 - suc k)) (2 ^ suc k)),
    )

-- a fitting float of so many units is its significand times a power of two
pub units_are : (s : Bool) (m : ℕ) (e : ℤ) (Y : ℕ) → T (fits binary64 (fin s m e)) → m * up e * 2 ^ 1074 ≡ Y * down e → (j : ℕ) × (Y ≡ m * 2 ^ j)
units_are s m e Y t h = let u = in_units s m e t in (u.0, eq_of_mul-eq-mul_right (down e) (down_pos e) Y (m * 2 ^ u.0) (sym h ∙ u.1))

-- each finite value of the format is a whole number of units
pub has_units : (s : Bool) (m : ℕ) (e : ℤ) → T (fits binary64 (fin s m e)) → (a : ℕ) × HasValue (fin s m e) s a (2 ^ 1074)
has_units s m e t = let u = in_units s m e t in (m * 2 ^ u.0, (refl, u.1))
