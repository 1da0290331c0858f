-- Which numbers r * 2 ^ k are above 2 ^ t, by r and k alone; and that a float of so many units is above 2 ^ -52. Assumes nothing.
use Rattle.std.proofs.Common.{◌≡◌, ℕ, ◌+◌, ◌-◌, ◌*◌, ◌^◌, ◌<◌, ◌≤◌, Bool, true, false, ltb, sym, refl, ap, ◌∙◌, ap₂, lt_of_lt_of_le, le_of_lt, le_of_eq, le_trans, zero-mul, one-mul, mul_assoc, mul_comm, mul-lt-mul_of_pos_right, mul-le-mul_right, pow_pos, pow_mono, pow-add, le-ltb, lt-ltb, ltb-true, ltb-false}
use lib.Pow.{pow-lt}
use lib.Ieee.{Float, nan, inf, fin, up, down, lt}
use lib.Ieee.Exact.{HasValue}
use lib.Ieee.Fits.{down_pos}
use Rattle.number.specs.Check.{abs, step}
use Rattle.number.specs.Magnitude.{above_step}
use Rattle.number.proofs.Units.{again}

-- ---- tests of one order
same-order : (a b c d : ℕ) → (a < b → c < d) → (b ≤ a → d ≤ c) → ltb a b ≡ ltb c d
same-order a b c d f g = go (ltb a b) refl
  where
    go : (t : Bool) → ltb a b ≡ t → t ≡ ltb c d
    go true e = sym (lt-ltb c d (f (ltb-true a b e)))
    go false e = sym (le-ltb c d (g (ltb-false a b e)))

scale : (a b c : ℕ) → 0 < c → ltb a b ≡ ltb (a * c) (b * c)
scale a b c h = same-order a b (a * c) (b * c) (λ k. mul-lt-mul_of_pos_right k h) (λ k. mul-le-mul_right c k)

-- ---- r * 2 ^ k against 2 ^ t
module _ (t r k : ℕ) where
  pub past : t < k → ltb 0 r ≡ ltb (2 ^ t) (r * 2 ^ k)
  past h =
      same-order 0 r (2 ^ t) (r * 2 ^ k)
      (λ p. lt_of_lt_of_le (pow-lt h) (le_trans (le_of_eq (sym (one-mul (2 ^ k)))) (mul-le-mul_right (2 ^ k) p)))
      (λ z. le_trans (mul-le-mul_right (2 ^ k) z) (le_trans (le_of_eq (zero-mul (2 ^ k))) (le_of_lt (pow_pos t))))

  pub short-of : (d : ℕ) → r < 2 ^ d → d + k ≤ t → false ≡ ltb (2 ^ t) (r * 2 ^ k)
  short-of d f h =
      sym (le-ltb (2 ^ t) (r * 2 ^ k)
      (le_of_lt (lt_of_lt_of_le (mul-lt-mul_of_pos_right f (pow_pos k)) (le_trans (le_of_eq (sym (pow-add 2 d k))) (pow_mono h)))))

  pub within : k ≤ t → ltb (2 ^ (t - k)) r ≡ ltb (2 ^ t) (r * 2 ^ k)
  within h =
      scale (2 ^ (t - k)) r (2 ^ k) (pow_pos k)
      ∙ ap (λ (x : ℕ). ltb x (r * 2 ^ k)) (sym (pow-add 2 (t - k) k) ∙ ap (λ (x : ℕ). 2 ^ x) (again t k h))

-- ---- a float of n units
-- m / d of 2 ^ -l and n / (2 ^ (j + l)) are one number
compared : (m d n j l : ℕ) → 0 < d → m * 2 ^ (j + l) ≡ n * d → ltb d (m * 2 ^ l) ≡ ltb (2 ^ j) n
compared m d n j l D h =
    scale d (m * 2 ^ l) (2 ^ j) (pow_pos j)
    ∙ ap₂ ltb (mul_comm d (2 ^ j)) (mul_assoc m (2 ^ l) (2 ^ j) ∙ ap (λ (x : ℕ). m * x) (mul_comm (2 ^ l) (2 ^ j) ∙ sym (pow-add 2 j l)) ∙ h)
    ∙ sym (scale (2 ^ j) n d D)

pub above-is : (x : Float) (s : Bool) (n : ℕ) → HasValue x s n (2 ^ 1074) → above_step n ≡ lt step (abs x)
unfolding lt abs above_step
above-is nan s n v = absurd v
above-is (inf t) s n v = absurd v
above-is (fin t m e) s n v =
    sym (ap (λ (x : ℕ). ltb x (m * up e * 2 ^ 52)) (one-mul (down e)) ∙ compared (m * up e) (down e) n 1022 52 (down_pos e) v.1)
