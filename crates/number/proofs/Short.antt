-- The remainder of two numbers x * 2 ^ i and y * 2 ^ j of few digits. Assumes nothing.
use Rattle.std.proofs.Common.{◌≡◌, ℕ, ◌+◌, ◌-◌, ◌*◌, ◌%◌, ◌^◌, ◌<◌, ◌≤◌, sym, ap, ◌∙◌, le_of_eq, le_trans, lt_of_lt_of_le, mul-lt-mul_of_pos_right, mul-le-mul_right, mod-eq_of_lt, pow_pos, pow_mono, pow-add, arith}
use Rattle.number.proofs.Remainder.{mod_scale, move}

-- where the divisor has the larger power and its leading digit, the dividend is smaller, and is the remainder
pub dividend-left : (x y i j d : ℕ) → x < 2 ^ (d + 1) → 2 ^ d ≤ y → i < j → x * 2 ^ i % (y * 2 ^ j) ≡ x * 2 ^ i
dividend-left x y i j d X Y h =
    mod-eq_of_lt
    (lt_of_lt_of_le (mul-lt-mul_of_pos_right X (pow_pos i))
    (le_trans (le_of_eq (sym (pow-add 2 (d + 1) i)))
    (le_trans (pow_mono (room d i j h))
    (le_trans (le_of_eq (pow-add 2 d j)) (mul-le-mul_right (2 ^ j) Y)))))
  where
    room : (d i j : ℕ) → i < j → d + 1 + i ≤ d + j
    room d i j h = omega arith

-- else it is found over the divisor's digits alone
pub digits-left : (x y i j : ℕ) → 0 < y → j ≤ i → x * 2 ^ i % (y * 2 ^ j) ≡ x * 2 ^ (i - j) % y * 2 ^ j
digits-left x y i j Y h = ap (λ (z : ℕ). z % (y * 2 ^ j)) (move x j i h) ∙ mod_scale (x * 2 ^ (i - j)) y (2 ^ j) Y (pow_pos j)
