-- Counting i up to n: what is left while it lies below n, and at its end. Assumes nothing.
use mathlib.Core.Path.{◌≡◌}
use Prim.Native.Nat.{ℕ, suc, ◌+◌, ◌-◌, ◌<◌, ◌≤◌}
use native.Mathlib.Omega.{arith}

-- one more place, and what is left after it
pub one_more : (i n : ℕ) → i < n → n - i ≡ suc (n - (i + 1))
one_more i n h = omega arith

-- no place is left
pub none_left : (i n : ℕ) → n ≤ i → n - i ≡ 0
none_left i n h = omega arith
