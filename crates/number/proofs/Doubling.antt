-- A remainder of a number that is doubled again and again: each time the remainder is doubled, and the divisor taken off where it fits. Assumes nothing.
use Rattle.std.proofs.Common.{◌≡◌, ℕ, ◌+◌, ◌-◌, ◌*◌, ◌%◌, ◌^◌, ◌<◌, ◌≤◌, sym, ap, ◌∙◌, mul_assoc, zero-mul, arith, mod-eq_of_lt, pow-add}
use Rattle.std.proofs.lemmas.Nat.{mul-mod_first}
use native.Mathlib.Nat.{mod-eq-sub-mod, zero-mod}

-- r is what v * 2 ^ i leaves
module _ (v i m r : ℕ) (is : r ≡ v * 2 ^ i % m) where
  later : (k : ℕ) → r * 2 ^ k % m ≡ v * 2 ^ (i + k) % m
  later k =
      ap (λ (x : ℕ). x * 2 ^ k % m) is
      ∙ mul-mod_first (v * 2 ^ i) (2 ^ k) m
      ∙ ap (λ (x : ℕ). x % m) (mul_assoc v (2 ^ i) (2 ^ k) ∙ ap (λ (x : ℕ). v * x) (sym (pow-add 2 i k)))

  -- twice that, where the divisor does not fit and where it does
  pub twice-below : r * 2 < m → r * 2 ≡ v * 2 ^ (i + 1) % m
  twice-below h = sym (mod-eq_of_lt h) ∙ later 1

  pub twice-from : r < m → m ≤ r * 2 → r * 2 - m ≡ v * 2 ^ (i + 1) % m
  twice-from l h = sym (mod-eq-sub-mod h ∙ mod-eq_of_lt (omega arith)) ∙ later 1

  -- what leaves nothing leaves nothing when doubled
  pub none-later : (k : ℕ) → i ≤ k → r ≡ 0 → 0 ≡ v * 2 ^ k % m
  none-later k h z =
      sym (zero-mod m)
      ∙ ap (λ (x : ℕ). x % m) (sym (ap (λ (x : ℕ). x * 2 ^ (k - i)) z ∙ zero-mul (2 ^ (k - i))))
      ∙ later (k - i)
      ∙ ap (λ (x : ℕ). v * 2 ^ x % m) (omega arith)
