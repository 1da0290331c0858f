-- A test at each of a run of places, and the first place where it fails. Assumes nothing.
use Rattle.std.specs.Prelude.{ℕ, zero, suc, ◌-◌, Bool, true}
use Rattle.text.specs.Choice.{both, pick}

abbrev run : (ℕ → Bool) → ℕ → ℕ → Bool
run f i zero = true
run f i (suc n) = both (f i) (run f (suc i) n)

abbrev seek : (ℕ → Bool) → ℕ → ℕ → ℕ
seek f i zero = i
seek f i (suc n) = pick (f i) (seek f (suc i) n) i

-- f holds at each place from i on, below e
unfoldable pub every : (ℕ → Bool) → ℕ → ℕ → Bool
every f i e = run f i (e - i)

-- the first place from i on, below e, where f fails; else e
unfoldable pub first : (ℕ → Bool) → ℕ → ℕ → ℕ
first f i e = seek f i (e - i)
