-- The last and the first of a run of places where a test holds. Assumes nothing.
use Rattle.std.specs.Prelude.{ℕ, zero, suc, Bool, true, false}
use Rattle.std.proofs.Math.Option.{Option, some, none}
use Rattle.text.specs.Choice.{pick}
use Rattle.std.specs.declared.option.Option as lent
use Rattle.std.specs.Prelude.{Some, None}

-- a place that was found, or nothing
abbrev pub Found : Type 0
Found = lent.Option ℕ

-- the last place below n where f holds
unfoldable pub last_below : (ℕ → Bool) → ℕ → Found
last_below f zero = None
last_below f (suc n) =
    let earlier = last_below f n in
    pick (f n) (Some n) earlier

-- the first of n places from i on where f holds
unfoldable pub first_from : (ℕ → Bool) → ℕ → ℕ → Found
first_from f i zero = None
first_from f i (suc n) =
    let later = first_from f (suc i) n in
    pick (f i) (Some i) later

-- what stands at the place that was found
abbrev pub found_at : (ℕ → ℕ) → Found → Found
found_at value (Some i) = Some (value i)
found_at value None = None

-- whether it was found
abbrev pub found : Found → Bool
found (Some i) = true
found None = false

-- what was found, or nothing
abbrev pub to_option : Found → Option ℕ
to_option (Some i) = some i
to_option None = none
