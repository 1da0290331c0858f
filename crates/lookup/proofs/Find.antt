-- A search's loop. Its invariant is `last_below f k ≡ x`, counting k down, or `first_from f i (e - i) ≡ x`, counting i up to e, where x is
-- what the contract asks. Assumes nothing.
--     -more     the test fails there: the invariant one place further
--     -stop     the test holds there: the answer
--     -end      no place is left: the answer
use mathlib.Core.Path.{◌≡◌, refl, ap}
use mathlib.Core.Bool.{Bool, true, false}
use mathlib.Core.Logic.{⊎_elim}
use Prim.Native.Nat.{ℕ, zero, suc, ◌+◌, ◌-◌, ◌<◌, ◌≤◌}
use native.Mathlib.Numerals.{add-one}
use native.Mathlib.Omega.{arith}
use Rattle.text.specs.Choice.{true_or_false, clash}
use Rattle.text.proofs.Count.{one_more, none_left}
use Rattle.lookup.specs.Find.{Found, last_below, first_from, found}
use Rattle.std.specs.Prelude.{Some, None}

last_place : (k : ℕ) → 0 < k → k ≡ suc (k - 1)
last_place k h = omega arith

no_place : (k : ℕ) → k ≤ 0 → k ≡ 0
no_place k h = omega arith

-- where a count up begins
pub first_begin : (f : ℕ → Bool) (e n : ℕ) → e ≡ n → first_from f 0 (e - 0) ≡ first_from f 0 n
first_begin f e n h = ap (first_from f 0) (omega arith)

module _ (f : ℕ → Bool) {x : Found} where
  module _ (k : ℕ) (inv : last_below f k ≡ x) where
    pub last_more : 0 < k → f (k - 1) ≡ false → last_below f (k - 1) ≡ x
    unfolding last_below
    last_more h t = rw (last_place k h, t) at inv

    pub last_stop : 0 < k → f (k - 1) ≡ true → Some (k - 1) ≡ x
    unfolding last_below
    last_stop h t = rw (last_place k h, t) at inv

    pub last_end : k ≤ 0 → None ≡ x
    unfolding last_below
    last_end h = rw (no_place k h) at inv

  module _ (i e : ℕ) (inv : first_from f i (e - i) ≡ x) where
    pub first_more : i < e → f i ≡ false → first_from f (i + 1) (e - (i + 1)) ≡ x
    unfolding first_from
    first_more h t = rw (add-one i) (rw (one_more i e h, t, add-one i) at inv)

    pub first_stop : i < e → f i ≡ true → Some i ≡ x
    unfolding first_from
    first_stop h t = rw (one_more i e h, t) at inv

    pub first_end : e ≤ i → None ≡ x
    unfolding first_from
    first_end h = rw (none_left i e h) at inv

-- ---- what a search says of its test
-- where something is found, the test holds
pub found_where : (f : ℕ → Bool) (i n : ℕ) → found (first_from f i n) ≡ true → (j : ℕ) × (j < i + n) × (f j ≡ true)
unfolding first_from
found_where f i zero h = clash h refl
found_where f i (suc n) h =
    ⊎_elim (λ t. (i, omega arith, t))
    (λ t. let later = found_where f (suc i) n (rw t at h) in (later.0, omega (arith, later.1), later.2))
    (true_or_false (f i))

-- where it fails everywhere, nothing is found
pub found_nowhere : (f : ℕ → Bool) (i n : ℕ) → ((j : ℕ) → j < i + n → f j ≡ false) → first_from f i n ≡ None
unfolding first_from
found_nowhere f i zero h = refl
found_nowhere f i (suc n) h = rw (h i (omega arith)) (found_nowhere f (suc i) n (λ j l. h j (omega arith)))
