-- A loop that counts i up to e and tests each place. Its invariant is `every f i e ≡ x`, or for a search `first f i e ≡ x`, where x is
-- what the contract asks. Assumes nothing.
--     -more     the test holds at i: the invariant at i + 1
--     -stop     the test fails at i: the answer
--     -end      i is e: the answer
use mathlib.Core.Path.{◌≡◌}
use mathlib.Core.Bool.{Bool, true, false}
use Prim.Native.Nat.{ℕ, ◌+◌, ◌<◌, ◌≤◌}
use native.Mathlib.Numerals.{add-one}
use native.Mathlib.Omega.{arith}
use Rattle.text.proofs.Count.{one_more, none_left}
use Rattle.layout.specs.Walk.{every, first}

module _ (f : ℕ → Bool) (i e : ℕ) where
  module _ {x : Bool} (inv : every f i e ≡ x) where
    pub every_more : i < e → f i ≡ true → every f (i + 1) e ≡ x
    unfolding every
    every_more h t = rw (add-one i) (rw (one_more i e h, t, add-one i) at inv)

    pub every-stop : i < e → f i ≡ false → false ≡ x
    unfolding every
    every-stop h t = rw (one_more i e h, t) at inv

    pub every-end : i ≤ e → e ≤ i → true ≡ x
    unfolding every
    every-end h l = rw (none_left i e l) at inv

  module _ {x : ℕ} (inv : first f i e ≡ x) where
    pub first_more : i < e → f i ≡ true → first f (i + 1) e ≡ x
    unfolding first
    first_more h t = rw (add-one i) (rw (one_more i e h, t, add-one i) at inv)

    pub first_stop : i < e → f i ≡ false → i ≡ x
    unfolding first
    first_stop h t = rw (one_more i e h, t) at inv

    pub first_end : i ≤ e → e ≤ i → e ≡ x
    unfolding first
    first_end h l = omega (arith, rw (none_left i e l) at inv)
