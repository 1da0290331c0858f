use mathlib.Core.Path.{◌≡◌}
use mathlib.Core.Bool.{Bool}
use Prim.Native.Nat.{ℕ}
use Rattle.layout.specs.Walk.{first}
use Rattle.tables.proofs.walk.first_bad.Given as goal

-- what is left has the same first bad record
abbrev pub invariant-loop-record : goal.invariant-loop-record
invariant-loop-record g l = (f : ℕ → Bool) → ((i : ℕ) (b : Bool) → goal.F-post g l.good i b → b ≡ f i) → first f l.record l.count ≡ first f 0 l.count
