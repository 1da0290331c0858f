use lib.ListN.{get_or}
use Prim.Native.Nat.{ℕ, ◌≤◌, ◌<◌}
use mathlib.Core.Path.{◌≡◌}
use Rattle.validator.proofs.paths.clear.Given as goal

abbrev pub invariant-loop-i : goal.invariant-loop-i
invariant-loop-i l =
    ((j : ℕ) → j < l.from → get_or l.buf j 0 ≡ get_or l.initial.buf j 0)
    × ((j : ℕ) → l.from ≤ j → j < l.i → get_or l.buf j 0 ≡ 0)
