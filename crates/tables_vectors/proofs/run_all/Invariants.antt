use Prim.Native.Nat.{◌≤◌}
use Rattle.tables_vectors.proofs.run_all.Given as goal

abbrev pub invariant-loop-i : goal.invariant-loop-i
invariant-loop-i l = l.wrong ≤ l.i
