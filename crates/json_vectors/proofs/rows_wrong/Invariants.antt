use Rattle.std.proofs.Common.{◌≤◌, ◌*◌}
use Rattle.json_vectors.proofs.rows_wrong.Given as goal

-- at most three wrong for each row passed
abbrev pub invariant-loop-row : goal.invariant-loop-row
invariant-loop-row l = l.sum ≤ 3 * l.row-index
