use Rattle.std.proofs.Common.{◌≡◌, ◌+◌, drop}
use Rattle.text.specs.Utf8.{code_points_of}
use Rattle.text.proofs.utf8.code_points.Given as goal

-- those counted, and those of the rest
abbrev pub invariant-loop-b : goal.invariant-loop-b
invariant-loop-b l = l.n + code_points_of (drop l.b-index l.s) ≡ code_points_of l.s
