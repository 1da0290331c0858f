use Rattle.std.proofs.Common.{◌≡◌, drop}
use Rattle.text.specs.Utf8.{run, start}
use Rattle.text.proofs.utf8.is_utf8.Given as goal

-- the rest decides from here
abbrev pub invariant-loop-b : goal.invariant-loop-b
invariant-loop-b l = run l.w (drop l.b-index l.rest) ≡ run start l.rest
