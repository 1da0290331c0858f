use Rattle.std.proofs.Common.{◌≡◌}
use Rattle.layout.specs.Lent.{tables_of}
use Rattle.replay.specs.Run.{calls_of}
use Rattle.replay.proofs.run_group.Given as goal

-- a call more at each turn
abbrev pub invariant-loop : goal.invariant-loop
invariant-loop l = l.run ≡ calls_of l.call l.input l.initial.run (tables_of l.t) l.counter
