use Rattle.stored.specs.Input.{Behind}
use Rattle.stored.proofs.input.read_words.Given as goal

-- what is at hand stays, a chunk more behind it at each turn
abbrev pub invariant-loop : goal.invariant-loop
invariant-loop l = Behind l.initial.into l.into l.from l.behind
