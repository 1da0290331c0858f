use Rattle.std.proofs.Common.{◌≡◌, ◌*◌, ◌%◌, ◌^◌, ◌<◌}
use Rattle.number.proofs.multiple.doubled_rest.Given as goal

-- what the doublings so far leave
abbrev pub invariant-loop-turn : goal.invariant-loop-turn
invariant-loop-turn l = record { left : l.rest ≡ l.value * 2 ^ l.turn % l.multiple; below : l.rest < l.multiple }
