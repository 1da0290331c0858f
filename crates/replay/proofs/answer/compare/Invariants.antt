use Rattle.std.proofs.Common.{◌≡◌, get_or}
use Rattle.replay.specs.Answer.{expected_of, wrong_in}
use Rattle.replay.proofs.answer.compare.Given as goal

-- the first fields are judged, one more at each turn
abbrev pub invariant-loop-k : goal.invariant-loop-k
invariant-loop-k l = l.wrong ≡ wrong_in (expected_of l.input l.at l.compiled) (λ j. get_or l.found j 0) l.k 0
