use Rattle.std.proofs.Common.{◌≡◌, get_or}
use Rattle.replay.specs.Answer.{wrong_in}
use Rattle.replay.specs.Calls.{path_word}
use Rattle.replay.proofs.validation.compare_path.Given as goal

-- the first words are judged, one more at each turn
abbrev pub invariant-loop-k : goal.invariant-loop-k
invariant-loop-k l = l.wrong ≡ wrong_in (path_word l.input l.at l.count) (λ j. get_or l.path j 0) l.k l.before
