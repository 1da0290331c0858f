use Rattle.std.proofs.Common.{ap, ◌∙◌}
use Rattle.replay.specs.Calls.{left_met}
use Rattle.replay.proofs.validation.judge.Goals as goal

pub returns : goal.returns
returns c = c.compare.ensures ∙ ap (left_met _ _) c.validate-found.ensures
