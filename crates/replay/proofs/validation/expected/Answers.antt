use Rattle.std.proofs.Common.{◌∙◌}
use Rattle.replay.proofs.Called.{path_in, path_past}
use Rattle.replay.proofs.validation.expected.Goals as goal

pub returns-then-k-count : goal.returns-then-k-count
returns-then-k-count c = c.word.ensures ∙ path_in _ _ _ _ c.if-k-count.true

pub returns : goal.returns
returns c = path_past _ _ _ _ c.if-k-count.false
