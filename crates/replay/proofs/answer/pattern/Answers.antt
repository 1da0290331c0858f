use Rattle.std.proofs.Common.{refl}
use Rattle.replay.proofs.Judging.{pattern_own, pattern_nan}
use Rattle.number.proofs.Patterns.{equal_itself_no_nan}
use Rattle.replay.proofs.answer.pattern.Goals as goal

-- `replay::answer::pattern`: a number that equals itself is no NaN. Assumes nothing.
pub float_to_bits-result : goal.float_to_bits-result
float_to_bits-result c = equal_itself_no_nan c.args.x c.if-x.true

pub returns-then-x : goal.returns-then-x
returns-then-x c = pattern_own _ c.if-x.true refl

pub returns : goal.returns
returns c = pattern_nan _ c.if-x.false
