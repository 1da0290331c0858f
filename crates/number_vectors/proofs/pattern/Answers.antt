use Rattle.number.proofs.Patterns.{equal_itself_no_nan}
use Rattle.number_vectors.proofs.pattern.Goals as goal

-- `number_vectors::pattern`: what equals itself is no NaN. Assumes nothing.
pub float_to_bits-result : goal.float_to_bits-result
float_to_bits-result c = equal_itself_no_nan _ c.if-x.true
