use Rattle.checker.proofs.Left.{left_made}
use Rattle.checker.proofs.qy_validate.Goals as goal

pub returns : goal.returns
returns c = left_made _ _ _ _ _ c.from.ensures c.validate.ensures
