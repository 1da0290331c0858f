use Rattle.checker.proofs.Left.{left-compiled}
use Rattle.checker.proofs.qy_compile.Goals as goal

pub returns : goal.returns
returns c = left-compiled _ _ _ _ _ _ c.from.ensures c.compile.ensures
