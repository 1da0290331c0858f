use mathlib.Core.Path.{refl}
use native.Mathlib.Omega.{arith}
use Rattle.validator.proofs.Buffers as bufs
use Rattle.validator.proofs.Early.{says_accepted}
use Rattle.validator.proofs.walk.first_visit.Goals as goal

pub returns-then-accepts-clause-met : goal.returns-then-accepts-clause-met
returns-then-accepts-clause-met c = bufs.met_is (says_accepted c.accepts.ensures c.if-accepts.true) (bufs.met-accepted _ _ _ _ _ _ _ _ (omega arith) (omega arith) refl bufs.calm_same bufs.calm_same)
