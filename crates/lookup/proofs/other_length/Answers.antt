use mathlib.Core.Path.{◌∙◌}
use native.Mathlib.Omega.{arith}
use borrow.Author.Tests.{le-ltb}
use Rattle.lookup.proofs.Keys.{length_compared, length-free}
use Rattle.lookup.proofs.other_length.Goals as goal

pub returns-then-n-gt0 : goal.returns-then-n-gt0
returns-then-n-gt0 c = length_compared _ _ _ c.length.ensures.value (omega arith)

pub returns-else-n-gt0 : goal.returns-else-n-gt0
returns-else-n-gt0 c = le-ltb _ _ c.if-n-gt0.false ∙ length-free _ _ _ (λ h. omega arith)
