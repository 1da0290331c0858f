use mathlib.Core.Path.{sym}
use native.Mathlib.Omega.{arith}
use Rattle.text.proofs.Bytes.{same_no_length, same_no_at}
use Rattle.lookup.proofs.same_from_end.Goals as goal

pub returns-then-n-b : goal.returns-then-n-b
returns-then-n-b c = sym (same_no_length _ _ (λ e. omega arith))

pub returns-then-a-n : goal.returns-then-a-n
returns-then-a-n c = sym (same_no_at _ _ _ c.if-a-n.true)
