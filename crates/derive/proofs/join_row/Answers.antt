use Rattle.derive.proofs.Rows as rows
use native.Mathlib.Omega.{arith}
use Rattle.derive.proofs.join_row.Goals as goal

pub returns-then-n-lt2 : goal.returns-then-n-lt2
returns-then-n-lt2 c = rows.join_few _ _ _ _ _ (omega arith)

pub overflow_cast-n : goal.overflow_cast-n
overflow_cast-n c = omega (arith, c.requires.few (omega arith))

pub returns : goal.returns
returns c = rows.join_many _ _ _ _ _ (omega arith) _ _ _ c.list_row-rec.ensures c.finish.ensures
