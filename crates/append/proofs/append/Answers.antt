use Rattle.std.proofs.Common.{arith}
use Rattle.append.proofs.Laws.{append-yes, append-over, put_copied}
use Rattle.append.proofs.append.Goals as goal

pub returns-then-used-room : goal.returns-then-used-room
returns-then-used-room c = append-over _ _ _ _ (omega arith)

pub returns : goal.returns
returns c = append-yes _ _ _ _ _ (put_copied _ _ _ _ _ c.copy_from_slice.ensures.after (omega arith)) (omega arith) (omega arith)
