use Rattle.std.proofs.Common.{rules, arith}
use Rattle.append.proofs.Laws.{put_zeros, none_cleared}
use Rattle.append.proofs.clear_from.Goals as goal

pub returns-then-used-words : goal.returns-then-used-words
returns-then-used-words c = put_zeros _ _ _ _ (search rules) (omega arith) (omega arith)

pub returns-else-used-words : goal.returns-else-used-words
returns-else-used-words c = none_cleared _ _ (omega arith)
