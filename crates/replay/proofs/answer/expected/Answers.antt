use Rattle.std.proofs.Common.{arith}
use Rattle.replay.proofs.Judging.{expected_used, expected_14, expected_15, expected_16, expected_17, expected_word}
use Rattle.replay.proofs.answer.expected.Goals as goal
use Rattle.replay.proofs.answer.expected.Goals.{in_default-via-then-field-lt11, in_default-via-else-field-lt11+else-field-lt14}

pub returns-in-14 : goal.returns-in-14
returns-in-14 c = expected_14 _ _ _ _ c.in-14.is c.after.ensures c.stored_pattern.ensures c.low.ensures

pub returns-in-15 : goal.returns-in-15
returns-in-15 c = expected_15 _ _ _ _ c.in-15.is c.after-in-15.ensures c.stored_pattern-in-15.ensures c.high.ensures

pub returns-in-16 : goal.returns-in-16
returns-in-16 c = expected_16 _ _ _ _ c.in-16.is c.after-in-16.ensures c.stored_pattern-in-16.ensures c.low-in-16.ensures

pub returns-in-17 : goal.returns-in-17
returns-in-17 c = expected_17 _ _ _ _ c.in-17.is c.after-in-17.ensures c.stored_pattern-in-17.ensures c.high-in-17.ensures

pub returns-in-11 : goal.returns-in-11
returns-in-11 c = expected_used _ _ _ _ (omega arith) (omega arith) c.used.ensures

pub returns-in_default : goal.returns-in_default
returns-in_default c = expected_word _ _ _ _ (λ a b. elim c.in_default.branch [ in_default-via-then-field-lt11 w ↦ omega arith | in_default-via-else-field-lt11+else-field-lt14 w ↦ omega arith ]) (λ e. omega arith) (λ e. omega arith) (λ e. omega arith) (λ e. omega arith) c.word.ensures
