use native.Mathlib.Omega.{arith}
use Rattle.stored.proofs.Reading.{refilled_same, refilled_read}
use Rattle.stored.proofs.input.refill.Goals as goal

pub returns-then-at-end : goal.returns-then-at-end
returns-then-at-end c = refilled_same _ _ _

pub returns-then-count-ge-GROUP_WORDS : goal.returns-then-count-ge-GROUP_WORDS
returns-then-count-ge-GROUP_WORDS c = refilled_same _ _ _

pub returns : goal.returns
returns c = refilled_read _ _ _ (omega arith) (omega arith) c.move_to_front.ensures c.read_words.ensures
