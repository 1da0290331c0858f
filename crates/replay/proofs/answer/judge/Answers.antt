use Rattle.replay.proofs.Judging.{judged_same, judged_other}
use Rattle.replay.proofs.answer.judge.Goals as goal

pub returns-then-expected-found : goal.returns-then-expected-found
returns-then-expected-found c = judged_same _ _ _ c.if-expected-found.true

pub returns : goal.returns
returns c = judged_other _ _ _ c.if-expected-found.false
