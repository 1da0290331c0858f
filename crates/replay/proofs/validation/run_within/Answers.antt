use Rattle.std.proofs.Common.{◌∙◌, arith}
use Rattle.replay.proofs.Called.{lent_words, lent_within, within_run, within_refused}
use Rattle.replay.proofs.validation.run_within.Goals as goal
use Rattle.replay.proofs.validation.run_within.Goals.{else-instance_end-instance-via-then-instance_end-instance+else-steps_end-steps, else-instance_end-instance-via-else-instance_end-instance}

pub returns-then-steps_end-steps : goal.returns-then-steps_end-steps
returns-then-steps_end-steps c = within_run _ _ _ _ _ (lent_words c.wide-instance_end.result c.args.instance.now (omega arith) (c.wide-instance_end.ensures ∙ c.word.ensures)) (lent_words c.wide-steps_end.result c.args.steps.now (omega arith) (c.wide-steps_end.ensures ∙ c.word-2.ensures)) c.judge.ensures (lent_within c.wide-instance_end.result c.args.instance.now (omega arith)) (lent_within c.wide-steps_end.result c.args.steps.now (omega arith))

pub returns : goal.returns
returns c = within_refused _ _ _ _ _ (c.wide-instance_end.ensures ∙ c.word.ensures) (c.wide-steps_end.ensures ∙ c.word-2.ensures) c.judge-2.ensures (λ a b. elim c.else-instance_end-instance.branch [ else-instance_end-instance-via-then-instance_end-instance+else-steps_end-steps w ↦ omega arith | else-instance_end-instance-via-else-instance_end-instance w ↦ omega arith ])
