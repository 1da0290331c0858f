use mathlib.Core.Path.{ap, ◌∙◌}
use Rattle.error.specs.declared.Answer.{Answer}
use Rattle.error.specs.Answers.{plain_answer, with_used}
use Rattle.compile.specs.Ended.{answered_of}
use Rattle.compile.proofs.answered.Goals as goal

pub returns-in-Ok : goal.returns-in-Ok
unfolding answered_of
returns-in-Ok c = rw c.in-Ok.is (c.with_used.ensures ∙ ap (λ (y : Answer). with_used y c.args.used) c.found.ensures)

pub returns-in-Err : goal.returns-in-Err
unfolding answered_of
returns-in-Err c = rw c.in-Err.is (c.with_used-in-Err.ensures ∙ ap (λ (y : Answer). with_used y c.args.used) (c.plain.ensures ∙ ap plain_answer c.number.ensures))
