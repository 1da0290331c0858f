use native.Mathlib.Omega.{arith}
use mathlib.Core.Path.{sym, ap, ◌∙◌}
use Rattle.layout.specs.Layout.{pattern_answer}
use Rattle.std.specs.Prelude.{Some}
use Rattle.lookup.specs.Find.{found_at}
use Rattle.lookup.specs.Lookup.{answer_of_pattern}
use Rattle.lookup.proofs.Find.{first_begin, first_more, first_stop, first_end}
use Rattle.lookup.proofs.pattern_answer.Goals as goal

pub loop-i-init : goal.loop-i-init
loop-i-init c = (c.pattern_count-i-end.ensures, first_begin _ _ _ c.pattern_count-i-end.ensures)

pub returns-then-answers_pattern : goal.returns-then-answers_pattern
unfolding answer_of_pattern
returns-then-answers_pattern c = ap Some c.pattern_answer.ensures ∙ ap (found_at (pattern_answer c.args.t.now.patterns.now)) (first_stop _ _ _ c.loop-i.invariant.1 (omega arith) (sym c.answers_pattern.ensures ∙ c.if-answers_pattern.true))

pub loop-i-preserved : goal.loop-i-preserved
loop-i-preserved c = (c.loop-i.invariant.0, first_more _ _ _ c.loop-i.invariant.1 (omega arith) (sym c.answers_pattern.ensures ∙ c.if-answers_pattern.false))

pub returns : goal.returns
unfolding answer_of_pattern
returns c = ap (found_at (pattern_answer c.args.t.now.patterns.now)) (first_end _ _ _ c.loop-i.invariant.1 (omega arith))
