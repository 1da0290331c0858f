use mathlib.Core.Path.{sym, ap, ◌∙◌}
use native.Mathlib.Omega.{arith}
use Rattle.layout.specs.Walk.{first}
use Rattle.layout.proofs.Walk.{first_more, first_stop, first_end}
use Rattle.navigate.specs.Path.{step_count, step_ok, first_bad_step}
use Rattle.navigate.proofs.path.first_bad_step.Goals as goal

pub loop-i-init : goal.loop-i-init
unfolding first_bad_step
loop-i-init c = (c.step_count-n.ensures, ap (first (step_ok c.args.count c.args.path.now) 0) c.step_count-n.ensures)

pub overflow_mul-i : goal.overflow_mul-i
unfolding step_count
overflow_mul-i c = omega arith

pub offset_bounds-path-i : goal.offset_bounds-path-i
unfolding step_count
offset_bounds-path-i c = omega arith

pub bounds-path-i : goal.bounds-path-i
unfolding step_count
bounds-path-i c = omega arith

pub overflow_mul-i-in-loop-i : goal.overflow_mul-i-in-loop-i
unfolding step_count
overflow_mul-i-in-loop-i c = omega arith

pub overflow_add-i : goal.overflow_add-i
unfolding step_count
overflow_add-i c = omega arith

pub offset_bounds-path-i-in-loop-i : goal.offset_bounds-path-i-in-loop-i
unfolding step_count
offset_bounds-path-i-in-loop-i c = omega arith

pub bounds-path-i-in-loop-i : goal.bounds-path-i-in-loop-i
unfolding step_count
bounds-path-i-in-loop-i c = omega arith

pub loop-i-preserved : goal.loop-i-preserved
loop-i-preserved c = (c.loop-i.invariant.0, first_more _ _ _ c.loop-i.invariant.1 (omega arith) (sym c.words_ok.ensures ∙ c.if-not-words_ok.false))

pub returns-then-not-words_ok : goal.returns-then-not-words_ok
returns-then-not-words_ok c = first_stop _ _ _ c.loop-i.invariant.1 (omega arith) (sym c.words_ok.ensures ∙ c.if-not-words_ok.true)

pub returns : goal.returns
returns c = first_end _ _ _ c.loop-i.invariant.1 (omega arith) (omega arith)
