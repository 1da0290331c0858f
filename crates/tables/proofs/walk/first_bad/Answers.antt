use mathlib.Core.Path.{sym, refl, ◌∙◌}
use native.Mathlib.Omega.{arith}
use Rattle.layout.proofs.Walk.{first_more}
use Rattle.tables.proofs.Loops.{bad_here, none_bad}
use Rattle.tables.proofs.walk.first_bad.Goals as goal

pub loop-record-init : goal.loop-record-init
loop-record-init g c = λ f h. refl

pub loop-record-preserved : goal.loop-record-preserved
loop-record-preserved g c = λ f h. first_more _ _ _ (c.loop-record.invariant f h) (omega arith) (sym (h _ _ c.good.ensures) ∙ c.if-not-good.false)

pub returns-then-not-good : goal.returns-then-not-good
returns-then-not-good g c = λ f h. bad_here _ _ _ _ _ (c.loop-record.invariant f h) (omega arith) (sym (h _ _ c.good.ensures) ∙ c.if-not-good.true)

pub returns : goal.returns
returns g c = λ f h. none_bad _ _ _ _ _ (c.loop-record.invariant f h) (omega arith) (omega arith)
