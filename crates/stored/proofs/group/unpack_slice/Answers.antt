use native.Mathlib.Omega.{arith}
use mathlib.Core.Path.{sym, ◌∙◌}
use borrow.Author.Tests.{lt-ltb, le-ltb}
use Rattle.text.specs.Choice.{pick_yes, pick_no}
use Rattle.stored.proofs.Laying.{laid_none, laid_more, laid_all}
use Rattle.stored.proofs.group.unpack_slice.Goals.{then-i-head, else-i-head}
use Rattle.stored.proofs.group.unpack_slice.Goals as goal

pub loop-i-init : goal.loop-i-init
loop-i-init g c = λ f h. laid_none _ _ _

pub loop-i-preserved : goal.loop-i-preserved
loop-i-preserved g c =
    λ f h. c.put.ensures
    ∙ laid_more _ _ _ _ (c.loop-i.invariant f h) c.after.ensures (elim c.if-i-head.branch [
      | then-i-head w ↦ w.element-is ∙ h _ _ w.stored-element.ensures ∙ sym (pick_yes _ _ (lt-ltb _ _ w.if-i-head.true))
      | else-i-head w ↦ w.element-is ∙ sym (pick_no _ _ (le-ltb _ _ w.if-i-head.false))
    ])

pub returns : goal.returns
returns g c = λ f h. laid_all _ _ _ _ _ (c.loop-i.invariant f h) (omega arith)
