use Prim.Native.Nat.{◌-◌}
use mathlib.Core.Path.{sym, ◌∙◌}
use native.Mathlib.Omega.{arith}
use Rattle.put.proofs.Steps as steps
use Rattle.put.proofs.chase.Goals.{then-kind-lt-ANY_OF-via-then-kind-lt-ANY_OF, then-kind-lt-ANY_OF-via-else-kind-lt-ANY_OF+then-kind-gt-OBJECT}
use Rattle.put.proofs.chase.Goals as goal

pub returns-then-us-at : goal.returns-then-us-at
returns-then-us-at c = sym (steps.chase_out _ _ _ _ _ _ (c.loop-left.left - 1) _ _ c.loop-left.invariant (omega arith) c.if-us-at.true)

pub returns-then-field-ne1 : goal.returns-then-field-ne1
returns-then-field-ne1 c = sym (steps.chase_lazy _ _ _ _ _ _ (c.loop-left.left - 1) _ _ _ c.loop-left.invariant (omega arith) c.if-us-at.false c.field-kind.ensures _ c.if-kind-eq-REF.true c.field.ensures c.if-field-ne1.true)

pub returns-in_default : goal.returns-in_default
returns-in_default c = sym (steps.chase_lost _ _ _ _ _ _ (c.loop-left.left - 1) _ _ _ c.loop-left.invariant (omega arith) c.if-us-at.false c.field-kind.ensures _ _ c.if-kind-eq-REF.true c.field.ensures c.if-field-ne1.false c.field-name.ensures (sym c.resolve.ensures ∙ c.in_default.is))

pub returns-else-kind-eq-REF : goal.returns-else-kind-eq-REF
returns-else-kind-eq-REF c = sym (steps.chase_node _ _ _ _ _ _ (c.loop-left.left - 1) _ _ _ c.loop-left.invariant (omega arith) c.if-us-at.false c.field-kind.ensures c.if-kind-eq-REF.false c.if-kind-lt-ANY_OF.false c.if-kind-gt-OBJECT.false)

pub returns : goal.returns
returns c = sym (steps.chase_none _ _ _ _ _ _ _ _ c.loop-left.invariant (omega arith))

pub loop-left-preserved : goal.loop-left-preserved
loop-left-preserved c = steps.chase_more _ _ _ _ _ _ (c.loop-left.left - 1) _ _ _ c.loop-left.invariant (omega arith) c.if-us-at.false c.field-kind.ensures _ _ _ c.if-kind-eq-REF.true c.field.ensures c.if-field-ne1.false c.field-name.ensures (sym c.resolve.ensures ∙ c.in-Some.is)

pub returns-then-kind-lt-ANY_OF : goal.returns-then-kind-lt-ANY_OF
returns-then-kind-lt-ANY_OF c =
    elim c.then-kind-lt-ANY_OF.branch [
      | then-kind-lt-ANY_OF-via-then-kind-lt-ANY_OF w ↦ sym (steps.chase_low _ _ _ _ _ _ (c.loop-left.left - 1) _ _ _ c.loop-left.invariant (omega arith) c.if-us-at.false c.field-kind.ensures c.if-kind-eq-REF.false w.if-kind-lt-ANY_OF.true)
      | then-kind-lt-ANY_OF-via-else-kind-lt-ANY_OF+then-kind-gt-OBJECT w ↦ sym (steps.chase_high _ _ _ _ _ _ (c.loop-left.left - 1) _ _ _ c.loop-left.invariant (omega arith) c.if-us-at.false c.field-kind.ensures c.if-kind-eq-REF.false w.if-kind-gt-OBJECT.true)
    ]
