use mathlib.Core.Path.{◌∙◌, sym}
use native.Mathlib.Omega.{arith}
use Rattle.text.proofs.Bytes.{same_pointwise, same_front, same_front_no}
use Rattle.text.proofs.same.Goals as goal

pub returns-then-a-lt-FRONT : goal.returns-then-a-lt-FRONT
returns-then-a-lt-FRONT c = c.eq.ensures ∙ same_pointwise _ _

pub returns-then-starts_with : goal.returns-then-starts_with
returns-then-starts_with c = rw c.if-starts_with.true at (same_front 8 c.args.a.now c.args.b.now (omega (arith, c.if-a-lt-FRONT.false)) (omega (arith, c.if-b-lt-FRONT.false)) c.starts_with.ensures.value c.eq-then-starts_with.ensures)

pub returns-else-starts_with : goal.returns-else-starts_with
returns-else-starts_with c = c.if-starts_with.false ∙ sym (same_front_no 8 c.args.a.now c.args.b.now (omega (arith, c.if-a-lt-FRONT.false)) (omega (arith, c.if-b-lt-FRONT.false)) (sym c.starts_with.ensures.value ∙ c.if-starts_with.false))
