use Rattle.std.proofs.Common.{◌∙◌, sym, arith}
use Rattle.text.proofs.Octet.{run_more, walked}
use Rattle.text.proofs.utf8.is_utf8.Goals as goal

pub loop-b-preserved : goal.loop-b-preserved
loop-b-preserved c = rw c.step-w.ensures (sym (run_more c.loop-b.w _ c.loop-b.b-index (omega arith)) ∙ c.loop-b.invariant)

pub returns : goal.returns
returns c = walked _ _ _ _ c.ascii.ensures.value c.loop-b-test.false c.loop-b.invariant
