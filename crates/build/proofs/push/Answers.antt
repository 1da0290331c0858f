use Rattle.put.specs.Chase.{next}
use Rattle.build.proofs.push.Goals as goal

pub bounds-stack-top : goal.bounds-stack-top
bounds-stack-top c = c.requires.free c.if-fresh.true

pub returns-then-fresh : goal.returns-then-fresh
unfolding next
returns-then-fresh c = (rw c.if-fresh.true, rw c.if-fresh.true)

pub returns : goal.returns
unfolding next
returns c = (rw c.if-fresh.false, rw c.if-fresh.false)
