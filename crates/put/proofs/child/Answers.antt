use Prim.Native.Nat.{ℕ}
use mathlib.Core.Path.{ap, ◌∙◌}
use mathlib.Core.List.{List}
use lib.ListN.{get_or}
use lib.Seq.{take-length}
use Rattle.put.specs.Chase.{num, next}
use Rattle.put.proofs.child.Goals as goal

pub returns-in-Ok-Leaf-clause-number : goal.returns-in-Ok-Leaf-clause-number
unfolding num
returns-in-Ok-Leaf-clause-number c = rw (← c.chase.ensures, c.in-Ok-Leaf.is, c.in-Ok-Leaf.field-0-is)

pub returns-in-Ok-Leaf-clause-top : goal.returns-in-Ok-Leaf-clause-top
unfolding next
returns-in-Ok-Leaf-clause-top c = rw (← c.chase.ensures, c.in-Ok-Leaf.is, c.in-Ok-Leaf.field-0-is)

pub returns-in-Ok-Node-clause-number : goal.returns-in-Ok-Node-clause-number
unfolding num
returns-in-Ok-Node-clause-number c = rw (← c.chase.ensures, c.in-Ok-Node.is, c.in-Ok-Node.field-0-is) (c.word-stacked.ensures ∙ ap (λ (l : List ℕ). get_or l c.args.top 0) (take-length c.args.stack.now))

pub returns-in-Ok-Node-clause-top : goal.returns-in-Ok-Node-clause-top
unfolding next
returns-in-Ok-Node-clause-top c = rw (← c.chase.ensures, c.in-Ok-Node.is, c.in-Ok-Node.field-0-is)

pub returns-in-Err-clause-number : goal.returns-in-Err-clause-number
unfolding num
returns-in-Err-clause-number c = rw (← c.chase.ensures, c.in-Err.is) (c.word-stacked.ensures ∙ ap (λ (l : List ℕ). get_or l c.args.top 0) (take-length c.args.stack.now))

pub returns-in-Err-clause-top : goal.returns-in-Err-clause-top
unfolding next
returns-in-Err-clause-top c = rw (← c.chase.ensures, c.in-Err.is)
