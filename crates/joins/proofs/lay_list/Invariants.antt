use Rattle.joins.proofs.Laws as laws
use Rattle.joins.proofs.lay_list.Given as goal

abbrev pub invariant-loop-i : goal.invariant-loop-i
invariant-loop-i l = laws.Copying l.links l.initial.room l.room l.first l.count l.i
