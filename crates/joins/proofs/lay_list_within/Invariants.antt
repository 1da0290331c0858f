use Rattle.joins.proofs.Limits as laws
use Rattle.joins.proofs.lay_list_within.Given as goal

abbrev pub invariant-loop-k : goal.invariant-loop-k
invariant-loop-k l = laws.Copying l.at l.links l.initial.room l.room l.first l.count l.k
