use Rattle.put.specs.Chase.{lead_in}
use Rattle.put.proofs.Entries as entries
use Rattle.put.proofs.put_entries.Given as goal

abbrev pub invariant-loop-i : goal.invariant-loop-i
invariant-loop-i l = entries.Entering (lead_in l.origin l.schemas l.below) l.lb l.stack l.initial.links l.links l.ul l.at l.count l.sp l.i l.p
