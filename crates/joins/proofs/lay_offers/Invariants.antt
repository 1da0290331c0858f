use Rattle.joins.specs.Joins.{offered_of}
use Rattle.joins.proofs.Laws as laws
use Rattle.joins.proofs.lay_offers.Given as goal

abbrev pub invariant-loop-base : goal.invariant-loop-base
invariant-loop-base l = laws.Laying (offered_of l.bases.notes.now l.bases.schemas.now l.names) l.bases.objects.now l.initial.room l.room l.base-index l.end
