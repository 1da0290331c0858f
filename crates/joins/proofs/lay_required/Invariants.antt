use Rattle.joins.specs.Joins.{required_of}
use Rattle.joins.proofs.Laws as laws
use Rattle.joins.proofs.lay_required.Given as goal

abbrev pub invariant-loop-base : goal.invariant-loop-base
invariant-loop-base l = laws.Laying (required_of l.bases.schemas.now l.bases.links.now) l.bases.objects.now l.initial.room l.room l.base-index l.end
