use Rattle.joins.specs.Joins.{offer_of}
use Rattle.joins.proofs.Laws as laws
use Rattle.joins.proofs.count_offers.Given as goal

abbrev pub invariant-loop-base : goal.invariant-loop-base
invariant-loop-base l = laws.Tallying (offer_of l.notes l.schemas l.names) l.bases l.base-index l.t
