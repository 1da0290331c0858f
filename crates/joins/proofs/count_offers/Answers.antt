use mathlib.Core.Path.{ap, ◌∙◌}
use Rattle.joins.specs.declared.Offers.{Offers}
use Rattle.joins.specs.Joins.{tally_one}
use Rattle.joins.proofs.Laws as laws
use Rattle.joins.proofs.count_offers.Goals as goal

pub loop-base-init : goal.loop-base-init
loop-base-init c = laws.tallying_none _ _

pub loop-base-preserved : goal.loop-base-preserved
loop-base-preserved c = laws.tallying_more _ _ _ _ c.loop-base.invariant _ _ c.loop-base-test.true c.offer.ensures c.tallied-t.ensures

pub returns : goal.returns
returns c = c.tallied.ensures ∙ ap (λ (t : Offers). tally_one t c.args.own) (laws.tallying_end _ _ _ _ c.loop-base.invariant c.loop-base-test.false)
