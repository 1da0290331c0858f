use Rattle.joins.proofs.Limits as laws
use Rattle.joins.proofs.lay_lists.Goals as goal

pub returns : goal.returns
returns c = laws.listed _ _ _ _ _ _ _ _ _ _ _ _ _ _ _ _ _ c.in_ok-properties.ensures c.in_ok-patterns.ensures c.in_ok-required.ensures c.in_ok-additional.ensures c.in_ok-names.ensures
