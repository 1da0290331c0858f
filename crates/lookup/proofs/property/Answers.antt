use mathlib.Core.Path.{◌∙◌}
use Rattle.lookup.proofs.Keys.{place_value, place_none}
use Rattle.lookup.proofs.property.Goals as goal

pub returns-in_err-k : goal.returns-in_err-k
returns-in_err-k c = c.from_residual.ensures ∙ place_none _ _ _ _ _ _ c.property_place.ensures c.in_err-k.was

pub returns : goal.returns
returns c = place_value _ _ _ _ _ _ c.property_place.ensures c.in_ok-k.was c.pair_value.ensures
