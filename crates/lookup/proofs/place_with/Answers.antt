use native.Mathlib.Omega.{arith}
use Rattle.lookup.proofs.Keys.{pair-named}
use mathlib.Core.Path.{refl, sym, ◌∙◌}
use Rattle.lookup.proofs.Find.{first_begin, first_more, first_stop, first_end}
use Rattle.lookup.proofs.place_with.Goals as goal

pub loop-k-init : goal.loop-k-init
loop-k-init c = first_begin _ _ _ refl

pub returns-then-is_text : goal.returns-then-is_text
returns-then-is_text c = first_stop _ _ _ c.loop-k.invariant (omega arith) (pair-named _ _ _ _ _ _ c.pair_key.ensures (sym c.is_text.ensures ∙ c.if-is_text.true))

pub loop-k-preserved : goal.loop-k-preserved
loop-k-preserved c = first_more _ _ _ c.loop-k.invariant (omega arith) (pair-named _ _ _ _ _ _ c.pair_key.ensures (sym c.is_text.ensures ∙ c.if-is_text.false))

pub returns : goal.returns
returns c = first_end _ _ _ c.loop-k.invariant (omega arith)
