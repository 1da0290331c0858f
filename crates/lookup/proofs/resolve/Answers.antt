use native.Mathlib.Omega.{arith}
use Rattle.lookup.proofs.Keys.{entry_named}
use mathlib.Core.Path.{sym, ap, ◌∙◌}
use Rattle.std.specs.Prelude.{Some}
use Rattle.layout.specs.Layout.{entry_schema}
use Rattle.lookup.specs.Find.{last_below, found_at}
use Rattle.lookup.specs.Lookup.{entry_is_named, resolve_of}
use Rattle.lookup.proofs.Find.{last_more, last_stop, last_end}
use Rattle.lookup.proofs.resolve.Goals as goal

pub loop-i-init : goal.loop-i-init
loop-i-init c = ap (last_below (entry_is_named c.args.texts.now.pool.now c.args.texts.now.records.now c.args.registry.now c.args.text)) c.entry_count-i.ensures

pub returns-then-same : goal.returns-then-same
unfolding resolve_of
returns-then-same c = ap Some c.entry_schema.ensures ∙ ap (found_at (entry_schema c.args.registry.now)) (last_stop _ _ c.loop-i.invariant (omega arith) (entry_named _ _ _ _ _ c.entry_text.ensures (sym c.same.ensures ∙ c.if-same.true)))

pub loop-i-preserved : goal.loop-i-preserved
loop-i-preserved c = last_more _ _ c.loop-i.invariant (omega arith) (entry_named _ _ _ _ _ c.entry_text.ensures (sym c.same.ensures ∙ c.if-same.false))

pub returns : goal.returns
unfolding resolve_of
returns c = ap (found_at (entry_schema c.args.registry.now)) (last_end _ _ c.loop-i.invariant (omega arith))
