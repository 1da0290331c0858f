use native.Mathlib.Omega.{arith}
use mathlib.Core.Path.{sym, ap, ◌∙◌}
use Rattle.lookup.specs.Find.{last_below}
use Rattle.lookup.specs.Lookup.{entry_has_key, last_entry}
use Rattle.lookup.proofs.Find.{last_more, last_stop, last_end}
use Rattle.lookup.proofs.last_with.Goals as goal

pub loop-k-init : goal.loop-k-init
unfolding last_entry
loop-k-init c = ap (last_below (entry_has_key c.args.t.now.texts.pool.now c.args.t.now.texts.records.now c.args.t.now.nodes.now c.args.t.now.links.now c.args.n c.args.text)) c.node_b-k.ensures

pub returns-then-entry_has_key : goal.returns-then-entry_has_key
returns-then-entry_has_key c = last_stop _ _ c.loop-k.invariant (omega arith) (sym c.entry_has_key.ensures ∙ c.if-entry_has_key.true)

pub loop-k-preserved : goal.loop-k-preserved
loop-k-preserved c = last_more _ _ c.loop-k.invariant (omega arith) (sym c.entry_has_key.ensures ∙ c.if-entry_has_key.false)

pub returns : goal.returns
returns c = last_end _ _ c.loop-k.invariant (omega arith)
