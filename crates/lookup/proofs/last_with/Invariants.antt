use mathlib.Core.Path.{◌≡◌}
use Rattle.lookup.specs.Find.{last_below}
use Rattle.lookup.specs.Lookup.{entry_has_key, last_entry}
use Rattle.lookup.proofs.last_with.Given as goal

abbrev pub invariant-loop-k : goal.invariant-loop-k
invariant-loop-k l = last_below (entry_has_key l.t.texts.pool.now l.t.texts.records.now l.t.nodes.now l.t.links.now l.n l.text) l.k ≡ last_entry l.t.texts.pool.now l.t.texts.records.now l.t.nodes.now l.t.links.now l.n l.text
