use mathlib.Core.Path.{◌≡◌}
use Rattle.layout.specs.Layout.{entry_count}
use Rattle.lookup.specs.Find.{last_below}
use Rattle.lookup.specs.Lookup.{entry_is_named}
use Rattle.lookup.proofs.resolve.Given as goal

abbrev pub invariant-loop-i : goal.invariant-loop-i
invariant-loop-i l = last_below (entry_is_named l.texts.pool.now l.texts.records.now l.registry l.text) l.i ≡ last_below (entry_is_named l.texts.pool.now l.texts.records.now l.registry l.text) (entry_count l.registry)
