use mathlib.Core.Path.{◌≡◌}
use Prim.Native.Nat.{◌-◌}
use Rattle.lookup.specs.Find.{first_from}
use Rattle.lookup.specs.Lookup.{pair_has_key}
use Rattle.lookup.proofs.place_with.Given as goal

abbrev pub invariant-loop-k : goal.invariant-loop-k
invariant-loop-k l = first_from (pair_has_key l.t.texts.pool.now l.t.texts.records.now l.t.links.now l.first l.text) l.k (l.count - l.k) ≡ first_from (pair_has_key l.t.texts.pool.now l.t.texts.records.now l.t.links.now l.first l.text) 0 l.count
