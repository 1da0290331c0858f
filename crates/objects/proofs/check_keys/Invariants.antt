use Prim.Native.Nat.{◌-◌}
use mathlib.Core.Path.{◌≡◌}
use Rattle.layout.specs.Layout.{node_b}
use Rattle.lookup.specs.Find.{first_from}
use Rattle.judge.specs.Judge.{is_duplicate}
use Rattle.objects.proofs.check_keys.Given as goal

abbrev pub invariant-loop-k : goal.invariant-loop-k
invariant-loop-k l = first_from (is_duplicate l.t.texts.pool.now l.t.texts.records.now l.t.nodes.now l.t.links.now l.n) l.k (l.count - l.k) ≡ first_from (is_duplicate l.t.texts.pool.now l.t.texts.records.now l.t.nodes.now l.t.links.now l.n) 0 (node_b l.t.nodes.now l.n)
