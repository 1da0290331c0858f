use mathlib.Core.Path.{◌≡◌}
use Prim.Native.Nat.{◌≤◌}
use Rattle.layout.specs.Walk.{every}
use Rattle.json_equality.specs.Walk.{key_in_of, keys_in_of}
use Rattle.json_equality.proofs.keys.keys_in.Given as goal

-- `json_equality::keys::keys_in`: the loop's invariant is that the whole is the rest from k on. Assumes nothing.
abbrev pub invariant-loop-k : goal.invariant-loop-k
invariant-loop-k l = (l.k ≤ l.k-end) × (every (key_in_of l.t.texts.pool.now l.t.texts.records.now l.t.nodes.now l.t.links.now l.a l.b) l.k l.k-end ≡ keys_in_of l.t.texts.pool.now l.t.texts.records.now l.t.nodes.now l.t.links.now l.a l.b)
