use mathlib.Core.Path.{◌≡◌}
use Prim.Native.Nat.{◌+◌, ◌*◌, ◌≤◌}
use Rattle.layout.specs.Walk.{every}
use Rattle.json_equality.specs.Walk.{equal_at, equal_item_of, equal_arrays_of, equal_entry_of, equal_objects_of}
use Rattle.json_equality.proofs.+equal_arrays_equal_at_equal_objects.Given as goal

-- The walk meets its contracts. Its measure is twice the depth, and one more for an array or an object, which come with their children's depth. Assumes nothing.
abbrev pub decreases-equal_arrays : goal.decreases-equal_arrays
decreases-equal_arrays l = 2 * l.depth + 1

abbrev pub decreases-equal_at : goal.decreases-equal_at
decreases-equal_at l = 2 * l.depth

abbrev pub decreases-equal_objects : goal.decreases-equal_objects
decreases-equal_objects l = 2 * l.depth + 1

abbrev pub invariant-equal_arrays-loop-i : goal.invariant-equal_arrays-loop-i
invariant-equal_arrays-loop-i l =
    (l.i ≤ l.count) × (every (equal_item_of (equal_at l.way l.t.texts.pool.now l.t.texts.records.now l.t.nodes.now l.t.links.now l.t.numbers.now l.depth) l.t.nodes.now l.t.links.now l.a l.b) l.i l.count ≡ equal_arrays_of (equal_at l.way l.t.texts.pool.now l.t.texts.records.now l.t.nodes.now l.t.links.now l.t.numbers.now l.depth) l.t.nodes.now l.t.links.now l.a l.b)

abbrev pub invariant-equal_objects-loop-k : goal.invariant-equal_objects-loop-k
invariant-equal_objects-loop-k l =
    (l.k ≤ l.k-end) × (every (equal_entry_of (equal_at l.way l.t.texts.pool.now l.t.texts.records.now l.t.nodes.now l.t.links.now l.t.numbers.now l.depth) l.t.texts.pool.now l.t.texts.records.now l.t.nodes.now l.t.links.now l.a l.b) l.k l.k-end ≡ equal_objects_of (equal_at l.way l.t.texts.pool.now l.t.texts.records.now l.t.nodes.now l.t.links.now l.t.numbers.now l.depth) l.t.texts.pool.now l.t.texts.records.now l.t.nodes.now l.t.links.now l.a l.b)
