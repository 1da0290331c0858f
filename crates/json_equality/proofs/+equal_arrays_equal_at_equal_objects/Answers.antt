use mathlib.Core.Path.{sym, ◌∙◌}
use native.Mathlib.Omega.{arith}
use Rattle.layout.proofs.Walk.{every_more, every-stop, every-end}
use Rattle.json_equality.proofs.Steps as steps
use Rattle.json_equality.proofs.Walk as walk
use Rattle.json_equality.proofs.+equal_arrays_equal_at_equal_objects.Goals as goal

pub equal_arrays-returns-then-node_kind-ne-ARRAY : goal.equal_arrays-returns-then-node_kind-ne-ARRAY
equal_arrays-returns-then-node_kind-ne-ARRAY t c = steps.arrays_kind _ _ _ _ _ c.node_kind.ensures c.if-node_kind-ne-ARRAY.true

pub equal_arrays-returns-then-node_b-count : goal.equal_arrays-returns-then-node_b-count
equal_arrays-returns-then-node_b-count t c = steps.arrays_count _ _ _ _ _ c.node_b-count.ensures c.node_b.ensures c.if-node_b-count.true

pub equal_arrays-loop-i-init : goal.equal_arrays-loop-i-init
equal_arrays-loop-i-init t c = (omega arith, steps.arrays_start _ _ _ _ _ c.node_kind.ensures c.if-node_kind-ne-ARRAY.false c.node_b-count.ensures c.node_b.ensures c.if-node_b-count.false)

pub equal_arrays-equal_at-requires : goal.equal_arrays-equal_at-requires
equal_arrays-equal_at-requires t c = omega (arith, c.requires)

pub equal_arrays-returns-then-not-equal_at : goal.equal_arrays-returns-then-not-equal_at
equal_arrays-returns-then-not-equal_at t c = every-stop _ _ _ c.loop-i.invariant.1 (omega arith) (steps.item_is _ _ _ _ _ _ c.item-x.ensures c.item-y.ensures c.equal_at.ensures (c.if-not-equal_at.true))

pub equal_arrays-loop-i-preserved : goal.equal_arrays-loop-i-preserved
equal_arrays-loop-i-preserved t c = (omega arith, every_more _ _ _ c.loop-i.invariant.1 (omega arith) (steps.item_is _ _ _ _ _ _ c.item-x.ensures c.item-y.ensures c.equal_at.ensures (c.if-not-equal_at.false)))

pub equal_arrays-returns : goal.equal_arrays-returns
equal_arrays-returns t c = every-end _ _ _ c.loop-i.invariant.1 c.loop-i.invariant.0 (omega arith)

pub equal_at-returns-then-a-b : goal.equal_at-returns-then-a-b
equal_at-returns-then-a-b t c = walk.at_same _ _ _ _ _ _ _ _ _ c.if-a-b.true

pub equal_at-returns-then-depth-eq0 : goal.equal_at-returns-then-depth-eq0
equal_at-returns-then-depth-eq0 t c = walk.at_bottom _ _ _ _ _ _ _ _ _ c.if-depth-eq0.true

pub equal_at-overflow_sub-depth : goal.equal_at-overflow_sub-depth
equal_at-overflow_sub-depth t c = omega arith

pub equal_at-equal_arrays-requires : goal.equal_at-equal_arrays-requires
equal_at-equal_arrays-requires t c = omega (arith, c.requires, c.if-depth-eq0.false)

pub equal_at-overflow_sub-depth-in-6 : goal.equal_at-overflow_sub-depth-in-6
equal_at-overflow_sub-depth-in-6 t c = omega arith

pub equal_at-equal_objects-requires : goal.equal_at-equal_objects-requires
equal_at-equal_objects-requires t c = omega (arith, c.requires, c.if-depth-eq0.false)

pub equal_at-returns-in-5 : goal.equal_at-returns-in-5
equal_at-returns-in-5 t c = c.equal_arrays.ensures ∙ walk.at_array _ _ _ _ _ _ _ _ _ c.if-depth-eq0.false (sym c.node_kind.ensures ∙ c.in-5.is)

pub equal_at-returns-in-6 : goal.equal_at-returns-in-6
equal_at-returns-in-6 t c = c.equal_objects.ensures ∙ walk.at_object _ _ _ _ _ _ _ _ _ c.if-depth-eq0.false (sym c.node_kind.ensures ∙ c.in-6.is)

pub equal_at-returns-in_default : goal.equal_at-returns-in_default
equal_at-returns-in_default t c = walk.at_leaf _ _ _ _ _ _ _ _ _ c.if-depth-eq0.false (λ q. c.in_default.in_default-own.rest.0.1 (c.node_kind.ensures ∙ q)) (λ q. c.in_default.in_default-own.rest.1 (c.node_kind.ensures ∙ q)) c.shape_of.ensures c.shape_of-in_default.ensures c.equal_leaf.ensures

pub equal_objects-returns-then-node_kind-ne-OBJECT : goal.equal_objects-returns-then-node_kind-ne-OBJECT
equal_objects-returns-then-node_kind-ne-OBJECT t c = steps.objects_kind _ _ _ _ _ _ _ c.node_kind.ensures c.if-node_kind-ne-OBJECT.true

pub equal_objects-returns-then-not-keys_in : goal.equal_objects-returns-then-not-keys_in
equal_objects-returns-then-not-keys_in t c = steps.objects_keys _ _ _ _ _ _ _ c.keys_in.ensures (c.if-not-keys_in.true)

pub equal_objects-loop-k-init : goal.equal_objects-loop-k-init
equal_objects-loop-k-init t c = (omega arith, steps.objects_start _ _ _ _ _ _ _ c.node_kind.ensures c.if-node_kind-ne-OBJECT.false c.keys_in.ensures (c.if-not-keys_in.false) c.node_b-k-end.ensures)

pub equal_objects-returns-in_default : goal.equal_objects-returns-in_default
equal_objects-returns-in_default t c = every-stop _ _ _ c.loop-k.invariant.1 (omega arith) (steps.entry-missing _ _ _ _ _ _ _ _ c.counterpart.ensures c.in_default.is)

pub equal_objects-equal_at-requires : goal.equal_objects-equal_at-requires
equal_objects-equal_at-requires t c = omega (arith, c.requires)

pub equal_objects-returns-then-not-equal_at : goal.equal_objects-returns-then-not-equal_at
equal_objects-returns-then-not-equal_at t c = every-stop _ _ _ c.loop-k.invariant.1 (omega arith) (steps.entry_is _ _ _ _ _ _ _ _ c.counterpart.ensures c.in-Some.is c.entry_value-x.ensures c.equal_at.ensures (c.if-not-equal_at.true))

pub equal_objects-loop-k-preserved : goal.equal_objects-loop-k-preserved
equal_objects-loop-k-preserved t c = (omega arith, every_more _ _ _ c.loop-k.invariant.1 (omega arith) (steps.entry_is _ _ _ _ _ _ _ _ c.counterpart.ensures c.in-Some.is c.entry_value-x.ensures c.equal_at.ensures (c.if-not-equal_at.false)))

pub equal_objects-returns : goal.equal_objects-returns
equal_objects-returns t c = every-end _ _ _ c.loop-k.invariant.1 c.loop-k.invariant.0 (omega arith)
