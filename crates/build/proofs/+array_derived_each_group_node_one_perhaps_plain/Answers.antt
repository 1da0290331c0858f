use native.Mathlib.Omega.{arith}
use mathlib.Core.Path.{◌≡◌, refl, sym, ap, ◌∙◌}
use Rattle.std.specs.Prelude.{Ok}
use Rattle.std.proofs.lemmas.Result.{err_from_is_err_and}
use Rattle.compilation.specs.State.{Source}
use Rattle.derive.specs.Meets.{source_in}
use Rattle.error.specs.declared.Failure.TheVariants.{BaseNotObject, NoBases, NoRoom}
use Rattle.derive.proofs.Build.{number_some}
use Rattle.derive.proofs.Rows.{ready_grows}
use Rattle.put.specs.Chase.{chase_at}
use Rattle.build.proofs.Build as build
use Rattle.build.proofs.Bases as bases
use Rattle.build.proofs.PlainObject as plains
use Rattle.build.proofs.+array_derived_each_group_node_one_perhaps_plain.Goals as goal

pub array-perhaps-requires : goal.array-perhaps-requires
array-perhaps-requires t c = (omega (arith, c.decreases), c.requires)

pub array-returns-in_err-a-clause-made : goal.array-returns-in_err-a-clause-made
array-returns-in_err-a-clause-made t c = let p = err_from_is_err_and c.from_residual.result c.from_residual.ensures.1 in rw (p.1, p.2) (build.array-stop _ _ _ _ _ _ _ _ _ _ _ _ _ _ _ _ _ c.in_err-a.ensures.made c.requires c.field-items.ensures (number_some _))

pub array-finish-requires : goal.array-finish-requires
array-finish-requires t c = c.in_ok-a.ensures.made.ran.most

pub array-returns-clause-made : goal.array-returns-clause-made
array-returns-clause-made t c = build.built_told _ _ _ _ _ _ _ _ _ _ _ _ c.requires.most (build.array-done _ _ _ _ _ _ _ _ _ _ _ _ _ _ _ _ _ c.in_ok-a.ensures.made c.requires c.field-items.ensures refl _ _ _ _ _ _ c.field-kind.ensures c.field-note.ensures c.field-least.ensures c.field-most.ensures c.field-unique.ensures _ c.finish.ensures)

pub derived-each-requires : goal.derived-each-requires
derived-each-requires t c = (omega (arith, c.decreases), record { ready = c.requires; reach = omega (arith, c.field-first.type_inv); short = omega arith })

pub derived-returns-in_err-a-clause-made : goal.derived-returns-in_err-a-clause-made
derived-returns-in_err-a-clause-made t c = let p = err_from_is_err_and c.from_residual.result c.from_residual.ensures.1 in rw (p.1, p.2) (bases.derived-stop _ _ _ _ _ _ _ _ _ _ _ _ _ _ _ _ _ _ c.in_err-a.ensures.made c.requires c.field-first.ensures c.field-count.ensures (number_some _))

pub derived-overflow_add-want : goal.derived-overflow_add-want
derived-overflow_add-want t c = omega (arith, c.field-count.type_inv, c.requires.top, c.requires.most)

pub derived-returns-then-top-want-clause-made : goal.derived-returns-then-top-want-clause-made
derived-returns-then-top-want-clause-made t c = (build.built_back _ _ _ _ _ _ _ _ _ _ _ _ c.requires.most (number_some BaseNotObject) (bases.derived_leaf _ _ _ _ _ _ _ _ _ _ _ _ _ _ _ _ _ _ c.in_ok-a.ensures.made c.requires c.field-first.ensures c.field-count.ensures refl c.if-top-want.true))

pub derived-returns-then-not-are_objects-clause-made : goal.derived-returns-then-not-are_objects-clause-made
derived-returns-then-not-are_objects-clause-made t c = (build.built_back _ _ _ _ _ _ _ _ _ _ _ _ c.requires.most (number_some BaseNotObject) (bases.derived_other _ _ _ _ _ _ _ _ _ _ _ _ _ _ _ _ _ _ c.in_ok-a.ensures.made c.requires c.field-first.ensures c.field-count.ensures refl c.if-top-want.false (sym c.are_objects.ensures ∙ c.if-not-are_objects.true)))

pub derived-returns-then-count-eq0-clause-made : goal.derived-returns-then-count-eq0-clause-made
derived-returns-then-count-eq0-clause-made t c = (build.built_back _ _ _ _ _ _ _ _ _ _ _ _ c.requires.most (number_some NoBases) (bases.derived-none _ _ _ _ _ _ _ _ _ _ _ _ _ _ _ _ _ _ c.in_ok-a.ensures.made c.requires c.field-first.ensures c.field-count.ensures refl c.if-top-want.false (sym c.are_objects.ensures ∙ c.if-not-are_objects.false) c.if-count-eq0.true))

pub derived-merge_object_schemas-made-requires : goal.derived-merge_object_schemas-made-requires
derived-merge_object_schemas-made-requires t c = ready_grows (bases.derived-ready _ _ _ _ _ _ _ _ _ _ _ _ _ _ _ _ _ _ c.in_ok-a.ensures.made c.requires c.field-first.ensures c.field-count.ensures refl c.if-top-want.false (sym c.are_objects.ensures ∙ c.if-not-are_objects.false) c.in_ok-a.ensures.made.ran.long)

pub derived-shape_of-links : goal.derived-shape_of-links
derived-shape_of-links t c = ap (λ (D : Source). D.links_lent) ((c.merge_object_schemas-made.ensures.made 0).ran.source ∙ c.in_ok-a.ensures.made.ran.source)

pub derived-returns-clause-made : goal.derived-returns-clause-made
derived-returns-clause-made t c = rw c.replace-stack.ensures.value (build.built_told _ _ _ _ _ _ _ _ _ _ _ _ c.requires.most (bases.derived_join_aside _ _ _ _ _ _ _ _ _ _ _ _ _ _ _ _ _ _ c.in_ok-a.ensures.made c.requires c.field-first.ensures c.field-count.ensures refl c.if-top-want.false (sym c.are_objects.ensures ∙ c.if-not-are_objects.false) c.if-count-eq0.false _ (rw c.replace-stack.ensures.value at c.words_from-bases.ensures) _ _ _ _ _ _ 0 _ (c.merge_object_schemas-made.ensures.made 0)))

pub each-loop-i-init : goal.each-loop-i-init
each-loop-i-init t c = record { going = build.going_none _ _ _ _ _ _ _ _ _ _ c.requires.ready c.requires.short; lent = (refl, refl, refl) }

pub each-one-requires : goal.each-one-requires
each-one-requires t c = (omega (arith, c.decreases), c.loop-i.invariant.going.ready)

pub each-returns-in_err-a-clause-made : goal.each-returns-in_err-a-clause-made
each-returns-in_err-a-clause-made t c = let p = err_from_is_err_and c.from_residual.result c.from_residual.ensures.1 in rw (p.1, p.2) (build.each_back _ _ _ _ _ _ _ _ _ _ _ _ _ _ _ c.requires.ready.most (number_some _) (build.going_stop _ _ _ _ _ _ _ _ _ _ _ _ _ _ _ _ _ c.loop-i.invariant.going c.loop-i-test.true _ c.word-s.ensures _ _ _ _ _ _ c.in_err-a.ensures.made (number_some _)))

pub each-push-top-requires : goal.each-push-top-requires
each-push-top-requires t c = record { most = omega (arith, c.loop-i.invariant.going.ready.top, c.loop-i.invariant.going.ready.most); free = build.going_free _ _ _ _ _ _ _ _ _ _ _ _ _ _ _ _ _ c.loop-i.invariant.going c.loop-i-test.true _ c.word-s.ensures _ _ _ _ _ _ c.in_ok-a.ensures.made refl c.in_ok-a.ensures.made.ran.long }

pub each-overflow_add-q : goal.each-overflow_add-q
each-overflow_add-q t c = omega (arith, c.loop-i.invariant.going.reach, c.loop-i.invariant.going.short, c.loop-i-test.true, c.requires.reach, c.ranges.count)

pub each-loop-i-preserved : goal.each-loop-i-preserved
each-loop-i-preserved t c = record { going = build.going_more _ _ _ _ _ _ _ _ _ _ _ _ _ _ _ _ _ c.loop-i.invariant.going c.loop-i-test.true _ c.word-s.ensures _ _ _ _ _ _ c.in_ok-a.ensures.made refl c.in_ok-a.ensures.made.ran.long _ _ c.push-top.ensures.1 c.push-top.ensures.0; lent = (c.in_ok-a.ensures.lent.0 ∙ c.loop-i.invariant.lent.0, c.in_ok-a.ensures.lent.1 ∙ c.loop-i.invariant.lent.1, c.in_ok-a.ensures.lent.2 ∙ c.loop-i.invariant.lent.2) }

pub each-shape_of-links : goal.each-shape_of-links
each-shape_of-links t c = ap (λ (D : Source). D.links_lent) c.loop-i.invariant.going.ran.source

pub each-shape_of-links-in_err-a : goal.each-shape_of-links-in_err-a
each-shape_of-links-in_err-a t c = ap (λ (D : Source). D.links_lent) (c.in_err-a.ensures.made.ran.source ∙ c.loop-i.invariant.going.ran.source)

pub each-returns-clause-made : goal.each-returns-clause-made
each-returns-clause-made t c = build.going_end _ _ _ _ _ _ _ _ _ _ _ _ _ _ _ _ _ _ _ c.loop-i.invariant.going (omega arith)

pub group-each-requires : goal.group-each-requires
group-each-requires t c = (omega (arith, c.decreases), record { ready = c.requires; reach = omega (arith, c.field-first.type_inv); short = omega arith })

pub group-returns-in_err-a-clause-made : goal.group-returns-in_err-a-clause-made
group-returns-in_err-a-clause-made t c = let p = err_from_is_err_and c.from_residual.result c.from_residual.ensures.1 in rw (p.1, p.2) (build.group-stop _ _ _ _ _ _ _ _ _ _ _ _ _ _ _ _ _ _ c.in_err-a.ensures.made c.requires c.field-first.ensures c.field-count.ensures (number_some _))

pub group-put_numbers-requires : goal.group-put_numbers-requires
group-put_numbers-requires t c = (omega (arith, c.requires.links, c.in_ok-a.ensures.made.ran.links), omega (arith, c.requires.top, c.requires.most))

pub group-returns-in_err-put_numbers-clause-made : goal.group-returns-in_err-put_numbers-clause-made
unfolding chase_at
group-returns-in_err-put_numbers-clause-made t c = let p = err_from_is_err_and c.from_residual-in_err-put_numbers.result c.from_residual-in_err-put_numbers.ensures.1 in rw (p.1, p.2, c.in_err-put_numbers.ensures.full) (build.built_back _ _ _ _ _ _ _ _ _ _ _ _ c.requires.most (number_some NoRoom) (build.group_full _ _ _ _ _ _ _ _ _ _ _ _ _ _ _ _ _ _ c.in_ok-a.ensures.made c.requires c.field-first.ensures c.field-count.ensures refl _ c.in_err-put_numbers.ensures.listed))

pub group-overflow_add-v : goal.group-overflow_add-v
group-overflow_add-v t c = omega (arith, build.listed_small _ _ _ _ _ _ c.in_ok-put_numbers.ensures.listed refl)

pub group-finish-requires : goal.group-finish-requires
group-finish-requires t c = c.in_ok-a.ensures.made.ran.most

pub group-returns-clause-made : goal.group-returns-clause-made
unfolding chase_at
group-returns-clause-made t c = build.built_told _ _ _ _ _ _ _ _ _ _ _ _ c.requires.most (build.group-done _ _ _ _ _ _ _ _ _ _ _ _ _ _ _ _ _ _ c.in_ok-a.ensures.made c.requires c.field-first.ensures c.field-count.ensures refl _ _ _ _ c.field-kind.ensures c.field-note.ensures c.in_ok-put_numbers.ensures.listed _ c.list_row-rec.ensures _ c.finish.ensures)

pub node-array-requires : goal.node-array-requires
node-array-requires t c = (omega (arith, c.decreases), c.requires)

pub node-plain-requires : goal.node-plain-requires
node-plain-requires t c = (omega (arith, c.decreases), c.requires)

pub node-derived-requires : goal.node-derived-requires
node-derived-requires t c = (omega (arith, c.decreases), c.requires)

pub node-group-requires : goal.node-group-requires
node-group-requires t c = (omega (arith, c.decreases), c.requires)

pub node-returns-then-kind-eq-ARRAY-clause-made : goal.node-returns-then-kind-eq-ARRAY-clause-made
node-returns-then-kind-eq-ARRAY-clause-made t c = build.built_is _ _ _ _ _ _ _ _ _ _ _ _ (build.node-array _ _ _ _ _ c.field-kind.ensures c.if-kind-eq-ARRAY.true) c.array.ensures.made

pub node-returns-then-has_no_bases-clause-made : goal.node-returns-then-has_no_bases-clause-made
node-returns-then-has_no_bases-clause-made t c = build.built_is _ _ _ _ _ _ _ _ _ _ _ _ (plains.node-plain _ _ _ _ _ _ c.field-kind.ensures c.if-kind-eq-ARRAY.false c.if-kind-eq-OBJECT.true c.has_no_bases.ensures c.if-has_no_bases.true) c.plain.ensures.made

pub node-returns-then-kind-eq-OBJECT-clause-made : goal.node-returns-then-kind-eq-OBJECT-clause-made
node-returns-then-kind-eq-OBJECT-clause-made t c = build.built_is _ _ _ _ _ _ _ _ _ _ _ _ (plains.node-derived _ _ _ _ _ _ c.field-kind.ensures c.if-kind-eq-ARRAY.false c.if-kind-eq-OBJECT.true c.has_no_bases.ensures c.if-has_no_bases.false) c.derived.ensures.made

pub node-returns-clause-made : goal.node-returns-clause-made
node-returns-clause-made t c = build.built_is _ _ _ _ _ _ _ _ _ _ _ _ (build.node-group _ _ _ _ _ c.field-kind.ensures c.if-kind-eq-ARRAY.false c.if-kind-eq-OBJECT.false) c.group.ensures.made

pub one-node-requires : goal.one-node-requires
unfolding chase_at
one-node-requires t c = (omega (arith, c.decreases, build.node_below (source_in c.args.origin.now c.args.work.now c.args.links.now) c.args.level c.args.s _ _ (sym c.in_ok-lead.ensures ∙ ap Ok c.in-Node.is)), c.requires)

pub one-returns-in_err-lead-clause-made : goal.one-returns-in_err-lead-clause-made
unfolding chase_at
one-returns-in_err-lead-clause-made t c = let p = err_from_is_err_and c.from_residual.result c.from_residual.ensures.1 in rw (p.1, p.2) (build.one-refuse _ _ _ _ _ _ _ (source_in c.args.origin.now c.args.work.now c.args.links.now) c.args.level c.args.s _ _ c.in_err-lead.ensures c.requires _ refl)

pub one-returns-in-Leaf-clause-made : goal.one-returns-in-Leaf-clause-made
unfolding chase_at
one-returns-in-Leaf-clause-made t c = build.one_leaf _ _ _ _ _ _ _ (source_in c.args.origin.now c.args.work.now c.args.links.now) c.args.level c.args.s _ _ c.in_ok-lead.ensures c.requires _ (ap Ok c.in-Leaf.is) refl

pub one-returns-in-Node-clause-made : goal.one-returns-in-Node-clause-made
unfolding chase_at
one-returns-in-Node-clause-made t c = build.one-node _ _ c.args.work.now.notes.now c.args.work.now.schemas.now c.args.links.now _ _ (source_in c.args.origin.now c.args.work.now c.args.links.now) c.args.level c.args.s _ _ c.in_ok-lead.ensures c.requires _ _ (ap Ok c.in-Node.is) _ _ _ _ _ _ c.node.ensures.made

pub perhaps-returns-then-s-eq-NONE-clause-made : goal.perhaps-returns-then-s-eq-NONE-clause-made
perhaps-returns-then-s-eq-NONE-clause-made t c = build.perhaps-none _ _ _ _ _ _ _ _ _ _ c.requires c.if-s-eq-NONE.true

pub perhaps-one-requires : goal.perhaps-one-requires
perhaps-one-requires t c = (omega (arith, c.decreases), c.requires)

pub perhaps-returns-clause-made : goal.perhaps-returns-clause-made
perhaps-returns-clause-made t c = build.perhaps-one _ _ _ _ _ _ _ _ _ _ _ _ _ c.if-s-eq-NONE.false c.one.ensures.made

pub plain-each-requires : goal.plain-each-requires
plain-each-requires t c = (omega (arith, c.decreases), record { ready = c.requires; reach = omega (arith, c.field-first.type_inv); short = omega arith })

pub plain-returns-in_err-a-clause-made : goal.plain-returns-in_err-a-clause-made
plain-returns-in_err-a-clause-made t c = let p = err_from_is_err_and c.from_residual.result c.from_residual.ensures.1 in rw (p.1, p.2) (plains.plain_no_properties _ _ _ _ _ _ _ _ _ _ _ c.requires _ _ c.field-first.ensures c.field-count.ensures _ _ _ _ _ c.in_err-a.ensures.made (number_some _))

pub plain-each-requires-2 : goal.plain-each-requires-2
plain-each-requires-2 t c = (omega (arith, c.decreases), record { ready = plains.plain_ready₁ _ _ _ _ _ _ _ _ _ _ _ c.requires _ _ c.field-first.ensures c.field-count.ensures _ _ _ _ _ c.in_ok-a.ensures.made refl c.in_ok-a.ensures.made.ran.long; reach = omega (arith, c.field-on.type_inv); short = omega arith })

pub plain-returns-in_err-b-clause-made : goal.plain-returns-in_err-b-clause-made
plain-returns-in_err-b-clause-made t c = let p = err_from_is_err_and c.from_residual-in_err-b.result c.from_residual-in_err-b.ensures.1 in rw (p.1, p.2) (build.built_back _ _ _ _ _ _ _ _ _ _ _ _ c.requires.most (number_some _) (plains.plain_no_patterns _ _ _ _ _ _ _ _ _ _ _ c.requires _ _ c.field-first.ensures c.field-count.ensures _ _ _ _ _ c.in_ok-a.ensures.made refl _ _ c.field-on.ensures c.field-patterns.ensures _ _ _ _ _ c.in_err-b.ensures.made (number_some _)))

pub plain-perhaps-requires : goal.plain-perhaps-requires
plain-perhaps-requires t c = (omega (arith, c.decreases), plains.plain_ready₂ _ _ _ _ _ _ _ _ _ _ _ c.requires _ _ c.field-first.ensures c.field-count.ensures _ _ _ _ _ c.in_ok-a.ensures.made refl _ _ c.field-on.ensures c.field-patterns.ensures _ _ _ _ _ c.in_ok-b.ensures.made refl c.in_ok-b.ensures.made.ran.long c.in_ok-a.ensures.made.ran.long)

pub plain-returns-in_err-c-clause-made : goal.plain-returns-in_err-c-clause-made
plain-returns-in_err-c-clause-made t c = let p = err_from_is_err_and c.from_residual-in_err-c.result c.from_residual-in_err-c.ensures.1 in rw (p.1, p.2) (build.built_back _ _ _ _ _ _ _ _ _ _ _ _ c.requires.most (number_some _) (plains.plain_no_additional _ _ _ _ _ _ _ _ _ _ _ c.requires _ _ c.field-first.ensures c.field-count.ensures _ _ _ _ _ c.in_ok-a.ensures.made refl _ _ c.field-on.ensures c.field-patterns.ensures _ _ _ _ _ c.in_ok-b.ensures.made refl _ c.field-item.ensures _ _ _ _ _ c.in_err-c.ensures.made (number_some _)))

pub plain-perhaps-requires-2 : goal.plain-perhaps-requires-2
plain-perhaps-requires-2 t c = (omega (arith, c.decreases), plains.plain_ready₃ _ _ _ _ _ _ _ _ _ _ _ c.requires _ _ c.field-first.ensures c.field-count.ensures _ _ _ _ _ c.in_ok-a.ensures.made refl _ _ c.field-on.ensures c.field-patterns.ensures _ _ _ _ _ c.in_ok-b.ensures.made refl _ c.field-item.ensures _ _ _ _ _ c.in_ok-c.ensures.made refl c.in_ok-c.ensures.made.ran.long c.in_ok-b.ensures.made.ran.long c.in_ok-a.ensures.made.ran.long)

pub plain-returns-in_err-d-clause-made : goal.plain-returns-in_err-d-clause-made
plain-returns-in_err-d-clause-made t c = let p = err_from_is_err_and c.from_residual-in_err-d.result c.from_residual-in_err-d.ensures.1 in rw (p.1, p.2) (build.built_back _ _ _ _ _ _ _ _ _ _ _ _ c.requires.most (number_some _) (plains.plain_no_names _ _ _ _ _ _ _ _ _ _ _ c.requires _ _ c.field-first.ensures c.field-count.ensures _ _ _ _ _ c.in_ok-a.ensures.made refl _ _ c.field-on.ensures c.field-patterns.ensures _ _ _ _ _ c.in_ok-b.ensures.made refl _ c.field-item.ensures _ _ _ _ _ c.in_ok-c.ensures.made refl _ c.field-name.ensures _ _ _ _ _ c.in_err-d.ensures.made (number_some _)))

pub plain-put_object-made-requires : goal.plain-put_object-made-requires
plain-put_object-made-requires t c = let same : c.replace-stack.result.now ≡ c.perhaps-2.new.work.stack.now = rw c.replace-stack.ensures.value refl in plains.ready_same same (plains.plain_ready₄ _ _ _ _ _ _ _ _ _ _ _ c.requires _ _ c.field-first.ensures c.field-count.ensures _ _ _ _ _ c.in_ok-a.ensures.made refl _ _ c.field-on.ensures c.field-patterns.ensures _ _ _ _ _ c.in_ok-b.ensures.made refl _ c.field-item.ensures _ _ _ _ _ c.in_ok-c.ensures.made refl _ c.field-name.ensures _ _ _ _ _ c.in_ok-d.ensures.made refl c.in_ok-d.ensures.made.ran.long c.in_ok-c.ensures.made.ran.long c.in_ok-b.ensures.made.ran.long c.in_ok-a.ensures.made.ran.long)

pub plain-shape_of-links-in_err-b : goal.plain-shape_of-links-in_err-b
plain-shape_of-links-in_err-b t c = ap (λ (D : Source). D.links_lent) (c.in_err-b.ensures.made.ran.source ∙ c.in_ok-a.ensures.made.ran.source)

pub plain-shape_of-links-in_err-c : goal.plain-shape_of-links-in_err-c
plain-shape_of-links-in_err-c t c = ap (λ (D : Source). D.links_lent) (c.in_err-c.ensures.made.ran.source ∙ c.in_ok-b.ensures.made.ran.source ∙ c.in_ok-a.ensures.made.ran.source)

pub plain-shape_of-links-in_err-d : goal.plain-shape_of-links-in_err-d
plain-shape_of-links-in_err-d t c = ap (λ (D : Source). D.links_lent) (c.in_err-d.ensures.made.ran.source ∙ c.in_ok-c.ensures.made.ran.source ∙ c.in_ok-b.ensures.made.ran.source ∙ c.in_ok-a.ensures.made.ran.source)

pub plain-shape_of-links : goal.plain-shape_of-links
plain-shape_of-links t c = ap (λ (D : Source). D.links_lent) ((c.put_object-made.ensures.built _).ran.source ∙ c.in_ok-d.ensures.made.ran.source ∙ c.in_ok-c.ensures.made.ran.source ∙ c.in_ok-b.ensures.made.ran.source ∙ c.in_ok-a.ensures.made.ran.source)

pub plain-returns-clause-made : goal.plain-returns-clause-made
plain-returns-clause-made t c = let same : c.replace-stack.result.now ≡ c.perhaps-2.new.work.stack.now = rw c.replace-stack.ensures.value refl in build.built_told _ _ _ _ _ _ _ _ _ _ _ _ c.requires.most (plains.plain_done_on _ _ _ _ _ _ _ _ _ _ _ c.requires _ _ c.field-first.ensures c.field-count.ensures _ _ _ _ _ c.in_ok-a.ensures.made refl _ _ c.field-on.ensures c.field-patterns.ensures _ _ _ _ _ c.in_ok-b.ensures.made refl _ c.field-item.ensures _ _ _ _ _ c.in_ok-c.ensures.made refl _ c.field-name.ensures _ _ _ _ _ c.in_ok-d.ensures.made refl _ _ _ _ _ same (c.put_object-made.ensures.built _))
