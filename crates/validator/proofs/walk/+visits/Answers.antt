use Prim.Native.Nat.{◌+◌, ◌-◌}
use mathlib.Core.Path.{refl, sym, ◌∙◌}
use native.Mathlib.Omega.{arith}
use Rattle.layout.specs.Layout.{schema_note}
use Rattle.schema.specs.Look.{note_at}
use Rattle.validator.proofs.Loops as loops
use Rattle.validator.proofs.Loops.{later_decided, later_on, later_end}
use Rattle.validator.proofs.Buffers as bufs
use Rattle.validator.proofs.ByKind as kinds
use Rattle.validator.proofs.Early.{says_accepted}
use Rattle.validator.proofs.walk.+visits.Goals as goal

pub any_later-returns-in_default-clause-later : goal.any_later-returns-in_default-clause-later
any_later-returns-in_default-clause-later t c = later_decided c.loop-i.invariant.1 (loops.lastly_accept c.args.t.now.links.now c.args.first c.args.count c.loop-i.i c.link-part.result (omega arith) c.link-part.ensures _ _ _ _ _ _ refl c.visit.ensures.met.answer c.in_default.is) c.visit.ensures.met

pub any_later-returns-in-Ended-clause-later : goal.any_later-returns-in-Ended-clause-later
any_later-returns-in-Ended-clause-later t c = later_decided c.loop-i.invariant.1 (loops.lastly-stop c.args.t.now.links.now c.args.first c.args.count c.loop-i.i c.link-part.result (omega arith) c.link-part.ensures _ _ _ _ _ _ refl c.visit.ensures.met.answer _ _ c.in-Err.is c.in-Ended.is) c.visit.ensures.met

pub any_later-loop-i-preserved : goal.any_later-loop-i-preserved
any_later-loop-i-preserved t c = (bufs.same_through c.loop-i.invariant.0 c.visit.ensures.same, later_on c.loop-i.invariant.1 (loops.lastly_goes c.args.t.now.links.now c.args.first c.args.count c.loop-i.i c.link-part.result (omega arith) c.link-part.ensures _ _ _ _ _ _ refl c.visit.ensures.met.answer _ c.in-Err.is c.in_default-stop.not-Ended) c.visit.ensures.met)

pub any_later-returns-clause-later : goal.any_later-returns-clause-later
any_later-returns-clause-later t c = later_end c.loop-i.invariant.1 (loops.lastly-end c.args.t.now.links.now c.args.first c.args.count c.loop-i.i (omega arith) _ _)

pub inner-returns-in-1-clause-met : goal.inner-returns-in-1-clause-met
inner-returns-in-1-clause-met t c = bufs.met_is (kinds.inner_boolean _ _ _ _ _ _ c.requires.told _ c.validate_boolean.ensures c.in-1.is) (bufs.deep_verdict c.requires.deep _ c.args.s (note_at c.args.t.now.notes.now (schema_note c.args.t.now.schemas.now c.args.s)) c.judged.ensures)

pub inner-returns-in-2-clause-met : goal.inner-returns-in-2-clause-met
inner-returns-in-2-clause-met t c = bufs.met_is (kinds.inner_number _ _ _ _ _ _ c.requires.told _ c.validate_number.ensures c.in-2.is) (bufs.deep_verdict c.requires.deep _ c.args.s (note_at c.args.t.now.notes.now (schema_note c.args.t.now.schemas.now c.args.s)) c.judged-in-2.ensures)

pub inner-returns-in-3-clause-met : goal.inner-returns-in-3-clause-met
inner-returns-in-3-clause-met t c = bufs.met_is (kinds.inner_string _ _ _ _ _ _ c.requires.told _ c.validate_string.ensures c.in-3.is) (bufs.deep_verdict c.requires.deep _ c.args.s (note_at c.args.t.now.notes.now (schema_note c.args.t.now.schemas.now c.args.s)) c.judged-in-3.ensures)

pub inner-returns-in-4-clause-met : goal.inner-returns-in-4-clause-met
inner-returns-in-4-clause-met t c = bufs.met_is (kinds.inner_null _ _ _ _ _ _ c.requires.told _ c.validate_null.ensures c.in-4.is) (bufs.deep_verdict c.requires.deep _ c.args.s (note_at c.args.t.now.notes.now (schema_note c.args.t.now.schemas.now c.args.s)) c.judged-in-4.ensures)

pub inner-returns-in-5-clause-met : goal.inner-returns-in-5-clause-met
inner-returns-in-5-clause-met t c = bufs.met_is (kinds.inner_enum _ _ _ _ _ _ c.requires.told _ c.validate_enum.ensures c.in-5.is) (bufs.deep_verdict c.requires.deep _ c.args.s (note_at c.args.t.now.notes.now (schema_note c.args.t.now.schemas.now c.args.s)) c.judged-in-5.ensures)

pub inner-returns-in-7-clause-met : goal.inner-returns-in-7-clause-met
inner-returns-in-7-clause-met t c = bufs.met_is (kinds.inner_any _ _ _ _ _ _ c.requires.told c.in-7.is) c.validate_any_of.ensures.met

pub inner-returns-in-8-clause-met : goal.inner-returns-in-8-clause-met
inner-returns-in-8-clause-met t c = bufs.met_is (kinds.inner_all _ _ _ _ _ _ c.requires.told c.in-8.is) c.validate_all_of.ensures.met

pub inner-returns-in-9-clause-met : goal.inner-returns-in-9-clause-met
inner-returns-in-9-clause-met t c = bufs.met_is (kinds.inner_array _ _ _ _ _ _ c.requires.told c.in-9.is) c.validate_array.ensures.met

pub inner-returns-in-10-clause-met : goal.inner-returns-in-10-clause-met
inner-returns-in-10-clause-met t c = bufs.met_is (kinds.inner_object _ _ _ _ _ _ c.requires.told c.in-10.is) c.validate_object.ensures.met

pub inner-returns-in_default-clause-met : goal.inner-returns-in_default-clause-met
inner-returns-in_default-clause-met t c = bufs.met_is (kinds.inner_rest _ _ _ _ _ _ c.requires.told c.requires.small c.in_default.in_default-own.rest.0.0.0.0.0.0.0.0.1 c.in_default.in_default-own.rest.0.0.0.0.0.0.0.1 c.in_default.in_default-own.rest.0.0.0.0.0.0.1 c.in_default.in_default-own.rest.0.0.0.0.0.1 c.in_default.in_default-own.rest.0.0.0.0.1 c.in_default.in_default-own.rest.0.0.0.1 c.in_default.in_default-own.rest.0.0.1 c.in_default.in_default-own.rest.0.1 c.in_default.in_default-own.rest.1) (bufs.deep_accepted c.requires.deep refl bufs.calm_same bufs.calm_same)

pub reference-returns-in-Some-clause-met : goal.reference-returns-in-Some-clause-met
reference-returns-in-Some-clause-met t c = bufs.met_is (kinds.ref_found _ _ _ _ _ _ _ c.ref_text-name.ensures c.resolve.ensures _ c.in-Some.is) c.visit.ensures.met

pub reference-returns-in-None-clause-met : goal.reference-returns-in-None-clause-met
reference-returns-in-None-clause-met t c = bufs.met_is (kinds.ref_lost _ _ _ _ _ _ _ c.ref_text-name.ensures c.resolve.ensures c.in-None.is) (bufs.deep_made c.requires _ c.args.node c.args.s (note_at c.args.t.now.notes.now (schema_note c.args.t.now.schemas.now c.args.s)) _ c.refuse.ensures)

pub validate_all_of-loop-i-init : goal.validate_all_of-loop-i-init
validate_all_of-loop-i-init t c = (record { instance = refl; schema = refl }, record { left = kinds.all_list _ _ _ _ _ _ _ c.list_first-first.ensures c.list_count-count.ensures; instance = bufs.calm_same; schema = bufs.calm_same })

pub validate_all_of-returns-in_err-visit-clause-met : goal.validate_all_of-returns-in_err-visit-clause-met
validate_all_of-returns-in_err-visit-clause-met t c = bufs.walked_stop c.loop-i.invariant.1 (loops.all_stop c.args.t.now.links.now c.list_first-first.result c.list_count-count.result c.loop-i.i c.link-part.result (omega arith) c.link-part.ensures _ _ _ _ _ _ c.loop-i.invariant.1.left c.visit.ensures.met.answer c.in_err-visit.was) c.in_err-visit.was c.from_residual.ensures.1 c.visit.ensures.met

pub validate_all_of-loop-i-preserved : goal.validate_all_of-loop-i-preserved
validate_all_of-loop-i-preserved t c = (bufs.same_through c.loop-i.invariant.0 c.visit.ensures.same, bufs.walked_on c.loop-i.invariant.1 (loops.all_more c.args.t.now.links.now c.list_first-first.result c.list_count-count.result c.loop-i.i c.link-part.result (omega arith) c.link-part.ensures _ _ _ _ _ c.loop-i.invariant.1.left c.visit.ensures.met.answer c.in_ok-visit.was) c.visit.ensures.met)

pub validate_all_of-returns-clause-met : goal.validate_all_of-returns-clause-met
validate_all_of-returns-clause-met t c = bufs.walked_all c.loop-i.invariant.1 c.requires (loops.all_end c.args.t.now.links.now c.list_first-first.result c.list_count-count.result c.loop-i.i (omega arith) _)

pub validate_any_of-loop-i-init : goal.validate_any_of-loop-i-init
validate_any_of-loop-i-init t c = (record { instance = refl; schema = refl }, record { left = kinds.any_list _ _ _ _ _ _ _ c.list_first-first.ensures c.list_count-count.ensures; instance = bufs.calm_same; schema = bufs.calm_same })

pub validate_any_of-returns-in-Ok-clause-met : goal.validate_any_of-returns-in-Ok-clause-met
validate_any_of-returns-in-Ok-clause-met t c = bufs.walked_all (bufs.walked_on c.loop-i.invariant.1 (loops.any_accept c.args.t.now.links.now c.list_first-first.result c.list_count-count.result c.loop-i.i c.link-part.result (omega arith) c.link-part.ensures _ _ _ _ _ c.loop-i.invariant.1.left c.visit.ensures.met.answer c.in-Ok.is) c.visit.ensures.met) c.requires refl

pub validate_any_of-returns-in-Err-Ended-clause-met : goal.validate_any_of-returns-in-Err-Ended-clause-met
validate_any_of-returns-in-Err-Ended-clause-met t c = bufs.walked_ended (bufs.walked_on c.loop-i.invariant.1 (loops.any_stop c.args.t.now.links.now c.list_first-first.result c.list_count-count.result c.loop-i.i c.link-part.result (omega arith) c.link-part.ensures _ _ _ _ _ _ c.loop-i.invariant.1.left c.visit.ensures.met.answer (rw c.in-Err-Ended.field-0-is at c.in-Err-Ended.is)) c.visit.ensures.met) c.requires refl

pub validate_any_of-returns-in-Err-Refused-clause-met : goal.validate_any_of-returns-in-Err-Refused-clause-met
validate_any_of-returns-in-Err-Refused-clause-met t c = bufs.walked_kept c.loop-i.invariant.1 (loops.any_met c.args.t.now.links.now c.list_first-first.result c.list_count-count.result c.loop-i.i c.link-part.result (omega arith) c.link-part.ensures _ _ _ _ _ _ _ _ _ _ _ _ _ _ c.loop-i.invariant.1.left c.visit.ensures.met (rw c.in-Err-Refused.field-0-is at c.in-Err-Refused.is) c.any_later.ensures.later)

pub validate_any_of-loop-i-preserved : goal.validate_any_of-loop-i-preserved
validate_any_of-loop-i-preserved t c = (bufs.same_through c.loop-i.invariant.0 c.visit.ensures.same, bufs.walked_on c.loop-i.invariant.1 (loops.any_more c.args.t.now.links.now c.list_first-first.result c.list_count-count.result c.loop-i.i c.link-part.result (omega arith) c.link-part.ensures _ _ _ _ _ _ c.loop-i.invariant.1.left c.visit.ensures.met.answer (rw c.in-Err-Invalid.field-0-is at c.in-Err-Invalid.is)) c.visit.ensures.met)

pub validate_any_of-returns-clause-met : goal.validate_any_of-returns-clause-met
validate_any_of-returns-clause-met t c = rw c.from.ensures (bufs.walked_ended c.loop-i.invariant.1 c.requires (loops.any_end_lem c.args.t.now.links.now c.list_first-first.result c.list_count-count.result c.loop-i.i (omega arith) _))

pub validate_array-returns-in_err-judged-clause-met : goal.validate_array-returns-in_err-judged-clause-met
validate_array-returns-in_err-judged-clause-met t c = bufs.met_is (kinds.array-wrong _ _ _ _ _ _ c.check_array-v.ensures _ _ _ _ c.judged.ensures c.in_err-judged.was) (bufs.deep_verdict c.requires _ c.args.s (note_at c.args.t.now.notes.now (schema_note c.args.t.now.schemas.now c.args.s)) (sym (c.in_err-judged.was ∙ bufs.passed_up _ _ c.from_residual.ensures.1) ∙ c.judged.ensures))

pub validate_array-returns-then-items-clause-met : goal.validate_array-returns-then-items-clause-met
validate_array-returns-then-items-clause-met t c = bufs.met_is (kinds.array-free _ _ _ _ _ _ c.check_array-v.ensures _ c.array_items-items.ensures (bufs.verdict_fine _ _ (note_at c.args.t.now.notes.now (schema_note c.args.t.now.schemas.now c.args.s)) _ _ _ c.judged.ensures c.in_ok-judged.was) c.if-items.true) (bufs.deep_accepted c.requires refl bufs.calm_same bufs.calm_same)

pub validate_array-loop-i-init : goal.validate_array-loop-i-init
validate_array-loop-i-init t c = (record { instance = refl; schema = refl }, record { left = kinds.array-items _ _ _ _ _ _ c.check_array-v.ensures _ c.array_items-items.ensures (bufs.verdict_fine _ _ (note_at c.args.t.now.notes.now (schema_note c.args.t.now.schemas.now c.args.s)) _ _ _ c.judged.ensures c.in_ok-judged.was) _ _ c.if-items.false c.node_a-first.ensures c.node_b-count.ensures; instance = bufs.calm_same; schema = bufs.calm_same })

pub validate_array-loop-i-preserved-then-accepts : goal.validate_array-loop-i-preserved-then-accepts
validate_array-loop-i-preserved-then-accepts t c = (c.loop-i.invariant.0, record { left = kinds.items_on _ _ _ _ c.args.t.now.links.now c.node_a-first.result c.node_b-count.result c.loop-i.i c.link-part.result (omega arith) c.link-part.ensures _ c.loop-i.invariant.1.left (says_accepted c.accepts.ensures c.if-accepts.true); instance = c.loop-i.invariant.1.instance; schema = c.loop-i.invariant.1.schema })

pub validate_array-returns-in_err-visit_part-clause-met : goal.validate_array-returns-in_err-visit_part-clause-met
validate_array-returns-in_err-visit_part-clause-met t c = bufs.walked_stop c.loop-i.invariant.1 (kinds.items-stop _ _ _ _ c.args.t.now.links.now c.node_a-first.result c.node_b-count.result c.loop-i.i c.link-part.result (omega arith) c.link-part.ensures _ _ _ _ c.loop-i.invariant.1.left c.visit_part.ensures.met.answer _ c.in_err-visit_part.was) c.in_err-visit_part.was c.from_residual-in_err-visit_part.ensures.1 c.visit_part.ensures.met

pub validate_array-loop-i-preserved : goal.validate_array-loop-i-preserved
validate_array-loop-i-preserved t c = (bufs.same_through c.loop-i.invariant.0 c.visit_part.ensures.same, bufs.walked_on c.loop-i.invariant.1 (kinds.items_more _ _ _ _ c.args.t.now.links.now c.node_a-first.result c.node_b-count.result c.loop-i.i c.link-part.result (omega arith) c.link-part.ensures _ _ _ _ c.loop-i.invariant.1.left c.visit_part.ensures.met.answer c.in_ok-visit_part.was) c.visit_part.ensures.met)

pub validate_array-returns-clause-met : goal.validate_array-returns-clause-met
validate_array-returns-clause-met t c = bufs.walked_all c.loop-i.invariant.1 c.requires (loops.items-end c.args.t.now.links.now c.node_a-first.result c.node_b-count.result c.loop-i.i (omega arith) _ _)

pub validate_entry-returns-then-node_kind-ne-STRING-clause-met : goal.validate_entry-returns-then-node_kind-ne-STRING-clause-met
validate_entry-returns-then-node_kind-ne-STRING-clause-met t c = bufs.met_is (kinds.entry_skip _ _ _ _ _ _ _ c.entry_key-key.ensures (λ z. c.if-node_kind-ne-STRING.true (c.node_kind.ensures ∙ z))) (bufs.deep_accepted c.requires refl bufs.calm_same bufs.calm_same)

pub validate_entry-returns-then-accepts-clause-met : goal.validate_entry-returns-then-accepts-clause-met
validate_entry-returns-then-accepts-clause-met t c = bufs.met_is (kinds.entry_part _ _ _ _ _ _ _ c.entry_key-key.ensures _ (sym c.node_kind.ensures ∙ c.if-node_kind-ne-STRING.false) c.node_a-text.ensures _ c.choose.ensures _ _ c.entry_value-value.ensures c.in-Part.is ∙ kinds.part_accepted _ _ _ _ _ _ _ (says_accepted c.accepts.ensures c.if-accepts.true)) (bufs.deep_accepted c.requires refl bufs.calm_same bufs.calm_same)

pub validate_entry-returns-in-Skip-clause-met : goal.validate_entry-returns-in-Skip-clause-met
validate_entry-returns-in-Skip-clause-met t c = bufs.met_is (kinds.entry_free _ _ _ _ _ _ _ c.entry_key-key.ensures _ (sym c.node_kind.ensures ∙ c.if-node_kind-ne-STRING.false) c.node_a-text.ensures _ c.choose.ensures c.in-Skip.is) (bufs.deep_accepted c.requires refl bufs.calm_same bufs.calm_same)

pub validate_entry-returns-in-Closed-clause-met : goal.validate_entry-returns-in-Closed-clause-met
validate_entry-returns-in-Closed-clause-met t c = bufs.met_is (kinds.entry_closed _ _ _ _ _ _ _ c.entry_key-key.ensures _ (sym c.node_kind.ensures ∙ c.if-node_kind-ne-STRING.false) c.node_a-text.ensures _ c.choose.ensures c.in-Closed.is) (bufs.deep_made c.requires _ c.args.node c.args.s (note_at c.args.t.now.notes.now (schema_note c.args.t.now.schemas.now c.args.s)) _ c.refuse.ensures)

pub validate_entry-returns-else-accepts-clause-met : goal.validate_entry-returns-else-accepts-clause-met
validate_entry-returns-else-accepts-clause-met t c = bufs.met_is (kinds.entry_part _ _ _ _ _ _ _ c.entry_key-key.ensures _ (sym c.node_kind.ensures ∙ c.if-node_kind-ne-STRING.false) c.node_a-text.ensures _ c.choose.ensures _ _ c.entry_value-value.ensures c.in-Part.is) c.visit_part.ensures.met

pub validate_object-returns-in_err-judged-clause-met : goal.validate_object-returns-in_err-judged-clause-met
validate_object-returns-in_err-judged-clause-met t c = bufs.met_is (kinds.object-wrong _ _ _ _ _ _ c.check_object-v.ensures _ _ _ _ c.judged.ensures c.in_err-judged.was) (bufs.deep_verdict c.requires _ c.args.s (note_at c.args.t.now.notes.now (schema_note c.args.t.now.schemas.now c.args.s)) (sym (c.in_err-judged.was ∙ bufs.passed_up _ _ c.from_residual.ensures.1) ∙ c.judged.ensures))

pub validate_object-loop-k-init : goal.validate_object-loop-k-init
validate_object-loop-k-init t c = (record { instance = refl; schema = refl }, record { left = kinds.object-start _ _ _ _ _ _ _ c.check_object-v.ensures (bufs.verdict_fine _ _ (note_at c.args.t.now.notes.now (schema_note c.args.t.now.schemas.now c.args.s)) _ _ _ c.judged.ensures c.in_ok-judged.was) c.node_b-count.ensures; instance = bufs.calm_same; schema = bufs.calm_same })

pub validate_object-returns-in_err-validate_entry-clause-met : goal.validate_object-returns-in_err-validate_entry-clause-met
validate_object-returns-in_err-validate_entry-clause-met t c = bufs.walked_stop c.loop-k.invariant.1 (kinds.entries_stop _ _ _ _ _ _ _ _ c.loop-k.invariant.1.left (omega arith) _ _ _ c.validate_entry.ensures.met.answer _ c.in_err-validate_entry.was) c.in_err-validate_entry.was c.from_residual-in_err-validate_entry.ensures.1 c.validate_entry.ensures.met

pub validate_object-loop-k-preserved : goal.validate_object-loop-k-preserved
validate_object-loop-k-preserved t c = (bufs.same_through c.loop-k.invariant.0 c.validate_entry.ensures.same, bufs.walked_on c.loop-k.invariant.1 (kinds.entries_more _ _ _ _ _ _ _ _ c.loop-k.invariant.1.left (omega arith) _ _ _ c.validate_entry.ensures.met.answer c.in_ok-validate_entry.was) c.validate_entry.ensures.met)

pub validate_object-returns-clause-met : goal.validate_object-returns-clause-met
validate_object-returns-clause-met t c = bufs.walked_all c.loop-k.invariant.1 c.requires (kinds.entries_none _ _ _ _ _ _ _ (omega arith))

pub visit_part-returns-in_default-clause-met : goal.visit_part-returns-in_default-clause-met
visit_part-returns-in_default-clause-met t c = bufs.met_up _ _ _ c.args.trail.steps c.args.trail.kinds (c.args.trail.steps + 1) c.args.trail.kinds _ _ _ _ _ (omega arith) (omega arith) (kinds.part_accepted _ _ _ _ _ _ _ (bufs.is_accepted _ _ _ _ c.visit.ensures.met.answer c.in_default.is)) refl (rw c.in_default.is at c.visit.ensures.met)

pub visit_part-returns-clause-met : goal.visit_part-returns-clause-met
visit_part-returns-clause-met t c = bufs.met_is (kinds.part_is _ _ _ _ _ _ _) (rw c.push_step.ensures.kinds (bufs.met_part _ _ _ _ _ _ _ _ _ _ _ _ _ (rw c.in-Err.is at c.visit.ensures.met) c.requires.tagged (omega (arith, c.requires, c.visit.ensures.met.calm_i.long)) c.leaves_step.ensures c.push_step.ensures.step))

pub visit-returns-then-level-eq0-clause-met : goal.visit-returns-then-level-eq0-clause-met
visit-returns-then-level-eq0-clause-met t c = rw c.from.ensures (bufs.met_is (kinds.visit_none _ _ _ _ _ c.if-level-eq0.true) (bufs.met_ended 23 _ _ _ _ _ _ _ _ (omega (arith, c.requires)) (omega (arith, c.requires)) refl bufs.calm_same bufs.calm_same))

pub visit-returns-then-kind-gt-OBJECT-clause-met : goal.visit-returns-then-kind-gt-OBJECT-clause-met
visit-returns-then-kind-gt-OBJECT-clause-met t c = bufs.met_is (kinds.visit_ref _ _ (c.args.level - 1) _ _ _ c.schema_kind-kind.ensures c.args.level (omega (arith, c.if-level-eq0.false)) c.if-kind-gt-OBJECT.true) c.reference.ensures.met

pub visit-returns-in_default-clause-met : goal.visit-returns-in_default-clause-met
visit-returns-in_default-clause-met t c = bufs.met_up _ _ _ c.args.trail.steps c.args.trail.kinds c.args.trail.steps (c.args.trail.kinds + 1) _ _ _ _ _ (omega arith) (omega arith) (kinds.visit_accepted _ _ (c.args.level - 1) _ _ _ c.schema_kind-kind.ensures c.args.level (omega (arith, c.if-level-eq0.false)) c.if-kind-gt-OBJECT.false (bufs.is_accepted _ _ _ _ c.inner.ensures.met.answer c.in_default.is)) refl (rw c.in_default.is at c.inner.ensures.met)

pub visit-returns-clause-met : goal.visit-returns-clause-met
visit-returns-clause-met t c = bufs.met_is (kinds.visit_inner _ _ (c.args.level - 1) _ _ _ c.schema_kind-kind.ensures c.args.level (omega (arith, c.if-level-eq0.false)) c.if-kind-gt-OBJECT.false) (rw c.push_kind.ensures.steps (bufs.met_under _ _ _ _ _ _ _ _ _ _ _ _ (rw c.in-Err.is at c.inner.ensures.met) (omega (arith, c.requires, c.inner.ensures.met.calm_s.long)) c.leaves_kind.ensures c.push_kind.ensures.kind))
