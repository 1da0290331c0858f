use native.Mathlib.Omega.{arith}
use mathlib.Core.Path.{◌∙◌}
use Rattle.tables.proofs.Faults.{passes, stops, records_told}
use Rattle.tables.proofs.check.check_records.Goals as goal

pub texts_fault-requires : goal.texts_fault-requires
texts_fault-requires c = c.requires.texts

pub nodes_fault-requires : goal.nodes_fault-requires
nodes_fault-requires c = c.requires.nodes

pub notes_fault-requires : goal.notes_fault-requires
notes_fault-requires c = c.requires.notes

pub schemas_fault-requires : goal.schemas_fault-requires
schemas_fault-requires c = c.requires.schemas

pub registry_fault-requires : goal.registry_fault-requires
registry_fault-requires c = c.requires.registry

pub patterns_fault-requires : goal.patterns_fault-requires
patterns_fault-requires c = c.requires.patterns

pub returns-in_err-texts_fault : goal.returns-in_err-texts_fault
returns-in_err-texts_fault c = stops c.texts_fault.ensures _ c.in_err-texts_fault.was (grind arith) ∙ records_told _ c.counts-z.ensures

pub returns-in_err-nodes_fault : goal.returns-in_err-nodes_fault
returns-in_err-nodes_fault c = passes c.texts_fault.ensures c.in_ok-texts_fault.was (stops c.nodes_fault.ensures _ c.in_err-nodes_fault.was (grind arith)) ∙ records_told _ c.counts-z.ensures

pub returns-in_err-notes_fault : goal.returns-in_err-notes_fault
returns-in_err-notes_fault c = passes c.texts_fault.ensures c.in_ok-texts_fault.was (passes c.nodes_fault.ensures c.in_ok-nodes_fault.was (stops c.notes_fault.ensures _ c.in_err-notes_fault.was (grind arith))) ∙ records_told _ c.counts-z.ensures

pub returns-in_err-schemas_fault : goal.returns-in_err-schemas_fault
returns-in_err-schemas_fault c = passes c.texts_fault.ensures c.in_ok-texts_fault.was (passes c.nodes_fault.ensures c.in_ok-nodes_fault.was (passes c.notes_fault.ensures c.in_ok-notes_fault.was (stops c.schemas_fault.ensures _ c.in_err-schemas_fault.was (grind arith)))) ∙ records_told _ c.counts-z.ensures

pub returns-in_err-registry_fault : goal.returns-in_err-registry_fault
returns-in_err-registry_fault c = passes c.texts_fault.ensures c.in_ok-texts_fault.was (passes c.nodes_fault.ensures c.in_ok-nodes_fault.was (passes c.notes_fault.ensures c.in_ok-notes_fault.was (passes c.schemas_fault.ensures c.in_ok-schemas_fault.was (stops c.registry_fault.ensures _ c.in_err-registry_fault.was (grind arith))))) ∙ records_told _ c.counts-z.ensures

pub returns : goal.returns
returns c = passes c.texts_fault.ensures c.in_ok-texts_fault.was (passes c.nodes_fault.ensures c.in_ok-nodes_fault.was (passes c.notes_fault.ensures c.in_ok-notes_fault.was (passes c.schemas_fault.ensures c.in_ok-schemas_fault.was (passes c.registry_fault.ensures c.in_ok-registry_fault.was (c.patterns_fault.ensures))))) ∙ records_told _ c.counts-z.ensures
