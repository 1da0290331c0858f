use Prim.Native.Nat.{◌+◌, ◌-◌, ◌*◌}
use mathlib.Core.Option.{none}
use Rattle.std.specs.Prelude.{Err}
use Rattle.layout.specs.Layout.{tables}
use Rattle.schema.specs.Look.{slice}
use Rattle.validator.specs.declared.paths.Stop.TheVariants.{Refused}
use Rattle.validator.specs.Validate.{visit_of}
use Rattle.validator.specs.Visit.{all_over, any_over, items_over}
use Rattle.validator.specs.Met.{lastly, all_in, any_in, array_in, object_whole, Later, Same}
use Rattle.validator.proofs.Buffers.{Walked}
use Rattle.validator.proofs.ByKind.{entries_left}
use Rattle.validator.proofs.walk.+visits.Given as goal

-- The measures of the cycle.
abbrev pub decreases-visit : goal.decreases-visit
decreases-visit l = 8 * l.level

abbrev pub decreases-inner : goal.decreases-inner
decreases-inner l = 8 * l.below + 7

abbrev pub decreases-reference : goal.decreases-reference
decreases-reference l = 8 * l.below + 6

abbrev pub decreases-validate_all_of : goal.decreases-validate_all_of
decreases-validate_all_of l = 8 * l.below + 6

abbrev pub decreases-validate_any_of : goal.decreases-validate_any_of
decreases-validate_any_of l = 8 * l.below + 6

abbrev pub decreases-validate_array : goal.decreases-validate_array
decreases-validate_array l = 8 * l.below + 6

abbrev pub decreases-validate_object : goal.decreases-validate_object
decreases-validate_object l = 8 * l.below + 6

abbrev pub decreases-any_later : goal.decreases-any_later
decreases-any_later l = 8 * l.below + 5

abbrev pub decreases-validate_entry : goal.decreases-validate_entry
decreases-validate_entry l = 8 * l.below + 5

abbrev pub decreases-visit_part : goal.decreases-visit_part
decreases-visit_part l = 8 * l.below + 4

-- What each loop has left: the whole is what comes from here on.
abbrev pub invariant-any_later-loop-i : goal.invariant-any_later-loop-i
invariant-any_later-loop-i l =
    let go = visit_of (tables l.t.texts.pool.now l.t.texts.records.now l.t.nodes.now l.t.notes.now l.t.schemas.now l.t.registry.now l.t.patterns.now l.t.links.now l.t.numbers.now) l.mode l.below l.node in
    let best = Err (Refused l.best) in
    Same l.initial.paths l.paths
    × Later (lastly go best (slice l.t.links.now (l.first + l.from) (l.count - l.from)))
    l.initial.paths.instance.now l.paths.instance.now l.initial.paths.schema.now l.paths.schema.now
    (lastly go best (slice l.t.links.now (l.first + l.i) (l.count - l.i)))

abbrev pub invariant-validate_all_of-loop-i : goal.invariant-validate_all_of-loop-i
invariant-validate_all_of-loop-i l =
    let T = tables l.t.texts.pool.now l.t.texts.records.now l.t.nodes.now l.t.notes.now l.t.schemas.now l.t.registry.now l.t.patterns.now l.t.links.now l.t.numbers.now in
    Same l.initial.paths l.paths
    × Walked (all_in T l.mode l.below l.node l.s)
    (all_over (visit_of T l.mode l.below l.node) (slice l.t.links.now (l.first + l.i) (l.count - l.i))) l.trail.log l.trail.steps l.trail.kinds
    l.initial.paths.instance.now l.paths.instance.now l.initial.paths.schema.now l.paths.schema.now

abbrev pub invariant-validate_any_of-loop-i : goal.invariant-validate_any_of-loop-i
invariant-validate_any_of-loop-i l =
    let T = tables l.t.texts.pool.now l.t.texts.records.now l.t.nodes.now l.t.notes.now l.t.schemas.now l.t.registry.now l.t.patterns.now l.t.links.now l.t.numbers.now in
    Same l.initial.paths l.paths
    × Walked (any_in T l.mode l.below l.node l.s)
    (any_over (visit_of T l.mode l.below l.node) none (slice l.t.links.now (l.first + l.i) (l.count - l.i))) l.trail.log l.trail.steps l.trail.kinds
    l.initial.paths.instance.now l.paths.instance.now l.initial.paths.schema.now l.paths.schema.now

abbrev pub invariant-validate_array-loop-i : goal.invariant-validate_array-loop-i
invariant-validate_array-loop-i l =
    let T = tables l.t.texts.pool.now l.t.texts.records.now l.t.nodes.now l.t.notes.now l.t.schemas.now l.t.registry.now l.t.patterns.now l.t.links.now l.t.numbers.now in
    Same l.initial.paths l.paths
    × Walked (array_in T l.mode l.below l.node l.s)
    (items_over (λ m. visit_of T l.mode l.below m l.items) l.i (slice l.t.links.now (l.first + l.i) (l.count - l.i))) l.trail.log l.trail.steps l.trail.kinds
    l.initial.paths.instance.now l.paths.instance.now l.initial.paths.schema.now l.paths.schema.now

abbrev pub invariant-validate_object-loop-k : goal.invariant-validate_object-loop-k
invariant-validate_object-loop-k l =
    let T = tables l.t.texts.pool.now l.t.texts.records.now l.t.nodes.now l.t.notes.now l.t.schemas.now l.t.registry.now l.t.patterns.now l.t.links.now l.t.numbers.now in
    Same l.initial.paths l.paths
    × Walked (object_whole T l.mode l.below l.node l.s)
    (entries_left T l.mode l.below l.node l.s l.k l.count) l.trail.log l.trail.steps l.trail.kinds
    l.initial.paths.instance.now l.paths.instance.now l.initial.paths.schema.now l.paths.schema.now
