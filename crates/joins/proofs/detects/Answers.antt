use borrow.Author.Tests.{ne_eqb}
use Rattle.joins.proofs.Laws as laws
use Rattle.joins.proofs.detects.Goals as goal

pub returns-then-schema_kind-eq-STRING : goal.returns-then-schema_kind-eq-STRING
returns-then-schema_kind-eq-STRING c = laws.detects-note _ _ _ _ c.schema_kind.ensures _ c.if-schema_kind-eq-STRING.true c.note_field.ensures

pub returns-else-schema_kind-eq-STRING : goal.returns-else-schema_kind-eq-STRING
returns-else-schema_kind-eq-STRING c = rw (ne_eqb _ 3 c.if-schema_kind-eq-STRING.false) (laws.detects_other c.args.notes.now _ _ _ c.schema_kind.ensures c.if-schema_kind-eq-STRING.false)
