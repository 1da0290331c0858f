use mathlib.Core.Path.{◌≡◌}
use Prim.Native.Nat.{◌≤◌, ◌-◌}
use Rattle.layout.specs.Layout.{schema_count}
use Rattle.layout.specs.Walk.{first}
use Rattle.rules.specs.Schemas.{schema_ok}
use Rattle.tables.proofs.walk.schemas_fault.Given as goal

abbrev pub invariant-loop-schema : goal.invariant-loop-schema
invariant-loop-schema l = (l.schema ≤ schema_count l.t.schemas.now) × (first (schema_ok l.z l.t.texts.pool.now l.t.texts.records.now l.t.links.now l.t.schemas.now) l.schema (schema_count l.t.schemas.now) ≡ first (schema_ok l.z l.t.texts.pool.now l.t.texts.records.now l.t.links.now l.t.schemas.now) 0 (schema_count l.t.schemas.now))

abbrev pub decreases-loop-schema : goal.decreases-loop-schema
decreases-loop-schema l = schema_count l.t.schemas.now - l.schema
