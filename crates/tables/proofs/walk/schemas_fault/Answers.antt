use mathlib.Core.Path.{refl}
use native.Mathlib.Omega.{arith}
use borrow.Author.Rules.{rules}
use Rattle.layout.proofs.Walk.{first_more}
use Rattle.tables.proofs.Loops.{bad_here, none_bad, schema_there, schemas_over}
use Rattle.tables.proofs.walk.schemas_fault.Goals as goal

pub loop-schema-init : goal.loop-schema-init
loop-schema-init c = (search rules, refl)

pub overflow_add-schema-in-loop-schema : goal.overflow_add-schema-in-loop-schema
overflow_add-schema-in-loop-schema c = omega (arith, schema_there c.args.t.now.schemas.now c.loop-schema.schema (omega arith), c.requires)

pub loop-schema-smaller : goal.loop-schema-smaller
loop-schema-smaller c = omega (arith, schema_there c.args.t.now.schemas.now c.loop-schema.schema (omega arith))

pub loop-schema-preserved : goal.loop-schema-preserved
loop-schema-preserved c = (omega (arith, schema_there c.args.t.now.schemas.now c.loop-schema.schema (omega arith)), first_more _ _ _ c.loop-schema.invariant.1 (schema_there c.args.t.now.schemas.now c.loop-schema.schema (omega arith)) (cc))

pub returns-then-not-schema_ok : goal.returns-then-not-schema_ok
returns-then-not-schema_ok c = bad_here _ _ _ _ _ c.loop-schema.invariant.1 (schema_there c.args.t.now.schemas.now c.loop-schema.schema (omega arith)) (cc)

pub returns : goal.returns
returns c = none_bad _ _ _ _ _ c.loop-schema.invariant.1 c.loop-schema.invariant.0 (schemas_over c.args.t.now.schemas.now c.loop-schema.schema (omega arith))
