use native.Mathlib.Omega.{arith}
use Rattle.names.proofs.Table.{schema-named, no_schema_named}
use Rattle.names.proofs.type_name.Goals as goal

pub returns-in-0-to-11 : goal.returns-in-0-to-11
returns-in-0-to-11 c = schema-named (omega arith) c.row.ensures

pub returns-in_default : goal.returns-in_default
returns-in_default c = no_schema_named (omega arith) c.row-in_default.ensures
