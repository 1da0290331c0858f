use mathlib.Core.Logic.{⊎_elim, inr}
use Rattle.std.proofs.Common.{refl, arith}
use Rattle.names.proofs.Table.{node-named, bad_named, no_node_named, past}
use Rattle.names.proofs.yaml_type_name.Goals as goal

pub returns-in-0 : goal.returns-in-0
returns-in-0 c =
    ⊎_elim (λ e. node-named (omega arith) e c.row.ensures) (λ e. bad_named e c.row.ensures) c.in-0.is

pub returns-in-1-to-7 : goal.returns-in-1-to-7
returns-in-1-to-7 c = node-named (omega arith) refl c.row-in-1-to-7.ensures

pub returns-in_default : goal.returns-in_default
returns-in_default c = no_node_named (past (omega arith) (λ e. c.in_default.in_default-own.rest.1 (inr e))) c.row-in_default.ensures
