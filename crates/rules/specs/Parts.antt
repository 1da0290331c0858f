-- The rule of a schema record as the code parts it: kinds that list, the object, and the others. Assumes nothing.
use Rattle.std.specs.Prelude.{ℕ, List, Bool, false, eqb}
use Rattle.text.specs.Choice.{either, pick}
use Rattle.records.specs.declared.Counts.{Counts}
use Rattle.rules.specs.Schemas.{unused_from, true_ok, number_ok, string_ok, array_ok, ref_ok}

-- enum, anyOf, allOf
unfoldable pub is_list : ℕ → Bool
is_list kind = either (eqb kind 5) (either (eqb kind 7) (eqb kind 8))

-- an enum lists nodes, anyOf and allOf earlier schemas
unfoldable pub list_limit : Counts → ℕ → ℕ → ℕ
list_limit z s kind = pick (eqb kind 5) z.nodes s

-- the kinds whose words name no list
unfoldable pub plain_rule : Counts → List ℕ → ℕ → ℕ → Bool
plain_rule z schemas s kind =
    pick (eqb kind 0) (true_ok schemas s)
    (pick (eqb kind 1) (unused_from schemas s 2)
    (pick (eqb kind 2) (number_ok z schemas s)
    (pick (eqb kind 3) (string_ok z schemas s)
    (pick (eqb kind 4) (unused_from schemas s 2)
    (pick (eqb kind 6) (unused_from schemas s 2)
    (pick (eqb kind 9) (array_ok schemas s)
    (pick (eqb kind 11) (ref_ok z schemas s)
    false)))))))
