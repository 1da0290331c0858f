use native.Mathlib.Omega.{arith}
use mathlib.Core.Path.{refl, ◌∙◌}
use Rattle.tables.proofs.Faults.{passes, stops, sizes_sound, lent_told, tables_told}
use Rattle.tables.proofs.check.check_tables.Goals as goal

pub check_records-requires : goal.check_records-requires
check_records-requires c = sizes_sound _ (lent_told _ _ _ _ _ _ _ _ _ c.check_sizes.ensures c.whole_size-notes_fit.ensures c.whole_size-schemas_fit.ensures c.in_ok-check_sizes.was)

pub returns-in_err-check_sizes : goal.returns-in_err-check_sizes
returns-in_err-check_sizes c = stops refl _ (lent_told _ _ _ _ _ _ _ _ _ c.check_sizes.ensures c.whole_size-notes_fit.ensures c.whole_size-schemas_fit.ensures c.in_err-check_sizes.was) (grind arith) ∙ tables_told _

pub returns : goal.returns
returns c = passes refl (lent_told _ _ _ _ _ _ _ _ _ c.check_sizes.ensures c.whole_size-notes_fit.ensures c.whole_size-schemas_fit.ensures c.in_ok-check_sizes.was) c.check_records.ensures ∙ tables_told _
