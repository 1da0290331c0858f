use mathlib.Core.Path.{refl}
use Rattle.std.proofs.lemmas.Result.{err_from_is_err_and}
use Rattle.compilation.proofs.Used.{sizes_told, used_bad, used_checked}
use Rattle.compile.proofs.check_used.Goals as goal

pub returns-in_err-check_sizes : goal.returns-in_err-check_sizes
returns-in_err-check_sizes c =
    let p = err_from_is_err_and c.from_residual.result c.from_residual.ensures.1 in
    rw (p.1, p.2) (used_bad _ _ _ (sizes_told _ _ c.in_err-check_sizes.ensures c.note_count.ensures c.used_size-notes_fit.ensures c.schema_count.ensures c.used_size-schemas_fit.ensures c.used_size-links_fit.ensures refl))

pub returns : goal.returns
returns c = used_checked _ _ (sizes_told _ _ c.in_ok-check_sizes.ensures c.note_count.ensures c.used_size-notes_fit.ensures c.schema_count.ensures c.used_size-schemas_fit.ensures c.used_size-links_fit.ensures refl) c.first_words.ensures c.first_words-2.ensures c.first_words-3.ensures c.check_tables.ensures
