use native.Mathlib.Omega.{arith}
use Rattle.std.proofs.lemmas.Result.{err_from_is_err_and}
use mathlib.Core.Path.{refl}
use Rattle.derive.proofs.Build.{built_told}
use Rattle.put.proofs.Laid as laid
use Rattle.put.proofs.put_object.Goals as goal

pub returns-in_err-put_entries : goal.returns-in_err-put_entries
returns-in_err-put_entries c =
    let p = err_from_is_err_and c.from_residual.result c.from_residual.ensures.1 in
    rw (p.1, p.2, c.in_err-put_entries.ensures.full) (laid.lay_no_properties _ _ _ _ _ _ _ _ _ _ _ _ _ _ _ _ _ _ c.requires.ready c.field-first.ensures c.field-count.ensures c.field-on.ensures c.field-patterns.ensures _ c.in_err-put_entries.ensures.listed)

pub overflow_mul-after : goal.overflow_mul-after
overflow_mul-after c = omega (arith, laid.listed_small _ _ _ _ _ _ c.in_ok-put_entries.ensures.listed refl)

pub overflow_add-after : goal.overflow_add-after
overflow_add-after c = omega (arith, laid.listed_small _ _ _ _ _ _ c.in_ok-put_entries.ensures.listed refl)

pub returns-in_err-put_entries-2 : goal.returns-in_err-put_entries-2
returns-in_err-put_entries-2 c =
    let p = err_from_is_err_and c.from_residual-in_err-put_entries-2.result c.from_residual-in_err-put_entries-2.ensures.1 in
    rw (p.1, p.2, c.in_err-put_entries-2.ensures.full) (laid.lay_no_patterns _ _ _ _ _ _ _ _ _ _ _ _ _ _ _ _ _ _ c.requires.ready c.field-first.ensures c.field-count.ensures c.field-on.ensures c.field-patterns.ensures _ c.in_ok-put_entries.ensures.listed _ _ c.in_err-put_entries-2.ensures.listed refl)

pub overflow_mul-v : goal.overflow_mul-v
overflow_mul-v c = omega (arith, laid.listed_small _ _ _ _ _ _ c.in_ok-put_entries-2.ensures.listed refl)

pub overflow_add-v : goal.overflow_add-v
overflow_add-v c = omega (arith, laid.listed_small _ _ _ _ _ _ c.in_ok-put_entries-2.ensures.listed refl)

pub returns : goal.returns
returns c = record { built = λ N. built_told _ _ _ _ _ _ _ _ _ _ _ _ c.requires.ready.most ((laid.lay_done _ _ _ _ _ _ _ _ _ _ _ _ _ _ _ _ _ _ c.requires.ready c.field-first.ensures c.field-count.ensures c.field-on.ensures c.field-patterns.ensures _ c.in_ok-put_entries.ensures.listed _ _ c.in_ok-put_entries-2.ensures.listed refl _ _ _ _ _ _ _ _ c.field-note.ensures c.field-required.ensures c.field-wanted.ensures c.field-least.ensures c.field-most.ensures c.field-closed.ensures c.field-naming.ensures _ c.object_row-rec.ensures _ c.finish.ensures).built N) }
