use Rattle.derive.proofs.Rows as rows
use mathlib.Core.Path.{refl}
use Rattle.std.proofs.lemmas.Result.{err_from_is_err_and}
use Rattle.derive.proofs.Build.{number_some}
use Rattle.derive.proofs.merged_rows.Goals as goal

pub returns-in_err-a : goal.returns-in_err-a
returns-in_err-a c =
    let p = err_from_is_err_and c.from_residual.result c.from_residual.ensures.1 in
    rw (p.1, p.2) (rows.merged_stop _ _ _ _ _ _ _ _ _ _ _ _ _ refl refl refl refl _ c.in_err-a.ensures (number_some _))

pub returns-in_err-n : goal.returns-in_err-n
returns-in_err-n c =
    let p = err_from_is_err_and c.from_residual-in_err-n.result c.from_residual-in_err-n.ensures.1 in
    rw (p.1, p.2) (rows.merged_stop_2 _ _ _ _ _ _ _ _ _ _ _ _ _ refl refl refl refl _ c.in_ok-a.ensures refl _ _ c.in_err-n.ensures (number_some _))

pub returns : goal.returns
returns c = rows.rowed_told _ _ _ _ _ _ (rows.merged_done _ _ _ _ _ _ _ _ _ _ _ _ _ refl refl refl refl _ c.in_ok-a.ensures refl _ _ c.in_ok-n.ensures refl _ _ _ _ (rows.shut_is _ c.from-shut.ensures) c.object_row-rec.ensures c.finish.ensures)
