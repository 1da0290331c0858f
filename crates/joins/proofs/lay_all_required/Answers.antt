use Rattle.joins.specs.Joins.{required_of}
use Rattle.joins.proofs.Limits as laws
use Rattle.joins.proofs.lay_all_required.Goals as goal

pub returns-in_err-end : goal.returns-in_err-end
returns-in_err-end c = rw c.from_residual.ensures (laws.then_full _ _ _ _ c.in_err-end.ensures _)

pub returns-in_err-last : goal.returns-in_err-last
unfolding required_of
returns-in_err-last c =
    rw c.from_residual-in_err-last.ensures
    (rw (c.required_first-first.ensures, c.required_count-count.ensures) at (laws.then_none _ _ _ _ _ c.in_ok-end.ensures _ _ c.in_err-last.ensures))

pub returns : goal.returns
unfolding required_of
returns c =
    rw (c.required_first-first.ensures, c.required_count-count.ensures) at
    (laws.then_some _ _ _ _ _ c.in_ok-end.ensures _ _ _ c.in_ok-last.ensures)
