use Rattle.joins.proofs.Limits as laws
use Rattle.joins.proofs.lay_pairs_within.Goals as goal

pub returns-in_err-n : goal.returns-in_err-n
returns-in_err-n c = rw c.from_residual.ensures (laws.pairs_full _ _ _ _ c.in_err-n.ensures)

pub returns : goal.returns
returns c = laws.pairs-laid _ _ _ _ _ c.in_ok-n.ensures
