use Rattle.joins.proofs.Laws as laws
use Rattle.joins.proofs.lay_pairs.Goals as goal

pub returns-in_err-pairs : goal.returns-in_err-pairs
returns-in_err-pairs c = rw c.from_residual.ensures (laws.pairs_full _ _ _ c.in_err-pairs.ensures)

pub returns : goal.returns
returns c = laws.pairs-laid _ _ _ _ c.in_ok-pairs.ensures
