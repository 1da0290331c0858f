use native.Mathlib.Omega.{arith}
use Rattle.joins.proofs.Limits as laws
use Rattle.joins.proofs.lay_offer.Goals as goal

pub returns-then-at-gt-MOST_LINKS : goal.returns-then-at-gt-MOST_LINKS
returns-then-at-gt-MOST_LINKS c = laws.filled-past _ _ _ (omega arith)

pub returns-then-w-eq-NONE : goal.returns-then-w-eq-NONE
returns-then-w-eq-NONE c = laws.offer_left _ _ _ (omega arith) c.if-w-eq-NONE.true

pub returns-then-left-eq0 : goal.returns-then-left-eq0
returns-then-left-eq0 c = laws.offer_short _ _ _ c.if-w-eq-NONE.false (λ z. omega arith)

pub returns : goal.returns
returns c = laws.offer_laid _ _ _ c.if-w-eq-NONE.false (omega arith) (omega arith)
