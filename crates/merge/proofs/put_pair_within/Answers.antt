use mathlib.Core.Path.{refl, sym, ◌∙◌}
use native.Mathlib.Omega.{arith}
use Rattle.merge.proofs.Limits as laws
use Rattle.merge.proofs.put_pair_within.Goals as goal
use Rattle.merge.proofs.put_pair_within.Goals.{then-at-gt-MOST_LINKS-via-then-at-gt-MOST_LINKS, then-at-gt-MOST_LINKS-via-else-at-gt-MOST_LINKS+then-at-n}

pub returns-then-at-gt-MOST_LINKS : goal.returns-then-at-gt-MOST_LINKS
returns-then-at-gt-MOST_LINKS c =
    elim c.then-at-gt-MOST_LINKS.branch [
      | then-at-gt-MOST_LINKS-via-then-at-gt-MOST_LINKS w ↦ laws.put_past _ _ _ _ _ (omega arith)
      | then-at-gt-MOST_LINKS-via-else-at-gt-MOST_LINKS+then-at-n w ↦ laws.put_past _ _ _ _ _ (omega arith)
    ]

pub loop-k-init : goal.loop-k-init
loop-k-init c = (laws.seek-none _ _ _ _ _ c.requires (omega arith), refl)

pub returns-then-same : goal.returns-then-same
returns-then-same c = laws.seek_hit _ _ _ _ _ _ _ c.loop-k.invariant.0 _ c.loop-k.invariant.1 c.loop-k-test.true (sym c.same.ensures ∙ c.if-same.true)

pub loop-k-preserved : goal.loop-k-preserved
loop-k-preserved c = (laws.seek_more _ _ _ _ _ _ _ c.loop-k.invariant.0 _ c.loop-k.invariant.1 c.loop-k-test.true (sym c.same.ensures ∙ c.if-same.false), c.loop-k.invariant.1)

pub returns-then-most-end : goal.returns-then-most-end
returns-then-most-end c = laws.seek_full _ _ _ _ _ _ _ c.loop-k.invariant.0 _ c.loop-k.invariant.1 c.loop-k-test.false (λ z. omega arith)

pub returns : goal.returns
returns c = laws.seek_new _ _ _ _ _ _ _ c.loop-k.invariant.0 _ c.loop-k.invariant.1 c.loop-k-test.false (omega arith) (omega arith)
