use native.Mathlib.Omega.{arith}
use mathlib.Core.Path.{sym, ◌∙◌, ap}
use Rattle.lookup.proofs.Find.{first_begin, first_more, first_stop, first_end}
use Rattle.judge.specs.Judge.{duplicate_wrong, keys_verdict}
use Rattle.objects.proofs.Objects.{duplicate_is}
use Rattle.objects.proofs.check_keys.Goals as goal

pub loop-k-init : goal.loop-k-init
loop-k-init c = first_begin _ _ _ c.node_b-count.ensures

pub returns-then-is_duplicate : goal.returns-then-is_duplicate
unfolding keys_verdict
returns-then-is_duplicate c = duplicate_is _ _ _ _ c.entry_key-key.ensures c.node_a.ensures ∙ ap (duplicate_wrong c.args.t.now.nodes.now c.args.t.now.links.now c.args.n) (first_stop _ _ _ c.loop-k.invariant (omega arith) (sym c.is_duplicate.ensures ∙ c.if-is_duplicate.true))

pub loop-k-preserved : goal.loop-k-preserved
loop-k-preserved c = first_more _ _ _ c.loop-k.invariant (omega arith) (sym c.is_duplicate.ensures ∙ c.if-is_duplicate.false)

pub returns : goal.returns
unfolding keys_verdict
returns c = ap (duplicate_wrong c.args.t.now.nodes.now c.args.t.now.links.now c.args.n) (first_end _ _ _ c.loop-k.invariant (omega arith))
