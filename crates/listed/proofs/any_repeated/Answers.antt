use native.Mathlib.Omega.{arith}
use mathlib.Core.Path.{sym, ◌∙◌, ap}
use Rattle.schema.proofs.Slices.{slice_begin}
use Rattle.judge.specs.Judge.{any_repeated}
use Rattle.listed.proofs.Lists.{repeated_more, repeated_stop, repeated_end}
use Rattle.listed.proofs.any_repeated.Goals as goal

pub loop-i-init : goal.loop-i-init
loop-i-init c = ap (any_repeated c.args.way c.args.t.now.texts.pool.now c.args.t.now.texts.records.now c.args.t.now.nodes.now c.args.t.now.links.now c.args.t.now.numbers.now) (slice_begin c.args.t.now.links.now c.args.first c.args.count)

pub returns-then-is_listed : goal.returns-then-is_listed
returns-then-is_listed c = repeated_stop _ _ _ _ _ _ _ _ _ c.loop-i.invariant (omega arith) (rw (← c.link-x.ensures) (sym c.is_listed.ensures ∙ c.if-is_listed.true))

pub loop-i-preserved : goal.loop-i-preserved
loop-i-preserved c = repeated_more _ _ _ _ _ _ _ _ _ c.loop-i.invariant (omega arith) (rw (← c.link-x.ensures) (sym c.is_listed.ensures ∙ c.if-is_listed.false))

pub returns : goal.returns
returns c = repeated_end _ _ _ _ _ _ _ _ _ c.loop-i.invariant (omega arith)
