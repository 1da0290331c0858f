use native.Mathlib.Omega.{arith}
use Rattle.std.proofs.Common.{rules}
use mathlib.Core.Path.{sym, ◌∙◌}
use Rattle.objects.proofs.Objects.{required_begin, required_more, required_stop, required_end}
use Rattle.objects.proofs.check_required.Goals as goal

pub loop-i-init : goal.loop-i-init
loop-i-init c = required_begin _ _ _ _ _ _ _ _ _ c.required_first-first.ensures c.required_count-count.ensures

pub loop-i-preserved : goal.loop-i-preserved
loop-i-preserved c = required_more _ _ _ _ _ _ _ _ _ _ c.loop-i.invariant (omega arith) (rw (← c.link-text.ensures) (sym c.has_key.ensures ∙ search rules))

pub returns-then-not-has_key : goal.returns-then-not-has_key
returns-then-not-has_key c = c.missing_property.ensures ∙ rw c.link-text.ensures (required_stop _ _ _ _ _ _ _ _ _ _ c.loop-i.invariant (omega arith) (rw (← c.link-text.ensures) (sym c.has_key.ensures ∙ search rules)))

pub returns : goal.returns
returns c = required_end _ _ _ _ _ _ _ _ _ _ c.loop-i.invariant (omega arith)
