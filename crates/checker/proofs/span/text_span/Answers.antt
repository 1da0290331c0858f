use mathlib.Core.Path.{sym, ap, ◌∙◌}
use Prim.Native.Nat.{ℕ}
use Rattle.checker.specs.Span.{span_at}
use Rattle.checker.proofs.Spans.{span_in, span-out}
use Rattle.checker.proofs.span.text_span.Goals as goal

pub returns-then-fits : goal.returns-then-fits
returns-then-fits c = ap (λ (start : ℕ). span_at start c.length.result) c.start.ensures ∙ ap (span_at _) c.length.ensures.value ∙ sym (span_in _ _ _ (sym c.fits.ensures ∙ c.if-fits.true))

pub returns : goal.returns
returns c = sym (span-out _ _ _ (sym c.fits.ensures ∙ c.if-fits.false))
