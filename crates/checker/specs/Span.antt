-- Where a text lies in the pool, for a host that slices it itself. Assumes nothing.
use Rattle.std.specs.Prelude.{ℕ, List}
use Rattle.text.specs.Choice.{pick}
use Rattle.text.specs.Text.{text_start, text_length, text_fits}
use Rattle.checker.specs.declared.span.Span.{Span}

abbrev pub span_at : ℕ → ℕ → Span
span_at start size = record { start = start; size = size }

-- a text's record where it lies within the pool; else, and for a wrong number, the empty part
unfoldable pub span_of : List ℕ → List ℕ → ℕ → Span
span_of pool texts n = pick (text_fits pool texts n) (span_at (text_start texts n) (text_length texts n)) (span_at 0 0)
