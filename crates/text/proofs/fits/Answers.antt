use native.Mathlib.Omega.{arith}
use mathlib.Core.Path.{sym, ◌∙◌}
use borrow.Author.Tests.{lt-leb}
use Rattle.text.proofs.Parts.{fits_rest, fits_no}
use Rattle.text.proofs.fits.Goals as goal

pub returns-then-start-whole : goal.returns-then-start-whole
returns-then-start-whole c = fits_rest _ _ _ (omega arith)

pub returns-else-start-whole : goal.returns-else-start-whole
returns-else-start-whole c = lt-leb _ _ c.if-start-whole.false ∙ sym (fits_no _ _ _ (omega arith))
