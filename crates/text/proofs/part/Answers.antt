use native.Mathlib.Omega.{arith}
use mathlib.Core.Path.{sym, ◌∙◌}
use native.Mathlib.Nat.{add-sub_cancel_left}
use Rattle.text.proofs.Parts.{fits_true, part_in, part_out}
use Rattle.text.proofs.part.Goals as goal

pub overflow_add-result : goal.overflow_add-result
overflow_add-result c = omega (arith, fits_true _ _ _ (sym c.fits.ensures ∙ c.if-fits.true))

pub slice_bounds-result-end : goal.slice_bounds-result-end
slice_bounds-result-end c = omega (arith, fits_true _ _ _ (sym c.fits.ensures ∙ c.if-fits.true))

pub returns-then-fits : goal.returns-then-fits
returns-then-fits c = rw add-sub_cancel_left (sym (part_in _ _ _ (sym c.fits.ensures ∙ c.if-fits.true)))

pub returns : goal.returns
returns c = sym (part_out _ _ _ (sym c.fits.ensures ∙ c.if-fits.false))
