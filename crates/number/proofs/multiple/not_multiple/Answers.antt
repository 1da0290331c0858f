-- `number::multiple::not_multiple` meets its contract: a float that is no NaN is that of its own pattern. Assumes nothing.
use Rattle.std.proofs.Common.{◌≡◌, true, T, sym, ap, ◌∙◌, subst, ap₂}
use Rattle.std.specs.Float.{binary64}
use lib.Ieee.{Float, fits, of_bits, to_bits}
use lib.Ieee.Bits.{of_bits-to_bits}
use Rattle.number.specs.Check.{not_multiple_of}
use Rattle.number.proofs.Cases.{nan_passes}
use Rattle.number.proofs.Passing.{absent_multiple}
use Rattle.number.proofs.Patterns.{only_nan}
use Rattle.number.proofs.multiple.not_multiple.Goals as goal

back : (v : Float) → fits binary64 v ≡ true → v ≡ of_bits binary64 (to_bits binary64 v)
back v h = sym (of_bits-to_bits binary64 v (subst T (sym h) tt))

pub returns-then-is_nan : goal.returns-then-is_nan
returns-then-is_nan c = nan_passes c.args.multiple ∙ ap (λ (x : Float). not_multiple_of x c.args.multiple) (sym (only_nan _ (sym c.is_nan.ensures.value ∙ c.if-is_nan.true)))

pub returns-then-is_nan-2 : goal.returns-then-is_nan-2
returns-then-is_nan-2 c = sym (absent_multiple c.args.value) ∙ ap (not_multiple_of c.args.value) (sym (only_nan _ (sym c.is_nan-2.ensures.value ∙ c.if-is_nan-2.true)))

pub returns : goal.returns
returns c = c.not_multiple_bits.ensures ∙ sym (ap₂ not_multiple_of (back _ c.well_formed.0.1) (back _ c.well_formed.1.0.1))
