use Rattle.std.proofs.Common.{◌≡◌, Bool, not, T, sym, refl, ◌∙◌, subst}
use lib.Ieee.{nan, binary64, div, of_bits}
use Rattle.number.proofs.Patterns.{nan_above, nan_not, is_nan_lem}
use Rattle.number.proofs.real.float_of.Goals as goal

-- `number::real::float_of` meets its contract. Assumes nothing.
no_number : div binary64 (of_bits binary64 0) (of_bits binary64 0) ≡ nan
unfolding div of_bits
no_number = refl

pub float_from_bits-result : goal.float_from_bits-result
float_from_bits-result c = subst (λ (b : Bool). T (not b)) (sym (nan_not c.args.bits c.if-bits-gt9218868437227405312.false)) tt

pub returns-then-bits-gt9218868437227405312 : goal.returns-then-bits-gt9218868437227405312
returns-then-bits-gt9218868437227405312 c = no_number ∙ sym (is_nan_lem c.args.bits (nan_above c.args.bits c.if-bits-gt9218868437227405312.true))
