-- `number::multiple::is_above` meets its contract: the three ways that the power decides. Assumes nothing.
use Rattle.std.proofs.Common.{◌-◌, ℕ, nat_lt, ap, ◌∙◌, arith}
use Rattle.std.proofs.lemmas.Nat.{one_shl}
use Rattle.number.specs.Magnitude.{above_step}
use Rattle.number.proofs.Step.{past, short-of, within}
use Rattle.number.proofs.multiple.is_above.Goals as goal

pub returns-then-power-gt1022 : goal.returns-then-power-gt1022
unfolding above_step
returns-then-power-gt1022 c = past 1022 c.args.rest c.args.power (omega arith)

pub returns-then-power-lt970 : goal.returns-then-power-lt970
unfolding above_step
returns-then-power-lt970 c = short-of 1022 c.args.rest c.args.power 53 c.requires (omega arith)

pub returns-else-power-lt970 : goal.returns-else-power-lt970
unfolding above_step
returns-else-power-lt970 c =
    ap (λ (x : ℕ). nat_lt x c.args.rest) (one_shl (1022 - c.args.power) 64 (omega arith))
    ∙ within 1022 c.args.rest c.args.power (omega arith)
