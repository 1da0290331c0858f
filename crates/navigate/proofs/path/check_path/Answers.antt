use mathlib.Core.Path.{sym, ap, ◌∙◌}
use Prim.Native.Nat.{ℕ}
use native.Mathlib.Omega.{arith}
use Rattle.tables.specs.Found.{Bad}
use Rattle.navigate.proofs.Steps.{size_few, fault_size, fault_step, fault_none}
use Rattle.navigate.proofs.path.check_path.Goals as goal

pub overflow_cast-result : goal.overflow_cast-result
overflow_cast-result c = record { fits = omega (arith, size_few _ (sym c.path_size.ensures ∙ c.if-not-path_size.false)) }

pub returns-then-bad-step_count : goal.returns-then-bad-step_count
returns-then-bad-step_count c = ap (λ (n : ℕ). Bad 9 n) c.first_bad_step-bad.ensures ∙ fault_step _ _ (sym c.path_size.ensures ∙ c.if-not-path_size.false) (omega arith)

pub returns : goal.returns
returns c = fault_none _ _ (sym c.path_size.ensures ∙ c.if-not-path_size.false) (omega arith)

pub returns-then-not-path_size : goal.returns-then-not-path_size
returns-then-not-path_size c = fault_size _ _ (sym c.path_size.ensures ∙ c.if-not-path_size.true)
