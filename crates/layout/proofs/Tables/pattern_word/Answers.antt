use native.Mathlib.Omega.{arith}
use Rattle.layout.specs.Layout.{pattern_count}
use Rattle.layout.proofs.Entries.{pattern_in, pattern_out}
use Rattle.layout.proofs.Tables.pattern_word.Goals as goal

pub overflow_mul-result : goal.overflow_mul-result
unfolding pattern_count
overflow_mul-result c = omega arith

pub overflow_add-result : goal.overflow_add-result
unfolding pattern_count
overflow_add-result c = omega arith

pub offset_bounds-self-i : goal.offset_bounds-self-i
unfolding pattern_count
offset_bounds-self-i c = omega arith

pub bounds-self-i : goal.bounds-self-i
unfolding pattern_count
bounds-self-i c = omega arith

pub returns-then-i-pattern_count : goal.returns-then-i-pattern_count
returns-then-i-pattern_count c = pattern_in _ _ _ (omega arith)

pub returns : goal.returns
returns c = pattern_out _ _ _ (omega arith)
