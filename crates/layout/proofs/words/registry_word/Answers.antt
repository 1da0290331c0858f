use native.Mathlib.Omega.{arith}
use Rattle.layout.specs.Layout.{entry_count}
use Rattle.layout.proofs.Entries.{registry_in, registry-out}
use Rattle.layout.proofs.words.registry_word.Goals as goal

pub overflow_mul-result : goal.overflow_mul-result
unfolding entry_count
overflow_mul-result c = omega arith

pub overflow_add-result : goal.overflow_add-result
unfolding entry_count
overflow_add-result c = omega arith

pub offset_bounds-registry-i : goal.offset_bounds-registry-i
unfolding entry_count
offset_bounds-registry-i c = omega arith

pub bounds-registry-i : goal.bounds-registry-i
unfolding entry_count
bounds-registry-i c = omega arith

pub returns-then-i-entry_count : goal.returns-then-i-entry_count
returns-then-i-entry_count c = registry_in _ _ _ (omega arith)

pub returns : goal.returns
returns c = registry-out _ _ _ (omega arith)
