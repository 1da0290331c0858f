use native.Mathlib.Omega.{arith}
use mathlib.Core.Path.{◌∙◌}
use Rattle.tables.proofs.Faults.{passes, stops, sizes_told}
use Rattle.tables.proofs.check.check_sizes.Goals as goal

pub returns-in_err-size_is : goal.returns-in_err-size_is
returns-in_err-size_is c = stops c.size_is.ensures _ c.in_err-size_is.was (grind arith) ∙ sizes_told _ _ _ _ _ _ _ _ _ c.texts_size.ensures c.whole_size-nodes_fit.ensures c.whole_size-registry_fit.ensures c.whole_size-patterns_fit.ensures

pub returns-in_err-size_is-2 : goal.returns-in_err-size_is-2
returns-in_err-size_is-2 c = passes c.size_is.ensures c.in_ok-size_is.was (stops c.size_is-2.ensures _ c.in_err-size_is-2.was (grind arith)) ∙ sizes_told _ _ _ _ _ _ _ _ _ c.texts_size.ensures c.whole_size-nodes_fit.ensures c.whole_size-registry_fit.ensures c.whole_size-patterns_fit.ensures

pub returns-in_err-size_is-3 : goal.returns-in_err-size_is-3
returns-in_err-size_is-3 c = passes c.size_is.ensures c.in_ok-size_is.was (passes c.size_is-2.ensures c.in_ok-size_is-2.was (stops c.size_is-3.ensures _ c.in_err-size_is-3.was (grind arith))) ∙ sizes_told _ _ _ _ _ _ _ _ _ c.texts_size.ensures c.whole_size-nodes_fit.ensures c.whole_size-registry_fit.ensures c.whole_size-patterns_fit.ensures

pub returns-in_err-size_is-4 : goal.returns-in_err-size_is-4
returns-in_err-size_is-4 c = passes c.size_is.ensures c.in_ok-size_is.was (passes c.size_is-2.ensures c.in_ok-size_is-2.was (passes c.size_is-3.ensures c.in_ok-size_is-3.was (stops c.size_is-4.ensures _ c.in_err-size_is-4.was (grind arith)))) ∙ sizes_told _ _ _ _ _ _ _ _ _ c.texts_size.ensures c.whole_size-nodes_fit.ensures c.whole_size-registry_fit.ensures c.whole_size-patterns_fit.ensures

pub returns-in_err-size_is-5 : goal.returns-in_err-size_is-5
returns-in_err-size_is-5 c = passes c.size_is.ensures c.in_ok-size_is.was (passes c.size_is-2.ensures c.in_ok-size_is-2.was (passes c.size_is-3.ensures c.in_ok-size_is-3.was (passes c.size_is-4.ensures c.in_ok-size_is-4.was (stops c.size_is-5.ensures _ c.in_err-size_is-5.was (grind arith))))) ∙ sizes_told _ _ _ _ _ _ _ _ _ c.texts_size.ensures c.whole_size-nodes_fit.ensures c.whole_size-registry_fit.ensures c.whole_size-patterns_fit.ensures

pub returns-in_err-size_is-6 : goal.returns-in_err-size_is-6
returns-in_err-size_is-6 c = passes c.size_is.ensures c.in_ok-size_is.was (passes c.size_is-2.ensures c.in_ok-size_is-2.was (passes c.size_is-3.ensures c.in_ok-size_is-3.was (passes c.size_is-4.ensures c.in_ok-size_is-4.was (passes c.size_is-5.ensures c.in_ok-size_is-5.was (stops c.size_is-6.ensures _ c.in_err-size_is-6.was (grind arith)))))) ∙ sizes_told _ _ _ _ _ _ _ _ _ c.texts_size.ensures c.whole_size-nodes_fit.ensures c.whole_size-registry_fit.ensures c.whole_size-patterns_fit.ensures

pub returns-in_err-size_is-7 : goal.returns-in_err-size_is-7
returns-in_err-size_is-7 c = passes c.size_is.ensures c.in_ok-size_is.was (passes c.size_is-2.ensures c.in_ok-size_is-2.was (passes c.size_is-3.ensures c.in_ok-size_is-3.was (passes c.size_is-4.ensures c.in_ok-size_is-4.was (passes c.size_is-5.ensures c.in_ok-size_is-5.was (passes c.size_is-6.ensures c.in_ok-size_is-6.was (stops c.size_is-7.ensures _ c.in_err-size_is-7.was (grind arith))))))) ∙ sizes_told _ _ _ _ _ _ _ _ _ c.texts_size.ensures c.whole_size-nodes_fit.ensures c.whole_size-registry_fit.ensures c.whole_size-patterns_fit.ensures

pub returns : goal.returns
returns c = passes c.size_is.ensures c.in_ok-size_is.was (passes c.size_is-2.ensures c.in_ok-size_is-2.was (passes c.size_is-3.ensures c.in_ok-size_is-3.was (passes c.size_is-4.ensures c.in_ok-size_is-4.was (passes c.size_is-5.ensures c.in_ok-size_is-5.was (passes c.size_is-6.ensures c.in_ok-size_is-6.was (passes c.size_is-7.ensures c.in_ok-size_is-7.was (c.size_is-8.ensures))))))) ∙ sizes_told _ _ _ _ _ _ _ _ _ c.texts_size.ensures c.whole_size-nodes_fit.ensures c.whole_size-registry_fit.ensures c.whole_size-patterns_fit.ensures
