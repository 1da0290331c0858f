use native.Mathlib.Omega.{arith}
use mathlib.Core.Path.{refl, ◌∙◌}
use Rattle.stored.proofs.Laying.{laid_none, laid_more, laid_all}
use Rattle.stored.specs.Input.{words_put}
use Rattle.stored.proofs.input.put_words.Goals as goal

pub loop-i-init : goal.loop-i-init
loop-i-init c = laid_none _ _ _

pub loop-i-preserved : goal.loop-i-preserved
loop-i-preserved c = c.put.ensures ∙ laid_more _ _ _ _ c.loop-i.invariant refl c.word_at.ensures

pub returns : goal.returns
unfolding words_put
returns c = laid_all _ _ _ _ _ c.loop-i.invariant (omega arith)
