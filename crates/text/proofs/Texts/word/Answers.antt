use native.Mathlib.Omega.{arith}
use mathlib.Core.Path.{sym}
use Rattle.text.specs.Text.{text_count}
use Rattle.text.proofs.Parts.{word_in, word_out}
use borrow.Author.Rules.{rules}
use Rattle.text.proofs.Texts.word.Goals as goal

pub overflow_mul-n : goal.overflow_mul-n
unfolding text_count
overflow_mul-n c = search rules

pub overflow_add-n : goal.overflow_add-n
unfolding text_count
overflow_add-n c = search rules

pub offset_bounds-self-n : goal.offset_bounds-self-n
unfolding text_count
offset_bounds-self-n c = search rules

pub bounds-self-n : goal.bounds-self-n
unfolding text_count
bounds-self-n c = search rules

pub returns-then-n-count-clause-value : goal.returns-then-n-count-clause-value
returns-then-n-count-clause-value c = cc (word_in c.args.self.now.records.now c.args.n c.args.k (omega arith))

pub returns-clause-value : goal.returns-clause-value
returns-clause-value c = sym (word_out _ _ _ (omega arith))
