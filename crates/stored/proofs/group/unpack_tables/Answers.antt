use native.Mathlib.Omega.{arith}
use mathlib.Core.Path.{ap, ◌∙◌}
use borrow.Author.Rules.{rules}
use Rattle.stored.specs.Stored.{word_behind}
use Rattle.stored.specs.Group.{Unpacking}
use Rattle.stored.proofs.Unpacking.{words_slice, tables-none, tables_more, tables_all}
use Rattle.stored.proofs.group.unpack_tables.Goals as goal

pub loop-k-init : goal.loop-k-init
loop-k-init c = tables-none _ _

pub loop-k-preserved : goal.loop-k-preserved
loop-k-preserved c = tables_more _ _ _ c.loop-k.invariant c.head-h.ensures (c.unpack_slice.ensures (word_behind _ _) (λ i r p. search rules) ∙ words_slice _ _ _ _ _) c.after-end.ensures c.after-at.ensures c.after-head_at.ensures

pub returns : goal.returns
returns c = (let t = tables_all _ _ _ _ _ c.loop-k.invariant (omega arith) in record { ends = ap (λ (s : Unpacking). s.ends) t; after = ap (λ (s : Unpacking). s.at) t; words = ap (λ (s : Unpacking). s.words) t })
