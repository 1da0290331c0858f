use mathlib.Core.Path.{◌≡◌, ap, ◌∙◌}
use borrow.Author.Rules.{rules}
use lib.ListN.{take, drop}
use lib.Seq.{take-take}
use Rattle.joins.specs.Joins.{pair_words, required_words}
use Rattle.joins.proofs.Laws.{linked_short}
use Rattle.joins.proofs.Limits as laws
use Rattle.joins.proofs.lay_all.Goals as goal

pub returns-then-links-at : goal.returns-then-links-at
returns-then-links-at c = linked_short _ _ _ _ _ _ _ c.if-links-at.true

pub returns : goal.returns
unfolding pair_words required_words
returns c =
    let ea : c.split_at_mut-read.result.0.now ≡ take c.args.at c.args.links.now = search rules in
    let bound : take c.args.bound c.split_at_mut-read.result.0.now ≡ take c.args.bound c.args.links.now = ap (take c.args.bound) ea ∙ take-take c.args.bound c.args.at c.args.links.now c.requires.bases in
    let own : take c.args.own c.split_at_mut-read.result.0.now ≡ take c.args.own c.args.links.now = ap (take c.args.own) ea ∙ take-take c.args.own c.args.at c.args.links.now c.requires.derived in
    let eb : c.split_at_mut-read.result.1.now ≡ drop c.args.at c.args.links.now = search rules in
    rw (← bound, ← own) (laws.linked _ _ _ _ _ ea eb c.if-links-at.false _ _ _ _ _ _ c.lay_lists.ensures)
