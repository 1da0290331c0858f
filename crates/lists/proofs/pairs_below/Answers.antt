use Prim.Native.Nat.{◌-◌}
use mathlib.Core.Path.{refl, ◌∙◌}
use borrow.Author.Tests.{lt-leb}
use Rattle.std.proofs.Common.{rules, tests}
use Rattle.std.proofs.lemmas.Iterator.{YieldsList-from_range}
use Rattle.std.proofs.lemmas.Iterator.Search.{all_from_yields_List}
use Rattle.lists.specs.Lists.{pair_ok}
use Rattle.lists.proofs.Walked.{from_range}
use Rattle.lists.proofs.Below.{pairs_in, pairs-out}
use Rattle.lists.proofs.pairs_below.Goals as goal

pub returns-then-first-count : goal.returns-then-first-count
returns-then-first-count c =
    let f = pair_ok c.args.t.now.links.now c.args.first c.args.known c.args.limit in
    let all = all_from_yields_List f _ _ c.all.result c.all.ensures.ran (YieldsList-from_range 0 c.args.count (c.args.count - 0) (cc) refl) (λ x b q k. search (rules, tests)) in
    from_range f 0 c.args.count all ∙ pairs_in _ _ _ _ _ c.if-first-count.true

pub returns-else-first-count : goal.returns-else-first-count
returns-else-first-count c = lt-leb _ _ c.if-first-count.false ∙ pairs-out _ _ _ _ _ c.if-first-count.false
