use native.Mathlib.Omega.{arith}
use mathlib.Core.Path.{refl, ◌∙◌}
use Rattle.std.proofs.Common.{rules, tests}
use Rattle.std.proofs.lemmas.Iterator.{YieldsList-from_range}
use Rattle.std.proofs.lemmas.Iterator.Search.{any_from_yields_List}
use Rattle.lookup.specs.Lookup.{entry_has_key}
use Rattle.judge.specs.Judge.{has_earlier}
use Rattle.objects.proofs.Objects.{any_first}
use Rattle.objects.proofs.has_earlier.Goals as goal

pub returns : goal.returns
unfolding has_earlier entry_has_key
returns c =
    let has = entry_has_key c.args.t.now.texts.pool.now c.args.t.now.texts.records.now c.args.t.now.nodes.now c.args.t.now.links.now c.args.n c.args.text in
    any_from_yields_List has _ _ _ c.any.ensures.ran (YieldsList-from_range 0 c.args.k c.args.k refl (omega arith)) (λ x b q k. search (rules, tests))
    ∙ any_first has 0 c.args.k
