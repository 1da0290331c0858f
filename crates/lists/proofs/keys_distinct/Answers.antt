use Prim.Native.Nat.{◌-◌}
use mathlib.Core.Path.{refl, ◌∙◌}
use Rattle.std.proofs.Common.{rules, tests}
use Rattle.std.proofs.lemmas.Iterator.{YieldsList-from_range}
use Rattle.std.proofs.lemmas.Iterator.Search.{all_from_yields_List}
use Rattle.lists.specs.Lists.{key_is_new}
use Rattle.lists.proofs.Walked.{from_range}
use Rattle.lists.proofs.Below.{distinct_is}
use Rattle.lists.proofs.keys_distinct.Goals as goal

pub returns : goal.returns
returns c =
    let f = key_is_new c.args.t.now.texts.pool.now c.args.t.now.texts.records.now c.args.t.now.links.now c.args.first in
    let all = all_from_yields_List f _ _ c.all.result c.all.ensures.ran (YieldsList-from_range 0 c.args.count (c.args.count - 0) (cc) refl) (λ x b q k. search (rules, tests)) in
    from_range f 0 c.args.count all ∙ distinct_is _ _ _ _ _
