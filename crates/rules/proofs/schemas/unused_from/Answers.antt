use Prim.Native.Nat.{ℕ, ◌-◌}
use lib.Dec.{eqb}
use mathlib.Core.Bool.{Bool}
use mathlib.Core.Path.{refl}
use Rattle.std.proofs.Common.{rules, tests}
use Rattle.std.proofs.lemmas.Iterator.{YieldsList-from_range}
use Rattle.std.proofs.lemmas.Iterator.Search.{all_from_yields_List}
use Rattle.layout.specs.Layout.{schema_words, schema_word}
use Rattle.lists.proofs.Walked.{from_range}
use Rattle.rules.specs.Schemas.{unused_at, unused_from}
use Rattle.rules.proofs.schemas.unused_from.Goals as goal

pub returns : goal.returns
unfolding unused_from unused_at
returns c =
    let f : ℕ → Bool = λ i. eqb (schema_word c.args.t.now.schemas.now c.args.s i) 0 in
    let all = all_from_yields_List f _ _ c.all.result c.all.ensures.ran (YieldsList-from_range c.args.k schema_words (schema_words - c.args.k) (cc) refl) (λ x b q k. search (rules, tests)) in
    from_range f c.args.k schema_words all
