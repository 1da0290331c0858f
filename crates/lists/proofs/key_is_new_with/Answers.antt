use mathlib.Core.Path.{refl}
use Prim.Native.Nat.{ℕ, ◌-◌}
use mathlib.Core.Bool.{Bool, not}
use Rattle.std.proofs.Common.{rules, tests}
use Rattle.std.proofs.lemmas.Iterator.{YieldsList-from_range}
use Rattle.std.proofs.lemmas.Iterator.Search.{all_from_yields_List}
use Rattle.text.specs.Text.{same_text}
use Rattle.layout.specs.Layout.{pair_key}
use Rattle.lists.specs.Lists.{keys_differ, key_is_new}
use Rattle.lists.proofs.Walked.{from_range}
use Rattle.lists.proofs.key_is_new_with.Goals as goal

pub returns : goal.returns
unfolding key_is_new keys_differ
returns c =
    let f : ℕ → Bool = λ i. not (same_text c.args.t.now.texts.pool.now c.args.t.now.texts.records.now (pair_key c.args.t.now.links.now c.args.first i) c.pair_key-key.result) in
    let all = all_from_yields_List f _ _ c.all.result c.all.ensures.ran (YieldsList-from_range 0 c.args.j (c.args.j - 0) (cc) refl) (λ x b q k. search (rules, tests)) in
    rw c.pair_key-key.ensures at (from_range f 0 c.args.j all)
