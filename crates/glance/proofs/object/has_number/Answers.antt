use native.Mathlib.Omega.{arith}
use mathlib.Core.Path.{◌≡◌, sym, ◌∙◌}
use Rattle.std.proofs.Common.{rules, tests, true}
use Rattle.std.proofs.lemmas.Iterator.{YieldsList-from_range}
use Rattle.std.proofs.lemmas.Iterator.Search.{any_from_yields_List}
use borrow.Author.Tests.{ltb-true}
use Rattle.layout.specs.Layout.{node_b}
use Rattle.lookup.specs.Lookup.{entry_key}
use Rattle.glance.specs.Glance.{numbered}
use Rattle.glance.proofs.Keys.{key_there, key_among}
use Rattle.glance.proofs.object.has_number.Goals.{then-k-count, else-k-count}
use Rattle.glance.proofs.object.has_number.Goals as goal

pub returns-then-has : goal.returns-then-has
returns-then-has c =
    elim c.if-k-count.branch [
      | then-k-count w ↦
          let passes : numbered c.args.t.now.nodes.now c.args.text (entry_key c.args.t.now.nodes.now c.args.t.now.links.now c.args.n c.args.k) ≡ true = search (rules, tests) in
          key_there _ _ _ _ _ c.args.k (omega arith) passes
      | else-k-count w ↦ absurd (omega (arith, w.if-k-count.false, ltb-true _ _ (sym w.value-is ∙ c.if-has.true)))
    ]

pub returns-else-has : goal.returns-else-has
returns-else-has c =
    let by_number = any_from_yields_List (λ k. numbered c.args.t.now.nodes.now c.args.text (entry_key c.args.t.now.nodes.now c.args.t.now.links.now c.args.n k)) _ _ c.any.result c.any.ensures.ran (YieldsList-from_range 0 (node_b c.args.t.now.nodes.now c.args.n) (node_b c.args.t.now.nodes.now c.args.n) (search rules) (omega arith)) (λ x b q k. search (rules, tests)) in
    key_among _ _ _ _ by_number
