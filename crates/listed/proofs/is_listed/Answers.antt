use Prim.Native.Nat.{◌+◌, ◌-◌}
use mathlib.Core.Path.{◌≡◌, refl, sym, ◌∙◌}
use lib.ListN.{get_or}
use Rattle.std.proofs.Common.{rules, tests}
use Rattle.std.proofs.lemmas.Iterator.{YieldsList-from_range}
use Rattle.std.proofs.lemmas.Iterator.Search.{any_from_yields_List}
use Rattle.layout.specs.Layout.{node_kind, node_a}
use Rattle.lookup.specs.Lookup.{key_is}
use Rattle.json_equality.specs.Value.{equal_nodes_of}
use Rattle.judge.specs.Judge.{is_listed}
use Rattle.listed.proofs.Lists.{any_slice}
use Rattle.listed.proofs.Texts.{text_step}
use Rattle.listed.proofs.is_listed.Goals as goal

pub returns-then-node_kind-eq-STRING : goal.returns-then-node_kind-eq-STRING
unfolding is_listed
returns-then-node_kind-eq-STRING c =
    let has = key_is c.args.t.now.texts.pool.now c.args.t.now.texts.records.now c.args.t.now.nodes.now (node_a c.args.t.now.nodes.now c.args.n) in
    let is : node_kind c.args.t.now.nodes.now c.args.n ≡ 4 = sym c.node_kind.ensures ∙ c.if-node_kind-eq-STRING.true in
    any_from_yields_List (λ k. has (get_or c.args.t.now.links.now (c.args.first + k) 0)) _ _ _ c.any.ensures.ran (YieldsList-from_range c.args.from c.args.count _ refl refl) (λ x b q k. search (rules, tests))
    ∙ any_slice _ has refl (text_step c.args.way c.args.t.now.texts.pool.now c.args.t.now.texts.records.now c.args.t.now.nodes.now c.args.t.now.links.now c.args.t.now.numbers.now c.args.n is) c.args.t.now.links.now c.args.first c.args.from (c.args.count - c.args.from)

pub returns : goal.returns
unfolding is_listed
returns c =
    let equals = equal_nodes_of c.args.way c.args.t.now.texts.pool.now c.args.t.now.texts.records.now c.args.t.now.nodes.now c.args.t.now.links.now c.args.t.now.numbers.now c.args.n in
    any_from_yields_List (λ k. equals (get_or c.args.t.now.links.now (c.args.first + k) 0)) _ _ _ c.any-2.ensures.ran (YieldsList-from_range c.args.from c.args.count _ refl refl) (λ x b q k. search (rules, tests))
    ∙ any_slice (is_listed c.args.way c.args.t.now.texts.pool.now c.args.t.now.texts.records.now c.args.t.now.nodes.now c.args.t.now.links.now c.args.t.now.numbers.now c.args.n) equals refl (λ x xs. refl) c.args.t.now.links.now c.args.first c.args.from (c.args.count - c.args.from)
