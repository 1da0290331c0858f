-- What callers cite of the values of nodes: equality of nodes is an equivalence in source mode, and a value does not depend on the depth. Assumes nothing.
use mathlib.Core.Path.{◌≡◌, refl, ap, ap₂}
use mathlib.Core.Bool.{Bool, true}
use mathlib.Core.List.{List}
use Prim.Native.Nat.{ℕ, zero, suc, ◌+◌, ◌≤◌, ◌<◌}
use native.Mathlib.Omega.{arith}
use Rattle.number.specs.Equal.{of_source}
use Rattle.number.specs.declared.equal.Equality.{Equality}
use Rattle.number.specs.declared.equal.Equality.TheVariants.{Enum, Unique}
use Rattle.layout.specs.Layout.{node_kind, node_b, node_count}
use Rattle.lookup.specs.Lookup.{entry_key, entry_value, item_node}
use Rattle.json_equality.specs.Json.{Json, array, object, item}
use Rattle.json_equality.specs.Value.{items_from, keyed, fields_from, json_of, value_at, value_of, equal_nodes_of}
use Rattle.json_equality.proofs.Equalities.{equal_refl, equal_sym, equal_trans}
use Rattle.json_equality.proofs.Shapes.{shape_cases}
use Rattle.json_equality.proofs.Walk.{sane_value}

-- ---- equality of nodes
pub record Equivalence (same : ℕ → ℕ → Bool) : Type 0 where
  pub reflexive : (a : ℕ) → same a a ≡ true
  pub symmetric : (a b : ℕ) → same a b ≡ true → same b a ≡ true
  pub transitive : (a b c : ℕ) → same a b ≡ true → same b c ≡ true → same a c ≡ true

module _ (pool texts nodes links numbers : List ℕ) where
  pub nodes_reflexive : (way : Equality) (a : ℕ) → equal_nodes_of way pool texts nodes links numbers a a ≡ true
  unfolding equal_nodes_of value_of
  nodes_reflexive way a = equal_refl way (value_of pool texts nodes links numbers a) (sane_value pool texts nodes links numbers (suc (node_count nodes)) a)

  pub nodes_symmetric : (way : Equality) (a b : ℕ) → equal_nodes_of way pool texts nodes links numbers a b ≡ true → equal_nodes_of way pool texts nodes links numbers b a ≡ true
  unfolding equal_nodes_of
  nodes_symmetric way a b = equal_sym way (value_of pool texts nodes links numbers a) (value_of pool texts nodes links numbers b)

  pub nodes_transitive : (way : Equality) → of_source way ≡ true → (a b c : ℕ) → equal_nodes_of way pool texts nodes links numbers a b ≡ true → equal_nodes_of way pool texts nodes links numbers b c ≡ true → equal_nodes_of way pool texts nodes links numbers a c ≡ true
  unfolding equal_nodes_of
  nodes_transitive way s a b c = equal_trans way s (value_of pool texts nodes links numbers a) (value_of pool texts nodes links numbers b) (value_of pool texts nodes links numbers c)

  source_equivalence : (way : Equality) → of_source way ≡ true → Equivalence (equal_nodes_of way pool texts nodes links numbers)
  source_equivalence way s = record { reflexive = nodes_reflexive way; symmetric = nodes_symmetric way; transitive = nodes_transitive way s }

  pub enum_equivalence : Equivalence (equal_nodes_of Enum pool texts nodes links numbers)
  enum_equivalence = source_equivalence Enum refl

  pub unique_equivalence : Equivalence (equal_nodes_of Unique pool texts nodes links numbers)
  unique_equivalence = source_equivalence Unique refl

-- ---- where children stand before their parents, any two depths above a node give it the same value
pub record Ordered (nodes links : List ℕ) : Type 0 where
  pub items : (n i : ℕ) → node_kind nodes n ≡ 5 → i < node_b nodes n → item_node nodes links n i < n
  pub values : (n i : ℕ) → node_kind nodes n ≡ 6 → i < node_b nodes n → entry_value nodes links n i < n

module _ (pool texts : List ℕ) (f g : ℕ → Json) (nodes links : List ℕ) (n : ℕ) where
  items_same : (i count e : ℕ) → i + count ≡ e → ((k : ℕ) → k < e → f (item_node nodes links n k) ≡ g (item_node nodes links n k)) → items_from f nodes links n i count ≡ items_from g nodes links n i count
  unfolding items_from
  items_same i zero e h s = refl
  items_same i (suc count) e h s = ap₂ item (s i (omega arith)) (items_same (suc i) count e (omega arith) s)

  fields_same : (i count e : ℕ) → i + count ≡ e → ((k : ℕ) → k < e → f (entry_value nodes links n k) ≡ g (entry_value nodes links n k)) → fields_from pool texts f nodes links n i count ≡ fields_from pool texts g nodes links n i count
  unfolding fields_from
  fields_same i zero e h s = refl
  fields_same i (suc count) e h s = ap₂ (keyed pool texts nodes (entry_key nodes links n i)) (s i (omega arith)) (fields_same (suc i) count e (omega arith) s)

module _ (pool texts nodes links numbers : List ℕ) (ordered : Ordered nodes links) where
  pub value_deep : (d e n : ℕ) → n < d → n < e → value_at pool texts nodes links numbers d n ≡ value_at pool texts nodes links numbers e n
  unfolding value_at json_of
  value_deep zero e n h k = absurd (omega arith)
  value_deep (suc d) zero n h k = absurd (omega arith)
  value_deep (suc d) (suc e) n h k =
      shape_cases (λ s. json_of pool texts (value_at pool texts nodes links numbers d) nodes links n s ≡ json_of pool texts (value_at pool texts nodes links numbers e) nodes links n s) nodes numbers n
      refl (λ q. refl) (λ q. refl) (λ q bits t. refl) (λ q. refl)
      (λ q. ap array (items_same pool texts (value_at pool texts nodes links numbers d) (value_at pool texts nodes links numbers e) nodes links n 0 (node_b nodes n) (node_b nodes n) (omega arith) (λ i l. let b = ordered.items n i q l in value_deep d e (item_node nodes links n i) (omega arith) (omega arith))))
      (λ q. ap object (fields_same pool texts (value_at pool texts nodes links numbers d) (value_at pool texts nodes links numbers e) nodes links n 0 (node_b nodes n) (node_b nodes n) (omega arith) (λ i l. let b = ordered.values n i q l in value_deep d e (entry_value nodes links n i) (omega arith) (omega arith))))

  -- so a node's value is that at any depth above its number
  pub value_whole : (d n : ℕ) → n < d → n ≤ node_count nodes → value_at pool texts nodes links numbers d n ≡ value_of pool texts nodes links numbers n
  unfolding value_of
  value_whole d n h k = value_deep d (suc (node_count nodes)) n h (omega arith)
