-- The walk over nodes decides equality of values: what each of its functions answers, one step at a time. Assumes nothing.
use mathlib.Core.Path.{◌≡◌, refl, sym, ap, ap₂, ◌∙◌}
use mathlib.Core.Bool.{Bool, true, false, not}
use mathlib.Core.List.{List}
use mathlib.Core.Logic.{⊎_elim}
use Prim.Native.Nat.{ℕ, zero, suc, ◌+◌, ◌-◌}
use native.Mathlib.Numerals.{add-one}
use native.Mathlib.Omega.{arith}
use lib.Dec.{eqb}
use borrow.Author.Tests.{eqb-true, eqb-false}
use Rattle.text.specs.Choice.{both, either, pick, true_or_false, both_fails_right, both-holds}
use Rattle.text.specs.Text.{text_of, same_text}
use Rattle.text.proofs.Bytes.{same_refl}
use Rattle.number.specs.Equal.{finite_number}
use Rattle.number.specs.declared.equal.Equality.{Equality}
use Rattle.layout.specs.Layout.{node_kind, node_a, node_b, node_count}
use Rattle.layout.specs.Walk.{every}
use Rattle.layout.proofs.Walk.{every_more, every-stop, every-end}
use Rattle.std.specs.Prelude.{Some}
use Rattle.lookup.specs.Find.{found_at}
use Rattle.lookup.specs.Lookup.{key_is, entry_has_key, entry_key, entry_value, item_node, last_entry}
use Rattle.json_equality.specs.declared.shape.Shape.{Shape}
use Rattle.json_equality.specs.declared.shape.Shape.TheVariants.{Null, Boolean, Numeric, Text, Array, Object}
use Rattle.json_equality.specs.Json.{Json, Fields, field, field_of, has_field, keys_within, on_some, on_array, on_object, equal_json, equal_items, equal_fields, Sane, SaneItems, SaneFields}
use Rattle.json_equality.specs.Value.{shape_of, items_from, keyed, fields_from, json_of, value_at, value_of, equal_nodes_of}
use Rattle.json_equality.specs.Walk.{leaf_of, equal_leaf_of, is_last_of, key_value_of, key_in_of, keys_in_of, counterpart_of, on_found, equal_at, equal_item_of, equal_arrays_of, equal_entry_of, equal_objects_of}
use Rattle.json_equality.proofs.Equalities.{equal_refl}
use Rattle.json_equality.proofs.Shapes.{shape_cases, shape-array, shape-object, no_array, no_object_lem, leaf_equal}
use Rattle.json_equality.proofs.Entries.{field_of_last, has_last, is_last_field}

-- ---- a run of places: the first, and the rest
run_none : (f : ℕ → Bool) (i e : ℕ) → i + 0 ≡ e → every f i e ≡ true
run_none f i e h = sym (every-end f i e refl (omega arith) (omega arith))

run_step : (f : ℕ → Bool) (i n e : ℕ) → i + suc n ≡ e → every f i e ≡ both (f i) (every f (suc i) e)
run_step f i n e h = ⊎_elim yes fails (true_or_false (f i))
  where
    yes : f i ≡ true → every f i e ≡ both (f i) (every f (suc i) e)
    yes t = rw t (sym (every_more f i e refl (omega arith) t) ∙ ap (λ (j : ℕ). every f j e) (add-one i))

    fails : f i ≡ false → every f i e ≡ both (f i) (every f (suc i) e)
    fails t = rw t (sym (every-stop f i e refl (omega arith) t))

-- ---- a node's reals are finite
SaneShape : Shape → Type 0
SaneShape Null = Unit {0}
SaneShape (Boolean b) = Unit {0}
SaneShape (Numeric v) = finite_number v ≡ true
SaneShape (Text t) = Unit {0}
SaneShape Array = Unit {0}
SaneShape Object = Unit {0}

sane_shape : (nodes numbers : List ℕ) (n : ℕ) → SaneShape (shape_of nodes numbers n)
unfolding SaneShape
sane_shape nodes numbers n = shape_cases SaneShape nodes numbers n tt (λ k. tt) (λ k. refl) (λ k bits t. t) (λ k. tt) (λ k. tt) (λ k. tt)

module _ (pool texts : List ℕ) (f : ℕ → Json) (sane : (m : ℕ) → Sane (f m)) (nodes links : List ℕ) (n : ℕ) where
  sane_items : (i count : ℕ) → SaneItems (items_from f nodes links n i count)
  unfolding items_from
  sane_items i zero = tt
  sane_items i (suc count) = (sane (item_node nodes links n i), sane_items (suc i) count)

  sane_keyed : (key : ℕ) (x : Json) (fs : Fields) → Sane x → SaneFields fs → SaneFields (keyed pool texts nodes key x fs)
  unfolding keyed
  sane_keyed key x fs s t = go (eqb (node_kind nodes key) 4)
    where
      go : (b : Bool) → SaneFields (pick b (field (text_of pool texts (node_a nodes key)) x fs) fs)
      go true = (s, t)
      go false = t

  sane_fields : (i count : ℕ) → SaneFields (fields_from pool texts f nodes links n i count)
  unfolding fields_from
  sane_fields i zero = tt
  sane_fields i (suc count) = sane_keyed (entry_key nodes links n i) (f (entry_value nodes links n i)) (fields_from pool texts f nodes links n (suc i) count) (sane (entry_value nodes links n i)) (sane_fields (suc i) count)

  sane_json : (s : Shape) → SaneShape s → Sane (json_of pool texts f nodes links n s)
  unfolding json_of SaneShape
  sane_json Null h = tt
  sane_json (Boolean b) h = tt
  sane_json (Numeric v) h = h
  sane_json (Text t) h = tt
  sane_json Array h = sane_items 0 (node_b nodes n)
  sane_json Object h = sane_fields 0 (node_b nodes n)

pub sane_value : (pool texts nodes links numbers : List ℕ) (depth n : ℕ) → Sane (value_at pool texts nodes links numbers depth n)
unfolding value_at
sane_value pool texts nodes links numbers zero n = tt
sane_value pool texts nodes links numbers (suc depth) n =
    sane_json pool texts (value_at pool texts nodes links numbers depth) (sane_value pool texts nodes links numbers depth) nodes links n (shape_of nodes numbers n) (sane_shape nodes numbers n)

-- ---- arrays and objects, from an f that gives the children's values
module _ (way : Equality) (pool texts : List ℕ) (f : ℕ → Json) (nodes links : List ℕ) (a b : ℕ) where
  equal : ℕ → ℕ → Bool
  equal x y = equal_json way (f x) (f y)

  items_every : (i n e : ℕ) → i + n ≡ e → equal_items way (items_from f nodes links a i n) (items_from f nodes links b i n) ≡ every (equal_item_of equal nodes links a b) i e
  unfolding items_from equal_items equal_item_of equal
  items_every i zero e h = sym (run_none (equal_item_of equal nodes links a b) i e h)
  items_every i (suc n) e h = rw (items_every (suc i) n e (omega arith)) (sym (run_step (equal_item_of equal nodes links a b) i n e h))

  items_differ : (i j n m : ℕ) → (m ≡ n → ⊥) → equal_items way (items_from f nodes links a i n) (items_from f nodes links b j m) ≡ false
  unfolding items_from equal_items
  items_differ i j zero zero h = absurd (h refl)
  items_differ i j zero (suc m) h = refl
  items_differ i j (suc n) zero h = refl
  items_differ i j (suc n) (suc m) h =
      both_fails_right (equal_json way (f (item_node nodes links a i)) (f (item_node nodes links b j))) (items_differ (suc i) (suc j) n m (λ e. h (ap suc e)))

  items_equal : equal_items way (items_from f nodes links a 0 (node_b nodes a)) (items_from f nodes links b 0 (node_b nodes b)) ≡ both (eqb (node_b nodes b) (node_b nodes a)) (every (equal_item_of equal nodes links a b) 0 (node_b nodes a))
  items_equal = ⊎_elim same differ (true_or_false (eqb (node_b nodes b) (node_b nodes a)))
    where
      same : eqb (node_b nodes b) (node_b nodes a) ≡ true → equal_items way (items_from f nodes links a 0 (node_b nodes a)) (items_from f nodes links b 0 (node_b nodes b)) ≡ both (eqb (node_b nodes b) (node_b nodes a)) (every (equal_item_of equal nodes links a b) 0 (node_b nodes a))
      same t = rw (t, eqb-true (node_b nodes b) (node_b nodes a) t) (items_every 0 (node_b nodes a) (node_b nodes a) (omega arith))

      differ : eqb (node_b nodes b) (node_b nodes a) ≡ false → equal_items way (items_from f nodes links a 0 (node_b nodes a)) (items_from f nodes links b 0 (node_b nodes b)) ≡ both (eqb (node_b nodes b) (node_b nodes a)) (every (equal_item_of equal nodes links a b) 0 (node_b nodes a))
      differ t = rw t (items_differ 0 0 (node_b nodes a) (node_b nodes b) (eqb-false (node_b nodes b) (node_b nodes a) t))

  -- every key of b is a key of a
  keys_keyed : (key : ℕ) (x : Json) (fs xs : Fields) → keys_within (keyed pool texts nodes key x fs) xs ≡ both (pick (eqb (node_kind nodes key) 4) (has_field (text_of pool texts (node_a nodes key)) xs) true) (keys_within fs xs)
  unfolding keyed keys_within
  keys_keyed key x fs xs = go (eqb (node_kind nodes key) 4)
    where
      go : (t : Bool) → keys_within (pick t (field (text_of pool texts (node_a nodes key)) x fs) fs) xs ≡ both (pick t (has_field (text_of pool texts (node_a nodes key)) xs) true) (keys_within fs xs)
      go true = refl
      go false = refl

  keys_every : (i n e : ℕ) → i + n ≡ e → keys_within (fields_from pool texts f nodes links b i n) (fields_from pool texts f nodes links a 0 (node_b nodes a)) ≡ every (key_in_of pool texts nodes links a b) i e
  unfolding fields_from keys_within key_in_of
  keys_every i zero e h = sym (run_none (key_in_of pool texts nodes links a b) i e h)
  keys_every i (suc n) e h =
      keys_keyed (entry_key nodes links b i) (f (entry_value nodes links b i)) (fields_from pool texts f nodes links b (suc i) n) (fields_from pool texts f nodes links a 0 (node_b nodes a))
      ∙ rw (has_last pool texts f nodes links a (node_a nodes (entry_key nodes links b i)), keys_every (suc i) n e (omega arith)) (sym (run_step (key_in_of pool texts nodes links a b) i n e h))

  -- a field of a equals the value of its key in b
  fields-keyed : (key : ℕ) (x : Json) (fs ys : Fields) → equal_fields way (keyed pool texts nodes key x fs) ys ≡ both (pick (eqb (node_kind nodes key) 4) (either (has_field (text_of pool texts (node_a nodes key)) fs) (on_some (equal_json way x) (field_of (text_of pool texts (node_a nodes key)) ys))) true) (equal_fields way fs ys)
  unfolding keyed equal_fields
  fields-keyed key x fs ys = go (eqb (node_kind nodes key) 4)
    where
      go : (t : Bool) → equal_fields way (pick t (field (text_of pool texts (node_a nodes key)) x fs) fs) ys ≡ both (pick t (either (has_field (text_of pool texts (node_a nodes key)) fs) (on_some (equal_json way x) (field_of (text_of pool texts (node_a nodes key)) ys))) true) (equal_fields way fs ys)
      go true = refl
      go false = refl

  own_key : (key : ℕ) → eqb (node_kind nodes key) 4 ≡ true → key_is pool texts nodes (node_a nodes key) key ≡ true
  unfolding key_is same_text
  own_key key t = both-holds t (same_refl (text_of pool texts (node_a nodes key)))

  module _ (sane : (m : ℕ) → Sane (f m)) where
    entry_equal : (k n : ℕ) → suc k + n ≡ node_b nodes a → pick (eqb (node_kind nodes (entry_key nodes links a k)) 4) (either (has_field (text_of pool texts (node_a nodes (entry_key nodes links a k))) (fields_from pool texts f nodes links a (suc k) n)) (on_some (equal_json way (f (entry_value nodes links a k))) (field_of (text_of pool texts (node_a nodes (entry_key nodes links a k))) (fields_from pool texts f nodes links b 0 (node_b nodes b))))) true ≡ equal_entry_of equal pool texts nodes links a b k
    unfolding equal_entry_of counterpart_of key_value_of equal entry_has_key
    entry_equal k n h = go (eqb (node_kind nodes key) 4) refl
      where
        key : ℕ
        key = entry_key nodes links a k

        own : ℕ
        own = entry_value nodes links a k

        self : true ≡ equal own own
        self = sym (equal_refl way (f own) (sane own))

        counts : (t : Bool) → is_last_of pool texts nodes links a (node_a nodes key) k ≡ not t → either t (on_some (equal_json way (f own)) (field_of (text_of pool texts (node_a nodes key)) (fields_from pool texts f nodes links b 0 (node_b nodes b)))) ≡ on_found (equal own) (pick (is_last_of pool texts nodes links a (node_a nodes key) k) (found_at (entry_value nodes links b) (last_entry pool texts nodes links b (node_a nodes key))) (Some own))
        counts true q = rw q self
        counts false q = rw q (field_of_last pool texts f nodes links b (node_a nodes key) (λ o l. on_some (equal_json way (f own)) o ≡ on_found (equal own) (found_at (entry_value nodes links b) l)) (λ j. refl) refl)

        go : (t : Bool) → eqb (node_kind nodes key) 4 ≡ t → pick t (either (has_field (text_of pool texts (node_a nodes key)) (fields_from pool texts f nodes links a (suc k) n)) (on_some (equal_json way (f own)) (field_of (text_of pool texts (node_a nodes key)) (fields_from pool texts f nodes links b 0 (node_b nodes b))))) true ≡ on_found (equal own) (pick t (pick (is_last_of pool texts nodes links a (node_a nodes key) k) (found_at (entry_value nodes links b) (last_entry pool texts nodes links b (node_a nodes key))) (Some own)) (Some own))
        go true q = counts (has_field (text_of pool texts (node_a nodes key)) (fields_from pool texts f nodes links a (suc k) n)) (is_last_field pool texts f nodes links a (node_a nodes key) k n h (own_key key q))
        go false q = self

    fields-every : (i n : ℕ) → i + n ≡ node_b nodes a → equal_fields way (fields_from pool texts f nodes links a i n) (fields_from pool texts f nodes links b 0 (node_b nodes b)) ≡ every (equal_entry_of equal pool texts nodes links a b) i (node_b nodes a)
    unfolding fields_from equal_fields
    fields-every i zero h = sym (run_none (equal_entry_of equal pool texts nodes links a b) i (node_b nodes a) h)
    fields-every i (suc n) h =
        fields-keyed (entry_key nodes links a i) (f (entry_value nodes links a i)) (fields_from pool texts f nodes links a (suc i) n) (fields_from pool texts f nodes links b 0 (node_b nodes b))
        ∙ ap₂ both (entry_equal i n (omega arith)) (fields-every (suc i) n (omega arith))
        ∙ sym (run_step (equal_entry_of equal pool texts nodes links a b) i n (node_b nodes a) h)

    -- ---- the node a of a kind against the node b
    module _ (numbers : List ℕ) where
      array_equal : node_kind nodes a ≡ 5 → equal_arrays_of equal nodes links a b ≡ equal_json way (json_of pool texts f nodes links a (shape_of nodes numbers a)) (json_of pool texts f nodes links b (shape_of nodes numbers b))
      unfolding equal_arrays_of equal_json json_of
      array_equal k = rw (shape-array nodes numbers a k) (go (eqb (node_kind nodes b) 5) refl)
        where
          go : (t : Bool) → eqb (node_kind nodes b) 5 ≡ t → both t (both (eqb (node_b nodes b) (node_b nodes a)) (every (equal_item_of equal nodes links a b) 0 (node_b nodes a))) ≡ on_array (λ ys. equal_items way (items_from f nodes links a 0 (node_b nodes a)) ys) (json_of pool texts f nodes links b (shape_of nodes numbers b))
          go true q = rw (shape-array nodes numbers b (eqb-true (node_kind nodes b) 5 q)) (sym items_equal)
          go false q = sym (no_array pool texts f nodes links numbers b (λ ys. equal_items way (items_from f nodes links a 0 (node_b nodes a)) ys) (eqb-false (node_kind nodes b) 5 q))

      object_equal : node_kind nodes a ≡ 6 → equal_objects_of equal pool texts nodes links a b ≡ equal_json way (json_of pool texts f nodes links a (shape_of nodes numbers a)) (json_of pool texts f nodes links b (shape_of nodes numbers b))
      unfolding equal_objects_of keys_in_of equal_json json_of
      object_equal k = rw (shape-object nodes numbers a k) (go (eqb (node_kind nodes b) 6) refl)
        where
          mine : Fields
          mine = fields_from pool texts f nodes links a 0 (node_b nodes a)

          go : (t : Bool) → eqb (node_kind nodes b) 6 ≡ t → both t (both (every (key_in_of pool texts nodes links a b) 0 (node_b nodes b)) (every (equal_entry_of equal pool texts nodes links a b) 0 (node_b nodes a))) ≡ on_object (λ ys. both (keys_within ys mine) (equal_fields way mine ys)) (json_of pool texts f nodes links b (shape_of nodes numbers b))
          go true q = rw (shape-object nodes numbers b (eqb-true (node_kind nodes b) 6 q)) (ap₂ both (sym (keys_every 0 (node_b nodes b) (node_b nodes b) (omega arith))) (sym (fields-every 0 (node_b nodes a) (omega arith))))
          go false q = sym (no_object_lem pool texts f nodes links numbers b (λ ys. both (keys_within ys mine) (equal_fields way mine ys)) (eqb-false (node_kind nodes b) 6 q))

-- ---- the walk, at a depth
less_one : (depth : ℕ) → suc depth - 1 ≡ depth
less_one depth = omega arith

module _ (way : Equality) (pool texts nodes links numbers : List ℕ) (a b : ℕ) where
  -- a node equals itself at once
  pub at_same : (depth : ℕ) → a ≡ b → true ≡ equal_at way pool texts nodes links numbers depth a b
  unfolding equal_at
  at_same depth e = sym (rw e (equal_refl way (value_at pool texts nodes links numbers depth b) (sane_value pool texts nodes links numbers depth b)))

  pub at_bottom : (depth : ℕ) → depth ≡ 0 → true ≡ equal_at way pool texts nodes links numbers depth a b
  unfolding equal_at value_at equal_json
  at_bottom depth e = rw e

  pub at_array : (depth : ℕ) → (depth ≡ 0 → ⊥) → node_kind nodes a ≡ 5 → equal_arrays_of (equal_at way pool texts nodes links numbers (depth - 1)) nodes links a b ≡ equal_at way pool texts nodes links numbers depth a b
  unfolding equal_at value_at equal
  at_array zero h k = absurd (h refl)
  at_array (suc depth) h k = rw (less_one depth) (array_equal way pool texts (value_at pool texts nodes links numbers depth) nodes links a b (sane_value pool texts nodes links numbers depth) numbers k)

  pub at_object : (depth : ℕ) → (depth ≡ 0 → ⊥) → node_kind nodes a ≡ 6 → equal_objects_of (equal_at way pool texts nodes links numbers (depth - 1)) pool texts nodes links a b ≡ equal_at way pool texts nodes links numbers depth a b
  unfolding equal_at value_at equal
  at_object zero h k = absurd (h refl)
  at_object (suc depth) h k = rw (less_one depth) (object_equal way pool texts (value_at pool texts nodes links numbers depth) nodes links a b (sane_value pool texts nodes links numbers depth) numbers k)

  pub at_leaf : (depth : ℕ) {x y : Shape} {r : Bool} → (depth ≡ 0 → ⊥) → (node_kind nodes a ≡ 5 → ⊥) → (node_kind nodes a ≡ 6 → ⊥) → x ≡ shape_of nodes numbers a → y ≡ shape_of nodes numbers b → r ≡ equal_leaf_of way pool texts x (leaf_of pool texts y) → r ≡ equal_at way pool texts nodes links numbers depth a b
  unfolding equal_at value_at
  at_leaf zero h k l e f g = absurd (h refl)
  at_leaf (suc depth) h k l e f g =
      rw (e, f) at g ∙ leaf_equal way pool texts (value_at pool texts nodes links numbers depth) nodes links numbers a b k l (shape_of nodes numbers b)

  pub at_top : (depth : ℕ) → depth ≡ node_count nodes + 1 → equal_at way pool texts nodes links numbers depth a b ≡ equal_nodes_of way pool texts nodes links numbers a b
  unfolding equal_at equal_nodes_of value_of
  at_top depth e = rw (e, add-one (node_count nodes))
