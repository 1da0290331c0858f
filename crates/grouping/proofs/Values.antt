-- Where the lists of nodes are the same every value gets the same answer: no other word of table 7 is read for a value. Assumes nothing.
use Prim.Native.Nat.{ℕ, zero, suc, ◌+◌, ◌*◌, ◌≤◌, ◌<◌}
use mathlib.Core.Path.{◌≡◌, refl, ap, ap₂, subst, ◌∙◌}
use mathlib.Core.Bool.{Bool, true, false}
use mathlib.Core.List.{List, [], ◌∷◌}
use native.Mathlib.Omega.{arith}
use lib.ListN.{get_or}
use lib.Dec.{eqb}
use borrow.Author.Tests.{eqb-true}
use Rattle.text.specs.Choice.{pick, both, either}
use Rattle.number.specs.declared.equal.Equality.{Equality}
use Rattle.number.specs.Pattern.{finite_of}
use Rattle.error.specs.declared.Mode.{Mode}
use Rattle.error.specs.declared.Detail.TheVariants.{Empty, Key}
use Rattle.layout.specs.Layout.{NONE, node_kind, node_a, node_b, pair_key, pair_value}
use Rattle.lookup.specs.Find.{Found, first_from, last_below, found}
use Rattle.std.specs.Prelude.{Some, None}
use Rattle.lookup.specs.Lookup.{key_is, entry_key, entry_value, item_node, entry_has_key, last_entry}
use Rattle.json_equality.specs.declared.shape.Shape as shape
use Rattle.json_equality.specs.declared.shape.Shape.TheVariants as variants
use Rattle.json_equality.specs.Json.{Json, Items, item, equal_json}
use Rattle.json_equality.specs.Json as json
use Rattle.json_equality.specs.Value.{real_shape, parsed_shape, shape_by, shape_of, items_from, keyed, fields_from, json_of, value_at, value_of, equal_nodes_of}
use Rattle.schema.specs.Shape.{Own}
use Rattle.schema.specs.Look.{slice}
use Rattle.std.specs.Prelude.{Err}
use Rattle.judge.specs.declared.Wrong.TheVariants.{Value}
use Rattle.error.specs.declared.Reason.TheVariants as reason
use Rattle.judge.specs.Judge.{Verdict, fine, enum_way, unique_way, count_verdict, first_wrong, mismatch, is_listed, any_repeated, enum_verdict, items_of, unique_verdict, array_verdict, key_text, duplicate_wrong, has_earlier, is_duplicate, keys_verdict, object_verdict, has_key}
use Rattle.validator.specs.Outcome.{place}
use Rattle.validator.specs.Visit.{Nodes}
use Rattle.grouping.specs.Values.{SameValues}

-- searches whose tests agree
first_same : {A : Type 0} (f g : ℕ → Bool) (h k : Found → A) (i n : ℕ) → ((j : ℕ) → i ≤ j → j < i + n → f j ≡ g j) → ((j : ℕ) → i ≤ j → j < i + n → h (Some j) ≡ k (Some j)) → h None ≡ k None →
    h (first_from f i n) ≡ k (first_from g i n)
unfolding first_from
first_same f g h k i zero p q e = e
first_same {A} f g h k i (suc n) p q e =
    at (f i) (g i) (p i (omega arith) (omega arith)) (first_same f g h k (suc i) n (λ j a b. p j (omega arith) (omega arith)) (λ j a b. q j (omega arith) (omega arith)) e)
  where
    at : (b c : Bool) → b ≡ c → h (first_from f (suc i) n) ≡ k (first_from g (suc i) n) → h (pick b (Some i) (first_from f (suc i) n)) ≡ k (pick c (Some i) (first_from g (suc i) n))
    at true true r rest = q i (omega arith) (omega arith)
    at false false r rest = rest
    at true false r rest = absurd (let z : ◌≡◌ {A = ℕ} 0 1 = cc in omega arith)
    at false true r rest = absurd (let z : ◌≡◌ {A = ℕ} 0 1 = cc in omega arith)

last_same : (f g : ℕ → Bool) (n : ℕ) → ((j : ℕ) → j < n → f j ≡ g j) → last_below f n ≡ last_below g n
unfolding last_below
last_same f g zero p = refl
last_same f g (suc n) p = ap₂ (λ (b : Bool) (x : Found). pick b (Some n) x) (p n (omega arith)) (last_same f g n (λ j i. p j (omega arith)))

module _ (nodes links links' : List ℕ) (L : SameValues nodes links links') where
  item_same : (n k : ℕ) → node_kind nodes n ≡ 5 → k < node_b nodes n → item_node nodes links n k ≡ item_node nodes links' n k
  unfolding item_node
  item_same n k e i = L.items n k e i

  pub key_same : (n k : ℕ) → node_kind nodes n ≡ 6 → k < node_b nodes n → entry_key nodes links n k ≡ entry_key nodes links' n k
  unfolding entry_key pair_key
  key_same n k e i = L.entries n (k * 2) e (omega arith)

  pub entry_same : (n k : ℕ) → node_kind nodes n ≡ 6 → k < node_b nodes n → entry_value nodes links n k ≡ entry_value nodes links' n k
  unfolding entry_value pair_value
  entry_same n k e i =
      let here : node_a nodes n + (k * 2 + 1) ≡ node_a nodes n + k * 2 + 1 = omega arith in
      subst (λ (j : ℕ). get_or links j 0 ≡ get_or links' j 0) here (L.entries n (k * 2 + 1) e (omega arith))

  slices : (at c : ℕ) → ((k : ℕ) → k < c → get_or links (at + k) 0 ≡ get_or links' (at + k) 0) → slice links at c ≡ slice links' at c
  unfolding slice
  slices at zero h = refl
  slices at (suc c) h =
      let place : at + 0 ≡ at = omega arith in
      ap₂ (λ (x : ℕ) (xs : List ℕ). x ∷ xs) (subst (λ (j : ℕ). get_or links j 0 ≡ get_or links' j 0) place (h 0 (omega arith)))
      (slices (at + 1) c (λ k i. let next : at + suc k ≡ at + 1 + k = omega arith in subst (λ (j : ℕ). get_or links j 0 ≡ get_or links' j 0) next (h (suc k) (omega arith))))

  pub items_list : (n : ℕ) → node_kind nodes n ≡ 5 → items_of nodes links n ≡ items_of nodes links' n
  unfolding items_of
  items_list n e = slices (node_a nodes n) (node_b nodes n) (λ k i. L.items n k e i)

  module _ (pool texts numbers : List ℕ) where
    json-items : (f g : ℕ → Json) → ((m : ℕ) → f m ≡ g m) → (n : ℕ) → node_kind nodes n ≡ 5 → (i c : ℕ) → i + c ≤ node_b nodes n → items_from f nodes links n i c ≡ items_from g nodes links' n i c
    unfolding items_from
    json-items f g h n e i zero le = refl
    json-items f g h n e i (suc c) le = ap₂ (λ (x : Json) (xs : Items). item x xs) (h (item_node nodes links n i) ∙ ap g (item_same n i e (omega arith))) (json-items f g h n e (suc i) c (omega arith))

    json-fields : (f g : ℕ → Json) → ((m : ℕ) → f m ≡ g m) → (n : ℕ) → node_kind nodes n ≡ 6 → (i c : ℕ) → i + c ≤ node_b nodes n → fields_from pool texts f nodes links n i c ≡ fields_from pool texts g nodes links' n i c
    unfolding fields_from
    json-fields f g h n e i zero le = refl
    json-fields f g h n e i (suc c) le = λ j.
        keyed pool texts nodes (key_same n i e (omega arith) j) ((h (entry_value nodes links n i) ∙ ap g (entry_same n i e (omega arith))) j) (json-fields f g h n e (suc i) c (omega arith) j)

    module _ (f g : ℕ → Json) (n : ℕ) where
      abbrev Alike : shape.Shape → Type 0
      Alike x = json_of pool texts f nodes links n x ≡ json_of pool texts g nodes links' n x

      choose : (b : Bool) (x y : shape.Shape) → (b ≡ true → Alike x) → (b ≡ false → Alike y) → Alike (pick b x y)
      choose true x y p q = p refl
      choose false x y p q = q refl

      null_same : Alike variants.Null
      unfolding json_of
      null_same = refl

      real_same : (bits : ℕ) → Alike (real_shape bits)
      unfolding real_shape json_of
      real_same bits = choose (finite_of bits) _ _ (λ t. refl) (λ t. null_same)

      parsed_same : (place : ℕ) → Alike (parsed_shape numbers place)
      unfolding parsed_shape
      parsed_same place = choose (eqb place NONE) _ _ (λ t. null_same) (λ t. real_same (get_or numbers place 0))

      json_same : ((m : ℕ) → f m ≡ g m) → Alike (shape_of nodes numbers n)
      unfolding shape_of shape_by json_of
      json_same h =
          choose (eqb (node_kind nodes n) 1) _ _ (λ t. refl) (λ t.
          choose (eqb (node_kind nodes n) 2) _ _ (λ t. refl) (λ t.
          choose (eqb (node_kind nodes n) 3) _ _ (λ t. parsed_same (node_b nodes n)) (λ t.
          choose (eqb (node_kind nodes n) 4) _ _ (λ t. refl) (λ t.
          choose (eqb (node_kind nodes n) 5) _ _ (λ t. ap json.array (json-items f g h n (eqb-true (node_kind nodes n) 5 t) 0 (node_b nodes n) (omega arith))) (λ t.
          choose (eqb (node_kind nodes n) 6) _ _ (λ t. ap json.object (json-fields f g h n (eqb-true (node_kind nodes n) 6 t) 0 (node_b nodes n) (omega arith))) (λ t.
          null_same))))))

    value_at_lem : (depth n : ℕ) → value_at pool texts nodes links numbers depth n ≡ value_at pool texts nodes links' numbers depth n
    unfolding value_at
    value_at_lem zero n = refl
    value_at_lem (suc depth) n = json_same (value_at pool texts nodes links numbers depth) (value_at pool texts nodes links' numbers depth) n (λ m. value_at_lem depth m)

    equal_same : (way : Equality) (a b : ℕ) → equal_nodes_of way pool texts nodes links numbers a b ≡ equal_nodes_of way pool texts nodes links' numbers a b
    unfolding equal_nodes_of value_of
    equal_same way a b = ap₂ (λ (x y : Json). equal_json way x y) (value_at_lem (suc _) a) (value_at_lem (suc _) b)

    listed_same : (way : Equality) (n : ℕ) (xs : List ℕ) → is_listed way pool texts nodes links numbers n xs ≡ is_listed way pool texts nodes links' numbers n xs
    unfolding is_listed
    listed_same way n [] = refl
    listed_same way n (x ∷ xs) = ap₂ (λ (a b : Bool). either a b) (equal_same way n x) (listed_same way n xs)

    repeated_same : (way : Equality) (xs : List ℕ) → any_repeated way pool texts nodes links numbers xs ≡ any_repeated way pool texts nodes links' numbers xs
    unfolding any_repeated
    repeated_same way [] = refl
    repeated_same way (x ∷ xs) = ap₂ (λ (a b : Bool). either a b) (listed_same way x xs) (repeated_same way xs)

  module _ (pool texts numbers : List ℕ) (mode : Mode) where
    choice_same : (b : Bool) {v w x y : Verdict} → (b ≡ true → v ≡ w) → x ≡ y → pick b v x ≡ pick b w y
    choice_same true p q = p refl
    choice_same false p q = q

    pub enum_same : (words : List ℕ) (n : ℕ) → enum_verdict mode pool texts nodes links numbers words n ≡ enum_verdict mode pool texts nodes links' numbers words n
    unfolding enum_verdict
    enum_same words n = ap (λ (b : Bool). pick b fine (Err (Value reason.NotInEnum n Empty))) (listed_same pool texts numbers (enum_way mode) n words)

    unique_same : (unique n : ℕ) → node_kind nodes n ≡ 5 → unique_verdict mode pool texts nodes links numbers unique n ≡ unique_verdict mode pool texts nodes links' numbers unique n
    unfolding unique_verdict
    unique_same unique n e =
        ap (λ (b : Bool). pick (eqb unique 1) (pick b (Err (Value reason.NotUnique n Empty)) fine) fine)
        (repeated_same pool texts numbers (unique_way mode) (items_of nodes links n) ∙ ap (any_repeated (unique_way mode) pool texts nodes links' numbers) (items_list n e))

    pub array_same : (words : List ℕ) (n : ℕ) → array_verdict mode pool texts nodes links numbers words n ≡ array_verdict mode pool texts nodes links' numbers words n
    unfolding array_verdict
    array_same words n =
        choice_same (eqb (node_kind nodes n) 5)
        (λ t. ap (first_wrong (count_verdict reason.ArrayLength n (get_or words 0 0) (get_or words 1 0) (node_b nodes n))) (unique_same (get_or words 2 0) n (eqb-true (node_kind nodes n) 5 t)))
        refl

  module _ (pool texts : List ℕ) where
    has_key_same : (n text : ℕ) → node_kind nodes n ≡ 6 → (k : ℕ) → k < node_b nodes n → entry_has_key pool texts nodes links n text k ≡ entry_has_key pool texts nodes links' n text k
    unfolding entry_has_key
    has_key_same n text e k i = ap (key_is pool texts nodes text) (key_same n k e i)

    earlier_same : (n text : ℕ) → node_kind nodes n ≡ 6 → (k : ℕ) → k < node_b nodes n → has_earlier pool texts nodes links n text k ≡ has_earlier pool texts nodes links' n text k
    unfolding has_earlier
    earlier_same n text e k i =
        first_same (entry_has_key pool texts nodes links n text) (entry_has_key pool texts nodes links' n text) found found 0 k
        (λ j a b. has_key_same n text e j (omega arith)) (λ j a b. refl) refl

    duplicate_same : (n : ℕ) → node_kind nodes n ≡ 6 → (k : ℕ) → k < node_b nodes n → is_duplicate pool texts nodes links n k ≡ is_duplicate pool texts nodes links' n k
    unfolding is_duplicate
    duplicate_same n e k i =
        ap₂ (λ (a b : Bool). both a b) (ap (λ (x : ℕ). eqb (node_kind nodes x) 4) (key_same n k e i))
        (earlier_same n (key_text nodes links n k) e k i ∙ ap (λ (x : ℕ). has_earlier pool texts nodes links' n (node_a nodes x) k) (key_same n k e i))

    keys_same : (n : ℕ) → node_kind nodes n ≡ 6 → keys_verdict pool texts nodes links n ≡ keys_verdict pool texts nodes links' n
    unfolding keys_verdict
    keys_same n e =
        first_same (is_duplicate pool texts nodes links n) (is_duplicate pool texts nodes links' n) (duplicate_wrong nodes links n) (duplicate_wrong nodes links' n) 0 (node_b nodes n)
        (λ j a b. duplicate_same n e j (omega arith)) (λ j a b. ap (λ (x : ℕ). Err (Value reason.DuplicateKey x (Key (node_a nodes x)))) (key_same n j e (omega arith))) refl

    pub object_same : (n : ℕ) → object_verdict pool texts nodes links n ≡ object_verdict pool texts nodes links' n
    unfolding object_verdict
    object_same n = at (eqb (node_kind nodes n) 6) refl
      where
        at : (b : Bool) → eqb (node_kind nodes n) 6 ≡ b → pick b (keys_verdict pool texts nodes links n) (mismatch nodes 10 n) ≡ pick b (keys_verdict pool texts nodes links' n) (mismatch nodes 10 n)
        at true t = keys_same n (eqb-true (node_kind nodes n) 6 t)
        at false t = refl

    pub has_same : (n text : ℕ) → node_kind nodes n ≡ 6 → has_key pool texts nodes links n text ≡ has_key pool texts nodes links' n text
    unfolding has_key last_entry
    has_same n text e =
        ap found (last_same (entry_has_key pool texts nodes links n text) (entry_has_key pool texts nodes links' n text) (node_b nodes n) (λ j i. has_key_same n text e j i))

-- a verdict that is fine tells the kind
mismatch-not : (nodes : List ℕ) (expected n : ℕ) → mismatch nodes expected n ≡ fine → ⊥
unfolding mismatch
mismatch-not nodes expected n h = absurd (let z : ◌≡◌ {A = ℕ} 0 1 = cc in omega arith)

pub fine_kind : (nodes : List ℕ) (kind expected n : ℕ) (v : Verdict) → pick (eqb (node_kind nodes n) kind) v (mismatch nodes expected n) ≡ fine → node_kind nodes n ≡ kind
fine_kind nodes kind expected n v = at (eqb (node_kind nodes n) kind) refl
  where
    at : (b : Bool) → eqb (node_kind nodes n) kind ≡ b → pick b v (mismatch nodes expected n) ≡ fine → node_kind nodes n ≡ kind
    at true t h = eqb-true (node_kind nodes n) kind t
    at false t h = absurd (mismatch-not nodes expected n h)

-- nodes that answer alike as far as a visit asks
pub record NodesAlike (D D' : Nodes) : Type 0 where
  pub same : D.same ≡ D'.same
  pub judge : (w : Own) (n : ℕ) → D.judge w n ≡ D'.judge w n
  pub counted : (least most n : ℕ) → D.counted least most n ≡ D'.counted least most n
  pub object_first : (n : ℕ) → D.object_first n ≡ D'.object_first n
  pub items : (w : Own) (n : ℕ) → w.kind ≡ 9 → D.judge w n ≡ fine → D.items n ≡ D'.items n
  pub has : (n t : ℕ) → D.object_first n ≡ fine → D.has n t ≡ D'.has n t
  pub entries : (n : ℕ) → D.object_first n ≡ fine → D.entries n ≡ D'.entries n
