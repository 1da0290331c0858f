-- A node's shape by its kind, and values that are neither array nor object. Assumes nothing.
use mathlib.Core.Path.{◌≡◌, refl, sym, ◌∙◌}
use mathlib.Core.Bool.{Bool, true, false}
use mathlib.Core.List.{List, [], ◌∷◌}
use Prim.Native.Nat.{ℕ}
use lib.Dec.{eqb}
use lib.ListN.{get_or}
use borrow.Author.Tests.{eqb-true}
use types.Run.{OneOf, miss}
use denote.Enum.Declared.{tag_of}
use Rattle.text.specs.Choice.{pick, pick_all}
use Rattle.text.specs.Text.{text_of, same_bytes}
use Rattle.number.specs.Equal.{equal_numbers_of}
use Rattle.number.specs.Pattern.{finite_of}
use Rattle.number.specs.declared.equal.Equality.{Equality}
use Rattle.number.specs.declared.equal.Number.{Number}
use Rattle.number.specs.declared.equal.Number.TheVariants.{Integer, Real}
use Rattle.layout.specs.Layout.{NONE, node_kind, node_a, node_b}
use Rattle.json_equality.specs.declared.shape.Shape.{Shape}
use Rattle.json_equality.specs.declared.shape.Shape.TheVariants.{Null, Boolean, Numeric, Text, Array, Object}
use Rattle.json_equality.specs.contracts.shape.Shape.{the_type}
use Rattle.json_equality.specs.Json.{Json, array, object, Items, no_items, Fields, no_fields, on_null, on_boolean, on_number, on_string, on_array, on_object, equal_json}
use Rattle.json_equality.specs.Value.{real_shape, parsed_shape, shape_by, shape_of, json_of}
use Rattle.json_equality.specs.Walk.{leaf_of, equal_leaf_of}

-- a real is null, or a finite number
pub parsed_cases {ℓ} : (P : Shape → Type ℓ) (numbers : List ℕ) (place : ℕ) → P Null → ((bits : ℕ) → finite_of bits ≡ true → P (Numeric (Real bits))) → P (parsed_shape numbers place)
unfolding parsed_shape real_shape
parsed_cases P numbers place absent finite =
    pick_all P (eqb place NONE) Null (pick (finite_of (get_or numbers place 0)) (Numeric (Real (get_or numbers place 0))) Null)
    (λ t. absent)
    (λ t. pick_all P (finite_of (get_or numbers place 0)) (Numeric (Real (get_or numbers place 0))) Null (λ h. finite (get_or numbers place 0) h) (λ h. absent))

-- what holds of each shape in its case holds of a node's
module _ {ℓ} (P : Shape → Type ℓ) (nodes numbers : List ℕ) (n : ℕ) where
  pub shape_cases :
      P Null
      → (node_kind nodes n ≡ 1 → P (Boolean (node_a nodes n)))
      → (node_kind nodes n ≡ 2 → P (Numeric (Integer (get_or numbers (node_a nodes n) 0))))
      → (node_kind nodes n ≡ 3 → (bits : ℕ) → finite_of bits ≡ true → P (Numeric (Real bits)))
      → (node_kind nodes n ≡ 4 → P (Text (node_a nodes n)))
      → (node_kind nodes n ≡ 5 → P Array)
      → (node_kind nodes n ≡ 6 → P Object)
      → P (shape_of nodes numbers n)
  unfolding shape_of shape_by
  shape_cases p0 p1 p2 p3 p4 p5 p6 =
      pick_all P _ _ _ (λ t. p1 (eqb-true _ _ t)) (λ t1.
      pick_all P _ _ _ (λ t. p2 (eqb-true _ _ t)) (λ t2.
      pick_all P _ _ _ (λ t. parsed_cases P numbers (node_b nodes n) p0 (p3 (eqb-true _ _ t))) (λ t3.
      pick_all P _ _ _ (λ t. p4 (eqb-true _ _ t)) (λ t4.
      pick_all P _ _ _ (λ t. p5 (eqb-true _ _ t)) (λ t5.
      pick_all P _ _ _ (λ t. p6 (eqb-true _ _ t)) (λ t6. p0))))))

module _ (nodes numbers : List ℕ) (n : ℕ) where
  pub shape-array : node_kind nodes n ≡ 5 → shape_of nodes numbers n ≡ Array
  unfolding shape_of shape_by
  shape-array h = rw h

  pub shape-object : node_kind nodes n ≡ 6 → shape_of nodes numbers n ≡ Object
  unfolding shape_of shape_by
  shape-object h = rw h

module _ (pool texts : List ℕ) (f : ℕ → Json) (nodes links numbers : List ℕ) (n : ℕ) where
  -- a node of another kind is no array, and no object
  pub no_array : (test : Items → Bool) → (node_kind nodes n ≡ 5 → ⊥) → on_array test (json_of pool texts f nodes links n (shape_of nodes numbers n)) ≡ false
  unfolding json_of
  no_array test h =
      shape_cases (λ s. on_array test (json_of pool texts f nodes links n s) ≡ false) nodes numbers n
      refl (λ k. refl) (λ k. refl) (λ k bits t. refl) (λ k. refl) (λ k. absurd (h k)) (λ k. refl)

  pub no_object_lem : (test : Fields → Bool) → (node_kind nodes n ≡ 6 → ⊥) → on_object test (json_of pool texts f nodes links n (shape_of nodes numbers n)) ≡ false
  unfolding json_of
  no_object_lem test h =
      shape_cases (λ s. on_object test (json_of pool texts f nodes links n s) ≡ false) nodes numbers n
      refl (λ k. refl) (λ k. refl) (λ k bits t. refl) (λ k. refl) (λ k. refl) (λ k. absurd (h k))

  -- a test that is blind to what arrays and objects hold
  blind : (test : Json → Bool) → ((xs : Items) → test (array no_items) ≡ test (array xs)) → ((xs : Fields) → test (object no_fields) ≡ test (object xs)) → (y : Shape) → test (leaf_of pool texts y) ≡ test (json_of pool texts f nodes links n y)
  unfolding json_of
  blind test onA onO Null = refl
  blind test onA onO (Boolean b) = refl
  blind test onA onO (Numeric v) = refl
  blind test onA onO (Text t) = refl
  blind test onA onO Array = onA _
  blind test onA onO Object = onO _

module _ (way : Equality) (pool texts : List ℕ) (f : ℕ → Json) (nodes links numbers : List ℕ) (a b : ℕ) where
  -- a node that is neither array nor object equals another where the shapes do
  pub leaf_equal : (node_kind nodes a ≡ 5 → ⊥) → (node_kind nodes a ≡ 6 → ⊥) → (y : Shape) → equal_leaf_of way pool texts (shape_of nodes numbers a) (leaf_of pool texts y) ≡ equal_json way (json_of pool texts f nodes links a (shape_of nodes numbers a)) (json_of pool texts f nodes links b y)
  unfolding equal_leaf_of equal_json json_of
  leaf_equal h5 h6 y =
      shape_cases (λ s. equal_leaf_of way pool texts s (leaf_of pool texts y) ≡ equal_json way (json_of pool texts f nodes links a s) (json_of pool texts f nodes links b y)) nodes numbers a
      (blind pool texts f nodes links numbers b on_null (λ xs. refl) (λ xs. refl) y)
      (λ k. blind pool texts f nodes links numbers b (on_boolean _) (λ xs. refl) (λ xs. refl) y)
      (λ k. blind pool texts f nodes links numbers b (on_number _) (λ xs. refl) (λ xs. refl) y)
      (λ k bits t. blind pool texts f nodes links numbers b (on_number _) (λ xs. refl) (λ xs. refl) y)
      (λ k. blind pool texts f nodes links numbers b (on_string _) (λ xs. refl) (λ xs. refl) y)
      (λ k. absurd (h5 k))
      (λ k. absurd (h6 k))

-- ---- for the code: a shape by the words that were read
module _ (nodes numbers : List ℕ) (n : ℕ) {kind : ℕ} (e : kind ≡ node_kind nodes n) where
  pub is_boolean_shape : {a : ℕ} → kind ≡ 1 → a ≡ node_a nodes n → Boolean a ≡ shape_of nodes numbers n
  unfolding shape_of shape_by
  is_boolean_shape k h = rw (sym e ∙ k, h)

  pub is_integer_shape : {a word : ℕ} → kind ≡ 2 → a ≡ node_a nodes n → word ≡ get_or numbers a 0 → Numeric (Integer word) ≡ shape_of nodes numbers n
  unfolding shape_of shape_by
  is_integer_shape k h g = rw (sym e ∙ k, g, h)

  pub is_real_shape : {b : ℕ} {s : Shape} → kind ≡ 3 → b ≡ node_b nodes n → s ≡ parsed_shape numbers b → s ≡ shape_of nodes numbers n
  unfolding shape_of shape_by
  is_real_shape k h g = rw (sym e ∙ k, g, h)

  pub is_text_shape : {a : ℕ} → kind ≡ 4 → a ≡ node_a nodes n → Text a ≡ shape_of nodes numbers n
  unfolding shape_of shape_by
  is_text_shape k h = rw (sym e ∙ k, h)

  pub is_array_shape : kind ≡ 5 → Array ≡ shape_of nodes numbers n
  is_array_shape k = sym (shape-array nodes numbers n (sym e ∙ k))

  pub is_object_shape : kind ≡ 6 → Object ≡ shape_of nodes numbers n
  is_object_shape k = sym (shape-object nodes numbers n (sym e ∙ k))

  pub is_null_shape : (kind ≡ 1 → ⊥) → (kind ≡ 2 → ⊥) → (kind ≡ 3 → ⊥) → (kind ≡ 4 → ⊥) → (kind ≡ 5 → ⊥) → (kind ≡ 6 → ⊥) → Null ≡ shape_of nodes numbers n
  is_null_shape k1 k2 k3 k4 k5 k6 =
      shape_cases (λ s. Null ≡ s) nodes numbers n refl
      (λ k. absurd (k1 (e ∙ k))) (λ k. absurd (k2 (e ∙ k))) (λ k bits t. absurd (k3 (e ∙ k))) (λ k. absurd (k4 (e ∙ k))) (λ k. absurd (k5 (e ∙ k))) (λ k. absurd (k6 (e ∙ k)))

-- a value of one shape, compared
module _ (way : Equality) (pool texts : List ℕ) (j : Json) {x : Shape} where
  pub leaf_null : {r : Bool} → x ≡ Null → r ≡ on_null j → r ≡ equal_leaf_of way pool texts x j
  unfolding equal_leaf_of
  leaf_null h e = rw h e

  pub leaf_boolean : {r : Bool} {b : ℕ} → x ≡ Boolean b → r ≡ on_boolean (eqb b) j → r ≡ equal_leaf_of way pool texts x j
  unfolding equal_leaf_of
  leaf_boolean h e = rw h e

  pub leaf_number : {r : Bool} {v : Number} → x ≡ Numeric v → r ≡ on_number (equal_numbers_of way v) j → r ≡ equal_leaf_of way pool texts x j
  unfolding equal_leaf_of
  leaf_number h e = rw h e

  pub leaf_text : {r : Bool} {t : ℕ} → x ≡ Text t → r ≡ on_string (same_bytes (text_of pool texts t)) j → r ≡ equal_leaf_of way pool texts x j
  unfolding equal_leaf_of
  leaf_text h e = rw h e

  pub leaf_array : x ≡ Array → false ≡ equal_leaf_of way pool texts x j
  unfolding equal_leaf_of
  leaf_array h = rw h

  pub leaf_object : x ≡ Object → false ≡ equal_leaf_of way pool texts x j
  unfolding equal_leaf_of
  leaf_object h = rw h

-- the arm for every other shape
module _ (pool texts : List ℕ) where
  pub not_null : (y : Shape) → OneOf (1 ∷ 2 ∷ 3 ∷ 4 ∷ 5 ∷ []) (tag_of the_type y) → false ≡ on_null (leaf_of pool texts y)
  not_null Null h = absurd (miss (1 ∷ 2 ∷ 3 ∷ 4 ∷ 5 ∷ []) 0 tt h)
  not_null (Boolean b) h = refl
  not_null (Numeric v) h = refl
  not_null (Text t) h = refl
  not_null Array h = refl
  not_null Object h = refl

  pub not-boolean : (test : ℕ → Bool) (y : Shape) → OneOf (0 ∷ 2 ∷ 3 ∷ 4 ∷ 5 ∷ []) (tag_of the_type y) → false ≡ on_boolean test (leaf_of pool texts y)
  not-boolean test Null h = refl
  not-boolean test (Boolean b) h = absurd (miss (0 ∷ 2 ∷ 3 ∷ 4 ∷ 5 ∷ []) 1 tt h)
  not-boolean test (Numeric v) h = refl
  not-boolean test (Text t) h = refl
  not-boolean test Array h = refl
  not-boolean test Object h = refl

  pub not-number : (test : Number → Bool) (y : Shape) → OneOf (0 ∷ 1 ∷ 3 ∷ 4 ∷ 5 ∷ []) (tag_of the_type y) → false ≡ on_number test (leaf_of pool texts y)
  not-number test Null h = refl
  not-number test (Boolean b) h = refl
  not-number test (Numeric v) h = absurd (miss (0 ∷ 1 ∷ 3 ∷ 4 ∷ 5 ∷ []) 2 tt h)
  not-number test (Text t) h = refl
  not-number test Array h = refl
  not-number test Object h = refl

  pub not_text : (test : List ℕ → Bool) (y : Shape) → OneOf (0 ∷ 1 ∷ 2 ∷ 4 ∷ 5 ∷ []) (tag_of the_type y) → false ≡ on_string test (leaf_of pool texts y)
  not_text test Null h = refl
  not_text test (Boolean b) h = refl
  not_text test (Numeric v) h = refl
  not_text test (Text t) h = absurd (miss (0 ∷ 1 ∷ 2 ∷ 4 ∷ 5 ∷ []) 3 tt h)
  not_text test Array h = refl
  not_text test Object h = refl
