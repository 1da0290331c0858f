-- The value of a node, kind by kind, for callers; and 01's sentences on equality as examples. Assumes nothing.
use mathlib.Core.Path.{◌≡◌, refl, sym, ◌∙◌}
use mathlib.Core.Bool.{true, false}
use mathlib.Core.List.{List, [], ◌∷◌}
use Prim.Native.Nat.{ℕ, suc, ◌<◌}
use native.Mathlib.Omega.{arith}
use lib.ListN.{get_or}
use lib.Ieee.{eq, of_bits}
use borrow.Author.Tests.{eq-eqb, ne_eqb}
use Rattle.text.specs.Choice.{pick_yes, pick_no}
use Rattle.text.specs.Text.{text_of, same_bytes}
use Rattle.number.specs.Pattern.{finite_of}
use Rattle.number.specs.Equal.{equal_numbers_of, equal_reals_of}
use Rattle.number.specs.declared.equal.Equality.TheVariants.{Enum, Unique, Standard}
use Rattle.number.specs.declared.equal.Number.TheVariants.{Integer, Real}
use Rattle.layout.specs.Layout.{NONE, node_kind, node_a, node_b}
use Rattle.json_equality.specs.declared.shape.Shape.{Shape}
use Rattle.json_equality.specs.declared.shape.Shape.TheVariants.{Null, Boolean, Numeric, Text, Array, Object}
use Rattle.json_equality.specs.Json.{Json, null, boolean, number, string, array, object, no_fields, field, field_of, has_field, keys_within, equal_json}
use Rattle.json_equality.specs.Value.{real_shape, parsed_shape, shape_of, items_from, fields_from, json_of, value_at}
use Rattle.json_equality.proofs.Shapes.{is_boolean_shape, is_integer_shape, is_real_shape, is_text_shape, is_array_shape, is_object_shape, is_null_shape}

module _ (pool texts nodes links numbers : List ℕ) (depth n : ℕ) where
  of_shape : (s : Shape) → s ≡ shape_of nodes numbers n → value_at pool texts nodes links numbers (suc depth) n ≡ json_of pool texts (value_at pool texts nodes links numbers depth) nodes links n s
  unfolding value_at
  of_shape s e = rw e

  pub value_null : node_kind nodes n ≡ 0 → value_at pool texts nodes links numbers (suc depth) n ≡ null
  unfolding json_of
  value_null k = of_shape Null (is_null_shape nodes numbers n refl (λ q. omega arith) (λ q. omega arith) (λ q. omega arith) (λ q. omega arith) (λ q. omega arith) (λ q. omega arith))

  -- alias, 7, and bad value, 8
  pub value_beyond : 6 < node_kind nodes n → value_at pool texts nodes links numbers (suc depth) n ≡ null
  unfolding json_of
  value_beyond k = of_shape Null (is_null_shape nodes numbers n refl (λ q. omega arith) (λ q. omega arith) (λ q. omega arith) (λ q. omega arith) (λ q. omega arith) (λ q. omega arith))

  pub value_boolean : node_kind nodes n ≡ 1 → value_at pool texts nodes links numbers (suc depth) n ≡ boolean (node_a nodes n)
  unfolding json_of
  value_boolean k = of_shape (Boolean (node_a nodes n)) (is_boolean_shape nodes numbers n refl k refl)

  pub value_integer : node_kind nodes n ≡ 2 → value_at pool texts nodes links numbers (suc depth) n ≡ number (Integer (get_or numbers (node_a nodes n) 0))
  unfolding json_of
  value_integer k = of_shape (Numeric (Integer (get_or numbers (node_a nodes n) 0))) (is_integer_shape nodes numbers n refl k refl refl)

  pub value_unparsed : node_kind nodes n ≡ 3 → node_b nodes n ≡ NONE → value_at pool texts nodes links numbers (suc depth) n ≡ null
  unfolding json_of parsed_shape
  value_unparsed k h = of_shape Null (is_real_shape nodes numbers n refl k refl (sym (pick_yes Null (real_shape (get_or numbers (node_b nodes n) 0)) (eq-eqb (node_b nodes n) NONE h))))

  pub value_infinite : node_kind nodes n ≡ 3 → (node_b nodes n ≡ NONE → ⊥) → finite_of (get_or numbers (node_b nodes n) 0) ≡ false → value_at pool texts nodes links numbers (suc depth) n ≡ null
  unfolding json_of parsed_shape real_shape
  value_infinite k h t = of_shape Null (is_real_shape nodes numbers n refl k refl (sym (pick_no Null (real_shape (get_or numbers (node_b nodes n) 0)) (ne_eqb (node_b nodes n) NONE h) ∙ pick_no (Numeric (Real (get_or numbers (node_b nodes n) 0))) Null t)))

  pub value_real : node_kind nodes n ≡ 3 → (node_b nodes n ≡ NONE → ⊥) → finite_of (get_or numbers (node_b nodes n) 0) ≡ true → value_at pool texts nodes links numbers (suc depth) n ≡ number (Real (get_or numbers (node_b nodes n) 0))
  unfolding json_of parsed_shape real_shape
  value_real k h t = of_shape (Numeric (Real (get_or numbers (node_b nodes n) 0))) (is_real_shape nodes numbers n refl k refl (sym (pick_no Null (real_shape (get_or numbers (node_b nodes n) 0)) (ne_eqb (node_b nodes n) NONE h) ∙ pick_yes (Numeric (Real (get_or numbers (node_b nodes n) 0))) Null t)))

  pub value_string : node_kind nodes n ≡ 4 → value_at pool texts nodes links numbers (suc depth) n ≡ string (text_of pool texts (node_a nodes n))
  unfolding json_of
  value_string k = of_shape (Text (node_a nodes n)) (is_text_shape nodes numbers n refl k refl)

  pub value_array : node_kind nodes n ≡ 5 → value_at pool texts nodes links numbers (suc depth) n ≡ array (items_from (value_at pool texts nodes links numbers depth) nodes links n 0 (node_b nodes n))
  unfolding json_of
  value_array k = of_shape Array (is_array_shape nodes numbers n refl k)

  pub value_object : node_kind nodes n ≡ 6 → value_at pool texts nodes links numbers (suc depth) n ≡ object (fields_from pool texts (value_at pool texts nodes links numbers depth) nodes links n 0 (node_b nodes n))
  unfolding json_of
  value_object k = of_shape Object (is_object_shape nodes numbers n refl k)

-- ---- examples
abbrev one : Json
one = number (Integer 1)

abbrev two : Json
two = number (Integer 2)

abbrev a : List ℕ
a = 97 ∷ []

abbrev b : List ℕ
b = 98 ∷ []

-- key order does not count
key_order : equal_json Enum (object (field a one (field b two no_fields))) (object (field b two (field a one no_fields))) ≡ true
unfolding equal_json keys_within has_field field_of same_bytes equal_numbers_of
key_order = refl

-- the last of equal keys wins
last_wins : equal_json Enum (object (field a two (field a one no_fields))) (object (field a one no_fields)) ≡ true
unfolding equal_json keys_within has_field field_of same_bytes equal_numbers_of
last_wins = refl

first_loses : equal_json Enum (object (field a one (field a two no_fields))) (object (field a one no_fields)) ≡ false
unfolding equal_json keys_within has_field field_of same_bytes equal_numbers_of
first_loses = refl

-- a key that one side lacks
more_keys : equal_json Enum (object (field a one (field b null no_fields))) (object (field a one no_fields)) ≡ false
unfolding equal_json keys_within has_field field_of same_bytes equal_numbers_of
more_keys = refl

fewer_keys : equal_json Enum (object (field a one no_fields)) (object (field a one (field b null no_fields))) ≡ false
unfolding equal_json keys_within has_field field_of same_bytes equal_numbers_of
fewer_keys = refl

-- -0.0 equals 0.0 save in unique
zeros : (equal_json Enum (number (Real 0)) (number (Real 0x8000_0000_0000_0000)) ≡ true) × (equal_json Unique (number (Real 0)) (number (Real 0x8000_0000_0000_0000)) ≡ false) × (equal_json Standard (number (Real 0)) (number (Real 0x8000_0000_0000_0000)) ≡ true)
unfolding equal_json equal_numbers_of equal_reals_of eq of_bits
zeros = (refl, refl, refl)
