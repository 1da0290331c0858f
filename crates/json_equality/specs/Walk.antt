-- What each function of the walk over nodes answers; proofs/Walk.antt has that together they are equality of values. Assumes nothing.
use Rattle.std.specs.Prelude.{ℕ, Bool, true, false, List, eqb}
use Rattle.text.specs.Choice.{both, pick}
use Rattle.text.specs.Text.{same_bytes, text_of}
use Rattle.number.specs.Equal.{equal_numbers_of}
use Rattle.number.specs.declared.equal.Equality.{Equality}
use Rattle.layout.specs.Layout.{node_kind, node_a, node_b}
use Rattle.layout.specs.Walk.{every}
use Rattle.lookup.specs.Find.{Found, found_at}
use Rattle.std.specs.Prelude.{Some, None}
use Rattle.lookup.specs.Lookup.{entry_key, entry_value, item_node, last_entry}
use Rattle.json_equality.specs.declared.shape.Shape.{Shape}
use Rattle.json_equality.specs.declared.shape.Shape.TheVariants.{Null, Boolean, Numeric, Text, Array, Object}
use Rattle.json_equality.specs.Json.{Json, null, boolean, number, string, array, no_items, object, no_fields, on_null, on_boolean, on_number, on_string, equal_json}
use Rattle.json_equality.specs.Value.{value_at}

-- ---- shapes
-- the value of a shape, save what an array or an object holds
abbrev pub leaf_of : List ℕ → List ℕ → Shape → Json
leaf_of pool texts Null = null
leaf_of pool texts (Boolean b) = boolean b
leaf_of pool texts (Numeric v) = number v
leaf_of pool texts (Text t) = string (text_of pool texts t)
leaf_of pool texts Array = array no_items
leaf_of pool texts Object = object no_fields

-- a value that is neither array nor object equals a value
unfoldable pub equal_leaf_of : Equality → List ℕ → List ℕ → Shape → Json → Bool
equal_leaf_of way pool texts Null j = on_null j
equal_leaf_of way pool texts (Boolean b) j = on_boolean (eqb b) j
equal_leaf_of way pool texts (Numeric v) j = on_number (equal_numbers_of way v) j
equal_leaf_of way pool texts (Text t) j = on_string (same_bytes (text_of pool texts t)) j
equal_leaf_of way pool texts Array j = false
equal_leaf_of way pool texts Object j = false

-- ---- keys
abbrev pub is_at : ℕ → Found → Bool
is_at k (Some j) = eqb j k
is_at k None = false

abbrev pub is_found : Found → Bool
is_found (Some j) = true
is_found None = false

-- entry k is the last of the object n with that key
unfoldable pub is_last_of : List ℕ → List ℕ → List ℕ → List ℕ → ℕ → ℕ → ℕ → Bool
is_last_of pool texts nodes links n text k = is_at k (last_entry pool texts nodes links n text)

-- the value of a key
unfoldable pub key_value_of : List ℕ → List ℕ → List ℕ → List ℕ → ℕ → ℕ → Found
key_value_of pool texts nodes links n text = found_at (entry_value nodes links n) (last_entry pool texts nodes links n text)

-- the key of entry k of the object b is one of the object a; a key that is no string is none
unfoldable pub key_in_of : List ℕ → List ℕ → List ℕ → List ℕ → ℕ → ℕ → ℕ → Bool
key_in_of pool texts nodes links a b k =
    pick (eqb (node_kind nodes (entry_key nodes links b k)) 4) (is_found (last_entry pool texts nodes links a (node_a nodes (entry_key nodes links b k)))) true

unfoldable pub keys_in_of : List ℕ → List ℕ → List ℕ → List ℕ → ℕ → ℕ → Bool
keys_in_of pool texts nodes links a b = every (key_in_of pool texts nodes links a b) 0 (node_b nodes b)

-- what the value of entry k of the object a is compared with: the value of its key in the object b, and itself where the entry does not count
unfoldable pub counterpart_of : List ℕ → List ℕ → List ℕ → List ℕ → ℕ → ℕ → ℕ → Found
counterpart_of pool texts nodes links a b k =
    pick (eqb (node_kind nodes (entry_key nodes links a k)) 4)
    (pick (is_last_of pool texts nodes links a (node_a nodes (entry_key nodes links a k)) k)
    (key_value_of pool texts nodes links b (node_a nodes (entry_key nodes links a k)))
    (Some (entry_value nodes links a k)))
    (Some (entry_value nodes links a k))

-- ---- arrays and objects, from the equality of their children's values
abbrev pub on_found : (ℕ → Bool) → Found → Bool
on_found f (Some v) = f v
on_found f None = false

unfoldable pub equal_at : Equality → List ℕ → List ℕ → List ℕ → List ℕ → List ℕ → ℕ → ℕ → ℕ → Bool
equal_at way pool texts nodes links numbers depth a b =
    equal_json way (value_at pool texts nodes links numbers depth a) (value_at pool texts nodes links numbers depth b)

-- item i of the array a equals item i of the array b
unfoldable pub equal_item_of : (ℕ → ℕ → Bool) → List ℕ → List ℕ → ℕ → ℕ → ℕ → Bool
equal_item_of equal nodes links a b i = equal (item_node nodes links a i) (item_node nodes links b i)

-- the array a equals the node b
unfoldable pub equal_arrays_of : (ℕ → ℕ → Bool) → List ℕ → List ℕ → ℕ → ℕ → Bool
equal_arrays_of equal nodes links a b =
    both (eqb (node_kind nodes b) 5) (both (eqb (node_b nodes b) (node_b nodes a)) (every (equal_item_of equal nodes links a b) 0 (node_b nodes a)))

-- the value of entry k of the object a equals what it is compared with
unfoldable pub equal_entry_of : (ℕ → ℕ → Bool) → List ℕ → List ℕ → List ℕ → List ℕ → ℕ → ℕ → ℕ → Bool
equal_entry_of equal pool texts nodes links a b k = on_found (equal (entry_value nodes links a k)) (counterpart_of pool texts nodes links a b k)

-- the object a equals the node b
unfoldable pub equal_objects_of : (ℕ → ℕ → Bool) → List ℕ → List ℕ → List ℕ → List ℕ → ℕ → ℕ → Bool
equal_objects_of equal pool texts nodes links a b =
    both (eqb (node_kind nodes b) 6)
    (both (keys_in_of pool texts nodes links a b) (every (equal_entry_of equal pool texts nodes links a b) 0 (node_b nodes a)))
