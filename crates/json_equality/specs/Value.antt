-- Document 01, "A visit": the JSON value that a node stands for, and equality of nodes. Assumes nothing.
use Rattle.std.specs.Prelude.{ℕ, zero, suc, Bool, List, eqb, get_or}
use Rattle.text.specs.Choice.{pick}
use Rattle.text.specs.Text.{text_of}
use Rattle.number.specs.Pattern.{finite_of}
use Rattle.number.specs.declared.equal.Equality.{Equality}
use Rattle.number.specs.declared.equal.Number.TheVariants.{Integer, Real}
use Rattle.layout.specs.Layout.{NONE, node_kind, node_a, node_b, node_count}
use Rattle.lookup.specs.Lookup.{entry_key, entry_value, item_node}
use Rattle.json_equality.specs.declared.shape.Shape.{Shape}
use Rattle.json_equality.specs.declared.shape.Shape.TheVariants.{Null, Boolean, Numeric, Text, Array, Object}
use Rattle.json_equality.specs.Json.{Json, null, boolean, number, string, array, object, Items, no_items, item, Fields, no_fields, field, equal_json}

-- ---- a node's shape
-- a real that is not finite is null
unfoldable pub real_shape : ℕ → Shape
real_shape bits = pick (finite_of bits) (Numeric (Real bits)) Null

-- an unparsed real is null
unfoldable pub parsed_shape : List ℕ → ℕ → Shape
parsed_shape numbers place = pick (eqb place NONE) Null (real_shape (get_or numbers place 0))

-- by kind; null, alias and bad value are null
unfoldable pub shape_by : List ℕ → ℕ → ℕ → ℕ → Shape
shape_by numbers kind a b =
    pick (eqb kind 1) (Boolean a)
    (pick (eqb kind 2) (Numeric (Integer (get_or numbers a 0)))
    (pick (eqb kind 3) (parsed_shape numbers b)
    (pick (eqb kind 4) (Text a)
    (pick (eqb kind 5) Array
    (pick (eqb kind 6) Object
    Null)))))

unfoldable pub shape_of : List ℕ → List ℕ → ℕ → Shape
shape_of nodes numbers n = shape_by numbers (node_kind nodes n) (node_a nodes n) (node_b nodes n)

-- ---- its value, from those of its children, which f gives
-- the items of the array n from i on, count of them
unfoldable pub items_from : (ℕ → Json) → List ℕ → List ℕ → ℕ → ℕ → ℕ → Items
items_from f nodes links n i zero = no_items
items_from f nodes links n i (suc count) = item (f (item_node nodes links n i)) (items_from f nodes links n (suc i) count)

-- objects drop non-string keys
unfoldable pub keyed : List ℕ → List ℕ → List ℕ → ℕ → Json → Fields → Fields
keyed pool texts nodes key x fs = pick (eqb (node_kind nodes key) 4) (field (text_of pool texts (node_a nodes key)) x fs) fs

-- the fields of the object n from entry i on, count entries
unfoldable pub fields_from : List ℕ → List ℕ → (ℕ → Json) → List ℕ → List ℕ → ℕ → ℕ → ℕ → Fields
fields_from pool texts f nodes links n i zero = no_fields
fields_from pool texts f nodes links n i (suc count) =
    keyed pool texts nodes (entry_key nodes links n i) (f (entry_value nodes links n i)) (fields_from pool texts f nodes links n (suc i) count)

unfoldable pub json_of : List ℕ → List ℕ → (ℕ → Json) → List ℕ → List ℕ → ℕ → Shape → Json
json_of pool texts f nodes links n Null = null
json_of pool texts f nodes links n (Boolean b) = boolean b
json_of pool texts f nodes links n (Numeric v) = number v
json_of pool texts f nodes links n (Text t) = string (text_of pool texts t)
json_of pool texts f nodes links n Array = array (items_from f nodes links n 0 (node_b nodes n))
json_of pool texts f nodes links n Object = object (fields_from pool texts f nodes links n 0 (node_b nodes n))

-- the value of node n, as deep as depth; what lies deeper is null
unfoldable pub value_at : List ℕ → List ℕ → List ℕ → List ℕ → List ℕ → ℕ → ℕ → Json
value_at pool texts nodes links numbers zero n = null
value_at pool texts nodes links numbers (suc depth) n =
    json_of pool texts (value_at pool texts nodes links numbers depth) nodes links n (shape_of nodes numbers n)

-- children stand before their parents, so no node nests deeper than there are nodes
unfoldable pub value_of : List ℕ → List ℕ → List ℕ → List ℕ → List ℕ → ℕ → Json
value_of pool texts nodes links numbers n = value_at pool texts nodes links numbers (suc (node_count nodes)) n

-- JSON equality of two nodes
unfoldable pub equal_nodes_of : Equality → List ℕ → List ℕ → List ℕ → List ℕ → List ℕ → ℕ → ℕ → Bool
equal_nodes_of way pool texts nodes links numbers a b =
    equal_json way (value_of pool texts nodes links numbers a) (value_of pool texts nodes links numbers b)
