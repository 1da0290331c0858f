-- JSON values, an object as a finite map, and when two values are equal. Assumes nothing.
use Rattle.std.specs.Prelude.{ℕ, Bool, true, false, List, ◌≡◌, eqb}
use Rattle.std.proofs.Math.Option.{Option, none, some}
use Rattle.text.specs.Choice.{both, either, pick}
use Rattle.text.specs.Text.{same_bytes}
use Rattle.number.specs.Equal.{equal_numbers_of, finite_number}
use Rattle.number.specs.declared.equal.Equality.{Equality}
use Rattle.number.specs.declared.equal.Number.{Number}

-- a value: null, a boolean, a number, a string's bytes, an array's items, an object's fields as they were written
mutual
  pub data Json : Type 0 where
    null : Json
    boolean : ℕ → Json
    number : Number → Json
    string : List ℕ → Json
    array : Items → Json
    object : Fields → Json

  pub data Items : Type 0 where
    no_items : Items
    item : Json → Items → Items

  pub data Fields : Type 0 where
    no_fields : Fields
    field : List ℕ → Json → Fields → Fields

-- ---- an object is a finite map from keys to values
abbrev pub or_else : Option Json → Option Json → Option Json
or_else (some x) o = some x
or_else none o = o

-- the last of equal keys wins
unfoldable pub field_of : List ℕ → Fields → Option Json
field_of key no_fields = none
field_of key (field k x fs) = or_else (field_of key fs) (pick (same_bytes k key) (some x) none)

abbrev pub is_some : Option Json → Bool
is_some (some x) = true
is_some none = false

-- the map has that key
unfoldable pub has_field : List ℕ → Fields → Bool
has_field key fs = is_some (field_of key fs)

-- every key of the first map is one of the second
unfoldable pub keys_within : Fields → Fields → Bool
keys_within no_fields ys = true
keys_within (field key x xs) ys = both (has_field key ys) (keys_within xs ys)

-- ---- equality: a test of the same kind of value, false of the other kinds
abbrev pub on_null : Json → Bool
on_null null = true
on_null (boolean b) = false
on_null (number v) = false
on_null (string s) = false
on_null (array xs) = false
on_null (object xs) = false

abbrev pub on_boolean : (ℕ → Bool) → Json → Bool
on_boolean f null = false
on_boolean f (boolean b) = f b
on_boolean f (number v) = false
on_boolean f (string s) = false
on_boolean f (array xs) = false
on_boolean f (object xs) = false

abbrev pub on_number : (Number → Bool) → Json → Bool
on_number f null = false
on_number f (boolean b) = false
on_number f (number v) = f v
on_number f (string s) = false
on_number f (array xs) = false
on_number f (object xs) = false

abbrev pub on_string : (List ℕ → Bool) → Json → Bool
on_string f null = false
on_string f (boolean b) = false
on_string f (number v) = false
on_string f (string s) = f s
on_string f (array xs) = false
on_string f (object xs) = false

abbrev pub on_array : (Items → Bool) → Json → Bool
on_array f null = false
on_array f (boolean b) = false
on_array f (number v) = false
on_array f (string s) = false
on_array f (array xs) = f xs
on_array f (object xs) = false

abbrev pub on_object : (Fields → Bool) → Json → Bool
on_object f null = false
on_object f (boolean b) = false
on_object f (number v) = false
on_object f (string s) = false
on_object f (array xs) = false
on_object f (object xs) = f xs

abbrev pub on_no_items : Items → Bool
on_no_items no_items = true
on_no_items (item y ys) = false

abbrev pub on_item : (Json → Items → Bool) → Items → Bool
on_item f no_items = false
on_item f (item y ys) = f y ys

abbrev pub on_some : (Json → Bool) → Option Json → Bool
on_some f none = false
on_some f (some y) = f y

-- arrays item by item; of objects each field of the first that no later one covers, and the keys of the second are all in the first
unfoldable mutual
  pub equal_json : Equality → Json → Json → Bool
  equal_json way null y = on_null y
  equal_json way (boolean a) y = on_boolean (eqb a) y
  equal_json way (number v) y = on_number (equal_numbers_of way v) y
  equal_json way (string s) y = on_string (same_bytes s) y
  equal_json way (array xs) y = on_array (λ ys. equal_items way xs ys) y
  equal_json way (object xs) y = on_object (λ ys. both (keys_within ys xs) (equal_fields way xs ys)) y

  pub equal_items : Equality → Items → Items → Bool
  equal_items way no_items ys = on_no_items ys
  equal_items way (item x xs) ys = on_item (λ y ys. both (equal_json way x y) (equal_items way xs ys)) ys

  pub equal_fields : Equality → Fields → Fields → Bool
  equal_fields way no_fields ys = true
  equal_fields way (field key x xs) ys =
      both (either (has_field key xs) (on_some (λ y. equal_json way x y) (field_of key ys))) (equal_fields way xs ys)

-- two maps agree at a key: neither has it, or both have and the values are equal
abbrev pub is_none : Option Json → Bool
is_none none = true
is_none (some y) = false

abbrev pub agree : Equality → Option Json → Option Json → Bool
agree way none o = is_none o
agree way (some x) o = on_some (equal_json way x) o

-- ---- what reflexivity asks: every real is finite
abbrev mutual
  pub Sane : Json → Type 0
  Sane null = Unit {0}
  Sane (boolean b) = Unit {0}
  Sane (number v) = finite_number v ≡ true
  Sane (string s) = Unit {0}
  Sane (array xs) = SaneItems xs
  Sane (object xs) = SaneFields xs

  pub SaneItems : Items → Type 0
  SaneItems no_items = Unit {0}
  SaneItems (item x xs) = Sane x × SaneItems xs

  pub SaneFields : Fields → Type 0
  SaneFields no_fields = Unit {0}
  SaneFields (field key x xs) = Sane x × SaneFields xs
