-- The type names of nodes and of schemas, in ASCII. Assumes nothing.
use Rattle.std.specs.Prelude.{ℕ, List, [], ◌∷◌, ◌++◌, get_or, length, take}
use Rattle.text.specs.Text.{padded}
use Rattle.names.specs.declared.Name.{Name}

-- A visit: the name that each kind of node answers under, kinds 0 to 8; a bad value is "null" again.
unfoldable pub node_names : List (List ℕ)
node_names =
    (110 ∷ 117 ∷ 108 ∷ 108 ∷ []) ∷  -- null
    (98 ∷ 111 ∷ 111 ∷ 108 ∷ 101 ∷ 97 ∷ 110 ∷ []) ∷  -- boolean
    (105 ∷ 110 ∷ 116 ∷ 101 ∷ 103 ∷ 101 ∷ 114 ∷ []) ∷  -- integer
    (102 ∷ 108 ∷ 111 ∷ 97 ∷ 116 ∷ []) ∷  -- float
    (115 ∷ 116 ∷ 114 ∷ 105 ∷ 110 ∷ 103 ∷ []) ∷  -- string
    (97 ∷ 114 ∷ 114 ∷ 97 ∷ 121 ∷ []) ∷  -- array
    (111 ∷ 98 ∷ 106 ∷ 101 ∷ 99 ∷ 116 ∷ []) ∷  -- object
    (97 ∷ 108 ∷ 105 ∷ 97 ∷ 115 ∷ []) ∷  -- alias
    (110 ∷ 117 ∷ 108 ∷ 108 ∷ []) ∷  -- bad value: null
    []

-- Tables, schemas: the name of each kind of schema, kinds 0 to 11, as the source spells it.
unfoldable pub schema_names : List (List ℕ)
schema_names =
    (116 ∷ 114 ∷ 117 ∷ 101 ∷ []) ∷  -- true
    (98 ∷ 111 ∷ 111 ∷ 108 ∷ 101 ∷ 97 ∷ 110 ∷ []) ∷  -- boolean
    (110 ∷ 117 ∷ 109 ∷ 98 ∷ 101 ∷ 114 ∷ []) ∷  -- number
    (115 ∷ 116 ∷ 114 ∷ 105 ∷ 110 ∷ 103 ∷ []) ∷  -- string
    (110 ∷ 117 ∷ 108 ∷ 108 ∷ []) ∷  -- null
    (101 ∷ 110 ∷ 117 ∷ 109 ∷ []) ∷  -- enum
    (97 ∷ 110 ∷ 121 ∷ []) ∷  -- any
    (97 ∷ 110 ∷ 121 ∷ 79 ∷ 102 ∷ []) ∷  -- anyOf
    (97 ∷ 108 ∷ 108 ∷ 79 ∷ 102 ∷ []) ∷  -- allOf
    (97 ∷ 114 ∷ 114 ∷ 97 ∷ 121 ∷ []) ∷  -- array
    (111 ∷ 98 ∷ 106 ∷ 101 ∷ 99 ∷ 116 ∷ []) ∷  -- object
    (36 ∷ 114 ∷ 101 ∷ 102 ∷ []) ∷  -- $ref
    []

-- A visit: a node's kind decides its name; a number that is no kind has the empty name.
unfoldable pub yaml_type_name : ℕ → List ℕ
yaml_type_name kind = get_or node_names kind []

-- A schema's kind decides its name; a number that is no kind has the empty name.
unfoldable pub type_name : ℕ → List ℕ
type_name kind = get_or schema_names kind []

-- A visit, one table for both: the eight different node names, the schema names, and the empty name of what is no kind.
unfoldable pub table_names : List (List ℕ)
table_names = take 8 node_names ++ schema_names ++ [] ∷ []

-- The name in a row of that table.
unfoldable pub table_name : ℕ → List ℕ
table_name k = get_or table_names k []

-- A name as it is handed out: its bytes, with 0 behind them to eight, and its length.
unfoldable pub named : List ℕ → Name
named name = record { bytes = padded name 8; len = length name }
