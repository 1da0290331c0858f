-- The table's rule, at all of its rows by one equation that antt computes. And the laws of names that callers cite.
-- Assumes nothing.
use mathlib.Core.Path.{◌≡◌, refl}
use mathlib.Core.List.{List, [], ◌∷◌, map, flat_map}
use mathlib.Core.Logic.{⊎_elim}
use Prim.Native.Nat.{ℕ, zero, suc, ◌+◌, ◌*◌, ◌-◌, ◌<◌, ◌≤◌}
use native.Mathlib.Nat.{eq-or-lt_of_le, le_of_suc-le-suc, not-suc-le-zero}
use native.Mathlib.Omega.{arith}
use lib.ListN.{get_or, length, replicate, take, get_or-eq_default}
use lib.Seq.{take_at}
use Rattle.text.specs.Text.{padded}
use Rattle.names.specs.declared.Name.{Name}
use Rattle.names.specs.Names.{node_names, schema_names, yaml_type_name, type_name, table_names, table_name, named}

-- what f gives at each number below n
abbrev up_to : {A : Type 0} → (ℕ → A) → ℕ → List A
up_to f zero = []
up_to f (suc n) = f n ∷ up_to f n

-- two functions that give the same list agree at each number below n
agree : {A : Type 0} (f g : ℕ → A) (n : ℕ) → up_to f n ≡ up_to g n → (k : ℕ) → k < n → f k ≡ g k
agree f g zero e k h = absurd (not-suc-le-zero h)
agree f g (suc n) e k h =
    let top : f n ≡ g n = cc in
    let rest : up_to f n ≡ up_to g n = cc in
    ⊎_elim (λ (q : k ≡ n). cc) (λ m. agree f g n rest k m) (eq-or-lt_of_le (le_of_suc-le-suc h))

-- the table as two lists: the padded names one after the other, and their lengths
unfoldable pub bytes : List ℕ
bytes = flat_map (λ name. (named name).bytes) table_names

unfoldable pub lengths : List ℕ
lengths = map (λ name. (named name).len) table_names

-- row k, as the code reads it from the two lists
unfoldable pub row_at : ℕ → Name
row_at k = record {
  bytes =
      get_or bytes (8 * k) 0 ∷ get_or bytes (8 * k + 1) 0 ∷ get_or bytes (8 * k + 2) 0 ∷ get_or bytes (8 * k + 3) 0 ∷
      get_or bytes (8 * k + 4) 0 ∷ get_or bytes (8 * k + 5) 0 ∷ get_or bytes (8 * k + 6) 0 ∷ get_or bytes (8 * k + 7) 0 ∷ [];
  len = get_or lengths k 0;
}

-- the table's rule: what is read at row k is the name in row k; antt computes all 21 rows
pub row_at_lem : (k : ℕ) → k < 21 → row_at k ≡ named (table_name k)
unfolding row_at bytes lengths named padded table_name table_names node_names schema_names flat_map
row_at_lem = agree row_at (λ k. named (table_name k)) 21 refl

-- the first eight rows are the node names, in the order of their kinds
node_row : (kind : ℕ) → kind < 8 → table_name kind ≡ yaml_type_name kind
unfolding table_name table_names node_names schema_names yaml_type_name
node_row = agree table_name yaml_type_name 8 refl

-- the next twelve are the schema names
schema_row : (kind : ℕ) → kind < 12 → table_name (8 + kind) ≡ type_name kind
unfolding table_name table_names node_names schema_names type_name
schema_row = agree (λ kind. table_name (8 + kind)) type_name 12 refl

-- the last is empty
none_row : table_name 20 ≡ []
unfolding table_name table_names node_names schema_names
none_row = refl

-- a bad value answers under the name of null
pub bad_value : yaml_type_name 8 ≡ yaml_type_name 0
unfolding yaml_type_name node_names
bad_value = refl

-- a number that is no kind of node has the empty name
pub no_node : (kind : ℕ) → 9 ≤ kind → yaml_type_name kind ≡ []
unfolding yaml_type_name node_names
no_node kind h = get_or-eq_default node_names [] h

-- a number that is no kind of schema has the empty name
pub no_schema : (kind : ℕ) → 12 ≤ kind → type_name kind ≡ []
unfolding type_name schema_names
no_schema kind h = get_or-eq_default schema_names [] h

-- what is handed out holds the name: its first bytes, as many as count
pub read_back : (name : List ℕ) → take (named name).len (named name).bytes ≡ name
unfolding named padded
read_back name = take_at name (replicate (8 - length name) 0) (length name) refl

-- a number from n on that is not n is past it
pub past : {n kind : ℕ} → n ≤ kind → (kind ≡ n → ⊥) → suc n ≤ kind
past h no-n = omega arith

-- what a row read by kind is: a node's name, a bad value's, a schema's, and nothing
pub node-named : {r : Name} {kind k : ℕ} → k < 8 → kind ≡ k → r ≡ named (table_name k) → r ≡ named (yaml_type_name kind)
node-named {k = k} h e p = cc (node_row k h)

pub bad_named : {r : Name} {kind : ℕ} → kind ≡ 8 → r ≡ named (table_name 0) → r ≡ named (yaml_type_name kind)
bad_named e p = cc (node_row 0 (omega arith), bad_value)

pub no_node_named : {r : Name} {kind : ℕ} → 9 ≤ kind → r ≡ named (table_name 20) → r ≡ named (yaml_type_name kind)
no_node_named {kind = kind} h p = cc (none_row, no_node kind h)

pub schema-named : {r : Name} {kind : ℕ} → kind < 12 → r ≡ named (table_name (8 + kind)) → r ≡ named (type_name kind)
schema-named {kind = kind} h p = cc (schema_row kind h)

pub no_schema_named : {r : Name} {kind : ℕ} → 12 ≤ kind → r ≡ named (table_name 20) → r ≡ named (type_name kind)
no_schema_named {kind = kind} h p = cc (none_row, no_schema kind h)
