-- Two tables 7 that hold the same lists of nodes: no value differs. Assumes nothing.
use Rattle.std.specs.Prelude.{ℕ, ◌+◌, ◌*◌, ◌<◌, ◌≡◌, List, get_or}
use Rattle.layout.specs.Layout.{Tables, node_kind, node_a, node_b}
use Rattle.schema.specs.Look.{Words}

-- the items of every array, and the keys and values of every object, are the same
pub record SameValues (nodes links links' : List ℕ) : Type 0 where
  pub items : (n k : ℕ) → node_kind nodes n ≡ 5 → k < node_b nodes n → get_or links (node_a nodes n + k) 0 ≡ get_or links' (node_a nodes n + k) 0
  pub entries : (n k : ℕ) → node_kind nodes n ≡ 6 → k < node_b nodes n * 2 → get_or links (node_a nodes n + k) 0 ≡ get_or links' (node_a nodes n + k) 0

-- the same texts, nodes, pattern answers and numbers, with other notes, schemas and links, and another registry
abbrev pub with_schemas : Tables → Words → List ℕ → Tables
with_schemas T t registry =
    record {
      pool = T.pool;
      texts = T.texts;
      nodes = T.nodes;
      notes = t.notes;
      schemas = t.schemas;
      registry = registry;
      patterns = T.patterns;
      links = t.links;
      numbers = T.numbers;
    }

-- what a compile leaves: tables 3, 4 and 7 with what it appended
abbrev pub grown : Tables → Words → Tables
grown T t = with_schemas T t T.registry
