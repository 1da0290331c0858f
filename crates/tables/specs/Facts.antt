-- What the check establishes, as one predicate with named facts, for the layers above. Assumes nothing.
use Rattle.std.specs.Prelude.{ℕ, ◌<◌, ◌≤◌, ◌≡◌, true, length}
use Rattle.text.specs.Text.{text_count}
use Rattle.layout.specs.Layout.{Tables, most_bytes, most_texts, most_nodes, most_notes, most_schemas, most_entries, most_patterns, most_links, most_numbers, node_count, note_count, schema_count, entry_count, pattern_count}
use Rattle.records.specs.Records.{counts_of, text_ok, node_ok, note_ok, entry_ok, pattern_ok}
use Rattle.rules.specs.Schemas.{schema_ok}

-- no table is longer than its limit
pub record Sized (T : Tables) : Type 0 where
  pub pool : length T.pool ≤ most_bytes
  pub texts : text_count T.texts ≤ most_texts
  pub nodes : node_count T.nodes ≤ most_nodes
  pub notes : note_count T.notes ≤ most_notes
  pub schemas : schema_count T.schemas ≤ most_schemas
  pub registry : entry_count T.registry ≤ most_entries
  pub patterns : pattern_count T.patterns ≤ most_patterns
  pub links : length T.links ≤ most_links
  pub numbers : length T.numbers ≤ most_numbers

-- every record of every table is good
pub record WellFormed (T : Tables) : Type 0 where
  pub sized : Sized T
  pub texts : (i : ℕ) → i < text_count T.texts → text_ok T.pool T.texts i ≡ true
  pub nodes : (i : ℕ) → i < node_count T.nodes → node_ok (counts_of T) T.links T.nodes i ≡ true
  pub notes : (i : ℕ) → i < note_count T.notes → note_ok T.notes i ≡ true
  pub schemas : (i : ℕ) → i < schema_count T.schemas → schema_ok (counts_of T) T.pool T.texts T.links T.schemas i ≡ true
  pub registry : (i : ℕ) → i < entry_count T.registry → entry_ok (counts_of T) T.registry i ≡ true
  pub patterns : (i : ℕ) → i < pattern_count T.patterns → pattern_ok (counts_of T) T.patterns i ≡ true
