-- Document 01, "Tables": what is lent, how many words a record has, how many records there may be, and what each word is called.
-- No other definition knows a width or a place. Assumes nothing.
use Rattle.std.specs.Prelude.{ℕ, ◌+◌, ◌*◌, ◌/◌, List, length, get_or, ltb}
use Rattle.text.specs.Choice.{pick}
pub use Rattle.text.specs.Text.{NONE}

-- what a call is lent: eight tables, and the pool of the texts' bytes
pub record Tables : Type 0 where
  pub pool : List ℕ
  pub texts : List ℕ
  pub nodes : List ℕ
  pub notes : List ℕ
  pub schemas : List ℕ
  pub registry : List ℕ
  pub patterns : List ℕ
  pub links : List ℕ
  pub numbers : List ℕ

abbrev pub tables : List ℕ → List ℕ → List ℕ → List ℕ → List ℕ → List ℕ → List ℕ → List ℕ → List ℕ → Tables
tables pool texts nodes notes schemas registry patterns links numbers =
    record {
      pool = pool;
      texts = texts;
      nodes = nodes;
      notes = notes;
      schemas = schemas;
      registry = registry;
      patterns = patterns;
      links = links;
      numbers = numbers;
    }

-- words per record; a text's are `text`'s
abbrev pub node_words : ℕ
node_words = 4

abbrev pub note_words : ℕ
note_words = 9

abbrev pub schema_words : ℕ
schema_words = 16

abbrev pub registry_words : ℕ
registry_words = 2

abbrev pub pattern_words : ℕ
pattern_words = 3

-- most bytes, most records
abbrev pub most_bytes : ℕ
most_bytes = 65536

abbrev pub most_texts : ℕ
most_texts = 4096

abbrev pub most_nodes : ℕ
most_nodes = 4096

abbrev pub most_notes : ℕ
most_notes = 1024

abbrev pub most_schemas : ℕ
most_schemas = 4096

abbrev pub most_entries : ℕ
most_entries = 256

abbrev pub most_patterns : ℕ
most_patterns = 4096

abbrev pub most_links : ℕ
most_links = 16384

abbrev pub most_numbers : ℕ
most_numbers = 4096

-- how many records a table has
unfoldable pub node_count : List ℕ → ℕ
node_count nodes = length nodes / node_words

unfoldable pub note_count : List ℕ → ℕ
note_count notes = length notes / note_words

unfoldable pub schema_count : List ℕ → ℕ
schema_count schemas = length schemas / schema_words

unfoldable pub entry_count : List ℕ → ℕ
entry_count registry = length registry / registry_words

unfoldable pub pattern_count : List ℕ → ℕ
pattern_count patterns = length patterns / pattern_words

-- table 2, nodes: kind, a, b, c
unfoldable pub node_word : List ℕ → ℕ → ℕ → ℕ
node_word nodes n k = get_or nodes (n * node_words + k) 0

abbrev pub node_kind : List ℕ → ℕ → ℕ
node_kind nodes n = node_word nodes n 0

abbrev pub node_a : List ℕ → ℕ → ℕ
node_a nodes n = node_word nodes n 1

abbrev pub node_b : List ℕ → ℕ → ℕ
node_b nodes n = node_word nodes n 2

abbrev pub node_c : List ℕ → ℕ → ℕ
node_c nodes n = node_word nodes n 3

-- table 3, notes, in 01's order
unfoldable pub note_word : List ℕ → ℕ → ℕ → ℕ
note_word notes n k = get_or notes (n * note_words + k) 0

abbrev pub note_id : List ℕ → ℕ → ℕ
note_id notes n = note_word notes n 0

abbrev pub note_description : List ℕ → ℕ → ℕ
note_description notes n = note_word notes n 1

abbrev pub note_documentation : List ℕ → ℕ → ℕ
note_documentation notes n = note_word notes n 2

abbrev pub note_error_message : List ℕ → ℕ → ℕ
note_error_message notes n = note_word notes n 3

abbrev pub note_hidden : List ℕ → ℕ → ℕ
note_hidden notes n = note_word notes n 4

abbrev pub note_completions : List ℕ → ℕ → ℕ
note_completions notes n = note_word notes n 5

abbrev pub note_additional_completions : List ℕ → ℕ → ℕ
note_additional_completions notes n = note_word notes n 6

abbrev pub note_tags : List ℕ → ℕ → ℕ
note_tags notes n = note_word notes n 7

abbrev pub note_case_detection : List ℕ → ℕ → ℕ
note_case_detection notes n = note_word notes n 8

-- table 4, schemas: kind, note, then by kind
unfoldable pub schema_word : List ℕ → ℕ → ℕ → ℕ
schema_word schemas s k = get_or schemas (s * schema_words + k) 0

abbrev pub schema_kind : List ℕ → ℕ → ℕ
schema_kind schemas s = schema_word schemas s 0

abbrev pub schema_note : List ℕ → ℕ → ℕ
schema_note schemas s = schema_word schemas s 1

-- 2 number
abbrev pub number_minimum : List ℕ → ℕ → ℕ
number_minimum schemas s = schema_word schemas s 2

abbrev pub number_maximum : List ℕ → ℕ → ℕ
number_maximum schemas s = schema_word schemas s 3

abbrev pub number_exclusive_minimum : List ℕ → ℕ → ℕ
number_exclusive_minimum schemas s = schema_word schemas s 4

abbrev pub number_exclusive_maximum : List ℕ → ℕ → ℕ
number_exclusive_maximum schemas s = schema_word schemas s 5

abbrev pub number_multiple : List ℕ → ℕ → ℕ
number_multiple schemas s = schema_word schemas s 6

-- 3 string
abbrev pub string_minimum : List ℕ → ℕ → ℕ
string_minimum schemas s = schema_word schemas s 2

abbrev pub string_maximum : List ℕ → ℕ → ℕ
string_maximum schemas s = schema_word schemas s 3

abbrev pub string_pattern : List ℕ → ℕ → ℕ
string_pattern schemas s = schema_word schemas s 4

-- 5 enum, 7 anyOf, 8 allOf: one list
abbrev pub list_first : List ℕ → ℕ → ℕ
list_first schemas s = schema_word schemas s 2

abbrev pub list_count : List ℕ → ℕ → ℕ
list_count schemas s = schema_word schemas s 3

-- 9 array
abbrev pub array_items : List ℕ → ℕ → ℕ
array_items schemas s = schema_word schemas s 2

abbrev pub array_minimum : List ℕ → ℕ → ℕ
array_minimum schemas s = schema_word schemas s 3

abbrev pub array_maximum : List ℕ → ℕ → ℕ
array_maximum schemas s = schema_word schemas s 4

abbrev pub array_unique : List ℕ → ℕ → ℕ
array_unique schemas s = schema_word schemas s 5

-- 10 object
abbrev pub properties_first : List ℕ → ℕ → ℕ
properties_first schemas s = schema_word schemas s 2

abbrev pub properties_count : List ℕ → ℕ → ℕ
properties_count schemas s = schema_word schemas s 3

abbrev pub pattern_properties_first : List ℕ → ℕ → ℕ
pattern_properties_first schemas s = schema_word schemas s 4

abbrev pub pattern_properties_count : List ℕ → ℕ → ℕ
pattern_properties_count schemas s = schema_word schemas s 5

abbrev pub additional_properties : List ℕ → ℕ → ℕ
additional_properties schemas s = schema_word schemas s 6

abbrev pub required_first : List ℕ → ℕ → ℕ
required_first schemas s = schema_word schemas s 7

abbrev pub required_count : List ℕ → ℕ → ℕ
required_count schemas s = schema_word schemas s 8

abbrev pub object_minimum : List ℕ → ℕ → ℕ
object_minimum schemas s = schema_word schemas s 9

abbrev pub object_maximum : List ℕ → ℕ → ℕ
object_maximum schemas s = schema_word schemas s 10

abbrev pub object_closed : List ℕ → ℕ → ℕ
object_closed schemas s = schema_word schemas s 11

abbrev pub property_names : List ℕ → ℕ → ℕ
property_names schemas s = schema_word schemas s 12

abbrev pub naming_convention : List ℕ → ℕ → ℕ
naming_convention schemas s = schema_word schemas s 13

abbrev pub bases_first : List ℕ → ℕ → ℕ
bases_first schemas s = schema_word schemas s 14

abbrev pub bases_count : List ℕ → ℕ → ℕ
bases_count schemas s = schema_word schemas s 15

-- 11 ref
abbrev pub ref_text : List ℕ → ℕ → ℕ
ref_text schemas s = schema_word schemas s 2

abbrev pub ref_eager : List ℕ → ℕ → ℕ
ref_eager schemas s = schema_word schemas s 3

-- table 5, registry: text, schema; 0 where there is no entry i
unfoldable pub registry_word : List ℕ → ℕ → ℕ → ℕ
registry_word registry i k = pick (ltb i (entry_count registry)) (get_or registry (i * registry_words + k) 0) 0

abbrev pub entry_text : List ℕ → ℕ → ℕ
entry_text registry i = registry_word registry i 0

abbrev pub entry_schema : List ℕ → ℕ → ℕ
entry_schema registry i = registry_word registry i 1

-- table 6, pattern answers: pattern text, subject text, answer; 0 where there is no entry i
unfoldable pub pattern_word : List ℕ → ℕ → ℕ → ℕ
pattern_word patterns i k = pick (ltb i (pattern_count patterns)) (get_or patterns (i * pattern_words + k) 0) 0

abbrev pub pattern_text : List ℕ → ℕ → ℕ
pattern_text patterns i = pattern_word patterns i 0

abbrev pub subject_text : List ℕ → ℕ → ℕ
subject_text patterns i = pattern_word patterns i 1

abbrev pub pattern_answer : List ℕ → ℕ → ℕ
pattern_answer patterns i = pattern_word patterns i 2

-- table 7, links: pair k of a list of pairs, two links each
unfoldable pub pair_key : List ℕ → ℕ → ℕ → ℕ
pair_key links first k = get_or links (first + k * 2) 0

unfoldable pub pair_value : List ℕ → ℕ → ℕ → ℕ
pair_value links first k = get_or links (first + k * 2 + 1) 0
