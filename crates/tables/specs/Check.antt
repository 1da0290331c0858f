-- Document 01, "Answers by number", 20: sizes of tables 1 to 8, then records of tables 1 to 6; the first bad record of the first bad
-- table, or NONE for a size. Assumes nothing.
use Rattle.std.specs.Prelude.{ℕ, zero, suc, ◌/◌, ◌%◌, List, Bool, length, leb, ltb, eqb}
use Rattle.text.specs.Choice.{both, pick}
use Rattle.text.specs.Text.{text_words, text_count}
use Rattle.tables.specs.Found.{Fault, Sound, Bad, or_else}
use Rattle.records.specs.declared.Counts.{Counts}
use Rattle.layout.specs.Layout.{Tables, NONE, node_words, note_words, schema_words, registry_words, pattern_words, most_bytes, most_texts, most_nodes, most_notes, most_schemas, most_entries, most_patterns, most_links, most_numbers, node_count, note_count, schema_count, entry_count, pattern_count}
use Rattle.layout.specs.Walk.{first}
use Rattle.records.specs.Records.{counts_of, text_ok, node_ok, note_ok, entry_ok, pattern_ok}
use Rattle.rules.specs.Schemas.{schema_ok}

-- neither ragged nor too long
unfoldable pub whole_size : ℕ → ℕ → ℕ → Bool
whole_size words width most = both (eqb (words % width) 0) (leb (words / width) most)

-- for compile: the size is the used count, at most the limit and the whole records lent
unfoldable pub used_size : ℕ → ℕ → ℕ → Bool
used_size records most used = both (leb used most) (leb used records)

-- a bad size names its table; a good one leaves it to the rest
unfoldable pub size_or : Bool → ℕ → Fault → Fault
size_or good table rest = pick good rest (Bad table NONE)

-- table 1 is judged with its pool
unfoldable pub texts_size : List ℕ → List ℕ → Bool
texts_size pool texts = both (whole_size (length texts) text_words most_texts) (leb (length pool) most_bytes)

-- the sizes of tables 1 to 8 in order; those of 3, 4 and 7 are judged by the caller
unfoldable pub sizes_fault : List ℕ → List ℕ → List ℕ → List ℕ → List ℕ → List ℕ → Bool → Bool → Bool → Fault
sizes_fault pool texts nodes registry patterns numbers notesFit schemasFit linksFit =
    size_or (texts_size pool texts) 1
    (size_or (whole_size (length nodes) node_words most_nodes) 2
    (size_or notesFit 3
    (size_or schemasFit 4
    (size_or (whole_size (length registry) registry_words most_entries) 5
    (size_or (whole_size (length patterns) pattern_words most_patterns) 6
    (size_or linksFit 7
    (size_or (leb (length numbers) most_numbers) 8 Sound)))))))

unfoldable pub record_count : Tables → ℕ → ℕ
record_count T table =
    pick (eqb table 1) (text_count T.texts)
    (pick (eqb table 2) (node_count T.nodes)
    (pick (eqb table 3) (note_count T.notes)
    (pick (eqb table 4) (schema_count T.schemas)
    (pick (eqb table 5) (entry_count T.registry)
    (pattern_count T.patterns)))))

unfoldable pub record_ok : Counts → Tables → ℕ → ℕ → Bool
record_ok z T table i =
    pick (eqb table 1) (text_ok T.pool T.texts i)
    (pick (eqb table 2) (node_ok z T.links T.nodes i)
    (pick (eqb table 3) (note_ok T.notes i)
    (pick (eqb table 4) (schema_ok z T.pool T.texts T.links T.schemas i)
    (pick (eqb table 5) (entry_ok z T.registry i)
    (pattern_ok z T.patterns i)))))

-- the first bad record of a table, or how many it has
unfoldable pub first_bad : Counts → Tables → ℕ → ℕ
first_bad z T table = first (record_ok z T table) 0 (record_count T table)

-- the first bad record of the first bad table, of n tables from `table` on
unfoldable pub records_from : Counts → Tables → ℕ → ℕ → Fault
records_from z T table zero = Sound
records_from z T table (suc n) =
    let rest = records_from z T (suc table) n in
    pick (ltb (first_bad z T table) (record_count T table)) (Bad table (first_bad z T table)) rest

unfoldable pub records_fault : Tables → Fault
records_fault T = records_from (counts_of T) T 1 6

-- the sizes where every table is lent whole
unfoldable pub lent_fault : Tables → Fault
lent_fault T =
    sizes_fault T.pool T.texts T.nodes T.registry T.patterns T.numbers
    (whole_size (length T.notes) note_words most_notes)
    (whole_size (length T.schemas) schema_words most_schemas)
    (leb (length T.links) most_links)

-- the whole check
unfoldable pub tables_fault : Tables → Fault
tables_fault T = or_else (lent_fault T) (records_fault T)
