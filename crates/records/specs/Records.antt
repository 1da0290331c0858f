-- Document 01, "Tables": when a record of tables 1, 2, 3, 5 and 6 is good. Assumes nothing.
use Rattle.std.specs.Prelude.{ℕ, ◌*◌, List, Bool, false, length, leb, ltb, eqb}
use Rattle.text.specs.Choice.{both, pick}
use Rattle.text.specs.Text.{text_of, text_fits, text_count}
use Rattle.text.specs.Utf8.{utf8_of}
use Rattle.records.specs.declared.Counts.{Counts}
use Rattle.layout.specs.Layout.{Tables, NONE, node_kind, node_a, node_b, node_c, note_tags, note_case_detection, entry_text, entry_schema, pattern_text, subject_text, pattern_answer, node_count, note_count, schema_count}
use Rattle.lists.specs.Lists.{optional_below, list_below}

-- how many records there are to name
unfoldable pub counts_in : List ℕ → List ℕ → List ℕ → List ℕ → List ℕ → Counts
counts_in texts nodes notes schemas numbers =
    record {
      texts = text_count texts;
      nodes = node_count nodes;
      notes = note_count notes;
      schemas = schema_count schemas;
      numbers = length numbers;
    }

abbrev pub counts_of : Tables → Counts
counts_of T = counts_in T.texts T.nodes T.notes T.schemas T.numbers

-- 1: the part lies in the pool, and is UTF-8
unfoldable pub text_ok : List ℕ → List ℕ → ℕ → Bool
text_ok pool texts i = both (text_fits pool texts i) (utf8_of (text_of pool texts i))

-- words a kind does not use are 0
abbrev pub unused : ℕ → Bool
unused w = eqb w 0

-- 2: null, alias and bad value use no word
unfoldable pub plain_node_ok : ℕ → ℕ → ℕ → Bool
plain_node_ok a b c = both (unused a) (both (unused b) (unused c))

-- boolean: a is 0 or 1
unfoldable pub boolean_node_ok : ℕ → ℕ → ℕ → Bool
boolean_node_ok a b c = both (leb a 1) (both (unused b) (unused c))

-- integer, string: a is a number's or a text's place
unfoldable pub place_node_ok : ℕ → ℕ → ℕ → ℕ → Bool
place_node_ok count a b c = both (ltb a count) (both (unused b) (unused c))

-- real: a and b are places of numbers, each or NONE
unfoldable pub real_node_ok : ℕ → ℕ → ℕ → ℕ → Bool
real_node_ok count a b c = both (optional_below a count) (both (optional_below b count) (unused c))

-- array: a list of earlier nodes; object: a list of entries, each two earlier nodes
unfoldable pub list_node_ok : List ℕ → ℕ → ℕ → ℕ → ℕ → Bool
list_node_ok links n first count c = both (list_below links first count n) (unused c)

unfoldable pub node_rule : Counts → List ℕ → ℕ → ℕ → ℕ → ℕ → ℕ → Bool
node_rule z links n kind a b c =
    pick (eqb kind 0) (plain_node_ok a b c)
    (pick (eqb kind 1) (boolean_node_ok a b c)
    (pick (eqb kind 2) (place_node_ok z.numbers a b c)
    (pick (eqb kind 3) (real_node_ok z.numbers a b c)
    (pick (eqb kind 4) (place_node_ok z.texts a b c)
    (pick (eqb kind 5) (list_node_ok links n a b c)
    (pick (eqb kind 6) (list_node_ok links n a (b * 2) c)
    (pick (eqb kind 7) (plain_node_ok a b c)
    (pick (eqb kind 8) (plain_node_ok a b c)
    false))))))))

unfoldable pub node_ok : Counts → List ℕ → List ℕ → ℕ → Bool
node_ok z links nodes n = node_rule z links n (node_kind nodes n) (node_a nodes n) (node_b nodes n) (node_c nodes n)

-- 3: the last word is 1 or 0, and 0 where the tags are NONE; the others are opaque
unfoldable pub note_ok : List ℕ → ℕ → Bool
note_ok notes n =
    pick (eqb (note_tags notes n) NONE) (eqb (note_case_detection notes n) 0) (leb (note_case_detection notes n) 1)

-- 5: a text, a schema
unfoldable pub entry_ok : Counts → List ℕ → ℕ → Bool
entry_ok z registry i = both (ltb (entry_text registry i) z.texts) (ltb (entry_schema registry i) z.schemas)

-- 6: two texts; no, match or invalid
unfoldable pub pattern_ok : Counts → List ℕ → ℕ → Bool
pattern_ok z patterns i =
    both (ltb (pattern_text patterns i) z.texts) (both (ltb (subject_text patterns i) z.texts) (leb (pattern_answer patterns i) 2))
