-- Document 01, "Tables": when a record of table 4 is good, kind by kind. Assumes nothing.
use Rattle.std.specs.Prelude.{ℕ, List, Bool, false, leb, ltb, eqb}
use Rattle.text.specs.Choice.{both, either, pick}
use Rattle.records.specs.declared.Counts.{Counts}
use Rattle.layout.specs.Layout.{NONE, schema_words, schema_word, schema_kind, schema_note, number_minimum, number_maximum, number_exclusive_minimum, number_exclusive_maximum, number_multiple, string_pattern, list_first, list_count, array_items, array_unique, properties_first, properties_count, pattern_properties_first, pattern_properties_count, additional_properties, required_first, required_count, object_closed, property_names, bases_first, bases_count, ref_text, ref_eager}
use Rattle.layout.specs.Walk.{every}
use Rattle.lists.specs.Lists.{optional_below, list_below, pairs_ok}

-- words a kind does not use are 0
unfoldable pub unused_at : List ℕ → ℕ → ℕ → Bool
unused_at schemas s k = eqb (schema_word schemas s k) 0

unfoldable pub unused_from : List ℕ → ℕ → ℕ → Bool
unused_from schemas s k = every (unused_at schemas s) k schema_words

-- the note is a note, or NONE
unfoldable pub schema_note_ok : Counts → List ℕ → ℕ → Bool
schema_note_ok z schemas s = optional_below (schema_note schemas s) z.notes

-- 0 True: no note
unfoldable pub true_ok : List ℕ → ℕ → Bool
true_ok schemas s = both (eqb (schema_note schemas s) NONE) (unused_from schemas s 2)

-- 2 number: five optional numbers
unfoldable pub number_ok : Counts → List ℕ → ℕ → Bool
number_ok z schemas s =
    both (optional_below (number_minimum schemas s) z.numbers)
    (both (optional_below (number_maximum schemas s) z.numbers)
    (both (optional_below (number_exclusive_minimum schemas s) z.numbers)
    (both (optional_below (number_exclusive_maximum schemas s) z.numbers)
    (both (optional_below (number_multiple schemas s) z.numbers)
    (unused_from schemas s 7)))))

-- 3 string: minimum and maximum are any word, the pattern is a text or NONE
unfoldable pub string_ok : Counts → List ℕ → ℕ → Bool
string_ok z schemas s = both (optional_below (string_pattern schemas s) z.texts) (unused_from schemas s 5)

-- 5 enum, 7 anyOf, 8 allOf: a list of nodes, or of earlier schemas
unfoldable pub list_ok : List ℕ → List ℕ → ℕ → ℕ → Bool
list_ok links schemas s limit = both (list_below links (list_first schemas s) (list_count schemas s) limit) (unused_from schemas s 4)

-- 9 array: items, and unique 0, 1 or NONE
unfoldable pub array_ok : List ℕ → ℕ → Bool
array_ok schemas s =
    both (optional_below (array_items schemas s) s)
    (both (either (eqb (array_unique schemas s) NONE) (leb (array_unique schemas s) 1))
    (unused_from schemas s 6))

-- a bases list: absent as first NONE and count 0, or a list of earlier schemas
unfoldable pub bases_ok : List ℕ → List ℕ → ℕ → Bool
bases_ok links schemas s =
    pick (eqb (bases_first schemas s) NONE) (eqb (bases_count schemas s) 0)
    (list_below links (bases_first schemas s) (bases_count schemas s) s)

-- 10 object: properties and pattern properties, lists of pairs of a text and an earlier schema
unfoldable pub object_pairs_ok : Counts → List ℕ → List ℕ → List ℕ → List ℕ → ℕ → Bool
object_pairs_ok z pool texts links schemas s =
    both (pairs_ok pool texts links (properties_first schemas s) (properties_count schemas s) z.texts s)
    (pairs_ok pool texts links (pattern_properties_first schemas s) (pattern_properties_count schemas s) z.texts s)

-- additional and names: an earlier schema or NONE; required: a list of texts; closed: 0 or 1; bases; minimum, maximum and naming are any word
unfoldable pub object_words_ok : Counts → List ℕ → List ℕ → ℕ → Bool
object_words_ok z links schemas s =
    both (optional_below (additional_properties schemas s) s)
    (both (list_below links (required_first schemas s) (required_count schemas s) z.texts)
    (both (leb (object_closed schemas s) 1)
    (both (optional_below (property_names schemas s) s)
    (bases_ok links schemas s))))

-- no word of an object is unused
unfoldable pub object_ok : Counts → List ℕ → List ℕ → List ℕ → List ℕ → ℕ → Bool
object_ok z pool texts links schemas s = both (object_pairs_ok z pool texts links schemas s) (object_words_ok z links schemas s)

-- 11 ref: a text, eager 0 or 1
unfoldable pub ref_ok : Counts → List ℕ → ℕ → Bool
ref_ok z schemas s =
    both (ltb (ref_text schemas s) z.texts) (both (leb (ref_eager schemas s) 1) (unused_from schemas s 4))

unfoldable pub schema_rule : Counts → List ℕ → List ℕ → List ℕ → List ℕ → ℕ → ℕ → Bool
schema_rule z pool texts links schemas s kind =
    pick (eqb kind 0) (true_ok schemas s)
    (pick (eqb kind 1) (unused_from schemas s 2)
    (pick (eqb kind 2) (number_ok z schemas s)
    (pick (eqb kind 3) (string_ok z schemas s)
    (pick (eqb kind 4) (unused_from schemas s 2)
    (pick (eqb kind 5) (list_ok links schemas s z.nodes)
    (pick (eqb kind 6) (unused_from schemas s 2)
    (pick (eqb kind 7) (list_ok links schemas s s)
    (pick (eqb kind 8) (list_ok links schemas s s)
    (pick (eqb kind 9) (array_ok schemas s)
    (pick (eqb kind 10) (object_ok z pool texts links schemas s)
    (pick (eqb kind 11) (ref_ok z schemas s)
    false)))))))))))

unfoldable pub schema_ok : Counts → List ℕ → List ℕ → List ℕ → List ℕ → ℕ → Bool
schema_ok z pool texts links schemas s =
    both (schema_note_ok z schemas s) (schema_rule z pool texts links schemas s (schema_kind schemas s))
