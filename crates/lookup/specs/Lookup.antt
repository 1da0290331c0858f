-- What is found by a text: an object's entry, a property, a registry entry, a pattern's answer. Texts are compared by bytes. Assumes nothing.
use Rattle.std.specs.Prelude.{ℕ, ◌+◌, List, Bool, not, get_or, eqb, ltb}
use Rattle.std.proofs.Math.Option.{Option}
use Rattle.text.specs.Choice.{both}
use Rattle.text.specs.Text.{text_length, same_text}
use Rattle.layout.specs.Layout.{Tables, node_kind, node_a, node_b, pair_key, pair_value, entry_text, entry_schema, entry_count, pattern_text, subject_text, pattern_answer, pattern_count}
use Rattle.lookup.specs.Find.{Found, last_below, first_from, found_at, to_option}

-- by its record alone, text t does not have the n bytes, of which there is one at least
unfoldable pub other_length : List ℕ → ℕ → ℕ → Bool
other_length texts t n = both (ltb 0 n) (not (eqb (text_length texts t) n))

-- a node is a string with these bytes
unfoldable pub key_is : List ℕ → List ℕ → List ℕ → ℕ → ℕ → Bool
key_is pool texts nodes text key = both (eqb (node_kind nodes key) 4) (same_text pool texts (node_a nodes key) text)

-- entry k of the object n: its key node, and its value node
unfoldable pub entry_key : List ℕ → List ℕ → ℕ → ℕ → ℕ
entry_key nodes links n k = pair_key links (node_a nodes n) k

unfoldable pub entry_value : List ℕ → List ℕ → ℕ → ℕ → ℕ
entry_value nodes links n k = pair_value links (node_a nodes n) k

-- item k of the array n
unfoldable pub item_node : List ℕ → List ℕ → ℕ → ℕ → ℕ
item_node nodes links n k = get_or links (node_a nodes n + k) 0

-- entry k of the object n has that string key
unfoldable pub entry_has_key : List ℕ → List ℕ → List ℕ → List ℕ → ℕ → ℕ → ℕ → Bool
entry_has_key pool texts nodes links n text k = key_is pool texts nodes text (entry_key nodes links n k)

-- navigation, JSON equality: the last entry with that string key
unfoldable pub last_entry : List ℕ → List ℕ → List ℕ → List ℕ → ℕ → ℕ → Found
last_entry pool texts nodes links n text = last_below (entry_has_key pool texts nodes links n text) (node_b nodes n)

-- pair k of a list of pairs has that key
unfoldable pub pair_has_key : List ℕ → List ℕ → List ℕ → ℕ → ℕ → ℕ → Bool
pair_has_key pool texts links first text k = same_text pool texts (pair_key links first k) text

-- a property of that name: keys of one list differ, so there is one at most
abbrev pub property_place : List ℕ → List ℕ → List ℕ → ℕ → ℕ → ℕ → Found
property_place pool texts links first count text = first_from (pair_has_key pool texts links first text) 0 count

-- its schema
unfoldable pub property_of : List ℕ → List ℕ → List ℕ → ℕ → ℕ → ℕ → Found
property_of pool texts links first count text = found_at (pair_value links first) (property_place pool texts links first count text)

-- registry entry i has that name
unfoldable pub entry_is_named : List ℕ → List ℕ → List ℕ → ℕ → ℕ → Bool
entry_is_named pool texts registry text i = same_text pool texts (entry_text registry i) text

-- ref: the last registry entry of that name
unfoldable pub resolve_of : List ℕ → List ℕ → List ℕ → ℕ → Found
resolve_of pool texts registry text =
    found_at (entry_schema registry) (last_below (entry_is_named pool texts registry text) (entry_count registry))

-- what a ref leads to in these tables, in a visit and in compiling
unfoldable pub find_in : Tables → ℕ → Option ℕ
find_in T text = to_option (resolve_of T.pool T.texts T.registry text)

-- answer entry i is for that pattern and that subject
unfoldable pub answers_pattern : List ℕ → List ℕ → List ℕ → ℕ → ℕ → ℕ → Bool
answers_pattern pool texts patterns pattern subject i =
    both (same_text pool texts (pattern_text patterns i) pattern) (same_text pool texts (subject_text patterns i) subject)

-- string: the first answer entry with equal pattern and subject
unfoldable pub answer_of_pattern : List ℕ → List ℕ → List ℕ → ℕ → ℕ → Found
answer_of_pattern pool texts patterns pattern subject =
    found_at (pattern_answer patterns) (first_from (answers_pattern pool texts patterns pattern subject) 0 (pattern_count patterns))
