-- Tables that meet what demand 3 asks: an object over three bases, and over an empty object for two of them and the third. What both compile
-- to is computed here from the definitions alone. Assumes nothing.
use Prim.Native.Nat.{ℕ, ◌+◌}
use mathlib.Core.Path.{◌≡◌, refl}
use mathlib.Core.Bool.{Bool, true, false}
use mathlib.Core.List.{List, [], ◌∷◌, ◌++◌}
use mathlib.Core.Option.{some, none}
use native.Mathlib.Omega.{arith}
use lib.ListN.{replicate}
use Rattle.text.specs.Text.{text_count, text_word, text_start, text_length, fits_in, part_of, text_fits, text_of, same_bytes, same_text}
use Rattle.text.specs.Utf8.{lead_of, step_of, utf8_of}
use Rattle.error.specs.declared.Mode.TheVariants as mode
use Rattle.error.specs.Paths.{levels}
use Rattle.layout.specs.Layout.{Tables, NONE, node_count, note_count, schema_count, entry_count, pattern_count, node_word, note_word, schema_word, pair_key, pair_value, entry_schema, registry_word}
use Rattle.layout.specs.Walk.{every, first}
use Rattle.lists.specs.Lists.{optional_below, link_below, list_below, pair_ok, keys_differ, key_is_new, keys_distinct, pairs_below, pairs_ok}
use Rattle.records.specs.Records.{counts_in, text_ok, plain_node_ok, place_node_ok, list_node_ok, node_rule, node_ok, note_ok, entry_ok, pattern_ok}
use Rattle.rules.specs.Schemas.{unused_at, unused_from, schema_note_ok, bases_ok, object_pairs_ok, object_words_ok, object_ok, string_ok, array_ok, ref_ok, schema_rule, schema_ok}
use Rattle.tables.specs.Found.{Sound}
use Rattle.tables.specs.Check.{whole_size, size_or, texts_size, sizes_fault, record_count, record_ok, first_bad, records_from, records_fault, lent_fault, tables_fault}
use Rattle.std.specs.Prelude.{Some, None}
use Rattle.text.specs.Choice.{pick}
use Rattle.lookup.specs.Find.{first_from, last_below, found_at, to_option}
use Rattle.lookup.specs.Lookup.{entry_key, entry_value, entry_is_named, resolve_of, find_in}
use Rattle.schema.specs.Shape.{Object, Shape, plain, any_of, all_of, array, object, ref}
use Rattle.schema.specs.Look as words
use Rattle.schema.specs.Look.{Words, words_of, slice, pairs_from, own_words, note_at, detecting, sort_names, sort_shape, raw, look, bases}
use Rattle.merge.specs.Merge.{later, with_tags, put, put_all, gather, empty}
use Rattle.merge.specs.Pairs.{flat_pairs}
use Rattle.judge.specs.Judge.{is_short, is_long, count_verdict, mismatch, boolean_verdict, has_earlier, is_duplicate, keys_verdict, object_verdict, size_verdict, judge_of}
use Rattle.validator.specs.Outcome.{Outcome, accepted, refused, invalid, ended}
use Rattle.validator.specs.Visit.{find_pair, all_over, required_over, entries_over, object_at, visit_body, visit_at}
use Rattle.validator.specs.Nodes.{entry_of, entries_from}
use Rattle.validator.specs.Validate.{visit_of}
use Rattle.compilation.specs.Compile.{Result, ok, refuse, Room, objects_of, looks, add_note, add_row, add_links, add_object, add_merged, each, each_pair, optionally, compile_shape, compile_at, add_array}
use Rattle.grouping.specs.Tree.{map_list, flat_list, read_object, read_shape, open_all, open_any, view_body, view_at, view}
use Rattle.grouping.specs.Grown.{Facts, Tree, t_plain, t_object, bare, grows, no_bough, bough, parts, namings, forest, boughs, to_parts, to_naming, grow, trees}
use Rattle.grouping.specs.Values.{with_schemas, grown}
use Rattle.grouping.specs.Regrouped.{Grouped, Maybe, neither, both}
use Rattle.grouping.specs.Demand.{opened, Limited, compiling}

-- a schema without words of its own
unfoldable pub plainly : ℕ → List ℕ
plainly kind = kind ∷ NONE ∷ 0 ∷ 0 ∷ 0 ∷ 0 ∷ 0 ∷ 0 ∷ 0 ∷ 0 ∷ 0 ∷ 0 ∷ 0 ∷ 0 ∷ 0 ∷ 0 ∷ []

unfoldable pub string : List ℕ
string = 3 ∷ NONE ∷ NONE ∷ NONE ∷ NONE ∷ 0 ∷ 0 ∷ 0 ∷ 0 ∷ 0 ∷ 0 ∷ 0 ∷ 0 ∷ 0 ∷ 0 ∷ 0 ∷ []

-- first property, properties, additional, minimum, names, first base, bases
unfoldable pub thing : ℕ → ℕ → ℕ → ℕ → ℕ → ℕ → ℕ → List ℕ
thing p np a least names b n = 10 ∷ NONE ∷ p ∷ np ∷ 0 ∷ 0 ∷ a ∷ 0 ∷ 0 ∷ least ∷ NONE ∷ 0 ∷ names ∷ NONE ∷ b ∷ n ∷ []

-- a ref to the name that is text 1, and an array of it
unfoldable pub eager_ref : List ℕ
eager_ref = 11 ∷ NONE ∷ 1 ∷ 1 ∷ 0 ∷ 0 ∷ 0 ∷ 0 ∷ 0 ∷ 0 ∷ 0 ∷ 0 ∷ 0 ∷ 0 ∷ 0 ∷ 0 ∷ []

unfoldable pub list_of_it : List ℕ
list_of_it = 9 ∷ NONE ∷ 9 ∷ NONE ∷ NONE ∷ NONE ∷ 0 ∷ 0 ∷ 0 ∷ 0 ∷ 0 ∷ 0 ∷ 0 ∷ 0 ∷ 0 ∷ 0 ∷ []

-- 0 boolean; 1 null; 2 string; 3, 4 and 5 objects; 6 empty over 3, 4; 7 over 3, 4, 5; 8 over 6, 5. The first base has a property that the
-- second has too, a minimum and names; 7 and 8 have other names. 9 is an eager ref to 7, by the registry, and 10 an array of 9. Node 2 is an object whose only entry has the empty string for its key and
-- null for its value
unfoldable pub T : Tables
T =
    record {
      pool = 97 ∷ [];
      texts = 0 ∷ 0 ∷ 0 ∷ 1 ∷ [];
      nodes = 4 ∷ 0 ∷ 0 ∷ 0 ∷ 0 ∷ 0 ∷ 0 ∷ 0 ∷ 6 ∷ 5 ∷ 1 ∷ 0 ∷ [];
      notes = [];
      schemas =
          plainly 1 ++ (plainly 4 ++ (string ++
          (thing 7 1 0 0 2 NONE 0 ++ (thing 9 1 0 NONE NONE NONE 0 ++ (thing 0 0 0 NONE NONE NONE 0 ++
          (thing 0 0 NONE NONE NONE 0 2 ++ (thing 0 0 NONE NONE 0 0 3 ++ (thing 0 0 NONE NONE 0 3 2 ++ (eager_ref ++ list_of_it)))))))));
      registry = 1 ∷ 7 ∷ [];
      patterns = [];
      links = 3 ∷ 4 ∷ 5 ∷ 6 ∷ 5 ∷ 0 ∷ 1 ∷ 1 ∷ 0 ∷ 1 ∷ 1 ∷ [];
      numbers = [];
    }

pub room : Room
room = record { notes = 1024; schemas = 4096; links = 16384 }

pub sound_tables : tables_fault T ≡ Sound
unfolding T plainly string thing eager_ref list_of_it tables_fault lent_fault sizes_fault size_or texts_size whole_size records_fault records_from first_bad record_ok record_count first every counts_in text_count text_word text_start text_length text_fits text_of fits_in part_of utf8_of step_of lead_of same_bytes same_text text_ok node_count note_count schema_count entry_count pattern_count node_word note_word schema_word plain_node_ok place_node_ok list_node_ok node_rule node_ok note_ok registry_word entry_ok pattern_ok optional_below link_below list_below pair_ok keys_differ key_is_new keys_distinct pairs_below pairs_ok unused_at unused_from schema_note_ok bases_ok object_pairs_ok object_words_ok object_ok string_ok array_ok ref_ok schema_rule schema_ok pair_key pair_value
sound_tables = refl

pub limited : Limited room
unfolding room
limited = record { notes = omega arith; schemas = omega arith }

object_in : Shape ℕ → Object ℕ
object_in (plain w) = empty
object_in (any_of note xs) = empty
object_in (all_of note xs) = empty
object_in (array w x) = empty
object_in (object o) = o
object_in (ref note t b) = empty

pub grouped : Grouped (words_of T) 7 8 6
unfolding T plainly string thing eager_ref list_of_it words.object_of raw pairs_from note_at look sort_shape sort_names bases slice schema_word pair_key pair_value detecting words.own_of own_words object_in
grouped = record { own = object_in (look (words_of T) 7); before = []; run = 3 ∷ 4 ∷ []; after = 5 ∷ []; flat = refl; flat_bases = refl; nested = refl; nested_bases = refl; wrapper = refl; wrapper_bases = refl }

went : Result ℕ → ℕ
went (ok r t) = r
went (refuse n) = 1000 + n

pub left : Result ℕ → Words
left (ok r t) = t
left (refuse n) = record { notes = []; schemas = []; links = [] }

-- flat: three copies, an allOf, the object
pub flat : compiling T room 7 ≡ ok 15 (left (compiling T room 7))
unfolding compiling T plainly string thing eager_ref list_of_it room left compile_at compile_shape look raw bases slice sort_shape sort_names words.object_of pairs_from note_at detecting words.own_of own_words pair_key pair_value same_text same_bytes text_of text_word text_start text_length text_count fits_in part_of each each_pair optionally add_object add_links add_row add_note add_merged note_count schema_count flat_pairs objects_of looks gather put_all put later with_tags schema_word
flat = refl

pub nested : compiling T room 8 ≡ ok 17 (left (compiling T room 8))
unfolding compiling T plainly string thing eager_ref list_of_it room left compile_at compile_shape look raw bases slice sort_shape sort_names words.object_of pairs_from note_at detecting words.own_of own_words pair_key pair_value same_text same_bytes text_of text_word text_start text_length text_count fits_in part_of each each_pair optionally add_object add_links add_row add_note add_merged note_count schema_count flat_pairs objects_of looks gather put_all put later with_tags schema_word
nested = refl

-- the same tables but for the registry, which names 8 instead of 7
unfoldable pub T' : Tables
T' = with_schemas T (words_of T) (1 ∷ 8 ∷ [])

pub sound_tables' : tables_fault T' ≡ Sound
unfolding T T' plainly string thing eager_ref list_of_it tables_fault lent_fault sizes_fault size_or texts_size whole_size records_fault records_from first_bad record_ok record_count first every counts_in text_count text_word text_start text_length text_fits text_of fits_in part_of utf8_of step_of lead_of same_bytes same_text text_ok node_count note_count schema_count entry_count pattern_count node_word note_word schema_word plain_node_ok place_node_ok list_node_ok node_rule node_ok note_ok registry_word entry_ok pattern_ok optional_below link_below list_below pair_ok keys_differ key_is_new keys_distinct pairs_below pairs_ok unused_at unused_from schema_note_ok bases_ok object_pairs_ok object_words_ok object_ok string_ok array_ok ref_ok schema_rule schema_ok pair_key pair_value
sound_tables' = refl

pub listed : compiling T room 10 ≡ ok 16 (left (compiling T room 10))
unfolding compiling T plainly string thing eager_ref list_of_it room left compile_at compile_shape look raw bases slice sort_shape sort_names words.object_of pairs_from note_at detecting words.own_of own_words pair_key pair_value same_text same_bytes text_of text_word text_start text_length text_count fits_in part_of each each_pair optionally add_object add_links add_row add_note add_merged note_count schema_count flat_pairs objects_of looks gather put_all put later with_tags schema_word add_array find_in resolve_of last_below entry_is_named entry_count registry_word words.array_of
listed = refl

pub listed' : compiling T' room 10 ≡ ok 18 (left (compiling T' room 10))
unfolding compiling T T' plainly string thing eager_ref list_of_it room left compile_at compile_shape look raw bases slice sort_shape sort_names words.object_of pairs_from note_at detecting words.own_of own_words pair_key pair_value same_text same_bytes text_of text_word text_start text_length text_count fits_in part_of each each_pair optionally add_object add_links add_row add_note add_merged note_count schema_count flat_pairs objects_of looks gather put_all put later with_tags schema_word add_array find_in resolve_of last_below entry_is_named entry_count registry_word words.array_of
listed' = refl

-- what the one registry names stands for what the other names
pub names_alike : {Q : ℕ → ℕ → Type 0} → Q 7 8 → (t : ℕ) → Maybe Q (find_in T t) (find_in T' t)
unfolding T T' find_in resolve_of last_below entry_is_named entry_count registry_word
names_alike {Q} q t = at (same_text T.pool T.texts 1 t)
  where
    at : (b : Bool) → Maybe Q (to_option (found_at (entry_schema (1 ∷ 7 ∷ [])) (pick b (Some 0) None))) (to_option (found_at (entry_schema (1 ∷ 8 ∷ [])) (pick b (Some 0) None)))
    at true = both q
    at false = neither

-- a schema of the example as a tree
leaf : ℕ → List ℕ → Tree
leaf kind own = t_plain (record { kind = kind; note = none; words = own })

zeros : ℕ → List ℕ
zeros n = replicate n 0

merged : Facts
merged =
    record {
      note = some (record { id = NONE; description = NONE; documentation = NONE; message = NONE; hidden = NONE; completions = NONE; more = NONE; tags = NONE; detection = 0 });
      required = [];
      least = NONE;
      most = NONE;
      closed = false;
      naming = NONE;
    }

-- the later pair stands in the place of the earlier, the minimum is the derived object's, the names are the bases', and additional is all
-- of theirs
pub tree : Tree
tree =
    t_object merged (bough 1 (leaf 4 (zeros 14)) no_bough) no_bough
    (parts (grows (leaf 1 (zeros 14)) (grows (leaf 1 (zeros 14)) (grows (leaf 1 (zeros 14)) bare))))
    (namings (grows (leaf 3 (NONE ∷ NONE ∷ NONE ∷ zeros 11)) bare))

pub flat_tree : opened (grown T (left (compiling T room 7))) 15 ≡ tree
unfolding tree leaf zeros merged trees grow forest boughs to_parts to_naming opened view view_at view_body read_shape read_object open_all open_any map_list flat_list compiling T plainly string thing eager_ref list_of_it room left compile_at compile_shape look raw bases slice sort_shape sort_names words.object_of pairs_from note_at detecting words.own_of own_words pair_key pair_value same_text same_bytes text_of text_word text_start text_length text_count fits_in part_of each each_pair optionally add_object add_links add_row add_note add_merged note_count schema_count flat_pairs objects_of looks gather put_all put later with_tags schema_word note_word
flat_tree = refl

pub nested_tree : opened (grown T (left (compiling T room 8))) 17 ≡ tree
unfolding tree leaf zeros merged trees grow forest boughs to_parts to_naming opened view view_at view_body read_shape read_object open_all open_any map_list flat_list compiling T plainly string thing eager_ref list_of_it room left compile_at compile_shape look raw bases slice sort_shape sort_names words.object_of pairs_from note_at detecting words.own_of own_words pair_key pair_value same_text same_bytes text_of text_word text_start text_length text_count fits_in part_of each each_pair optionally add_object add_links add_row add_note add_merged note_count schema_count flat_pairs objects_of looks gather put_all put later with_tags schema_word note_word
nested_tree = refl

told : Outcome → List ℕ
told accepted = []
told (refused e) = e.number ∷ e.node ∷ e.kinds
told (invalid p) = []
told (ended n) = n ∷ []

-- flat: object, allOf, boolean; nested: object, allOf, allOf, boolean
flat_answer : told (visit_of (grown T (left (compiling T room 7))) mode.Source levels 2 15) ≡ 1 ∷ 1 ∷ 10 ∷ 8 ∷ 1 ∷ []
unfolding told visit_of visit_at visit_body object_at required_over entries_over find_pair all_over compiling T plainly string thing eager_ref list_of_it room left compile_at compile_shape look raw bases slice sort_shape sort_names words.object_of words.own_of own_words pairs_from note_at detecting pair_key pair_value same_text same_bytes text_of text_word text_start text_length text_count fits_in part_of each each_pair optionally add_object add_links add_row add_note add_merged note_count schema_count flat_pairs objects_of looks gather put_all put later with_tags schema_word note_word judge_of boolean_verdict mismatch object_verdict keys_verdict is_duplicate has_earlier first_from entry_key entry_value entries_from entry_of node_word size_verdict count_verdict is_short is_long
flat_answer = refl

nested_answer : told (visit_of (grown T (left (compiling T room 8))) mode.Source levels 2 17) ≡ 1 ∷ 1 ∷ 10 ∷ 8 ∷ 8 ∷ 1 ∷ []
unfolding told visit_of visit_at visit_body object_at required_over entries_over find_pair all_over compiling T plainly string thing eager_ref list_of_it room left compile_at compile_shape look raw bases slice sort_shape sort_names words.object_of words.own_of own_words pairs_from note_at detecting pair_key pair_value same_text same_bytes text_of text_word text_start text_length text_count fits_in part_of each each_pair optionally add_object add_links add_row add_note add_merged note_count schema_count flat_pairs objects_of looks gather put_all put later with_tags schema_word note_word judge_of boolean_verdict mismatch object_verdict keys_verdict is_duplicate has_earlier first_from entry_key entry_value entries_from entry_of node_word size_verdict count_verdict is_short is_long
nested_answer = refl
