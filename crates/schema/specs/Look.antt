-- What a record of table 4 says, read from the words of tables 3, 4 and 7. Assumes nothing.
use Rattle.std.specs.Prelude.{ℕ, zero, suc, ◌+◌, Bool, false, List, [], ◌∷◌, get_or, eqb, leb}
use Rattle.std.proofs.Math.Option.{Option, some, none}
use Rattle.text.specs.Choice.{pick}
use Rattle.layout.specs.Layout.{Tables, NONE, note_id, note_description, note_documentation, note_error_message, note_hidden, note_completions, note_additional_completions, note_tags, note_case_detection, schema_word, schema_kind, schema_note, list_first, list_count, array_items, properties_first, properties_count, pattern_properties_first, pattern_properties_count, additional_properties, required_first, required_count, object_minimum, object_maximum, object_closed, property_names, naming_convention, bases_first, bases_count, ref_text, ref_eager, pair_key, pair_value}
use Rattle.schema.specs.Shape.{Note, Pair, Own, Names, nameless, detects, named, Object, Shape, plain, any_of, all_of, array, object, ref}

-- the three tables that compiling appends to
pub record Words : Type 0 where
  pub notes : List ℕ
  pub schemas : List ℕ
  pub links : List ℕ

abbrev pub words_of : Tables → Words
words_of T = record { notes = T.notes; schemas = T.schemas; links = T.links }

-- count words from `at` on: a list in the links, or words of a record
unfoldable pub slice : List ℕ → ℕ → ℕ → List ℕ
slice xs at zero = []
slice xs at (suc n) = get_or xs at 0 ∷ slice xs (at + 1) n

-- count pairs of a list of pairs, from pair k on
unfoldable pub pairs_from : List ℕ → ℕ → ℕ → ℕ → List (Pair ℕ)
pairs_from links first k zero = []
pairs_from links first k (suc n) =
    record { key = pair_key links first k; value = pair_value links first k } ∷ pairs_from links first (k + 1) n

-- words k to k + n of a record
unfoldable pub own_words : List ℕ → ℕ → ℕ → ℕ → List ℕ
own_words schemas s k zero = []
own_words schemas s k (suc n) = schema_word schemas s k ∷ own_words schemas s (k + 1) n

-- a note, or none
unfoldable pub note_at : List ℕ → ℕ → Option Note
note_at notes n =
    pick (eqb n NONE) none
    (some (record {
      id = note_id notes n;
      description = note_description notes n;
      documentation = note_documentation notes n;
      message = note_error_message notes n;
      hidden = note_hidden notes n;
      completions = note_completions notes n;
      more = note_additional_completions notes n;
      tags = note_tags notes n;
      detection = note_case_detection notes n;
    }))

abbrev pub optional : ℕ → Option ℕ
optional x = pick (eqb x NONE) none (some x)

module _ (t : Words) (s : ℕ) where
  abbrev pub note_of_schema : Option Note
  note_of_schema = note_at t.notes (schema_note t.schemas s)

  -- the list of an enum, an anyOf or an allOf
  abbrev pub list_of : List ℕ
  list_of = slice t.links (list_first t.schemas s) (list_count t.schemas s)

  unfoldable pub own_of : Own
  own_of =
      record {
        kind = schema_kind t.schemas s;
        note = note_of_schema;
        words = pick (eqb (schema_kind t.schemas s) 5) list_of (own_words t.schemas s 2 14);
      }

  -- an array's words without its items
  unfoldable pub array_of : Own
  array_of = record { kind = 9; note = note_of_schema; words = own_words t.schemas s 3 3 }

  unfoldable pub object_of : Object ℕ
  object_of =
      record {
        note = note_of_schema;
        props = pairs_from t.links (properties_first t.schemas s) 0 (properties_count t.schemas s);
        patterns = pairs_from t.links (pattern_properties_first t.schemas s) 0 (pattern_properties_count t.schemas s);
        additional =
            pick (eqb (additional_properties t.schemas s) NONE) none (some (additional_properties t.schemas s ∷ []));
        required = slice t.links (required_first t.schemas s) (required_count t.schemas s);
        least = object_minimum t.schemas s;
        most = object_maximum t.schemas s;
        closed = eqb (object_closed t.schemas s) 1;
        names = pick (eqb (property_names t.schemas s) NONE) nameless (named (property_names t.schemas s ∷ []));
        naming = naming_convention t.schemas s;
      }

  -- by kind
  unfoldable pub raw : Shape ℕ
  raw =
      pick (leb (schema_kind t.schemas s) 6) (plain own_of)
      (pick (eqb (schema_kind t.schemas s) 7) (any_of note_of_schema list_of)
      (pick (eqb (schema_kind t.schemas s) 8) (all_of note_of_schema list_of)
      (pick (eqb (schema_kind t.schemas s) 9) (array array_of (optional (array_items t.schemas s)))
      (pick (eqb (schema_kind t.schemas s) 10) (object object_of)
      (ref note_of_schema (ref_text t.schemas s) (eqb (ref_eager t.schemas s) 1))))))

  -- the bases of an object: absent, or a list
  unfoldable pub bases : Option (List ℕ)
  bases =
      pick (eqb (bases_first t.schemas s) NONE) none
      (some (slice t.links (bases_first t.schemas s) (bases_count t.schemas s)))

-- "a string schema with case-detection"
abbrev pub note_detects : Option Note → Bool
note_detects none = false
note_detects (some x) = eqb x.detection 1

unfoldable pub detecting : {A : Type 0} → Shape A → Bool
detecting (plain w) = pick (eqb w.kind 3) (note_detects w.note) false
detecting (any_of _ xs) = false
detecting (all_of _ xs) = false
detecting (array w x) = false
detecting (object o) = false
detecting (ref _ t b) = false

unfoldable pub sort_names : (ℕ → Bool) → Names ℕ → Names ℕ
sort_names f nameless = nameless
sort_names f (detects x) = detects x
sort_names f (named []) = named []
sort_names f (named (x ∷ [])) = pick (f x) (detects x) (named (x ∷ []))
sort_names f (named (x ∷ (y ∷ ys))) = named (x ∷ (y ∷ ys))

abbrev pub sort_object : (ℕ → Bool) → Object ℕ → Object ℕ
sort_object f o =
    record {
      note = o.note;
      props = o.props;
      patterns = o.patterns;
      additional = o.additional;
      required = o.required;
      least = o.least;
      most = o.most;
      closed = o.closed;
      names = sort_names f o.names;
      naming = o.naming;
    }

unfoldable pub sort_shape : (ℕ → Bool) → Shape ℕ → Shape ℕ
sort_shape f (plain w) = plain w
sort_shape f (any_of note xs) = any_of note xs
sort_shape f (all_of note xs) = all_of note xs
sort_shape f (array w x) = array w x
sort_shape f (object o) = object (sort_object f o)
sort_shape f (ref note t b) = ref note t b

-- a record of table 4, read; whether its names schema is one that detects case is told by that schema's own record
unfoldable pub look : Words → ℕ → Shape ℕ
look t s = sort_shape (λ n. detecting (raw t n)) (raw t s)
