-- Document 01, "Compiling": what is appended to tables 3, 4 and 7. `t` is their used words, which only grow. Assumes nothing.
use Rattle.std.specs.Prelude.{ℕ, zero, suc, ◌+◌, Bool, true, false, List, [], ◌∷◌, ◌++◌, length, eqb, leb}
use Rattle.std.proofs.Math.Option.{Option, some, none}
use Rattle.text.specs.Choice.{pick}
use Rattle.layout.specs.Layout.{NONE, note_count, schema_count, schema_note, array_items, array_minimum, array_maximum, array_unique, additional_properties, required_first, required_count, object_minimum, object_maximum, object_closed, property_names, naming_convention}
use Rattle.layout.specs.Rows.{note_row, list_row, array_row, object_row}
use Rattle.schema.specs.Shape.{Note, Pair, Object, Shape, plain, any_of, all_of, array, object, ref}
use Rattle.schema.specs.Look.{Words, look, bases}
use Rattle.merge.specs.Pairs.{flat_pairs}
use Rattle.merge.specs.Merge.{Gathered, start, gather, note_of, derive}

-- what compiling gives: a value and the words by then, or the number of the first refusal met
pub data Result (A : Type 0) : Type 0 where
  ok : A → Words → Result A
  refuse : ℕ → Result A

abbrev pub then : {A B : Type 0} → Result A → (A → Words → Result B) → Result B
then (ok a t) f = f a t
then (refuse n) f = refuse n

-- the most records that tables 3, 4 and 7 have room for: by limit and whole records lent
pub record Room : Type 0 where
  pub notes : ℕ
  pub schemas : ℕ
  pub links : ℕ

abbrev pub with_notes : Words → List ℕ → Words
with_notes t x = record { notes = t.notes ++ x; schemas = t.schemas; links = t.links }

abbrev pub with_row : Words → List ℕ → Words
with_row t x = record { notes = t.notes; schemas = t.schemas ++ x; links = t.links }

abbrev pub with_links : Words → List ℕ → Words
with_links t x = record { notes = t.notes; schemas = t.schemas; links = t.links ++ x }

abbrev pub objects_cons : {A : Type 0} → Shape A → Option (List (Object A)) → Option (List (Object A))
objects_cons (plain w) r = none
objects_cons (any_of _ xs) r = none
objects_cons (all_of _ xs) r = none
objects_cons (array w x) r = none
objects_cons (object o) none = none
objects_cons (object o) (some os) = some (o ∷ os)
objects_cons (ref _ t b) r = none

-- all of them, or none where one is no object
unfoldable pub objects_of : {A : Type 0} → List (Shape A) → Option (List (Object A))
objects_of [] = some []
objects_of (x ∷ xs) = objects_cons x (objects_of xs)

unfoldable pub looks : Words → List ℕ → List (Shape ℕ)
looks t [] = []
looks t (x ∷ xs) = look t x ∷ looks t xs

abbrev pub note_words_of : Note → List ℕ
note_words_of x =
    note_row x.id x.description x.documentation x.message x.hidden x.completions x.more x.tags x.detection

module _ (R : Room) (eq : ℕ → ℕ → Bool) (find : ℕ → Option ℕ) where
  -- room is tested at each append: 33
  unfoldable pub add_note : List ℕ → Words → Result ℕ
  add_note x t = pick (leb (note_count t.notes + 1) R.notes) (ok (note_count t.notes) (with_notes t x)) (refuse 33)

  unfoldable pub add_row : List ℕ → Words → Result ℕ
  add_row x t = pick (leb (schema_count t.schemas + 1) R.schemas) (ok (schema_count t.schemas) (with_row t x)) (refuse 33)

  -- an empty list starts at the used link count
  unfoldable pub add_links : List ℕ → Words → Result ℕ
  add_links x t = pick (leb (length t.links + length x) R.links) (ok (length t.links) (with_links t x)) (refuse 33)

  -- an anyOf or an allOf: links, then the record, with its own note
  unfoldable pub add_list : ℕ → ℕ → List ℕ → Words → Result ℕ
  add_list kind note xs t = then (add_links xs t) (λ at t. add_row (list_row kind note at (length xs)) t)

  unfoldable pub add_array : ℕ → ℕ → Words → Result ℕ
  add_array s items t =
      add_row (array_row (schema_note t.schemas s) items (array_minimum t.schemas s) (array_maximum t.schemas s) (array_unique t.schemas s)) t

  -- a plain object: its pairs, then the record; note, required list and the other words as they stand
  unfoldable pub add_object : ℕ → List (Pair ℕ) → List (Pair ℕ) → ℕ → ℕ → Words → Result ℕ
  add_object s ps qs additional names t =
      then (add_links (flat_pairs ps) t) (λ at t.
      then (add_links (flat_pairs qs) t) (λ on t.
      add_row (object_row (schema_note t.schemas s) at (length ps) on (length qs) additional (required_first t.schemas s) (required_count t.schemas s) (object_minimum t.schemas s) (object_maximum t.schemas s) (object_closed t.schemas s) names (naming_convention t.schemas s)) t))

  -- "none, the one, or a new allOf of all": its links
  abbrev pub join_links : Option (List ℕ) → Words → Result ℕ
  join_links none t = ok 0 t
  join_links (some []) t = ok 0 t
  join_links (some (x ∷ [])) t = ok 0 t
  join_links (some (x ∷ (y ∷ ys))) t = add_links (x ∷ (y ∷ ys)) t

  -- and its record
  abbrev pub join_row : ℕ → ℕ → Option (List ℕ) → Words → Result ℕ
  join_row kind at none t = ok NONE t
  join_row kind at (some []) t = ok NONE t
  join_row kind at (some (x ∷ [])) t = ok x t
  join_row kind at (some (x ∷ (y ∷ ys))) t = add_row (list_row kind NONE at (length (x ∷ (y ∷ ys)))) t

  -- a merged object: note; links of properties, patterns, required, additional, names; records allOf, anyOf, object
  unfoldable pub add_merged : Note → Option (List ℕ) → Object ℕ → Words → Result ℕ
  add_merged note names o t =
      then (add_note (note_words_of note) t) (λ ν t.
      then (add_links (flat_pairs o.props) t) (λ p t.
      then (add_links (flat_pairs o.patterns) t) (λ q t.
      then (add_links o.required t) (λ r t.
      then (join_links o.additional t) (λ a t.
      then (join_links names t) (λ n t.
      then (join_row 8 a o.additional t) (λ additional t.
      then (join_row 7 n names t) (λ naming t.
      add_row (object_row ν p (length o.props) q (length o.patterns) additional r (length o.required) o.least o.most (pick o.closed 1 0) naming o.naming) t))))))))

  -- children in order
  unfoldable pub each : (ℕ → Words → Result ℕ) → List ℕ → Words → Result (List ℕ)
  each go [] t = ok [] t
  each go (x ∷ xs) t = then (go x t) (λ y t. then (each go xs t) (λ ys t. ok (y ∷ ys) t))

  unfoldable pub each_pair : (ℕ → Words → Result ℕ) → List (Pair ℕ) → Words → Result (List (Pair ℕ))
  each_pair go [] t = ok [] t
  each_pair go (x ∷ xs) t =
      then (go x.value t) (λ y t. then (each_pair go xs t) (λ ys t. ok (record { key = x.key; value = y } ∷ ys) t))

  -- an optional child, as its word
  unfoldable pub optionally : (ℕ → Words → Result ℕ) → ℕ → Words → Result ℕ
  optionally go x t = pick (eqb x NONE) (ok NONE t) (go x t)

  -- 31 if any base is no object, then 30 if there is none
  abbrev pub merge_from : Option (List (Object ℕ)) → Object ℕ → Words → Result ℕ
  merge_from none d t = refuse 31
  merge_from (some []) d t = refuse 30
  merge_from (some (o ∷ os)) d t =
      let g : Gathered ℕ = gather eq start (o ∷ os) in
      add_merged (note_of g.note d.note) g.names (derive eq g d) t

  -- an eager ref compiles its target, or 32
  abbrev pub eagerly : (ℕ → Words → Result ℕ) → Option ℕ → Words → Result ℕ
  eagerly go none t = refuse 32
  eagerly go (some x) t = go x t

  -- kinds 0 to 6 and lazy refs answer their own number; anyOf, allOf, array and objects always append
  unfoldable pub compile_shape : (ℕ → Words → Result ℕ) → ℕ → Words → Shape ℕ → Option (List ℕ) → Result ℕ
  compile_shape go s t (plain w) b = ok s t
  compile_shape go s t (any_of _ xs) b = then (each go xs t) (λ ys t. add_list 7 (schema_note t.schemas s) ys t)
  compile_shape go s t (all_of _ xs) b = then (each go xs t) (λ ys t. add_list 8 (schema_note t.schemas s) ys t)
  compile_shape go s t (array w x) b = then (optionally go (array_items t.schemas s) t) (λ y t. add_array s y t)
  compile_shape go s t (object o) none =
      then (each_pair go o.props t) (λ ps t.
      then (each_pair go o.patterns t) (λ qs t.
      then (optionally go (additional_properties t.schemas s) t) (λ a t.
      then (optionally go (property_names t.schemas s) t) (λ n t.
      add_object s ps qs a n t))))
  compile_shape go s t (object o) (some bs) = then (each go bs t) (λ rs t. merge_from (objects_of (looks t rs)) o t)
  compile_shape go s t (ref _ name false) b = ok s t
  compile_shape go s t (ref _ name true) b = eagerly go (find name) t

  -- each compile visit is a level
  unfoldable pub compile_at : ℕ → ℕ → Words → Result ℕ
  compile_at zero s t = refuse 23
  compile_at (suc k) s t = compile_shape (compile_at k) s t (look t s) (bases t s)
