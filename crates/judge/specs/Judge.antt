-- Document 01, "A visit": what a schema's own words say of a node, kind by kind, in both modes. `answer` is the way a pattern is
-- answered. Assumes nothing.
use Rattle.std.specs.Prelude.{ℕ, Bool, false, not, List, [], ◌∷◌, length, get_or, eqb, ltb, Float, Result, Ok, Err}
use Rattle.std.specs.Result.{is_ok}
use Rattle.std.specs.Float.{nan, binary64}
use Rattle.std.specs.Float.Ieee.{of_bits}
use Rattle.text.specs.Choice.{both, either, pick}
use Rattle.text.specs.Text.{text_of}
use Rattle.text.specs.Utf8.{code_points_of}
use Rattle.number.specs.declared.tests.Bounds.{Bounds}
use Rattle.number.specs.declared.tests.NumberFault.{NumberFault}
use Rattle.number.specs.declared.tests.NumberFault.TheVariants.{OutOfRange, NotMultiple}
use Rattle.number.specs.declared.equal.Equality.{Equality}
use Rattle.number.specs.declared.equal.Equality.TheVariants.{Enum, Unique, Standard}
use Rattle.number.specs.Nearest.{nearest_of}
use Rattle.number.specs.Check.{check_number_of}
use Rattle.error.specs.declared.Mode.{Mode}
use Rattle.error.specs.declared.Mode.TheVariants as mode
use Rattle.error.specs.declared.Detail.TheVariants as detail
use Rattle.error.specs.declared.Reason.{Reason}
use Rattle.error.specs.declared.Reason.TheVariants as reason
use Rattle.layout.specs.Layout.{Tables, NONE, node_kind, node_a, node_b, properties_first, properties_count, required_first, required_count, object_minimum, object_maximum}
use Rattle.lookup.specs.Find.{Found, first_from, found}
use Rattle.std.specs.Prelude.{Some, None}
use Rattle.lookup.specs.Lookup.{entry_key, entry_has_key, last_entry, property_of}
use Rattle.json_equality.specs.Value.{equal_nodes_of}
use Rattle.schema.specs.Shape.{Own}
use Rattle.schema.specs.Look.{slice}
use Rattle.judge.specs.declared.Wrong.{Wrong}
use Rattle.judge.specs.declared.Wrong.TheVariants.{Value, BadPattern, Unanswered}

-- what is said of a value: fine, or what is wrong
abbrev pub Verdict : Type 0
Verdict = Result (Unit {0}) (Wrong Reason)

abbrev pub fine : Verdict
fine = Ok tt

-- ---- the two modes
-- source mode counts bytes, standard mode code points
unfoldable pub length_in : Mode → List ℕ → ℕ
length_in mode.Source bytes = length bytes
length_in mode.Standard bytes = code_points_of bytes

-- how numbers compare in enum, and in unique
abbrev pub enum_way : Mode → Equality
enum_way mode.Source = Enum
enum_way mode.Standard = Standard

abbrev pub unique_way : Mode → Equality
unique_way mode.Source = Unique
unique_way mode.Standard = Standard

-- ---- limits
-- a count against a minimum, then a maximum, each absent as NONE: the broken one is in the detail
unfoldable pub is_short : ℕ → ℕ → Bool
is_short count least = both (not (eqb least NONE)) (ltb count least)

unfoldable pub is_long : ℕ → ℕ → Bool
is_long count most = both (not (eqb most NONE)) (ltb most count)

-- answers 7, 9 and 11, by a `Reason` or any number that names them
unfoldable pub count_verdict : {R : Type 0} → R → ℕ → ℕ → ℕ → ℕ → Result (Unit {0}) (Wrong R)
count_verdict why n least most count =
    pick (is_short count least) (Err (Value why n (detail.Count count least)))
    (pick (is_long count most) (Err (Value why n (detail.Count count most))) (Ok tt))

-- nothing is wrong
abbrev pub is_fine : Verdict → Bool
is_fine v = is_ok v

-- the first that is not fine
abbrev pub first_wrong : Verdict → Verdict → Verdict
first_wrong (Ok u) v = v
first_wrong (Err wrong) v = Err wrong

-- ---- numbers
-- a number of table 8, NaN where absent: a NaN passes every test
unfoldable pub real_at : List ℕ → ℕ → Float
real_at numbers place = pick (eqb place NONE) nan (of_bits binary64 (get_or numbers place 0))

-- the five bounds of a number schema
unfoldable pub bounds_of : List ℕ → List ℕ → Bounds
bounds_of numbers words =
    record {
      minimum = real_at numbers (get_or words 0 0);
      maximum = real_at numbers (get_or words 1 0);
      exclusive_minimum = real_at numbers (get_or words 2 0);
      exclusive_maximum = real_at numbers (get_or words 3 0);
      multiple_of = real_at numbers (get_or words 4 0);
    }

-- answers 5 and 6
abbrev pub number_wrong : ℕ → Result (Unit {0}) NumberFault → Verdict
number_wrong n (Ok u) = fine
number_wrong n (Err (OutOfRange range)) = Err (Value reason.OutOfRange n (detail.OutOfRange range))
number_wrong n (Err (NotMultiple value multiple)) = Err (Value reason.NotMultiple n (detail.Multiple value multiple))

-- ---- pattern answers
-- 0 no, 1 match, 2 invalid
unfoldable pub answer_wrong : ℕ → ℕ → ℕ → ℕ → Verdict
answer_wrong n subject pattern a =
    pick (eqb a 0) (Err (Value reason.PatternMismatch n (detail.Pattern subject pattern))) (pick (eqb a 1) fine (Err BadPattern))

-- none is 24
abbrev pub pattern_wrong : ℕ → ℕ → ℕ → Found → Verdict
pattern_wrong n subject pattern None = Err Unanswered
pattern_wrong n subject pattern (Some a) = answer_wrong n subject pattern a

-- ---- nodes
-- 1: expected name, node's name, by the numbers that the name table is read by
unfoldable pub mismatch : List ℕ → ℕ → ℕ → Verdict
mismatch nodes expected n = Err (Value reason.TypeMismatch n (detail.Types expected (node_kind nodes n)))

-- a node of that kind, or 1
abbrev pub kind_verdict : List ℕ → ℕ → ℕ → ℕ → Verdict
kind_verdict nodes kind expected n = pick (eqb (node_kind nodes n) kind) fine (mismatch nodes expected n)

-- boolean, null: that kind only
unfoldable pub boolean_verdict : List ℕ → ℕ → Verdict
boolean_verdict nodes n = pick (eqb (node_kind nodes n) 1) fine (mismatch nodes 1 n)

unfoldable pub null_verdict : List ℕ → ℕ → Verdict
null_verdict nodes n = pick (eqb (node_kind nodes n) 0) fine (mismatch nodes 4 n)

-- a value against the five bounds
unfoldable pub value_verdict : List ℕ → List ℕ → ℕ → Float → Verdict
value_verdict numbers words n value = number_wrong n (check_number_of value (bounds_of numbers words))

-- number: an integer's nearest f64, a real's own
unfoldable pub number_verdict : List ℕ → List ℕ → List ℕ → ℕ → Verdict
number_verdict nodes numbers words n =
    pick (eqb (node_kind nodes n) 2) (value_verdict numbers words n (nearest_of (get_or numbers (node_a nodes n) 0)))
    (pick (eqb (node_kind nodes n) 3) (value_verdict numbers words n (real_at numbers (node_a nodes n)))
    (mismatch nodes 2 n))

-- string: the pattern's answer
unfoldable pub pattern_verdict : (ℕ → ℕ → Found) → List ℕ → ℕ → ℕ → Verdict
pattern_verdict answer nodes pattern n =
    pick (eqb pattern NONE) fine
    (pattern_wrong n (node_a nodes n) pattern (answer pattern (node_a nodes n)))

-- string: length, minimum then maximum; then the pattern
unfoldable pub string_verdict : Mode → (ℕ → ℕ → Found) → List ℕ → List ℕ → List ℕ → List ℕ → ℕ → Verdict
string_verdict m answer pool texts nodes words n =
    pick (eqb (node_kind nodes n) 4)
    (first_wrong
    (count_verdict reason.StringLength n (get_or words 0 0) (get_or words 1 0) (length_in m (text_of pool texts (node_a nodes n))))
    (pattern_verdict answer nodes (get_or words 2 0) n))
    (mismatch nodes 3 n)

module _ (way : Equality) (pool texts nodes links numbers : List ℕ) where
  -- enum: JSON equality with any listed node
  unfoldable pub is_listed : ℕ → List ℕ → Bool
  is_listed n [] = false
  is_listed n (x ∷ xs) = either (equal_nodes_of way pool texts nodes links numbers n x) (is_listed n xs)

  -- unique: an item equals a later one
  unfoldable pub any_repeated : List ℕ → Bool
  any_repeated [] = false
  any_repeated (x ∷ xs) = either (is_listed x xs) (any_repeated xs)

unfoldable pub enum_verdict : Mode → List ℕ → List ℕ → List ℕ → List ℕ → List ℕ → List ℕ → ℕ → Verdict
enum_verdict m pool texts nodes links numbers listed n =
    pick (is_listed (enum_way m) pool texts nodes links numbers n listed) fine (Err (Value reason.NotInEnum n detail.Empty))

-- an array's items
unfoldable pub items_of : List ℕ → List ℕ → ℕ → List ℕ
items_of nodes links n = slice links (node_a nodes n) (node_b nodes n)

-- array: unique if 1
unfoldable pub unique_verdict : Mode → List ℕ → List ℕ → List ℕ → List ℕ → List ℕ → ℕ → ℕ → Verdict
unique_verdict m pool texts nodes links numbers unique n =
    pick (eqb unique 1)
    (pick (any_repeated (unique_way m) pool texts nodes links numbers (items_of nodes links n)) (Err (Value reason.NotUnique n detail.Empty)) fine)
    fine

-- array: type, minimum, maximum, unique
unfoldable pub array_verdict : Mode → List ℕ → List ℕ → List ℕ → List ℕ → List ℕ → List ℕ → ℕ → Verdict
array_verdict m pool texts nodes links numbers words n =
    pick (eqb (node_kind nodes n) 5)
    (first_wrong
    (count_verdict reason.ArrayLength n (get_or words 0 0) (get_or words 1 0) (node_b nodes n))
    (unique_verdict m pool texts nodes links numbers (get_or words 2 0) n))
    (mismatch nodes 9 n)

module _ (nodes links : List ℕ) where
  -- the text of entry k's key
  abbrev pub key_text : ℕ → ℕ → ℕ
  key_text n k = node_a nodes (entry_key nodes links n k)

  -- 13 names the later key
  abbrev pub duplicate_wrong : ℕ → Found → Verdict
  duplicate_wrong n None = fine
  duplicate_wrong n (Some k) = Err (Value reason.DuplicateKey (entry_key nodes links n k) (detail.Key (key_text n k)))

module _ (pool texts nodes links : List ℕ) where
  -- one of the first k entries has that string key
  unfoldable pub has_earlier : ℕ → ℕ → ℕ → Bool
  has_earlier n text k = found (first_from (entry_has_key pool texts nodes links n text) 0 k)

  -- object: the key of entry k is a string that an earlier key equals
  unfoldable pub is_duplicate : ℕ → ℕ → Bool
  is_duplicate n k = both (eqb (node_kind nodes (entry_key nodes links n k)) 4) (has_earlier n (key_text nodes links n k) k)

  -- object: duplicate string keys, at the later key
  unfoldable pub keys_verdict : ℕ → Verdict
  keys_verdict n = duplicate_wrong nodes links n (first_from (is_duplicate n) 0 (node_b nodes n))

  -- object: type; duplicate string keys
  unfoldable pub object_verdict : ℕ → Verdict
  object_verdict n = pick (eqb (node_kind nodes n) 6) (keys_verdict n) (mismatch nodes 10 n)

  -- an object has a string key with these bytes
  unfoldable pub has_key : ℕ → ℕ → Bool
  has_key n text = found (last_entry pool texts nodes links n text)

abbrev pub number_or : Found → ℕ
number_or (Some s) = s
number_or None = NONE

-- 2: property text and its property's schema or NONE
unfoldable pub missing : List ℕ → List ℕ → List ℕ → ℕ → ℕ → ℕ → ℕ → Verdict
missing pool texts links first count n t = Err (Value reason.MissingProperty n (detail.Property t (number_or (property_of pool texts links first count t))))

-- required in list order: the first of the listed texts that is no key
unfoldable pub required_verdict : List ℕ → List ℕ → List ℕ → List ℕ → ℕ → ℕ → ℕ → List ℕ → Verdict
required_verdict pool texts nodes links first count n [] = fine
required_verdict pool texts nodes links first count n (t ∷ ts) =
    let rest = required_verdict pool texts nodes links first count n ts in
    pick (has_key pool texts nodes links n t) rest (missing pool texts links first count n t)

-- object: counts, all entries counted
unfoldable pub size_verdict : List ℕ → ℕ → ℕ → ℕ → Verdict
size_verdict nodes least most n = count_verdict reason.PropertyCount n least most (node_b nodes n)

-- object: what comes before its entries, in order
unfoldable pub before_entries : List ℕ → List ℕ → List ℕ → List ℕ → List ℕ → ℕ → ℕ → Verdict
before_entries pool texts nodes schemas links s n =
    first_wrong (object_verdict pool texts nodes links n)
    (first_wrong
    (required_verdict pool texts nodes links (properties_first schemas s) (properties_count schemas s) n
    (slice links (required_first schemas s) (required_count schemas s)))
    (size_verdict nodes (object_minimum schemas s) (object_maximum schemas s) n))

-- by kind; True and any accept
unfoldable pub judge_of : Tables → Mode → (ℕ → ℕ → Found) → Own → ℕ → Verdict
judge_of T m answer w n =
    pick (eqb w.kind 1) (boolean_verdict T.nodes n)
    (pick (eqb w.kind 2) (number_verdict T.nodes T.numbers w.words n)
    (pick (eqb w.kind 3) (string_verdict m answer T.pool T.texts T.nodes w.words n)
    (pick (eqb w.kind 4) (null_verdict T.nodes n)
    (pick (eqb w.kind 5) (enum_verdict m T.pool T.texts T.nodes T.links T.numbers w.words n)
    (pick (eqb w.kind 9) (array_verdict m T.pool T.texts T.nodes T.links T.numbers w.words n)
    fine)))))
