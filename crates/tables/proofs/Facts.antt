-- What the check establishes, for the layers above: `well_formed`, then every fact of a node, a schema, a registry entry, a pattern
-- answer and a note by its name. Assumes nothing.
use mathlib.Core.Path.{◌≡◌, sym, ◌∙◌}
use mathlib.Core.Bool.{Bool, true, false}
use mathlib.Core.List.{List}
use mathlib.Core.Logic.{◌⊎◌, inl, inr, ⊎_elim}
use Prim.Native.Nat.{ℕ, zero, suc, ◌+◌, ◌*◌, ◌<◌, ◌≤◌}
use native.Mathlib.Omega.{arith}
use borrow.Author.Tests.{ltb-true, ltb-false, leb-true, eqb-true, ne_eqb, not-true}
use lib.ListN.{length, get_or}
use lib.Dec.{ltb, leb, eqb}
use Rattle.text.specs.Choice.{both, either, clash, both_left, both_right, either_cases, true_or_false, le_or_lt}
use Rattle.text.specs.Text.{text_of, text_count, same_text}
use Rattle.text.proofs.Bytes.{same_text_complete}
use Rattle.layout.specs.Layout.{Tables, NONE, node_kind, node_a, node_b, node_c, pair_key, pair_value, node_count, note_count, schema_count, entry_count, pattern_count, entry_text, entry_schema, pattern_text, subject_text, pattern_answer, note_tags, note_case_detection, schema_kind, schema_note, number_minimum, number_maximum, number_exclusive_minimum, number_exclusive_maximum, number_multiple, string_pattern, list_first, list_count, array_items, array_unique, properties_first, properties_count, pattern_properties_first, pattern_properties_count, additional_properties, required_first, required_count, object_closed, property_names, bases_first, bases_count, ref_text, ref_eager}
use Rattle.layout.specs.Walk.{every, first}
use Rattle.tables.specs.Found.{Sound}
use Rattle.records.specs.declared.Counts.{Counts}
use Rattle.lists.specs.Lists.{optional_below, link_below, list_below, pair_ok, keys_differ, key_is_new, keys_distinct, pairs_below, pairs_ok}
use Rattle.records.specs.Records.{counts_in, counts_of, boolean_node_ok, place_node_ok, real_node_ok, list_node_ok, node_rule, node_ok, entry_ok, pattern_ok}
use Rattle.rules.specs.Schemas.{schema_note_ok, number_ok, string_ok, list_ok, array_ok, object_pairs_ok, object_words_ok, object_ok, ref_ok, schema_rule, schema_ok}
use Rattle.tables.specs.Check.{record_count, record_ok, first_bad, records_from, records_fault, lent_fault, tables_fault}
use Rattle.tables.specs.Facts.{WellFormed}
use Rattle.lists.proofs.Walked.{every_at, first_at}
use Rattle.records.proofs.Cases.{untagged, tagged}
use Rattle.rules.proofs.Rules.{bases_absent, bases_listed}
use Rattle.tables.proofs.Faults.{never, first_sound, second_sound, sizes_sound}

-- every record of every table from `table` on is good
records_good : (z : Counts) (T : Tables) (n table : ℕ) → records_from z T table n ≡ Sound → (k : ℕ) → table ≤ k → k < table + n → (i : ℕ) → i < record_count T k → record_ok z T k i ≡ true
unfolding records_from first_bad
records_good z T zero table h k l m i u = absurd (omega arith)
records_good z T (suc n) table h k l m i u =
    ⊎_elim (λ t. never (rw t at h))
    (λ t.
    ⊎_elim
    (λ q.
    let e : k ≡ table = omega arith in
    let u' : i < record_count T table = rw e at u in
    let from : 0 ≤ i = omega arith in
    rw e (first_at (record_ok z T table) 0 (record_count T table) (ltb-false (first_bad z T table) (record_count T table) t) i from u'))
    (λ q. records_good z T n (suc table) (rw t at h) k (omega arith) (omega arith) i u)
    (le_or_lt k table))
    (true_or_false (ltb (first_bad z T table) (record_count T table)))

-- nothing found: every fact holds
pub well_formed : (T : Tables) → tables_fault T ≡ Sound → WellFormed T
unfolding tables_fault records_fault record_ok record_count
well_formed T h =
    let good = records_good (counts_of T) T 6 1 (second_sound (lent_fault T) (records_fault T) h) in
    record {
      sized = sizes_sound T (first_sound (lent_fault T) (records_fault T) h);
      texts = good 1 (omega arith) (omega arith);
      nodes = good 2 (omega arith) (omega arith);
      notes = good 3 (omega arith) (omega arith);
      schemas = good 4 (omega arith) (omega arith);
      registry = good 5 (omega arith) (omega arith);
      patterns = good 6 (omega arith) (omega arith);
    }

-- an optional number: absent, or below the limit
abbrev pub Optional : ℕ → ℕ → Type 0
Optional w limit = (w ≡ NONE) ⊎ (w < limit)

pub optional : (w limit : ℕ) → optional_below w limit ≡ true → Optional w limit
unfolding optional_below
optional w limit t = ⊎_elim (λ e. inl (eqb-true w NONE e)) (λ l. inr (ltb-true w limit l)) (either_cases (eqb w NONE) (ltb w limit) t)

-- one that is present is below it
pub present : {w limit : ℕ} → Optional w limit → (w ≡ NONE → ⊥) → w < limit
present (inl e) h = absurd (h e)
present (inr l) h = l

-- a list: inside the links, and each link below the limit
pub record ListIn (links : List ℕ) (first count limit : ℕ) : Type 0 where
  pub inside : first + count ≤ length links
  pub below : (k : ℕ) → k < count → get_or links (first + k) 0 < limit

pub list_in : (links : List ℕ) (first count limit : ℕ) → list_below links first count limit ≡ true → ListIn links first count limit
unfolding list_below link_below
list_in links first count limit t =
    let fits = leb (first + count) (length links) in
    let each = every (link_below links limit) first (first + count) in
    record {
      inside = leb-true (first + count) (length links) (both_left fits each t);
      below = λ k l. ltb-true (get_or links (first + k) 0) limit (every_at (link_below links limit) first (first + count) (both_right fits each t) (first + k) (omega arith) (omega arith));
    }

-- a list of pairs: inside the links, keys and values below their limits; keys of equal bytes stand at one place
pub record PairsIn (pool texts links : List ℕ) (first count known limit : ℕ) : Type 0 where
  pub inside : first + count * 2 ≤ length links
  pub key : (k : ℕ) → k < count → pair_key links first k < known
  pub value : (k : ℕ) → k < count → pair_value links first k < limit
  pub distinct : (i j : ℕ) → i < count → j < count → text_of pool texts (pair_key links first i) ≡ text_of pool texts (pair_key links first j) → i ≡ j

module _ (pool texts links : List ℕ) (first count : ℕ) where
  -- an earlier key differs
  earlier : keys_distinct pool texts links first count ≡ true → (i j : ℕ) → i < j → j < count → text_of pool texts (pair_key links first i) ≡ text_of pool texts (pair_key links first j) → ⊥
  unfolding keys_distinct key_is_new keys_differ
  earlier t i j l h e =
      let new = every_at (key_is_new pool texts links first) 0 count t j (omega arith) h in
      let differ = every_at (keys_differ pool texts links first j) 0 j new i (omega arith) l in
      clash (same_text_complete pool texts (pair_key links first i) (pair_key links first j) e)
      (not-true (same_text pool texts (pair_key links first i) (pair_key links first j)) differ)

  same_place : keys_distinct pool texts links first count ≡ true → (i j : ℕ) → i < count → j < count → text_of pool texts (pair_key links first i) ≡ text_of pool texts (pair_key links first j) → i ≡ j
  same_place t i j l h e =
      ⊎_elim
      (λ q. ⊎_elim (λ r. omega arith) (λ r. absurd (earlier t i j r h e)) (le_or_lt j i))
      (λ q. absurd (earlier t j i q l (sym e)))
      (le_or_lt i j)

  pub pairs_in : (known limit : ℕ) → pairs_ok pool texts links first count known limit ≡ true → PairsIn pool texts links first count known limit
  unfolding pairs_ok pairs_below pair_ok
  pairs_in known limit t =
      let there = pairs_below links first count known limit in
      let differ = keys_distinct pool texts links first count in
      let fits = leb (first + count * 2) (length links) in
      let each = every (pair_ok links first known limit) 0 count in
      let b = both_left there differ t in
      let at = every_at (pair_ok links first known limit) 0 count (both_right fits each b) in
      record {
        inside = leb-true (first + count * 2) (length links) (both_left fits each b);
        key = λ k l. ltb-true (pair_key links first k) known (both_left (ltb (pair_key links first k) known) (ltb (pair_value links first k) limit) (at k (omega arith) l));
        value = λ k l. ltb-true (pair_value links first k) limit (both_right (ltb (pair_key links first k) known) (ltb (pair_value links first k) limit) (at k (omega arith) l));
        distinct = same_place (both_right there differ t);
      }

-- a kind past the last is none of those before
far : {m kind : ℕ} → m < kind → (k : ℕ) → k ≤ m → eqb kind k ≡ false
far {m} {kind} l k h = ne_eqb kind k (λ e. omega arith)

-- a node: its kind, and what each kind's words are
pub record NodeFacts (T : Tables) (n : ℕ) : Type 0 where
  pub kind : node_kind T.nodes n ≤ 8
  pub boolean : node_kind T.nodes n ≡ 1 → node_a T.nodes n ≤ 1
  pub integer : node_kind T.nodes n ≡ 2 → node_a T.nodes n < length T.numbers
  pub real : node_kind T.nodes n ≡ 3 → Optional (node_a T.nodes n) (length T.numbers)
  pub parsed : node_kind T.nodes n ≡ 3 → Optional (node_b T.nodes n) (length T.numbers)
  pub string : node_kind T.nodes n ≡ 4 → node_a T.nodes n < text_count T.texts
  pub array : node_kind T.nodes n ≡ 5 → ListIn T.links (node_a T.nodes n) (node_b T.nodes n) n
  pub object : node_kind T.nodes n ≡ 6 → ListIn T.links (node_a T.nodes n) (node_b T.nodes n * 2) n

module _ (z : Counts) (links : List ℕ) (n kind a b c : ℕ) (t : node_rule z links n kind a b c ≡ true) where
  node_kind_lem : kind ≤ 8
  unfolding node_rule
  node_kind_lem =
      ⊎_elim (λ l. l)
      (λ l.
      let f = far l in
      clash t (simp (f 0 (omega arith), f 1 (omega arith), f 2 (omega arith), f 3 (omega arith), f 4 (omega arith), f 5 (omega arith), f 6 (omega arith), f 7 (omega arith), f 8 (omega arith))))
      (le_or_lt kind 8)

  node-boolean : kind ≡ 1 → a ≤ 1
  unfolding node_rule boolean_node_ok
  node-boolean e = leb-true a 1 (both_left (leb a 1) _ (rw e at t))

  -- integers and strings
  node_place : (count : ℕ) → place_node_ok count a b c ≡ true → a < count
  unfolding place_node_ok
  node_place count u = ltb-true a count (both_left (ltb a count) _ u)

  node_integer : kind ≡ 2 → a < z.numbers
  unfolding node_rule
  node_integer e = node_place z.numbers (rw e at t)

  node_string : kind ≡ 4 → a < z.texts
  unfolding node_rule
  node_string e = node_place z.texts (rw e at t)

  node_real : kind ≡ 3 → Optional a z.numbers
  unfolding node_rule real_node_ok
  node_real e = optional a z.numbers (both_left (optional_below a z.numbers) _ (rw e at t))

  node_parsed : kind ≡ 3 → Optional b z.numbers
  unfolding node_rule real_node_ok
  node_parsed e = optional b z.numbers (both_left (optional_below b z.numbers) _ (both_right (optional_below a z.numbers) _ (rw e at t)))

  node_list : (count : ℕ) → list_node_ok links n a count c ≡ true → ListIn links a count n
  unfolding list_node_ok
  node_list count u = list_in links a count n (both_left (list_below links a count n) _ u)

  node-array : kind ≡ 5 → ListIn links a b n
  unfolding node_rule
  node-array e = node_list b (rw e at t)

  node-object : kind ≡ 6 → ListIn links a (b * 2) n
  unfolding node_rule
  node-object e = node_list (b * 2) (rw e at t)

pub node-facts : (T : Tables) → WellFormed T → (n : ℕ) → n < node_count T.nodes → NodeFacts T n
unfolding node_ok counts_in
node-facts T w n h =
    let z = counts_of T in
    let k = node_kind T.nodes n in
    let a = node_a T.nodes n in
    let b = node_b T.nodes n in
    let c = node_c T.nodes n in
    let t = w.nodes n h in
    record {
      kind = node_kind_lem z T.links n k a b c t;
      boolean = node-boolean z T.links n k a b c t;
      integer = node_integer z T.links n k a b c t;
      real = node_real z T.links n k a b c t;
      parsed = node_parsed z T.links n k a b c t;
      string = node_string z T.links n k a b c t;
      array = node-array z T.links n k a b c t;
      object = node-object z T.links n k a b c t;
    }

-- an object's entry k: two earlier nodes
pub entry_below : {links : List ℕ} {first count limit : ℕ} → ListIn links first (count * 2) limit → (k : ℕ) → k < count → (pair_key links first k < limit) × (pair_value links first k < limit)
unfolding pair_key pair_value
entry_below {links} {first} {count} {limit} l k h =
    let key = l.below (k * 2) (omega arith) in
    let value = l.below (k * 2 + 1) (omega arith) in
    let e : first + (k * 2 + 1) ≡ first + k * 2 + 1 = omega arith in
    (key, rw e at value)

-- a registry entry names a text and a schema
pub entry-facts : (T : Tables) → WellFormed T → (i : ℕ) → i < entry_count T.registry → (entry_text T.registry i < text_count T.texts) × (entry_schema T.registry i < schema_count T.schemas)
unfolding entry_ok counts_in
entry-facts T w i h =
    let x = ltb (entry_text T.registry i) (text_count T.texts) in
    let y = ltb (entry_schema T.registry i) (schema_count T.schemas) in
    let t = w.registry i h in
    (ltb-true (entry_text T.registry i) (text_count T.texts) (both_left x y t), ltb-true (entry_schema T.registry i) (schema_count T.schemas) (both_right x y t))

-- a pattern answer: two texts, and 0, 1 or 2
pub pattern_facts : (T : Tables) → WellFormed T → (i : ℕ) → i < pattern_count T.patterns → (pattern_text T.patterns i < text_count T.texts) × (subject_text T.patterns i < text_count T.texts) × (pattern_answer T.patterns i ≤ 2)
unfolding pattern_ok counts_in
pattern_facts T w i h =
    let x = ltb (pattern_text T.patterns i) (text_count T.texts) in
    let y = ltb (subject_text T.patterns i) (text_count T.texts) in
    let v = leb (pattern_answer T.patterns i) 2 in
    let t = w.patterns i h in
    let u = both_right x (both y v) t in
    (ltb-true (pattern_text T.patterns i) (text_count T.texts) (both_left x (both y v) t), ltb-true (subject_text T.patterns i) (text_count T.texts) (both_left y v u), leb-true (pattern_answer T.patterns i) 2 (both_right y v u))

-- a note's last word is a flag, and 0 where there are no tags
pub note_flag : (T : Tables) → WellFormed T → (n : ℕ) → n < note_count T.notes → (note_tags T.notes n ≡ NONE → ⊥) → note_case_detection T.notes n ≤ 1
note_flag T w n h e = leb-true (note_case_detection T.notes n) 1 (sym (tagged T.notes n e) ∙ w.notes n h)

pub note_untagged : (T : Tables) → WellFormed T → (n : ℕ) → n < note_count T.notes → note_tags T.notes n ≡ NONE → note_case_detection T.notes n ≡ 0
note_untagged T w n h e = eqb-true (note_case_detection T.notes n) 0 (sym (untagged T.notes n e) ∙ w.notes n h)

-- number: five optional places of numbers
pub record NumberFacts (schemas : List ℕ) (s numbers : ℕ) : Type 0 where
  pub minimum : Optional (number_minimum schemas s) numbers
  pub maximum : Optional (number_maximum schemas s) numbers
  pub exclusive_minimum : Optional (number_exclusive_minimum schemas s) numbers
  pub exclusive_maximum : Optional (number_exclusive_maximum schemas s) numbers
  pub multiple : Optional (number_multiple schemas s) numbers

-- object: what it names is earlier, its keys differ, its texts are there
pub record ObjectFacts (pool texts links schemas : List ℕ) (s known : ℕ) : Type 0 where
  pub properties : PairsIn pool texts links (properties_first schemas s) (properties_count schemas s) known s
  pub patterns : PairsIn pool texts links (pattern_properties_first schemas s) (pattern_properties_count schemas s) known s
  pub additional : Optional (additional_properties schemas s) s
  pub required : ListIn links (required_first schemas s) (required_count schemas s) known
  pub closed : object_closed schemas s ≤ 1
  pub names : Optional (property_names schemas s) s
  pub no_bases : bases_first schemas s ≡ NONE → bases_count schemas s ≡ 0
  pub bases : (bases_first schemas s ≡ NONE → ⊥) → ListIn links (bases_first schemas s) (bases_count schemas s) s

-- the rules of a schema's kinds, each opened once
module _ (z : Counts) (pool texts links schemas : List ℕ) (s : ℕ) where
  number_in : number_ok z schemas s ≡ true → NumberFacts schemas s z.numbers
  unfolding number_ok
  number_in t =
      let at : ℕ → Bool = λ (w : ℕ). optional_below w z.numbers in
      let t2 = both_right (at (number_minimum schemas s)) _ t in
      let t3 = both_right (at (number_maximum schemas s)) _ t2 in
      let t4 = both_right (at (number_exclusive_minimum schemas s)) _ t3 in
      let t5 = both_right (at (number_exclusive_maximum schemas s)) _ t4 in
      record {
        minimum = optional (number_minimum schemas s) z.numbers (both_left (at (number_minimum schemas s)) _ t);
        maximum = optional (number_maximum schemas s) z.numbers (both_left (at (number_maximum schemas s)) _ t2);
        exclusive_minimum = optional (number_exclusive_minimum schemas s) z.numbers (both_left (at (number_exclusive_minimum schemas s)) _ t3);
        exclusive_maximum = optional (number_exclusive_maximum schemas s) z.numbers (both_left (at (number_exclusive_maximum schemas s)) _ t4);
        multiple = optional (number_multiple schemas s) z.numbers (both_left (at (number_multiple schemas s)) _ t5);
      }

  object_in_lem : object_ok z pool texts links schemas s ≡ true → ObjectFacts pool texts links schemas s z.texts
  unfolding object_ok object_pairs_ok object_words_ok
  object_in_lem t =
      let lists = both_left (object_pairs_ok z pool texts links schemas s) (object_words_ok z links schemas s) t in
      let words = both_right (object_pairs_ok z pool texts links schemas s) (object_words_ok z links schemas s) t in
      let p = pairs_ok pool texts links (properties_first schemas s) (properties_count schemas s) z.texts s in
      let w2 = both_right (optional_below (additional_properties schemas s) s) _ words in
      let w3 = both_right (list_below links (required_first schemas s) (required_count schemas s) z.texts) _ w2 in
      let w4 = both_right (leb (object_closed schemas s) 1) _ w3 in
      let w5 = both_right (optional_below (property_names schemas s) s) _ w4 in
      record {
        properties = pairs_in pool texts links (properties_first schemas s) (properties_count schemas s) z.texts s (both_left p _ lists);
        patterns = pairs_in pool texts links (pattern_properties_first schemas s) (pattern_properties_count schemas s) z.texts s (both_right p _ lists);
        additional = optional (additional_properties schemas s) s (both_left (optional_below (additional_properties schemas s) s) _ words);
        required = list_in links (required_first schemas s) (required_count schemas s) z.texts (both_left (list_below links (required_first schemas s) (required_count schemas s) z.texts) _ w2);
        closed = leb-true (object_closed schemas s) 1 (both_left (leb (object_closed schemas s) 1) _ w3);
        names = optional (property_names schemas s) s (both_left (optional_below (property_names schemas s) s) _ w4);
        no_bases = λ e. eqb-true (bases_count schemas s) 0 (sym (bases_absent schemas s links e) ∙ w5);
        bases = λ e. list_in links (bases_first schemas s) (bases_count schemas s) s (sym (bases_listed schemas s links e) ∙ w5);
      }

  -- enum, anyOf and allOf
  list_of : (limit : ℕ) → list_ok links schemas s limit ≡ true → ListIn links (list_first schemas s) (list_count schemas s) limit
  unfolding list_ok
  list_of limit t = list_in links (list_first schemas s) (list_count schemas s) limit (both_left (list_below links (list_first schemas s) (list_count schemas s) limit) _ t)

  module _ (kind : ℕ) (t : schema_rule z pool texts links schemas s kind ≡ true) where
    schema_kind_lem : kind ≤ 11
    unfolding schema_rule
    schema_kind_lem =
        ⊎_elim (λ l. l)
        (λ l.
        let f = far l in
        clash t (simp (f 0 (omega arith), f 1 (omega arith), f 2 (omega arith), f 3 (omega arith), f 4 (omega arith), f 5 (omega arith), f 6 (omega arith), f 7 (omega arith), f 8 (omega arith), f 9 (omega arith), f 10 (omega arith), f 11 (omega arith))))
        (le_or_lt kind 11)

    schema-number : kind ≡ 2 → NumberFacts schemas s z.numbers
    unfolding schema_rule
    schema-number e = number_in (rw e at t)

    schema_pattern : kind ≡ 3 → Optional (string_pattern schemas s) z.texts
    unfolding schema_rule string_ok
    schema_pattern e = optional (string_pattern schemas s) z.texts (both_left (optional_below (string_pattern schemas s) z.texts) _ (rw e at t))

    schema_enum : kind ≡ 5 → ListIn links (list_first schemas s) (list_count schemas s) z.nodes
    unfolding schema_rule
    schema_enum e = list_of z.nodes (rw e at t)

    schema_any_of : kind ≡ 7 → ListIn links (list_first schemas s) (list_count schemas s) s
    unfolding schema_rule
    schema_any_of e = list_of s (rw e at t)

    schema_all_of : kind ≡ 8 → ListIn links (list_first schemas s) (list_count schemas s) s
    unfolding schema_rule
    schema_all_of e = list_of s (rw e at t)

    schema-items : kind ≡ 9 → Optional (array_items schemas s) s
    unfolding schema_rule array_ok
    schema-items e = optional (array_items schemas s) s (both_left (optional_below (array_items schemas s) s) _ (rw e at t))

    schema_unique : kind ≡ 9 → (array_unique schemas s ≡ NONE) ⊎ (array_unique schemas s ≤ 1)
    unfolding schema_rule array_ok
    schema_unique e =
        let u = both_right (optional_below (array_items schemas s) s) _ (rw e at t) in
        let none = eqb (array_unique schemas s) NONE in
        let flag = leb (array_unique schemas s) 1 in
        ⊎_elim (λ l. inl (eqb-true (array_unique schemas s) NONE l)) (λ l. inr (leb-true (array_unique schemas s) 1 l))
        (either_cases none flag (both_left (either none flag) _ u))

    schema-object : kind ≡ 10 → ObjectFacts pool texts links schemas s z.texts
    unfolding schema_rule
    schema-object e = object_in_lem (rw e at t)

    schema-ref : kind ≡ 11 → (ref_text schemas s < z.texts) × (ref_eager schemas s ≤ 1)
    unfolding schema_rule ref_ok
    schema-ref e =
        let named = ltb (ref_text schemas s) z.texts in
        let u = both_right named _ (rw e at t) in
        (ltb-true (ref_text schemas s) z.texts (both_left named _ (rw e at t)), leb-true (ref_eager schemas s) 1 (both_left (leb (ref_eager schemas s) 1) _ u))

-- a schema: its kind, its note, and what each kind's words are
pub record SchemaFacts (T : Tables) (s : ℕ) : Type 0 where
  pub kind : schema_kind T.schemas s ≤ 11
  pub note : Optional (schema_note T.schemas s) (note_count T.notes)
  pub number : schema_kind T.schemas s ≡ 2 → NumberFacts T.schemas s (length T.numbers)
  pub pattern : schema_kind T.schemas s ≡ 3 → Optional (string_pattern T.schemas s) (text_count T.texts)
  pub enum : schema_kind T.schemas s ≡ 5 → ListIn T.links (list_first T.schemas s) (list_count T.schemas s) (node_count T.nodes)
  pub any_of : schema_kind T.schemas s ≡ 7 → ListIn T.links (list_first T.schemas s) (list_count T.schemas s) s
  pub all_of : schema_kind T.schemas s ≡ 8 → ListIn T.links (list_first T.schemas s) (list_count T.schemas s) s
  pub items : schema_kind T.schemas s ≡ 9 → Optional (array_items T.schemas s) s
  pub unique : schema_kind T.schemas s ≡ 9 → (array_unique T.schemas s ≡ NONE) ⊎ (array_unique T.schemas s ≤ 1)
  pub object : schema_kind T.schemas s ≡ 10 → ObjectFacts T.pool T.texts T.links T.schemas s (text_count T.texts)
  pub ref : schema_kind T.schemas s ≡ 11 → (ref_text T.schemas s < text_count T.texts) × (ref_eager T.schemas s ≤ 1)

pub schema-facts : (T : Tables) → WellFormed T → (s : ℕ) → s < schema_count T.schemas → SchemaFacts T s
unfolding schema_ok schema_note_ok counts_in
schema-facts T w s h =
    let z = counts_of T in
    let k = schema_kind T.schemas s in
    let note = schema_note_ok z T.schemas s in
    let rule = schema_rule z T.pool T.texts T.links T.schemas s k in
    let t = both_right note rule (w.schemas s h) in
    record {
      kind = schema_kind_lem z T.pool T.texts T.links T.schemas s k t;
      note = optional (schema_note T.schemas s) (note_count T.notes) (both_left note rule (w.schemas s h));
      number = schema-number z T.pool T.texts T.links T.schemas s k t;
      pattern = schema_pattern z T.pool T.texts T.links T.schemas s k t;
      enum = schema_enum z T.pool T.texts T.links T.schemas s k t;
      any_of = schema_any_of z T.pool T.texts T.links T.schemas s k t;
      all_of = schema_all_of z T.pool T.texts T.links T.schemas s k t;
      items = schema-items z T.pool T.texts T.links T.schemas s k t;
      unique = schema_unique z T.pool T.texts T.links T.schemas s k t;
      object = schema-object z T.pool T.texts T.links T.schemas s k t;
      ref = schema-ref z T.pool T.texts T.links T.schemas s k t;
    }
