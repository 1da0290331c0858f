-- Tables that pass the check are in range: every record's lists lie inside the links, and name earlier records. Assumes nothing.
use Prim.Native.Nat.{ℕ, zero, suc, ◌+◌, ◌*◌, ◌/◌, ◌%◌, ◌≤◌, ◌<◌}
use mathlib.Core.Path.{◌≡◌, refl, sym, subst, ◌∙◌}
use mathlib.Core.Bool.{Bool, true, false}
use mathlib.Core.List.{List, [], ◌∷◌, ◌++◌}
use mathlib.Core.Logic.{⊎_elim}
use mathlib.Core.Option.{some, none}
use native.Mathlib.Omega.{arith}
use lib.ListN.{length, get_or, get_or-append}
use lib.Dec.{eqb, leb, ltb}
use borrow.Author.Tests.{eqb-true, eqb-false, ne_eqb}
use Rattle.text.specs.Choice.{pick, both, either, both_left, both_right, le_or_lt}
use Rattle.text.specs.Text.{text_count}
use Rattle.layout.specs.Layout.{Tables, NONE, node_word, node_kind, node_a, node_count, entry_count, entry_schema, note_count, schema_count, schema_word, schema_kind, schema_note, number_minimum, number_maximum, number_exclusive_minimum, number_exclusive_maximum, number_multiple, string_pattern, array_unique, ref_text, ref_eager, list_first, list_count, array_items, properties_first, properties_count, pattern_properties_first, pattern_properties_count, additional_properties, property_names, bases_first, bases_count, pair_value}
use Rattle.lookup.specs.Find.{Found, last_below, found_at, to_option}
use Rattle.std.specs.Prelude.{Some}
use Rattle.lookup.specs.Lookup.{entry_is_named, resolve_of, find_in}
use Rattle.text.proofs.Parts.{past_end}
use Rattle.grouping.specs.Values.{SameValues}
use Rattle.records.specs.declared.Counts.{Counts}
use Rattle.records.specs.Records.{counts_of}
use Rattle.rules.specs.Schemas.{unused_at, unused_from, true_ok, number_ok, string_ok, list_ok, array_ok, object_ok, ref_ok, schema_note_ok, schema_rule, schema_ok}
use Rattle.lists.specs.Lists.{optional_below, list_below}
use Rattle.lists.proofs.Walked.{every_at}
use Rattle.tables.specs.Found.{Sound}
use Rattle.tables.specs.Check.{whole_size, sizes_fault, records_fault, lent_fault, tables_fault}
use Rattle.tables.specs.Facts.{WellFormed}
use Rattle.tables.proofs.Faults.{first_sound, size_good, size_rest}
use Rattle.tables.proofs.Facts.{well_formed, Optional, present as below-limit, ObjectFacts, SchemaFacts, schema-facts, node-facts, entry-facts}
use Rattle.schema.specs.Shape.{nameless, named, plain, any_of, all_of, array, object, ref}
use Rattle.schema.specs.Look as words
use Rattle.schema.specs.Look.{words_of, slice, pairs_from, own_words, optional, raw, bases}
use Rattle.grouping.specs.Record.{row_at}
use Rattle.grouping.specs.Tree.{Every, nil, one, EveryPair, nil_pair, one_pair, Perhaps, absent, present, PerhapsEvery, absents, presents, NamesIn, in_none, in_named, ObjectIn, Children, in_plain, in_any, in_all, in_array, in_object, in_ref}
use Rattle.grouping.proofs.Growing.{Sound as Steady}
use Rattle.grouping.proofs.Checked.{RowIn, sound}

-- sizes are whole numbers of records
whole_rows : (words width most : ℕ) → whole_size words width most ≡ true → words % width ≡ 0
unfolding whole_size
whole_rows words width most t = eqb-true (words % width) 0 (both_left (eqb (words % width) 0) (leb (words / width) most) t)

record Whole (T : Tables) : Type 0 where
  nodes : length T.nodes % 4 ≡ 0
  notes : length T.notes % 9 ≡ 0
  schemas : length T.schemas % 16 ≡ 0

whole_sizes : (T : Tables) → tables_fault T ≡ Sound → Whole T
unfolding tables_fault lent_fault sizes_fault
whole_sizes T h =
    let r0 = first_sound (lent_fault T) (records_fault T) h in
    let r1 = size_rest _ _ _ r0 in
    let r2 = size_rest _ _ _ r1 in
    let r3 = size_rest _ _ _ r2 in
    record { nodes = whole_rows _ _ _ (size_good _ _ _ r1); notes = whole_rows _ _ _ (size_good _ _ _ r2); schemas = whole_rows _ _ _ (size_good _ _ _ r3) }

-- words 14 and 15 of what is no object are 0
module _ (schemas : List ℕ) (s : ℕ) where
  unused : (k i : ℕ) → unused_from schemas s k ≡ true → k ≤ i → i < 16 → schema_word schemas s i ≡ 0
  unfolding unused_from unused_at
  unused k i h a b = eqb-true (schema_word schemas s i) 0 (every_at (unused_at schemas s) k 16 h i a b)

  record NoBases : Type 0 where
    first : schema_word schemas s 14 ≡ 0
    many : schema_word schemas s 15 ≡ 0

  from : (k : ℕ) → k ≤ 14 → unused_from schemas s k ≡ true → NoBases
  from k le h = record { first = unused k 14 h le (omega arith); many = unused k 15 h (omega arith) (omega arith) }

  false_not : {A : Type 0} → false ≡ true → A
  false_not h = absurd (let q : ◌≡◌ {A = ℕ} 0 1 = cc in omega arith)

  module _ (z : Counts) (links : List ℕ) where
    true_rest : true_ok schemas s ≡ true → NoBases
    unfolding true_ok
    true_rest h = from 2 (omega arith) (both_right (eqb (schema_note schemas s) NONE) (unused_from schemas s 2) h)

    number_rest : number_ok z schemas s ≡ true → NoBases
    unfolding number_ok
    number_rest h =
        from 7 (omega arith)
        (last (optional_below (number_minimum schemas s) z.numbers) (optional_below (number_maximum schemas s) z.numbers) (optional_below (number_exclusive_minimum schemas s) z.numbers)
        (optional_below (number_exclusive_maximum schemas s) z.numbers) (optional_below (number_multiple schemas s) z.numbers) (unused_from schemas s 7) h)
      where
        last : (a b c d e f : Bool) → both a (both b (both c (both d (both e f)))) ≡ true → f ≡ true
        last a b c d e f h = both_right e f (both_right d (both e f) (both_right c (both d (both e f)) (both_right b (both c (both d (both e f))) (both_right a (both b (both c (both d (both e f)))) h))))

    string_rest : string_ok z schemas s ≡ true → NoBases
    unfolding string_ok
    string_rest h = from 5 (omega arith) (both_right (optional_below (string_pattern schemas s) z.texts) (unused_from schemas s 5) h)

    list_rest : (limit : ℕ) → list_ok links schemas s limit ≡ true → NoBases
    unfolding list_ok
    list_rest limit h = from 4 (omega arith) (both_right (list_below links (list_first schemas s) (list_count schemas s) limit) (unused_from schemas s 4) h)

    last3 : (a b c : Bool) → both a (both b c) ≡ true → c ≡ true
    last3 a b c h = both_right b c (both_right a (both b c) h)

    array_rest : array_ok schemas s ≡ true → NoBases
    unfolding array_ok
    array_rest h = from 6 (omega arith) (last3 (optional_below (array_items schemas s) s) (either (eqb (array_unique schemas s) NONE) (leb (array_unique schemas s) 1)) (unused_from schemas s 6) h)

    ref_rest : ref_ok z schemas s ≡ true → NoBases
    unfolding ref_ok
    ref_rest h = from 4 (omega arith) (last3 (ltb (ref_text schemas s) z.texts) (leb (ref_eager schemas s) 1) (unused_from schemas s 4) h)

  by_kind : (z : Counts) (pool texts links : List ℕ) (kind : ℕ) → (kind ≡ 10 → ⊥) → schema_rule z pool texts links schemas s kind ≡ true → NoBases
  unfolding schema_rule
  by_kind z pool texts links kind other =
      cases (eqb kind 0) (eqb kind 1) (eqb kind 2) (eqb kind 3) (eqb kind 4) (eqb kind 5) (eqb kind 6) (eqb kind 7) (eqb kind 8) (eqb kind 9) (eqb kind 11) (eqb kind 10) (ne_eqb kind 10 other)
    where
      cases : (a b c d e f g i j k l m : Bool) → m ≡ false →
          pick a (true_ok schemas s)
          (pick b (unused_from schemas s 2)
          (pick c (number_ok z schemas s)
          (pick d (string_ok z schemas s)
          (pick e (unused_from schemas s 2)
          (pick f (list_ok links schemas s z.nodes)
          (pick g (unused_from schemas s 2)
          (pick i (list_ok links schemas s s)
          (pick j (list_ok links schemas s s)
          (pick k (array_ok schemas s)
          (pick m (object_ok z pool texts links schemas s)
          (pick l (ref_ok z schemas s)
          false))))))))))) ≡ true → NoBases
      cases true b c d e f g i j k l m q h = true_rest z links h
      cases false true c d e f g i j k l m q h = from 2 (omega arith) h
      cases false false true d e f g i j k l m q h = number_rest z links h
      cases false false false true e f g i j k l m q h = string_rest z links h
      cases false false false false true f g i j k l m q h = from 2 (omega arith) h
      cases false false false false false true g i j k l m q h = list_rest z links z.nodes h
      cases false false false false false false true i j k l m q h = from 2 (omega arith) h
      cases false false false false false false false true j k l m q h = list_rest z links s h
      cases false false false false false false false false true k l m q h = list_rest z links s h
      cases false false false false false false false false false true l m q h = array_rest z links h
      cases false false false false false false false false false false true false q h = ref_rest z links h
      cases false false false false false false false false false false false false q h = false_not h
      cases false false false false false false false false false false l true q h = false_not (sym q)

-- lists and pairs that lie below a limit
pub list_every : (links : List ℕ) (at n limit : ℕ) → ((k : ℕ) → k < n → get_or links (at + k) 0 < limit) → Every (λ x. x < limit) (slice links at n)
unfolding slice
list_every links at zero limit h = nil
list_every links at (suc n) limit h =
    let here : get_or links (at + 0) 0 < limit = h 0 (omega arith) in
    let place : at + 0 ≡ at = omega arith in
    one (subst (λ (i : ℕ). get_or links i 0 < limit) place here)
    (list_every links (at + 1) n limit (λ k i. let next : at + suc k ≡ at + 1 + k = omega arith in subst (λ (j : ℕ). get_or links j 0 < limit) next (h (suc k) (omega arith))))

pub pairs-every : (links : List ℕ) (first k n limit : ℕ) → ((j : ℕ) → k ≤ j → j < k + n → pair_value links first j < limit) → EveryPair (λ x. x < limit) (pairs_from links first k n)
unfolding pairs_from
pairs-every links first k zero limit h = nil_pair
pairs-every links first k (suc n) limit h = one_pair (h k (omega arith) (omega arith)) (pairs-every links first (k + 1) n limit (λ j a b. h j (omega arith) (omega arith)))

pub word_every : {s : ℕ} (w : ℕ) → Optional w s → PerhapsEvery (λ x. x < s) (pick (eqb w NONE) none (some (w ∷ [])))
word_every {s} w h = at (eqb w NONE) refl
  where
    at : (b : Bool) → eqb w NONE ≡ b → PerhapsEvery (λ x. x < s) (pick b none (some (w ∷ [])))
    at true e = absents
    at false e = presents (one (below-limit h (λ q. eqb-false w NONE e q)) nil)

pub word_names : {s : ℕ} (w : ℕ) → Optional w s → NamesIn (λ x. x < s) (pick (eqb w NONE) nameless (named (w ∷ [])))
word_names {s} w h = at (eqb w NONE) refl
  where
    at : (b : Bool) → eqb w NONE ≡ b → NamesIn (λ x. x < s) (pick b nameless (named (w ∷ [])))
    at true e = in_none
    at false e = in_named (one (below-limit h (λ q. eqb-false w NONE e q)) nil)

word_perhaps : {s : ℕ} (w : ℕ) → Optional w s → Perhaps (λ x. x < s) (optional w)
word_perhaps {s} w h = at (eqb w NONE) refl
  where
    at : (b : Bool) → eqb w NONE ≡ b → Perhaps (λ x. x < s) (pick b none (some w))
    at true e = absent
    at false e = present (below-limit h (λ q. eqb-false w NONE e q))

module _ (T : Tables) (sound_tables : tables_fault T ≡ Sound) where
  formed : WellFormed T
  formed = well_formed T sound_tables

  facts : (s : ℕ) → s < schema_count T.schemas → SchemaFacts T s
  facts s i = schema-facts T formed s i

  children : (s : ℕ) → s < schema_count T.schemas → Children (λ x. x < s) (raw (words_of T) s)
  unfolding raw
  children s i =
      at (leb (schema_kind T.schemas s) 6) (eqb (schema_kind T.schemas s) 7) (eqb (schema_kind T.schemas s) 8) (eqb (schema_kind T.schemas s) 9) (eqb (schema_kind T.schemas s) 10) refl refl refl refl
    where
      f : SchemaFacts T s
      f = facts s i

      list : {b : Bool} (k : ℕ) → eqb (schema_kind T.schemas s) k ≡ b → b ≡ true → schema_kind T.schemas s ≡ k
      list k e h = eqb-true (schema_kind T.schemas s) k (e ∙ h)

      objects : ObjectFacts T.pool T.texts T.links T.schemas s (text_count T.texts) → ObjectIn (λ x. x < s) (words.object_of (words_of T) s)
      objects g = unfold words.object_of in record {
        props = pairs-every T.links (properties_first T.schemas s) 0 (properties_count T.schemas s) s (λ j a b. g.properties.value j (omega arith));
        patterns = pairs-every T.links (pattern_properties_first T.schemas s) 0 (pattern_properties_count T.schemas s) s (λ j a b. g.patterns.value j (omega arith));
        additional = word_every (additional_properties T.schemas s) g.additional;
        names = word_names (property_names T.schemas s) g.names;
      }

      at : (a b c d e : Bool) → eqb (schema_kind T.schemas s) 7 ≡ b → eqb (schema_kind T.schemas s) 8 ≡ c → eqb (schema_kind T.schemas s) 9 ≡ d → eqb (schema_kind T.schemas s) 10 ≡ e →
          Children (λ x. x < s)
          (pick a (plain (words.own_of (words_of T) s))
          (pick b (any_of (words.note_of_schema (words_of T) s) (words.list_of (words_of T) s))
          (pick c (all_of (words.note_of_schema (words_of T) s) (words.list_of (words_of T) s))
          (pick d (array (words.array_of (words_of T) s) (optional (array_items T.schemas s)))
          (pick e (object (words.object_of (words_of T) s))
          (ref (words.note_of_schema (words_of T) s) (schema_word T.schemas s 2) (eqb (schema_word T.schemas s 3) 1)))))))
      at true b c d e p q r t = in_plain
      at false true c d e p q r t = in_any (list_every T.links _ _ s (f.any_of (list 7 p refl)).below)
      at false false true d e p q r t = in_all (list_every T.links _ _ s (f.all_of (list 8 q refl)).below)
      at false false false true e p q r t = in_array (word_perhaps (array_items T.schemas s) (f.items (list 9 r refl)))
      at false false false false true p q r t = in_object (objects (f.object (list 10 t refl)))
      at false false false false false p q r t = in_ref

  no_bases : (s : ℕ) → s < schema_count T.schemas → (schema_kind T.schemas s ≡ 10 → ⊥) → NoBases T.schemas s
  unfolding schema_ok
  no_bases s i other =
      by_kind T.schemas s (counts_of T) T.pool T.texts T.links (schema_kind T.schemas s) other
      (both_right (schema_note_ok (counts_of T) T.schemas s) (schema_rule (counts_of T) T.pool T.texts T.links T.schemas s (schema_kind T.schemas s)) (formed.schemas s i))

  -- the bases of any record, in range and below it
  record BasesIn (s : ℕ) : Type 0 where
    inside : (bases_first T.schemas s ≡ NONE → ⊥) → bases_first T.schemas s + bases_count T.schemas s ≤ length T.links
    below : (bases_first T.schemas s ≡ NONE → ⊥) → (k : ℕ) → k < bases_count T.schemas s → get_or T.links (bases_first T.schemas s + k) 0 < s

  bases_in : (s : ℕ) → s < schema_count T.schemas → BasesIn s
  bases_in s i = at (eqb (schema_kind T.schemas s) 10) refl
    where
      at : (b : Bool) → eqb (schema_kind T.schemas s) 10 ≡ b → BasesIn s
      at true e =
          let g = (facts s i).object (eqb-true (schema_kind T.schemas s) 10 e) in
          record { inside = λ h. (g.bases h).inside; below = λ h. (g.bases h).below }
      at false e =
          let g : NoBases T.schemas s = no_bases s i (λ q. eqb-false (schema_kind T.schemas s) 10 e q) in
          record { inside = λ h. omega (arith, g.first, g.many); below = λ h k l. absurd (omega (arith, g.many)) }

  bases_every : (s : ℕ) → s < schema_count T.schemas → PerhapsEvery (λ x. x < s) (bases (words_of T) s)
  unfolding bases
  bases_every s i = at (eqb (bases_first T.schemas s) NONE) refl
    where
      at : (b : Bool) → eqb (bases_first T.schemas s) NONE ≡ b → PerhapsEvery (λ x. x < s) (pick b none (some (slice T.links (bases_first T.schemas s) (bases_count T.schemas s))))
      at true e = absents
      at false e = presents (list_every T.links _ _ s ((bases_in s i).below (λ q. eqb-false (bases_first T.schemas s) NONE e q)))

  row_in : (s : ℕ) → s < schema_count T.schemas → RowIn (words_of T) (row_at (words_of T) s)
  unfolding row_at own_words
  row_in s i =
      let f : SchemaFacts T s = facts s i in
      let w : Whole T = whole_sizes T sound_tables in
      let b : BasesIn s = bases_in s i in
      record {
        note = λ h. note_in_lem (schema_note T.schemas s) (below-limit f.note h);
        enum = λ e. (f.enum e).inside;
        any = λ e. (f.any_of e).inside;
        all = λ e. (f.all_of e).inside;
        props = λ e. twice (properties_first T.schemas s) (properties_count T.schemas s) (length T.links) (f.object e).properties.inside;
        patterns = λ e. twice (pattern_properties_first T.schemas s) (pattern_properties_count T.schemas s) (length T.links) (f.object e).patterns.inside;
        required = λ e. (f.object e).required.inside;
        bases = λ h. b.inside h;
      }
    where
      note_in_lem : (n : ℕ) → n < note_count T.notes → n * 9 + 9 ≤ length T.notes
      note_in_lem n h = unfold note_count in omega (arith, h)

      twice : (a b c : ℕ) → a + b * 2 ≤ c → a + 2 * b ≤ c
      twice a b c h = omega arith

  -- tables that pass the check read the same whatever is appended
  pub checked : Steady (words_of T)
  checked = sound (record {
    placed = record {
      rows = unfold schema_count in omega (arith, (whole_sizes T sound_tables).schemas);
      note-rows = omega (arith, (whole_sizes T sound_tables).notes);
      few = omega (arith, formed.sized.schemas);
      few-notes = unfold note_count in omega (arith, formed.sized.notes);
      below = children;
      bases_below = bases_every;
    };
    row = row_in;
  })

  named_or : (b : Bool) (i : ℕ) (x : Found) → entry_schema T.registry i < schema_count T.schemas → Perhaps (λ y. y < schema_count T.schemas) (to_option (found_at (entry_schema T.registry) x)) →
      Perhaps (λ y. y < schema_count T.schemas) (to_option (found_at (entry_schema T.registry) (pick b (Some i) x)))
  named_or true i x h r = present h
  named_or false i x h r = r

  last_known : (f : ℕ → Bool) (n : ℕ) → ((i : ℕ) → i < n → entry_schema T.registry i < schema_count T.schemas) →
      Perhaps (λ y. y < schema_count T.schemas) (to_option (found_at (entry_schema T.registry) (last_below f n)))
  unfolding last_below
  last_known f zero h = absent
  last_known f (suc n) h = named_or (f n) n (last_below f n) (h n (omega arith)) (last_known f n (λ i l. h i (omega arith)))

  -- a registry names schemas that there are
  pub names_known : (text : ℕ) → Perhaps (λ x. x < schema_count T.schemas) (find_in T text)
  unfolding find_in resolve_of
  names_known text = last_known (entry_is_named T.pool T.texts T.registry text) (entry_count T.registry) (λ i h. (entry-facts T formed i h).1)

  -- a node with a list is there
  listed-node : (n : ℕ) → (node_kind T.nodes n ≡ 0 → ⊥) → n < node_count T.nodes
  unfolding node_word node_count
  listed-node n h =
      ⊎_elim (λ l. absurd (h (past_end T.nodes (n * 4 + 0) (omega (arith, (whole_sizes T sound_tables).nodes)))))
      (λ l. l) (le_or_lt (length T.nodes / 4) n)

  -- what is appended to the links changes no value
  pub values_kept : (extra : List ℕ) → SameValues T.nodes T.links (T.links ++ extra)
  values_kept extra = record {
    items = λ n k e i. sym (get_or-append T.links extra 0 (node_a T.nodes n + k) (omega (arith, ((node-facts T formed n (listed-node n (λ z. omega arith))).array e).inside)));
    entries = λ n k e i. sym (get_or-append T.links extra 0 (node_a T.nodes n + k) (omega (arith, ((node-facts T formed n (listed-node n (λ z. omega arith))).object e).inside)));
  }
