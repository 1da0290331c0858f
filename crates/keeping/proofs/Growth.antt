-- Tables that pass the check still pass it when words are appended to tables 3, 4 and 7, where the new records are good and the sizes are
-- within the limits. Assumes nothing.
use Prim.Native.Nat.{ℕ, suc, ◌+◌, ◌*◌, ◌/◌, ◌%◌, ◌<◌, ◌≤◌}
use mathlib.Core.Path.{◌≡◌, refl, sym, ap, subst, ◌∙◌}
use mathlib.Core.Bool.{true, false}
use mathlib.Core.List.{List, ◌++◌}
use mathlib.Core.Logic.{⊎_elim}
use native.Mathlib.Omega.{arith}
use lib.ListN.{length, get_or, length-append}
use lib.Seq.{get_or-append-add}
use lib.Dec.{ltb}
use borrow.Author.Tests.{eq-eqb, lt-ltb, le-ltb, le-leb}
use Rattle.text.specs.Choice.{both-holds, le_or_lt}
use Rattle.layout.specs.Layout.{Tables, most_notes, most_schemas, most_links, node_kind, node_a, node_b, node_c, note_word, schema_word, entry_text, entry_schema, note_count, schema_count, entry_count}
use Rattle.records.specs.declared.Counts.{Counts}
use Rattle.records.specs.Records.{counts_in, counts_of, note_ok, node_ok, entry_ok, pattern_ok}
use Rattle.rules.specs.Schemas.{schema_ok}
use Rattle.tables.specs.Found.{Sound}
use Rattle.tables.specs.Check.{whole_size, sizes_fault, record_count, record_ok, first_bad, records_from, records_fault, lent_fault, tables_fault}
use Rattle.tables.specs.Facts.{WellFormed}
use Rattle.tables.proofs.Faults.{first_sound, size_more}
use Rattle.tables.proofs.Facts.{well_formed, entry-facts}
use Rattle.schema.specs.Look.{Words}
use Rattle.compilation.specs.Compile.{with_notes, with_row, with_links}
use Rattle.compilation.proofs.Grows.{Begins, begins_itself, begins_more}
use Rattle.grouping.specs.Values.{grown}
use Rattle.grouping.specs.Record.{count}
use Rattle.grouping.proofs.Growing.{Sound as Steady}
use Rattle.grouping.proofs.WellFormed.{checked}
use Rattle.keeping.proofs.Rules.{first_made, node_longer, schema-kept}

-- good sizes and good records pass
module _ (X : Tables) where
  none_bad : (z : Counts) (table : ℕ) → ((i : ℕ) → i < record_count X table → record_ok z X table i ≡ true) → ltb (first_bad z X table) (record_count X table) ≡ false
  unfolding first_bad
  none_bad z table h = rw (first_made (record_ok z X table) (record_count X table) h) (le-ltb (record_count X table) (record_count X table) (omega arith))

  pub passes : lent_fault X ≡ Sound → WellFormed X → tables_fault X ≡ Sound
  unfolding tables_fault records_fault records_from record_ok record_count
  passes h w =
      let z = counts_of X in
      rw (h, none_bad z 1 w.texts, none_bad z 2 w.nodes, none_bad z 3 w.notes, none_bad z 4 w.schemas, none_bad z 5 w.registry, none_bad z 6 w.patterns)

whole_made : (words width most : ℕ) → words % width ≡ 0 → words / width ≤ most → whole_size words width most ≡ true
unfolding whole_size
whole_made words width most e l = both-holds (eq-eqb (words % width) 0 e) (le-leb (words / width) most l)

pub record Fits (t : Words) : Type 0 where
  pub note-rows : length t.notes % 9 ≡ 0
  pub notes : length t.notes / 9 ≤ 1024
  pub rows : length t.schemas % 16 ≡ 0
  pub schemas : length t.schemas / 16 ≤ 4096
  pub links : length t.links ≤ 16384

pub record Longer (t u : Words) : Type 0 where
  pub notes : Begins t.notes u.notes
  pub schemas : Begins t.schemas u.schemas
  pub links : Begins t.links u.links

begins_after : {a b c : List ℕ} → Begins a b → Begins b c → Begins a c
begins_after p q = record { long = omega (arith, p.long, q.long); same = λ i h. q.same i (omega (arith, p.long)) ∙ p.same i h }

pub longer_itself : (t : Words) → Longer t t
longer_itself t = record { notes = begins_itself t.notes; schemas = begins_itself t.schemas; links = begins_itself t.links }

pub longer_more : {t u w : Words} → Longer t u → Longer u w → Longer t w
longer_more p q = record { notes = begins_after p.notes q.notes; schemas = begins_after p.schemas q.schemas; links = begins_after p.links q.links }

pub longer_count : {t u : Words} → Longer t u → count t ≤ count u
unfolding schema_count
longer_count e = omega (arith, e.schemas.long)

module _ (T : Tables) where
  pub record Good (t : Words) : Type 0 where
    pub sound : tables_fault (grown T t) ≡ Sound

  pub formed : {t : Words} → Good t → WellFormed (grown T t)
  formed {t} g = well_formed (grown T t) g.sound

  pub steady : {t : Words} → Good t → Steady t
  steady {t} g = checked (grown T t) g.sound

  pub fits : {t : Words} → Good t → Fits t
  unfolding note_count schema_count
  fits {t} g = record {
    note-rows = omega (arith, (steady g).placed.note-rows);
    notes = (formed g).sized.notes;
    rows = omega (arith, (steady g).placed.rows);
    schemas = (formed g).sized.schemas;
    links = (formed g).sized.links;
  }

  -- a word of an old record
  pub word_kept : {t u : Words} → Good t → Longer t u → (s k : ℕ) → s < count t → k < 16 → schema_word u.schemas s k ≡ schema_word t.schemas s k
  unfolding schema_word
  word_kept g e s k l m = e.schemas.same (s * 16 + k) (omega (arith, (steady g).placed.rows))

  note-kept : {t u : Words} → Good t → Longer t u → (n k : ℕ) → n < note_count t.notes → k < 9 → note_word u.notes n k ≡ note_word t.notes n k
  unfolding note_word note_count
  note-kept g e n k l m = e.notes.same (n * 9 + k) (omega (arith, (steady g).placed.note-rows))

  module _ {t u : Words} (g : Good t) (e : Longer t u) (f : Fits u) where
    lent_kept : lent_fault (grown T u) ≡ Sound
    unfolding tables_fault lent_fault sizes_fault
    lent_kept =
        size_more _ _ 1 _ _ (λ q. q)
        (size_more _ _ 2 _ _ (λ q. q)
        (size_more _ _ 3 _ _ (λ q. whole_made (length u.notes) 9 most_notes f.note-rows f.notes)
        (size_more _ _ 4 _ _ (λ q. whole_made (length u.schemas) 16 most_schemas f.rows f.schemas)
        (size_more _ _ 5 _ _ (λ q. q)
        (size_more _ _ 6 _ _ (λ q. q)
        (size_more _ _ 7 _ _ (λ q. le-leb (length u.links) most_links f.links) (λ q. q)))))))
        (first_sound (lent_fault (grown T t)) (records_fault (grown T t)) g.sound)

    node_still : (i : ℕ) → node_ok (counts_of (grown T t)) t.links T.nodes i ≡ true → node_ok (counts_of (grown T u)) u.links T.nodes i ≡ true
    unfolding node_ok counts_in
    node_still i h = node_longer e.links (counts_of (grown T t)) (counts_of (grown T u)) refl refl i (node_kind T.nodes i) (node_a T.nodes i) (node_b T.nodes i) (node_c T.nodes i) h

    note_still : (i : ℕ) → i < note_count t.notes → note_ok t.notes i ≡ true → note_ok u.notes i ≡ true
    unfolding note_ok
    note_still i l h = rw (note-kept g e i 7 l (omega arith), note-kept g e i 8 l (omega arith)) h

    schema_still : (i : ℕ) → i < count t → schema_ok (counts_of (grown T t)) T.pool T.texts t.links t.schemas i ≡ true → schema_ok (counts_of (grown T u)) T.pool T.texts u.links u.schemas i ≡ true
    unfolding counts_in note_count
    schema_still i l h =
        schema-kept t.schemas u.schemas i (λ k m. word_kept g e i k l m) e.links (counts_of (grown T t)) (counts_of (grown T u)) refl refl refl (omega (arith, e.notes.long)) T.pool T.texts h

    entry_still : (i : ℕ) → i < entry_count T.registry → entry_ok (counts_of (grown T u)) T.registry i ≡ true
    unfolding entry_ok counts_in
    entry_still i l =
        let h = entry-facts (grown T t) (formed g) i l in
        both-holds (lt-ltb (entry_text T.registry i) _ h.0) (lt-ltb (entry_schema T.registry i) _ (omega (arith, h.1, longer_count e)))

    pub grow : ((i : ℕ) → note_count t.notes ≤ i → i < note_count u.notes → note_ok u.notes i ≡ true) →
        ((i : ℕ) → count t ≤ i → i < count u → schema_ok (counts_of (grown T u)) T.pool T.texts u.links u.schemas i ≡ true) → Good u
    grow notes schemas = record {
      sound = passes (grown T u) lent_kept (record {
        sized = record {
          pool = (formed g).sized.pool;
          texts = (formed g).sized.texts;
          nodes = (formed g).sized.nodes;
          notes = unfold note_count in f.notes;
          schemas = unfold schema_count in f.schemas;
          registry = (formed g).sized.registry;
          patterns = (formed g).sized.patterns;
          links = f.links;
          numbers = (formed g).sized.numbers;
        };
        texts = (formed g).texts;
        nodes = λ i l. node_still i ((formed g).nodes i l);
        notes = λ i l. ⊎_elim (λ m. notes i m l) (λ m. note_still i m ((formed g).notes i m)) (le_or_lt (note_count t.notes) i);
        schemas = λ i l. ⊎_elim (λ m. schemas i m l) (λ m. schema_still i m ((formed g).schemas i m)) (le_or_lt (count t) i);
        registry = entry_still;
        patterns = λ i l. unfold pattern_ok counts_in in (formed g).patterns i l;
      });
    }

  -- the three appends
  pub longer_links : (t : Words) (x : List ℕ) → Longer t (with_links t x)
  longer_links t x = record { notes = begins_itself t.notes; schemas = begins_itself t.schemas; links = begins_more (begins_itself t.links) x }

  pub longer_notes : (t : Words) (x : List ℕ) → Longer t (with_notes t x)
  longer_notes t x = record { notes = begins_more (begins_itself t.notes) x; schemas = begins_itself t.schemas; links = begins_itself t.links }

  pub longer_row : (t : Words) (x : List ℕ) → Longer t (with_row t x)
  longer_row t x = record { notes = begins_itself t.notes; schemas = begins_more (begins_itself t.schemas) x; links = begins_itself t.links }

  pub good_links : {t : Words} (x : List ℕ) → Good t → length t.links + length x ≤ 16384 → Good (with_links t x)
  good_links {t} x g l =
      grow {t = t} {u = with_links t x} g (longer_links t x)
      (record { note-rows = (fits g).note-rows; notes = (fits g).notes; rows = (fits g).rows; schemas = (fits g).schemas; links = omega (arith, length-append t.links x) })
      (λ i a b. absurd (omega arith)) (λ i a b. absurd (omega arith))

  pub good_note : {t : Words} (x : List ℕ) → Good t → length x ≡ 9 → note_count t.notes + 1 ≤ 1024 → note_ok (t.notes ++ x) (note_count t.notes) ≡ true → Good (with_notes t x)
  unfolding note_count
  good_note {t} x g n l ok =
      let long : length (t.notes ++ x) ≡ length t.notes + 9 = omega (arith, length-append t.notes x) in
      grow {t = t} {u = with_notes t x} g (longer_notes t x)
      (record { note-rows = omega (arith, (fits g).note-rows); notes = omega (arith, (fits g).note-rows); rows = (fits g).rows; schemas = (fits g).schemas; links = (fits g).links })
      (λ i a b. let q : i ≡ length t.notes / 9 = omega (arith, (fits g).note-rows) in subst (λ (j : ℕ). note_ok (t.notes ++ x) j ≡ true) (sym q) ok) (λ i a b. absurd (omega arith))

  pub good_row : {t : Words} (x : List ℕ) → Good t → length x ≡ 16 → count t + 1 ≤ 4096 → schema_ok (counts_of (grown T (with_row t x))) T.pool T.texts t.links (t.schemas ++ x) (count t) ≡ true → Good (with_row t x)
  unfolding schema_count
  good_row {t} x g n l ok =
      let long : length (t.schemas ++ x) ≡ length t.schemas + 16 = omega (arith, length-append t.schemas x) in
      grow {t = t} {u = with_row t x} g (longer_row t x)
      (record { note-rows = (fits g).note-rows; notes = (fits g).notes; rows = omega (arith, (fits g).rows); schemas = omega (arith, (fits g).rows); links = (fits g).links })
      (λ i a b. absurd (omega arith))
      (λ i a b. let q : i ≡ length t.schemas / 16 = omega (arith, (fits g).rows) in
      subst (λ (j : ℕ). schema_ok (counts_of (grown T (with_row t x))) T.pool T.texts t.links (t.schemas ++ x) j ≡ true) (sym q) ok)

  -- a new record's words
  pub row_word : {t : Words} (x : List ℕ) → Good t → (k : ℕ) → schema_word (t.schemas ++ x) (count t) k ≡ get_or x k 0
  unfolding schema_word
  row_word {t} x g k = ap (λ (at : ℕ). get_or (t.schemas ++ x) (at + k) 0) (steady g).placed.rows ∙ get_or-append-add t.schemas x k 0

  pub note_word_lem : {t : Words} (x : List ℕ) → Good t → (k : ℕ) → note_word (t.notes ++ x) (note_count t.notes) k ≡ get_or x k 0
  unfolding note_word note_count
  note_word_lem {t} x g k = ap (λ (at : ℕ). get_or (t.notes ++ x) (at + k) 0) (steady g).placed.note-rows ∙ get_or-append-add t.notes x k 0

  pub count_row : {t : Words} (x : List ℕ) → Good t → length x ≡ 16 → count (with_row t x) ≡ suc (count t)
  unfolding schema_count
  count_row {t} x g n = omega (arith, (steady g).placed.rows, length-append t.schemas x)
