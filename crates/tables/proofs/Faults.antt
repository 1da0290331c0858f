-- The check as a whole: sizes, then the first bad record of the first bad table. Assumes nothing.
use mathlib.Core.Path.{◌≡◌, refl, ap, ◌∙◌}
use mathlib.Core.Bool.{Bool, true, false}
use mathlib.Core.List.{List}
use mathlib.Core.Logic.{⊎_elim}
use Prim.Native.Nat.{ℕ, ◌/◌, ◌%◌, ◌≤◌}
use native.Mathlib.Omega.{arith}
use borrow.Author.Tests.{leb-true}
use lib.ListN.{length}
use lib.Dec.{eqb, leb, ltb}
use Rattle.text.specs.Choice.{both_left, both_right, true_or_false}
use Rattle.text.specs.Text.{text_words, text_count}
use Rattle.layout.specs.Layout.{Tables, tables, node_words, note_words, schema_words, registry_words, pattern_words, most_bytes, most_texts, most_nodes, most_notes, most_schemas, most_entries, most_patterns, most_links, most_numbers, node_count, note_count, schema_count, entry_count, pattern_count}
use Rattle.std.specs.Prelude.{Ok, Err, ⊤}
use Rattle.error.specs.declared.Failure.{Failure}
use Rattle.tables.specs.Found.{Fault, Sound, or_else}
use Rattle.layout.specs.Walk.{first}
use Rattle.records.specs.declared.Counts.{Counts}
use Rattle.records.specs.Records.{counts_of, text_ok, node_ok, note_ok, entry_ok, pattern_ok}
use Rattle.rules.specs.Schemas.{schema_ok}
use Rattle.tables.specs.Check.{whole_size, size_or, texts_size, sizes_fault, record_count, record_ok, first_bad, records_from, records_fault, lent_fault, tables_fault}
use Rattle.tables.specs.Facts.{Sized}
use Rattle.tables.specs.Found.{bad_or}

-- what is bad is not sound
pub never : {A : Type 0} {failure : Failure} {u : ⊤} → ◌≡◌ {A = Fault} (Err failure) (Ok u) → A
never h = let z : ◌≡◌ {A = ℕ} 0 1 = cc in absurd (omega arith)

-- where nothing is found, neither the first finds anything nor the second
pub first_sound : (a b : Fault) → or_else a b ≡ Sound → a ≡ Sound
first_sound (Ok u) b h = refl
first_sound (Err failure) b h = never h

pub second_sound : (a b : Fault) → or_else a b ≡ Sound → b ≡ Sound
second_sound (Ok u) b h = h
second_sound (Err failure) b h = never h

-- a size that is sound is good, and so are those after it
pub size_good : (good : Bool) (table : ℕ) (rest : Fault) → size_or good table rest ≡ Sound → good ≡ true
unfolding size_or
size_good true table rest h = refl
size_good false table rest h = never h

pub size_rest : (good : Bool) (table : ℕ) (rest : Fault) → size_or good table rest ≡ Sound → rest ≡ Sound
unfolding size_or
size_rest true table rest h = h
size_rest false table rest h = never h

-- sizes that are good wherever others are: sound wherever those are
pub size_more : (a b : Bool) (table : ℕ) (x y : Fault) → (a ≡ true → b ≡ true) → (x ≡ Sound → y ≡ Sound) → size_or a table x ≡ Sound → size_or b table y ≡ Sound
unfolding size_or
size_more true b table x y p q h = ap (λ (c : Bool). size_or c table y) (p refl) ∙ q h
size_more false b table x y p q h = never h

pub whole_most : (words width most : ℕ) → whole_size words width most ≡ true → words / width ≤ most
unfolding whole_size
whole_most words width most t = leb-true (words / width) most (both_right (eqb (words % width) 0) (leb (words / width) most) t)

-- good sizes keep every table within its limit
pub sizes_sound : (T : Tables) → lent_fault T ≡ Sound → Sized T
unfolding lent_fault sizes_fault texts_size text_count node_count note_count schema_count entry_count pattern_count
sizes_sound T h =
    let r1 = size_rest _ _ _ h in
    let r2 = size_rest _ _ _ r1 in
    let r3 = size_rest _ _ _ r2 in
    let r4 = size_rest _ _ _ r3 in
    let r5 = size_rest _ _ _ r4 in
    let r6 = size_rest _ _ _ r5 in
    let r7 = size_rest _ _ _ r6 in
    let g1 = size_good _ _ _ h in
    record {
      pool = leb-true (length T.pool) most_bytes (both_right (whole_size (length T.texts) text_words most_texts) (leb (length T.pool) most_bytes) g1);
      texts = whole_most (length T.texts) text_words most_texts (both_left (whole_size (length T.texts) text_words most_texts) (leb (length T.pool) most_bytes) g1);
      nodes = whole_most _ _ _ (size_good _ _ _ r1);
      notes = whole_most _ _ _ (size_good _ _ _ r2);
      schemas = whole_most _ _ _ (size_good _ _ _ r3);
      registry = whole_most _ _ _ (size_good _ _ _ r4);
      patterns = whole_most _ _ _ (size_good _ _ _ r5);
      links = leb-true (length T.links) most_links (size_good _ _ _ r6);
      numbers = leb-true (length T.numbers) most_numbers (size_good _ _ _ r7);
    }

-- a table alone, then the rest
module _ (table : ℕ) where
  size_parts : (good : Bool) (rest : Fault) → or_else (size_or good table Sound) rest ≡ size_or good table rest
  unfolding size_or
  size_parts true rest = refl
  size_parts false rest = refl

  bad_parts : (f : ℕ → Bool) (n : ℕ) (rest : Fault) → or_else (bad_or table f n Sound) rest ≡ bad_or table f n rest
  unfolding bad_or
  bad_parts f n rest = ⊎_elim (λ t. rw t) (λ t. rw t) (true_or_false (ltb (first f 0 n) n))

-- a test that passes leaves it to the rest, and one that fails ends the call
module _ {f g r : Fault} (is : f ≡ g) where
  pub passes : {rest : Fault} {u : ⊤} → f ≡ Ok u → r ≡ rest → r ≡ or_else g rest
  passes p e = rw (← is, p) e

  pub stops : (rest : Fault) {failure : Failure} → f ≡ Err failure → r ≡ Err failure → r ≡ or_else g rest
  stops rest p e = rw (← is, p) e

-- the sizes as the code tests them, one after the other
pub sizes_told : (pool texts nodes registry patterns numbers : List ℕ) (n s l : Bool) {t d g p : Bool} → t ≡ texts_size pool texts → d ≡ whole_size (length nodes) node_words most_nodes → g ≡ whole_size (length registry) registry_words most_entries → p ≡ whole_size (length patterns) pattern_words most_patterns →
    or_else (size_or t 1 Sound)
    (or_else (size_or d 2 Sound)
    (or_else (size_or n 3 Sound)
    (or_else (size_or s 4 Sound)
    (or_else (size_or g 5 Sound)
    (or_else (size_or p 6 Sound)
    (or_else (size_or l 7 Sound)
    (size_or (leb (length numbers) most_numbers) 8 Sound)))))))
    ≡ sizes_fault pool texts nodes registry patterns numbers n s l
unfolding sizes_fault
sizes_told pool texts nodes registry patterns numbers n s l t d g p = rw (t, d, g, p) (simp (size_parts 1, size_parts 2, size_parts 3, size_parts 4, size_parts 5, size_parts 6, size_parts 7))

records_same : (T : Tables) →
    bad_or 1 (text_ok T.pool T.texts) (text_count T.texts)
    (bad_or 2 (node_ok (counts_of T) T.links T.nodes) (node_count T.nodes)
    (bad_or 3 (note_ok T.notes) (note_count T.notes)
    (bad_or 4 (schema_ok (counts_of T) T.pool T.texts T.links T.schemas) (schema_count T.schemas)
    (bad_or 5 (entry_ok (counts_of T) T.registry) (entry_count T.registry)
    (bad_or 6 (pattern_ok (counts_of T) T.patterns) (pattern_count T.patterns) Sound)))))
    ≡ records_fault T
unfolding records_fault records_from first_bad record_count record_ok bad_or
records_same T = refl

-- the records as the code finds them, one table after the other
pub records_told : (T : Tables) {z : Counts} → z ≡ counts_of T →
    or_else (bad_or 1 (text_ok T.pool T.texts) (text_count T.texts) Sound)
    (or_else (bad_or 2 (node_ok z T.links T.nodes) (node_count T.nodes) Sound)
    (or_else (bad_or 3 (note_ok T.notes) (note_count T.notes) Sound)
    (or_else (bad_or 4 (schema_ok z T.pool T.texts T.links T.schemas) (schema_count T.schemas) Sound)
    (or_else (bad_or 5 (entry_ok z T.registry) (entry_count T.registry) Sound)
    (bad_or 6 (pattern_ok z T.patterns) (pattern_count T.patterns) Sound)))))
    ≡ records_fault T
records_told T e = rw e (simp (bad_parts 1, bad_parts 2, bad_parts 3, bad_parts 4, bad_parts 5) (records_same T))

-- the sizes of tables lent whole
pub lent_told : (pool texts nodes notes schemas registry patterns links numbers : List ℕ) {n s : Bool} {r f : Fault} → r ≡ sizes_fault pool texts nodes registry patterns numbers n s (leb (length links) most_links) → n ≡ whole_size (length notes) note_words most_notes → s ≡ whole_size (length schemas) schema_words most_schemas → r ≡ f → lent_fault (tables pool texts nodes notes schemas registry patterns links numbers) ≡ f
unfolding lent_fault
lent_told pool texts nodes notes schemas registry patterns links numbers e n s t = cc

-- the sizes, then the records
pub tables_told : (T : Tables) → or_else (lent_fault T) (records_fault T) ≡ tables_fault T
unfolding tables_fault
tables_told T = refl
