-- The check by used counts: where the sizes are sound, the used parts are whole tables, so that the check of these is the check of their records.
-- Assumes nothing.
use Prim.Native.Nat.{ℕ, ◌*◌, ◌/◌, ◌%◌, ◌≤◌}
use mathlib.Core.Path.{◌≡◌, ◌∙◌}
use mathlib.Core.Bool.{Bool, true}
use mathlib.Core.List.{List}
use native.Mathlib.Omega.{arith}
use borrow.Author.Tests.{eq-eqb, le-leb, leb-true}
use lib.ListN.{length, take}
use lib.Seq.{length-take-le}
use lib.Dec.{leb}
use Rattle.text.specs.Choice.{both-holds, both_left, both_right}
use Rattle.layout.specs.Layout.{Tables, tables, note_words, schema_words, most_notes, most_schemas, most_links, note_count, schema_count}
use Rattle.error.specs.declared.Used.{Used}
use Rattle.std.specs.Prelude.{Err}
use Rattle.error.specs.declared.Failure.{Failure}
use Rattle.tables.specs.Found.{Fault, Sound}
use Rattle.tables.specs.Check.{whole_size, used_size, sizes_fault, lent_fault, tables_fault}
use Rattle.tables.proofs.Faults.{first_sound, size_good, size_rest}
use Rattle.compilation.specs.Entry.{used_tables, used_fault}

sizes_fit : (pool texts nodes registry patterns numbers : List ℕ) (n s l : Bool) → sizes_fault pool texts nodes registry patterns numbers n s l ≡ Sound → (n ≡ true) × (s ≡ true) × (l ≡ true)
unfolding sizes_fault
sizes_fit pool texts nodes registry patterns numbers n s l h =
    let r2 = size_rest _ _ _ (size_rest _ _ _ h) in
    let r3 = size_rest _ _ _ r2 in
    let r6 = size_rest _ _ _ (size_rest _ _ _ (size_rest _ _ _ r3)) in
    (size_good _ _ _ r2, size_good _ _ _ r3, size_good _ _ _ r6)

pub used_most : (records most used : ℕ) → used_size records most used ≡ true → used ≤ most
unfolding used_size
used_most records most used h = leb-true used most (both_left (leb used most) (leb used records) h)

pub used_lent : (records most used : ℕ) → used_size records most used ≡ true → used ≤ records
unfolding used_size
used_lent records most used h = leb-true used records (both_right (leb used most) (leb used records) h)

-- so many used records are whole records
notes_whole : (notes : List ℕ) (n : ℕ) → used_size (note_count notes) most_notes n ≡ true → whole_size (length (take (n * note_words) notes)) note_words most_notes ≡ true
unfolding whole_size note_count
notes_whole notes n h =
    let m = used_most (length notes / 9) 1024 n h in
    let l = used_lent (length notes / 9) 1024 n h in
    let e : length (take (n * 9) notes) ≡ n * 9 = length-take-le (n * 9) notes (omega arith) in
    both-holds (eq-eqb (length (take (n * 9) notes) % 9) 0 (omega arith)) (le-leb (length (take (n * 9) notes) / 9) 1024 (omega arith))

schemas_whole : (schemas : List ℕ) (n : ℕ) → used_size (schema_count schemas) most_schemas n ≡ true → whole_size (length (take (n * schema_words) schemas)) schema_words most_schemas ≡ true
unfolding whole_size schema_count
schemas_whole schemas n h =
    let m = used_most (length schemas / 16) 4096 n h in
    let l = used_lent (length schemas / 16) 4096 n h in
    let e : length (take (n * 16) schemas) ≡ n * 16 = length-take-le (n * 16) schemas (omega arith) in
    both-holds (eq-eqb (length (take (n * 16) schemas) % 16) 0 (omega arith)) (le-leb (length (take (n * 16) schemas) / 16) 4096 (omega arith))

links_whole : (links : List ℕ) (n : ℕ) → used_size (length links) most_links n ≡ true → leb (length (take n links)) most_links ≡ true
links_whole links n h =
    let m = used_most (length links) 16384 n h in
    let e : length (take n links) ≡ n = length-take-le n links (used_lent (length links) 16384 n h) in
    le-leb (length (take n links)) 16384 (omega arith)

module _ (T : Tables) (u : Used) where
  -- the sizes by used counts
  unfoldable pub used_sizes : Fault
  used_sizes =
      sizes_fault T.pool T.texts T.nodes T.registry T.patterns T.numbers
      (used_size (note_count T.notes) most_notes u.notes)
      (used_size (schema_count T.schemas) most_schemas u.schemas)
      (used_size (length T.links) most_links u.links)

  -- the used counts are within limit and room
  pub used_fit : used_sizes ≡ Sound → (used_size (note_count T.notes) most_notes u.notes ≡ true) × (used_size (schema_count T.schemas) most_schemas u.schemas ≡ true) × (used_size (length T.links) most_links u.links ≡ true)
  unfolding used_sizes
  used_fit h = sizes_fit T.pool T.texts T.nodes T.registry T.patterns T.numbers _ _ _ h

  -- as the code finds them
  pub sizes_told : {a b : ℕ} {n s l : Bool} {r f : Fault} → r ≡ sizes_fault T.pool T.texts T.nodes T.registry T.patterns T.numbers n s l → a ≡ note_count T.notes → n ≡ used_size a most_notes u.notes → b ≡ schema_count T.schemas → s ≡ used_size b most_schemas u.schemas → l ≡ used_size (length T.links) most_links u.links → r ≡ f → used_sizes ≡ f
  unfolding used_sizes
  sizes_told e a n b s l t = cc

  pub used_bad : (failure : Failure) → used_sizes ≡ Err failure → Err failure ≡ used_fault T u
  unfolding used_fault used_sizes
  used_bad failure h = rw h

  -- the used parts are neither ragged nor too long
  pub lent_sound : used_sizes ≡ Sound → lent_fault (used_tables T u) ≡ Sound
  unfolding lent_fault used_tables used_sizes
  lent_sound h =
      let f = used_fit h in
      let n = notes_whole T.notes u.notes f.0 in
      let s = schemas_whole T.schemas u.schemas f.1 in
      let l = links_whole T.links u.links f.2 in
      rw (n, s, l) (rw (f.0, f.1, f.2) at h)

  pub used_sound : used_sizes ≡ Sound → tables_fault (used_tables T u) ≡ used_fault T u
  unfolding used_fault tables_fault used_sizes
  used_sound h = rw (h, lent_sound h)

  pub used_checked : used_sizes ≡ Sound → {notes schemas links : List ℕ} {r : Fault} → notes ≡ take (u.notes * note_words) T.notes → schemas ≡ take (u.schemas * schema_words) T.schemas → links ≡ take u.links T.links → r ≡ tables_fault (tables T.pool T.texts T.nodes notes schemas T.registry T.patterns links T.numbers) → r ≡ used_fault T u
  unfolding used_tables
  used_checked h n s l e = rw (n, s, l) at e ∙ used_sound h

  -- where nothing is found, the sizes and the records are sound
  pub sizes_sound : used_fault T u ≡ Sound → used_sizes ≡ Sound
  unfolding used_fault used_sizes
  sizes_sound h = first_sound _ _ h

  pub used_tables_sound : used_fault T u ≡ Sound → tables_fault (used_tables T u) ≡ Sound
  used_tables_sound h = used_sound (sizes_sound h) ∙ h

  -- no more schemas are used than there may be
  pub used_few : used_fault T u ≡ Sound → u.schemas ≤ 4096
  used_few h = used_most (schema_count T.schemas) 4096 u.schemas (used_fit (sizes_sound h)).1
