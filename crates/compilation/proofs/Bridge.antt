-- The whole call: where the used tables pass the check, what compiling over the tables gives is what `compiled_of` says. Assumes nothing.
use Prim.Native.Nat.{ℕ, ◌*◌, ◌/◌, ◌<◌}
use mathlib.Core.Path.{◌≡◌, refl, sym, ap, ◌∙◌}
use mathlib.Core.Bool.{true}
use native.Mathlib.Omega.{arith}
use lib.ListN.{length, take}
use lib.Seq.{length-take-le}
use Rattle.error.specs.declared.Used.{Used}
use Rattle.error.specs.Paths.{levels}
use Rattle.layout.specs.Layout.{Tables, note_count, schema_count, most_notes, most_schemas, most_links}
use Rattle.lookup.specs.Lookup.{find_in}
use Rattle.tables.specs.Found.{Sound}
use Rattle.tables.specs.Check.{used_size}
use Rattle.tables.specs.Facts.{WellFormed}
use Rattle.tables.proofs.Facts.{well_formed}
use Rattle.compilation.specs.State.{Source, State, Out, done, refused, source_of, state_of}
use Rattle.compilation.specs.Table.{compile_at}
use Rattle.compilation.specs.Compile.{Result, ok, refuse}
use Rattle.compilation.specs.Entry.{used_tables, used_fault, room_of, compiled_of, counts_of}
use Rattle.compilation.proofs.Grows.{begins_itself, Grown}
use Rattle.compilation.proofs.Same.{words_in, Same, made, stopped, Rooms, rooms_are}
use Rattle.compilation.proofs.Used.{used_lent, used_fit, sizes_sound, used_tables_sound}
use Rattle.compilation.proofs.Visits.{visits_same}

-- where the call begins
abbrev pub source_for : Tables → Used → Source
source_for T u = source_of T.pool T.texts T.registry u T.notes T.schemas T.links

abbrev pub state_for : Tables → Used → State
state_for T u = state_of u T.notes T.schemas T.links

-- an answer over the tables, as one over the words
abbrev pub to_result : Out → Result ℕ
to_result (done st n) = ok n (words_in st)
to_result (refused k) = refuse k

same_result : {C : Source} {o : Out} {r : Result ℕ} → Same C o r → to_result o ≡ r
same_result (made st n g) = refl
same_result (stopped k) = refl

-- what is made is grown from the source
made_grown : {C : Source} {o : Out} {r : Result ℕ} → Same C o r → (st : State) (n : ℕ) → o ≡ done st n → Grown C st
made_grown (made st₁ n₁ g) st n e = let q : st₁ ≡ st = cc in rw q at g
made_grown (stopped k) st n e = absurd (let z : ◌≡◌ {A = ℕ} 0 1 = cc in omega arith)

-- the used counts are those of the words
pub counts_are : {C : Source} {st : State} → Grown C st → counts_of (words_in st) ≡ record { notes = st.un; schemas = st.us; links = st.ul }
unfolding note_count schema_count
counts_are {C} {st} g =
    let a : length st.notes / 9 ≡ st.un = omega (arith, g.un) in
    let b : length st.schemas / 16 ≡ st.us = omega (arith, g.us) in
    rw (a, b, g.ul)

module _ (T : Tables) (u : Used) (sound : used_fault T u ≡ Sound) where
  fit : (used_size (note_count T.notes) most_notes u.notes ≡ true) × (used_size (schema_count T.schemas) most_schemas u.schemas ≡ true) × (used_size (length T.links) most_links u.links ≡ true)
  fit = used_fit T u (sizes_sound T u sound)

  notes-long : length (take (u.notes * 9) T.notes) ≡ u.notes * 9
  unfolding note_count
  notes-long = let l = used_lent (length T.notes / 9) most_notes u.notes fit.0 in length-take-le (u.notes * 9) T.notes (omega arith)

  schemas-long : length (take (u.schemas * 16) T.schemas) ≡ u.schemas * 16
  unfolding schema_count
  schemas-long = let l = used_lent (length T.schemas / 16) most_schemas u.schemas fit.1 in length-take-le (u.schemas * 16) T.schemas (omega arith)

  links-long : length (take u.links T.links) ≡ u.links
  links-long = length-take-le u.links T.links (used_lent (length T.links) most_links u.links fit.2)

  -- the used words pass as whole tables do
  pub used_good : WellFormed (used_tables T u)
  used_good = well_formed (used_tables T u) (used_tables_sound T u sound)

  begins : Grown (source_for T u) (state_for T u)
  unfolding state_of
  begins =
      record {
        notes = begins_itself (take (u.notes * 9) T.notes);
        schemas = begins_itself (take (u.schemas * 16) T.schemas);
        links = begins_itself (take u.links T.links);
        un = notes-long;
        us = schemas-long;
        ul = links-long;
      }

  rooms : Rooms (source_for T u) (room_of T)
  unfolding room_of note_count schema_count
  rooms = rooms_are (source_for T u) (room_of T) refl refl refl

  pub compiled_same : (s : ℕ) → s < u.schemas → Same (source_for T u) (compile_at (source_for T u) levels (state_for T u) s) (compiled_of T u s)
  unfolding compiled_of used_tables state_of find_in
  compiled_same s h = visits_same rooms T.nodes T.patterns T.numbers used_good schemas-long levels (state_for T u) s begins h

  -- the same refusal, or the same record and the same words
  pub bridge : (s : ℕ) → s < u.schemas → to_result (compile_at (source_for T u) levels (state_for T u) s) ≡ compiled_of T u s
  bridge s h = same_result (compiled_same s h)

  -- what the public call has in hand: where it ends well, the words and their counts
  pub compiled-done : (s : ℕ) → s < u.schemas → {st : State} {n : ℕ} → compile_at (source_for T u) levels (state_for T u) s ≡ done st n → (compiled_of T u s ≡ ok n (words_in st)) × Grown (source_for T u) st
  compiled-done s h {st} {n} e = (sym (bridge s h) ∙ ap to_result e, made_grown (compiled_same s h) st n e)

  pub compiled-refused : (s : ℕ) → s < u.schemas → {k : ℕ} → compile_at (source_for T u) levels (state_for T u) s ≡ refused k → compiled_of T u s ≡ refuse k
  compiled-refused s h e = sym (bridge s h) ∙ ap to_result e
