-- A call of `compile` that answers 0: what it started from, and what it leaves. Assumes nothing.
use Prim.Native.Nat.{ℕ, ◌*◌, ◌/◌, ◌≤◌, ◌<◌}
use mathlib.Core.Path.{◌≡◌, refl, sym}
use mathlib.Core.Bool.{Bool, true, false}
use native.Mathlib.Omega.{arith}
use lib.ListN.{length}
use lib.Seq.{length-take-le, take_at}
use lib.Dec.{leb}
use borrow.Author.Tests.{leb-false}
use Rattle.text.specs.Choice.{pick}
use Rattle.text.specs.Text.{same_text, padded}
use Rattle.error.specs.declared.Used.{Used}
use Rattle.error.specs.Answers.{plain_answer, found_record, with_used, answer_of}
use Rattle.error.specs.Paths.{levels}
use Rattle.layout.specs.Layout.{Tables, most_notes, most_schemas, most_links, note_count, schema_count}
use Rattle.lookup.specs.Lookup.{find_in}
use Rattle.std.specs.Prelude.{Ok, Err}
use Rattle.tables.specs.Found.{Fault, Sound}
use Rattle.tables.proofs.Numbers.{failure_number, Twenty, else_twenty, sizes_twenty, records_twenty}
use Rattle.tables.specs.Check.{tables_fault}
use Rattle.schema.specs.Look.{Words, words_of}
use Rattle.compilation.specs.Compile.{Result, ok, refuse}
use Rattle.compilation.specs.Entry.{Compiled, used_tables, used_fault, at_most, room_of, compiled_of, leave, counts_of, finished, untouched, or_fault, compile_of}
use Rattle.compilation.specs.State.{Source, Out}
use Rattle.compilation.proofs.Same.{Same, made, stopped}
use Rattle.compilation.proofs.Used.{used_lent, used_fit, sizes_sound, used_tables_sound}
use Rattle.compilation.proofs.Bridge.{compiled_same}
use Rattle.grouping.specs.Values.{grown}
use Rattle.grouping.specs.Demand.{Limited, compiling}
use Rattle.keeping.specs.Left.{left_by}
use Rattle.keeping.proofs.Numbers.{Says, because, compile_says}

-- whole records
pub record Whole (t : Words) : Type 0 where
  pub notes : note_count t.notes * 9 ≡ length t.notes
  pub schemas : schema_count t.schemas * 16 ≡ length t.schemas

whole_grown : {C : Source} {o : Out} {r : Result ℕ} → Same C o r → (n : ℕ) (t : Words) → r ≡ ok n t → Whole t
unfolding note_count schema_count
whole_grown (made st m g) n t e =
    let a : st.notes ≡ t.notes = cc in
    let b : st.schemas ≡ t.schemas = cc in
    record { notes = rw (← a) (omega (arith, g.un)); schemas = rw (← b) (omega (arith, g.us)) }
whole_grown (stopped k) n t e = absurd (let q : ◌≡◌ {A = ℕ} 0 1 = cc in omega arith)

module _ (T : Tables) (u : Used) (s : ℕ) where
  pub record Done : Type 0 where
    pub sound : used_fault T u ≡ Sound
    pub below : s < u.schemas
    pub place : ℕ
    pub words : Words
    pub is : compiled_of T u s ≡ ok place words
    pub gives : compile_of T u s ≡ leave T (with_used (found_record place) (counts_of words)) words

  abbrev outcome : Fault → Bool → Result ℕ → Compiled
  outcome f b x = or_fault T u f (pick b (untouched T (with_used (plain_answer 21) u)) (finished T u x))

  done_at : (f : Fault) → Twenty f → used_fault T u ≡ f → (b : Bool) → leb u.schemas s ≡ b → (x : Result ℕ) → compiled_of T u s ≡ x → Says x → (outcome f b x).answer.number ≡ 0 → Done
  unfolding with_used answer_of
  done_at (Err failure) w e b l x c y h = absurd (omega (arith, failure_number failure, w))
  done_at (Ok v) w e true l x c y h = absurd (omega arith)
  done_at (Ok v) w e false l (refuse n) c (because m z) h = absurd (z h)
  done_at (Ok v) w e false l (ok r t) c y h =
      record { sound = e; below = leb-false u.schemas s l; place = r; words = t; is = c; gives = unfold compile_of in rw (e, l, c) }

  used_twenty : Twenty (used_fault T u)
  unfolding used_fault
  used_twenty = else_twenty _ _ (sizes_twenty _ _ _ _ _ _ _ _ _) (records_twenty (used_tables T u))

  says : Says (compiled_of T u s)
  unfolding compiled_of
  says = compile_says (room_of T) (same_text T.pool T.texts) (find_in T) levels s (words_of (used_tables T u))

  pub done : (compile_of T u s).answer.number ≡ 0 → Done
  unfolding compile_of
  done h = done_at (used_fault T u) used_twenty refl (leb u.schemas s) refl (compiled_of T u s) refl says h

  module _ (d : Done) where
    pub sound_tables : tables_fault (used_tables T u) ≡ Sound
    sound_tables = used_tables_sound T u d.sound

    pub within : s < schema_count (used_tables T u).schemas
    unfolding used_tables schema_count
    within =
        let fit = used_lent (length T.schemas / 16) most_schemas u.schemas (used_fit T u (sizes_sound T u d.sound)).1 in
        omega (arith, d.below, length-take-le (u.schemas * 16) T.schemas (omega arith))

    pub whole : Whole d.words
    whole = whole_grown (compiled_same T u d.sound s d.below) d.place d.words d.is

    pub left_is : left_by T (compile_of T u s) ≡ grown (used_tables T u) d.words
    unfolding left_by used_tables with_used padded
    left_is =
        rw d.gives
        (rw (take_at d.words.notes _ (note_count d.words.notes * 9) (sym whole.notes), take_at d.words.schemas _ (schema_count d.words.schemas * 16) (sym whole.schemas), take_at d.words.links _ (length d.words.links) refl))

    pub place_is : (compile_of T u s).answer.place ≡ d.place
    unfolding with_used answer_of
    place_is = rw d.gives

    pub compiling_is : compiling (used_tables T u) (room_of T) s ≡ ok d.place d.words
    unfolding compiling compiled_of used_tables find_in
    compiling_is = d.is

at_most_lem : (limit lent : ℕ) → at_most limit lent ≤ limit
at_most_lem limit lent = at (leb limit lent) refl
  where
    at : (b : Bool) → leb limit lent ≡ b → pick b limit lent ≤ limit
    at true e = omega arith
    at false e = omega (arith, leb-false limit lent e)

pub limited : (T : Tables) → Limited (room_of T)
unfolding room_of
limited T = record { notes = at_most_lem most_notes (note_count T.notes); schemas = at_most_lem most_schemas (schema_count T.schemas) }

pub limited-links : (T : Tables) → (room_of T).links ≤ most_links
unfolding room_of
limited-links T = at_most_lem most_links (length T.links)
