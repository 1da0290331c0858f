-- The two definitions side by side: what a step over the tables gives, and what the same step gives over the words. Assumes nothing.
use Prim.Native.Nat.{ℕ, ◌+◌, ◌*◌, ◌/◌, ◌≤◌}
use mathlib.Core.Path.{◌≡◌, refl}
use mathlib.Core.Bool.{Bool, true, false}
use mathlib.Core.List.{List}
use mathlib.Core.Option.{Option}
use native.Mathlib.Omega.{arith}
use lib.ListN.{length, length-append}
use lib.Dec.{leb}
use borrow.Author.Tests.{le-leb, leb-true, leb-false}
use Rattle.text.specs.Choice.{pick, same_test}
use Rattle.layout.specs.Layout.{note_count, schema_count}
use Rattle.layout.specs.Rows.{list_row}
use Rattle.append.specs.Append.{room}
use Rattle.append.proofs.Laws.{room-yes, room_limit, room_lent}
use Rattle.schema.specs.Look.{Words}
use Rattle.compilation.specs.State.{Source, State, Out, done, refused, and_then, add_schema, add_note, add_links}
use Rattle.compilation.specs.Compile.{Result, ok, refuse, then, Room, add_note as appendNote, add_row as appendRow, add_links as appendLinks, add_list}
use Rattle.compilation.specs.Entry.{at_most}
use Rattle.compilation.proofs.Grows.{begins_more, Grown}

abbrev pub words_in : State → Words
words_in st = record { notes = st.notes; schemas = st.schemas; links = st.links }

-- one answer: the same record and the same words, or the same refusal
pub data Same (C : Source) : Out → Result ℕ → Type 0 where
  made : (st : State) (n : ℕ) → Grown C st → Same C (done st n) (ok n (words_in st))
  stopped : (k : ℕ) → Same C (refused k) (refuse k)

pub same_then : {C : Source} {o : Out} {r : Result ℕ} (f : State → ℕ → Out) (g : ℕ → Words → Result ℕ) → Same C o r → ((st : State) (n : ℕ) → Grown C st → Same C (f st n) (g n (words_in st))) → Same C (and_then o f) (then r g)
same_then f g (made st n i) h = h st n i
same_then f g (stopped k) h = stopped k

pub same_as : {C : Source} {o o' : Out} {r r' : Result ℕ} → o ≡ o' → r ≡ r' → Same C o' r' → Same C o r
same_as p q h = rw (p, q) h

-- the room of one is the room of the other
pub record Rooms (C : Source) (R : Room) : Type 0 where
  pub notes : (n : ℕ) → room 9216 C.notes_lent (n * 9) 9 ≡ leb (n + 1) R.notes
  pub schemas : (n : ℕ) → room 65536 C.schemas_lent (n * 16) 16 ≡ leb (n + 1) R.schemas
  pub links : (n k : ℕ) → room 16384 C.links_lent n k ≡ leb (n + k) R.links

chosen : {C : Source} (t : Bool) (st : State) (n : ℕ) → Grown C st → Same C (pick t (done st n) (refused 33)) (pick t (ok n (words_in st)) (refuse 33))
chosen true st n g = made st n g
chosen false st n g = stopped 33

module _ {C : Source} {R : Room} (rooms : Rooms C R) (eq : ℕ → ℕ → Bool) (find : ℕ → Option ℕ) where
  pub note_added : (st : State) → Grown C st → (w : List ℕ) → length w ≡ 9 → Same C (add_note C st w) (appendNote R eq find w (words_in st))
  unfolding add_note appendNote note_count
  note_added st g w e =
      let n : length st.notes / 9 ≡ st.un = omega (arith, g.un) in
      rw (n, rooms.notes st.un)
      (chosen (leb (st.un + 1) R.notes) _ st.un
      (record {
        notes = begins_more g.notes w;
        schemas = g.schemas;
        links = g.links;
        un = omega (arith, length-append st.notes w, g.un);
        us = g.us;
        ul = g.ul;
      }))

  pub schema_added : (st : State) → Grown C st → (w : List ℕ) → length w ≡ 16 → Same C (add_schema C st w) (appendRow R eq find w (words_in st))
  unfolding add_schema appendRow schema_count
  schema_added st g w e =
      let n : length st.schemas / 16 ≡ st.us = omega (arith, g.us) in
      rw (n, rooms.schemas st.us)
      (chosen (leb (st.us + 1) R.schemas) _ st.us
      (record {
        notes = g.notes;
        schemas = begins_more g.schemas w;
        links = g.links;
        un = g.un;
        us = omega (arith, length-append st.schemas w, g.us);
        ul = g.ul;
      }))

  pub links_added : (st : State) → Grown C st → (w : List ℕ) → Same C (add_links C st w) (appendLinks R eq find w (words_in st))
  unfolding add_links appendLinks
  links_added st g w =
      rw (g.ul, rooms.links st.ul (length w))
      (chosen (leb (st.ul + length w) R.links) _ st.ul
      (record {
        notes = g.notes;
        schemas = g.schemas;
        links = begins_more g.links w;
        un = g.un;
        us = g.us;
        ul = omega (arith, length-append st.links w, g.ul);
      }))

  -- links, then a record that names them
  pub list_added : (st : State) → Grown C st → (kind note count : ℕ) (ns : List ℕ) → length ns ≡ count → Same C (and_then (add_links C st ns) (λ st₁ first. add_schema C st₁ (list_row kind note first count))) (add_list R eq find kind note ns (words_in st))
  unfolding add_list
  list_added st g kind note count ns e =
      rw e (same_then _ _ (links_added st g ns) (λ st₁ first g₁. schema_added st₁ g₁ (list_row kind note first count) refl))

-- by limit and by what is lent
least : (limit lent x : ℕ) → (t : Bool) → leb limit lent ≡ t → (x ≤ pick t limit lent) → (x ≤ limit) × (x ≤ lent)
least limit lent x true e h = (h, omega (arith, leb-true limit lent e))
least limit lent x false e h = (omega (arith, leb-false limit lent e), h)

most : (limit lent x : ℕ) (t : Bool) → x ≤ limit → x ≤ lent → x ≤ pick t limit lent
most limit lent x true a b = a
most limit lent x false a b = b

-- the test of one is the test of the other, where their bounds say the same
tests_same : (limit lent used n most-records records x : ℕ) → (used + n ≤ limit → x ≤ most-records) → (used + n ≤ lent → x ≤ records) → (x ≤ most-records → used + n ≤ limit) → (x ≤ records → used + n ≤ lent) → room limit lent used n ≡ leb x (at_most most-records records)
tests_same limit lent used n m r x a b c d =
    same_test (room limit lent used n) (leb x (at_most m r))
    (λ t. le-leb x (at_most m r) (most m r x (leb m r) (a (room_limit limit lent used n t)) (b (room_lent limit lent used n t))))
    (λ t.
    let p = least m r x (leb m r) refl (leb-true x (at_most m r) t) in
    room-yes limit lent used n (c p.0) (d p.1))

pub rooms_are : (C : Source) (R : Room) → R.notes ≡ at_most 1024 (C.notes_lent / 9) → R.schemas ≡ at_most 4096 (C.schemas_lent / 16) → R.links ≡ at_most 16384 C.links_lent → Rooms C R
rooms_are C R a b c =
    record {
      notes = λ n. rw a (tests_same 9216 C.notes_lent (n * 9) 9 1024 (C.notes_lent / 9) (n + 1) (λ h. omega arith) (λ h. omega arith) (λ h. omega arith) (λ h. omega arith));
      schemas = λ n. rw b (tests_same 65536 C.schemas_lent (n * 16) 16 4096 (C.schemas_lent / 16) (n + 1) (λ h. omega arith) (λ h. omega arith) (λ h. omega arith) (λ h. omega arith));
      links = λ n k. rw c (tests_same 16384 C.links_lent n k 16384 C.links_lent (n + k) (λ h. h) (λ h. h) (λ h. h) (λ h. h));
    }
