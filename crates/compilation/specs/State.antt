-- What compiling works on: the source, which never changes, and the state, which only grows.
use Rattle.std.specs.Prelude.{ℕ, ◌+◌, ◌*◌, List, ◌++◌, length, take}
use Rattle.text.specs.Choice.{pick}
use Rattle.layout.specs.Layout.{note_words, schema_words, most_notes, most_schemas, most_links}
use Rattle.append.specs.Append.{room}
use Rattle.error.specs.declared.Used.{Used}

-- the used words of the tables when compiling begins, and how many words are lent
pub record Source : Type 0 where
  pub pool : List ℕ
  pub texts : List ℕ
  pub registry : List ℕ
  pub notes : List ℕ
  pub schemas : List ℕ
  pub links : List ℕ
  pub count : ℕ
  pub notes_lent : ℕ
  pub schemas_lent : ℕ
  pub links_lent : ℕ

-- the used words and the used records of the three tables that grow
pub record State : Type 0 where
  pub notes : List ℕ
  pub schemas : List ℕ
  pub links : List ℕ
  pub un : ℕ
  pub us : ℕ
  pub ul : ℕ

-- one schema compiled: the state and the record, or the number of the refusal
pub data Out : Type 0 where
  done : State → ℕ → Out
  refused : ℕ → Out

-- several schemas compiled: the state and their records
pub data Outs : Type 0 where
  many : State → List ℕ → Outs
  stop : ℕ → Outs

abbrev pub and_then : Out → (State → ℕ → Out) → Out
and_then (done st n) f = f st n
and_then (refused k) f = refused k

abbrev pub on_many : Outs → (State → List ℕ → Out) → Out
on_many (many st ns) f = f st ns
on_many (stop k) f = refused k

abbrev pub source_of : List ℕ → List ℕ → List ℕ → Used → List ℕ → List ℕ → List ℕ → Source
source_of P T R b N S L =
    record {
      pool = P;
      texts = T;
      registry = R;
      notes = take (b.notes * note_words) N;
      schemas = take (b.schemas * schema_words) S;
      links = take b.links L;
      count = b.schemas;
      notes_lent = length N;
      schemas_lent = length S;
      links_lent = length L;
    }

unfoldable pub state_of : Used → List ℕ → List ℕ → List ℕ → State
state_of u N S L =
    record {
      notes = take (u.notes * note_words) N;
      schemas = take (u.schemas * schema_words) S;
      links = take u.links L;
      un = u.notes;
      us = u.schemas;
      ul = u.links;
    }

-- a record of table 4; its number is the used count before it
unfoldable pub add_schema : Source → State → List ℕ → Out
add_schema C st w =
    pick (room (most_schemas * schema_words) C.schemas_lent (st.us * schema_words) schema_words)
    (done (record { notes = st.notes; schemas = st.schemas ++ w; links = st.links; un = st.un; us = st.us + 1; ul = st.ul }) st.us)
    (refused 33)

-- a note
unfoldable pub add_note : Source → State → List ℕ → Out
add_note C st w =
    pick (room (most_notes * note_words) C.notes_lent (st.un * note_words) note_words)
    (done (record { notes = st.notes ++ w; schemas = st.schemas; links = st.links; un = st.un + 1; us = st.us; ul = st.ul }) st.un)
    (refused 33)

-- a list of links; its first place is the used count before it
unfoldable pub add_links : Source → State → List ℕ → Out
add_links C st w =
    pick (room most_links C.links_lent st.ul (length w))
    (done (record { notes = st.notes; schemas = st.schemas; links = st.links ++ w; un = st.un; us = st.us; ul = st.ul + length w }) st.ul)
    (refused 33)
