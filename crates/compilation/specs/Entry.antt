-- Document 01, "Compiling": what the public call answers, and what it leaves in the three lent tables. Assumes nothing.
use Rattle.std.specs.Prelude.{ℕ, ◌*◌, List, length, take, leb}
use Rattle.text.specs.Choice.{pick}
use Rattle.text.specs.Text.{same_text, padded}
use Rattle.error.specs.declared.Answer.{Answer}
use Rattle.error.specs.declared.Used.{Used}
use Rattle.error.specs.Answers.{plain_answer, failure_answer, found_record, with_used}
use Rattle.error.specs.Paths.{levels}
use Rattle.layout.specs.Layout.{Tables, note_words, schema_words, most_notes, most_schemas, most_links, note_count, schema_count}
use Rattle.lookup.specs.Lookup.{find_in}
use Rattle.tables.specs.Found.{Fault, on_fault, or_else}
use Rattle.tables.specs.Check.{used_size, sizes_fault, records_fault}
use Rattle.schema.specs.Look.{Words, words_of}
use Rattle.compilation.specs.Compile.{Result, ok, refuse, Room, compile_at}

-- the answer, and the three tables at exit
pub record Compiled : Type 0 where
  pub answer : Answer
  pub notes : List ℕ
  pub schemas : List ℕ
  pub links : List ℕ

-- the tables with only the used records of 3, 4 and 7
unfoldable pub used_tables : Tables → Used → Tables
used_tables T u =
    record {
      pool = T.pool;
      texts = T.texts;
      nodes = T.nodes;
      notes = take (u.notes * note_words) T.notes;
      schemas = take (u.schemas * schema_words) T.schemas;
      registry = T.registry;
      patterns = T.patterns;
      links = take u.links T.links;
      numbers = T.numbers;
    }

-- "for these three the size is the used count, at most the limit and the whole records lent; only used records are checked"
unfoldable pub used_fault : Tables → Used → Fault
used_fault T u =
    or_else
    (sizes_fault T.pool T.texts T.nodes T.registry T.patterns T.numbers
    (used_size (note_count T.notes) most_notes u.notes)
    (used_size (schema_count T.schemas) most_schemas u.schemas)
    (used_size (length T.links) most_links u.links))
    (records_fault (used_tables T u))

abbrev pub at_most : ℕ → ℕ → ℕ
at_most limit lent = pick (leb limit lent) limit lent

-- "room, by limit and whole records lent"
unfoldable pub room_of : Tables → Room
room_of T =
    record {
      notes = at_most most_notes (note_count T.notes);
      schemas = at_most most_schemas (schema_count T.schemas);
      links = at_most most_links (length T.links);
    }

-- 64 compile visits may nest; an eager ref's target is the last registry entry of that name
unfoldable pub compiled_of : Tables → Used → ℕ → Result ℕ
compiled_of T u s =
    compile_at (room_of T) (same_text T.pool T.texts) (find_in T) levels s (words_of (used_tables T u))

-- what is kept, and 0 for all room past it, to the end of what is lent
abbrev pub leave : Tables → Answer → Words → Compiled
leave T a t =
    record {
      answer = a;
      notes = padded t.notes (length T.notes);
      schemas = padded t.schemas (length T.schemas);
      links = padded t.links (length T.links);
    }

abbrev pub counts_of : Words → Used
counts_of t = record { notes = note_count t.notes; schemas = schema_count t.schemas; links = length t.links }

-- "a refusal keeps nothing": the used records as they were, and their counts as passed
abbrev pub finished : Tables → Used → Result ℕ → Compiled
finished T u (ok s t) = leave T (with_used (found_record s) (counts_of t)) t
finished T u (refuse number) = leave T (with_used (plain_answer number) u) (words_of (used_tables T u))

-- answers 20 and 21 write nothing
abbrev pub untouched : Tables → Answer → Compiled
untouched T a = record { answer = a; notes = T.notes; schemas = T.schemas; links = T.links }

abbrev pub or_fault : Tables → Used → Fault → Compiled → Compiled
or_fault T u f rest = on_fault f (λ failure. untouched T (with_used (failure_answer failure) u)) rest

-- bad tables first, then a schema number that no used record has, then the work
unfoldable pub compile_of : Tables → Used → ℕ → Compiled
compile_of T u s =
    or_fault T u (used_fault T u)
    (pick (leb u.schemas s) (untouched T (with_used (plain_answer 21) u)) (finished T u (compiled_of T u s)))
