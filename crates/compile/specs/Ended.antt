-- What the work answers and leaves, from what compiling over the tables gives. Assumes nothing.
use Rattle.std.specs.Prelude.{ℕ, ◌*◌, List, length, take, Result, Ok, Err}
use Rattle.text.specs.Text.{padded}
use Rattle.error.specs.declared.Used.{Used}
use Rattle.error.specs.declared.Answer.{Answer}
use Rattle.error.specs.declared.Failure.{Failure}
use Rattle.error.specs.Answers.{number_of, plain_answer, found_record, with_used}
use Rattle.layout.specs.Layout.{note_words, schema_words}
use Rattle.compilation.specs.Entry.{Compiled}
use Rattle.compilation.specs.State.{State, Out, done, refused}
use Rattle.derive.specs.declared.Made.{Made}

-- what the cycle's answer is told as
unfoldable pub answered_of : Result Made Failure → Used → Answer
answered_of (Ok m) u = with_used (found_record m.rec) u
answered_of (Err failure) u = with_used (plain_answer (number_of failure)) u

abbrev pub compiled : Answer → List ℕ → List ℕ → List ℕ → Compiled
compiled answer notes schemas links = record { answer = answer; notes = notes; schemas = schemas; links = links }

abbrev pub counted_in : State → Used
counted_in st = record { notes = st.un; schemas = st.us; links = st.ul }

-- a refusal keeps only what was used before
unfoldable pub ended_of : List ℕ → List ℕ → List ℕ → Used → Out → Compiled
ended_of notes schemas links u (done st n) =
    compiled (with_used (found_record n) (counted_in st)) (padded st.notes (length notes)) (padded st.schemas (length schemas)) (padded st.links (length links))
ended_of notes schemas links u (refused number) =
    compiled (with_used (plain_answer number) u) (padded (take (u.notes * note_words) notes) (length notes)) (padded (take (u.schemas * schema_words) schemas) (length schemas)) (padded (take u.links links) (length links))
