-- Document 01, "Answers by number": what an answer carries. Fields as 01 lists them; what an answer does not have is NONE, Empty or, for
-- a count of steps, 0. Assumes nothing.
use Rattle.std.specs.Prelude.{ℕ}
pub use Rattle.text.specs.Text.{NONE}
use Rattle.error.specs.declared.Answer.{Answer}
use Rattle.error.specs.declared.Used.{Used}
use Rattle.error.specs.declared.Detail.{Detail}
use Rattle.error.specs.declared.Detail.TheVariants.{Empty}
use Rattle.error.specs.declared.Reason.{Reason}
use Rattle.error.specs.declared.Reason.TheVariants as reason
use Rattle.error.specs.declared.Failure.{Failure}
use Rattle.error.specs.declared.Failure.TheVariants.{BadTable, WrongNumber, ShortBuffer, TooDeep, NoPatternAnswer, NoAlternative, NoBases, BaseNotObject, UnknownReference, NoRoom, NotFound}

-- calls other than compile use no records
abbrev pub no_used : Used
no_used = record { notes = NONE; schemas = NONE; links = NONE }

-- an answer that refuses no value: its number, a table and a place
unfoldable pub answer_of : ℕ → ℕ → ℕ → Answer
answer_of number table place =
    record {
      number = number;
      table = table;
      place = place;
      node = NONE;
      schema = NONE;
      hint = NONE;
      detail = Empty;
      steps = 0;
      kinds = 0;
      used = no_used;
    }

-- an answer that carries nothing but its number
abbrev pub plain_answer : ℕ → Answer
plain_answer number = answer_of number NONE NONE

-- 20: the table's number and its first bad record, or NONE for a size
abbrev pub bad_table : ℕ → ℕ → Answer
bad_table table place = answer_of 20 table place

-- 01's number of each answer that says what is wrong with a value
abbrev pub reason_number : Reason → ℕ
reason_number reason.TypeMismatch = 1
reason_number reason.MissingProperty = 2
reason_number reason.UnknownProperty = 3
reason_number reason.NotInEnum = 4
reason_number reason.OutOfRange = 5
reason_number reason.NotMultiple = 6
reason_number reason.StringLength = 7
reason_number reason.PatternMismatch = 8
reason_number reason.ArrayLength = 9
reason_number reason.NotUnique = 10
reason_number reason.PropertyCount = 11
reason_number reason.UnresolvedReference = 12
reason_number reason.DuplicateKey = 13
reason_number reason.InvalidPattern = 14

-- 01's number of each answer that says nothing of the value
abbrev pub number_of : Failure → ℕ
number_of (BadTable table place) = 20
number_of WrongNumber = 21
number_of ShortBuffer = 22
number_of TooDeep = 23
number_of NoPatternAnswer = 24
number_of NoAlternative = 25
number_of NoBases = 30
number_of BaseNotObject = 31
number_of UnknownReference = 32
number_of NoRoom = 33
number_of NotFound = 40

-- such an answer: 20 with its table and record, the others by their number alone
abbrev pub failure_answer : Failure → Answer
failure_answer (BadTable table place) = bad_table table place
failure_answer WrongNumber = plain_answer 21
failure_answer ShortBuffer = plain_answer 22
failure_answer TooDeep = plain_answer 23
failure_answer NoPatternAnswer = plain_answer 24
failure_answer NoAlternative = plain_answer 25
failure_answer NoBases = plain_answer 30
failure_answer BaseNotObject = plain_answer 31
failure_answer UnknownReference = plain_answer 32
failure_answer NoRoom = plain_answer 33
failure_answer NotFound = plain_answer 40

-- 0 of navigation and of compile gives the record
abbrev pub found_record : ℕ → Answer
found_record place = answer_of 0 NONE place

-- 1 to 14: node, schema record, hint, detail, and how many steps each path has
unfoldable pub refusal_of : ℕ → ℕ → ℕ → ℕ → Detail → ℕ → ℕ → Answer
refusal_of number node schema hint detail steps kinds =
    record {
      number = number;
      table = NONE;
      place = NONE;
      node = node;
      schema = schema;
      hint = hint;
      detail = detail;
      steps = steps;
      kinds = kinds;
      used = no_used;
    }

-- compile always gives its used counts
unfoldable pub with_used : Answer → Used → Answer
with_used a used =
    record {
      number = a.number;
      table = a.table;
      place = a.place;
      node = a.node;
      schema = a.schema;
      hint = a.hint;
      detail = a.detail;
      steps = a.steps;
      kinds = a.kinds;
      used = used;
    }
