-- An answer as it goes over the C boundary: every field, and of the detail the number of its case and its values, as `error` defines them.
-- Assumes nothing.
use Rattle.std.specs.Prelude.{ℕ, Float}
use Rattle.number.specs.declared.tests.Range.{Range}
use Rattle.error.specs.declared.Answer.{Answer}
use Rattle.error.specs.declared.Detail.{Detail}
use Rattle.error.specs.declared.Detail.TheVariants.{OutOfRange}
use Rattle.error.specs.Answers.{NONE}
use Rattle.error.specs.Details.{detail_case, detail_a, detail_b, detail_value, detail_bound, no_real}
use Rattle.checker.specs.declared.flat.Flat.{Flat}
use Rattle.checker.specs.declared.flat.Parts.{Parts}

-- a detail that holds words, and one that holds numbers
abbrev pub words_of : ℕ → ℕ → ℕ → Parts
words_of kind a b = record { kind = kind; a = a; b = b; value = no_real; bound = no_real }

abbrev pub reals_of : ℕ → Float → Float → Parts
reals_of kind value bound = record { kind = kind; a = NONE; b = NONE; value = value; bound = bound }

-- the number of a detail's case, its two words and its two numbers
unfoldable pub parts_of : Detail → Parts
parts_of d = record { kind = detail_case d; a = detail_a d; b = detail_b d; value = detail_value d; bound = detail_bound d }

abbrev pub range_parts : Range → Parts
range_parts range = parts_of (OutOfRange range)

-- an answer's fields in the header's order, with the parts of its detail
abbrev pub flat_with : Answer → Parts → Flat
flat_with answer parts =
    record {
      number = answer.number;
      table = answer.table;
      place = answer.place;
      node = answer.node;
      schema = answer.schema;
      hint = answer.hint;
      detail = parts.kind;
      a = parts.a;
      b = parts.b;
      steps = answer.steps;
      kinds = answer.kinds;
      notes = answer.used.notes;
      schemas = answer.used.schemas;
      links = answer.used.links;
      value = parts.value;
      bound = parts.bound;
    }

-- the whole answer
unfoldable pub flat_of : Answer → Flat
flat_of answer = flat_with answer (parts_of answer.detail)
