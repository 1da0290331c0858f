-- For each public call: one outcome for each input, refusals too. Beside each name stands what the outcome holds. Assumes nothing.
use mathlib.Core.Bool.{Bool}
use mathlib.Core.List.{List}
use Prim.Native.Nat.{ℕ}
use Rattle.text.specs.Text.{text_of, same_text}
use Rattle.error.specs.declared.Mode.{Mode}
use Rattle.error.specs.declared.Used.{Used}
use Rattle.layout.specs.Layout.{Tables}
use Rattle.navigate.specs.Navigate.{navigate_of}
use Rattle.validator.specs.Validate.{validate_of}
use Rattle.compilation.specs.Entry.{compile_of}
use Rattle.checker.specs.Flat.{flat_of}
use Rattle.checker.specs.Span.{span_of}
use Rattle.checker.specs.Validated.{left_of}
use Rattle.checker.specs.Compiled.{left_tables_of}
use Rattle.laws.specs.One.{OneOutcome, one-outcome}

-- `text`: the part of the pool
pub text_one_outcome : (pool texts : List ℕ) (n : ℕ) → OneOutcome (text_of pool texts n)
text_one_outcome pool texts n = one-outcome (text_of pool texts n)

-- `same_text`: yes or no
pub same_text_one_outcome : (pool texts : List ℕ) (m n : ℕ) → OneOutcome (same_text pool texts m n)
same_text_one_outcome pool texts m n = one-outcome (same_text pool texts m n)

-- `navigate`: the answer
pub navigate_one_outcome : (T : Tables) (node : ℕ) (path : List ℕ) (wanted : Bool) → OneOutcome (navigate_of T node path wanted)
navigate_one_outcome T node path wanted = one-outcome (navigate_of T node path wanted)

-- `validate` and `validate_mode`: the answer, and every word of both path buffers, which have i and k words
pub validate_one_outcome : (T : Tables) (mode : Mode) (node schema i k : ℕ) → OneOutcome (validate_of T mode node schema i k)
validate_one_outcome T mode node schema i k = one-outcome (validate_of T mode node schema i k)

-- `compile`: the answer, and every word of the three tables that it appends to
pub compile_one_outcome : (T : Tables) (used : Used) (schema : ℕ) → OneOutcome (compile_of T used schema)
compile_one_outcome T used schema = one-outcome (compile_of T used schema)

-- `qy_text`: where the text lies
pub qy_text_one_outcome : (pool texts : List ℕ) (n : ℕ) → OneOutcome (span_of pool texts n)
qy_text_one_outcome pool texts n = one-outcome (span_of pool texts n)

-- `qy_navigate`: every field of the answer
pub qy_navigate_one_outcome : (T : Tables) (node : ℕ) (path : List ℕ) (wanted : Bool) → OneOutcome (flat_of (navigate_of T node path wanted))
qy_navigate_one_outcome T node path wanted = one-outcome (flat_of (navigate_of T node path wanted))

-- `qy_validate`, `qy_validate_source`, `qy_validate_standard`: every field of the answer, and every word of both path buffers
pub qy_validate_one_outcome : (T : Tables) (mode : Mode) (node schema i k : ℕ) → OneOutcome (left_of (validate_of T mode node schema i k))
qy_validate_one_outcome T mode node schema i k = one-outcome (left_of (validate_of T mode node schema i k))

-- `qy_compile`: every field of the answer, and every word of the three tables
pub qy_compile_one_outcome : (T : Tables) (used : Used) (schema : ℕ) → OneOutcome (left_tables_of (compile_of T used schema))
qy_compile_one_outcome T used schema = one-outcome (left_tables_of (compile_of T used schema))
