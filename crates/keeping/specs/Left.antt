-- What a compile leaves, as tables, and what they are for. Assumes nothing.
use Rattle.std.specs.Prelude.{ℕ, ◌≡◌}
use Rattle.error.specs.declared.Mode.{Mode}
use Rattle.error.specs.declared.Used.{Used}
use Rattle.layout.specs.Layout.{Tables}
use Rattle.validator.specs.Validate.{Validated, validate_of}
use Rattle.compilation.specs.Entry.{Compiled, used_tables, compile_of}
use Rattle.grouping.specs.Values.{grown}

-- a call of `compile` that gives a schema
abbrev pub Compiles : Tables → Used → ℕ → Type 0
Compiles T u s = (compile_of T u s).answer.number ≡ 0

-- the tables lent, with the three that were written
abbrev pub lent_after : Tables → Compiled → Tables
lent_after T c = grown T (record { notes = c.notes; schemas = c.schemas; links = c.links })

-- of these the records that the answer calls used
unfoldable pub left_by : Tables → Compiled → Tables
left_by T c = used_tables (lent_after T c) c.answer.used

-- a call of `validate` on these tables, with the schema record that was answered and buffers of i and k words
abbrev pub validate_with : Tables → Compiled → Mode → ℕ → ℕ → ℕ → Validated
validate_with T c mode node i k = validate_of (left_by T c) mode node c.answer.place i k

-- this call meets the depth limit
abbrev pub MeetsDepth : Validated → Type 0
MeetsDepth v = v.answer.number ≡ 23
