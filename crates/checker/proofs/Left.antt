-- A validation's flat answer, and a compile's, put together from the two calls that make it. Assumes nothing.
use mathlib.Core.Path.{◌≡◌, ap, ◌∙◌}
use mathlib.Core.List.{List}
use Prim.Native.Nat.{ℕ}
use Rattle.error.specs.declared.Answer.{Answer}
use Rattle.validator.specs.Validate.{Validated}
use Rattle.compilation.specs.Entry.{Compiled}
use Rattle.checker.specs.declared.flat.Flat.{Flat}
use Rattle.checker.specs.Flat.{flat_of}
use Rattle.checker.specs.Validated.{Left, left_of}
use Rattle.checker.specs.Compiled.{LeftTables, left_tables_of}

abbrev pub made : Answer → List ℕ → List ℕ → Validated
made a instance schema = record { answer = a; instance = instance; schema = schema }

abbrev pub left : Flat → List ℕ → List ℕ → Left
left r instance schema = record { answer = r; instance = instance; schema = schema }

pub left_made : (r : Flat) (a : Answer) (instance schema : List ℕ) (v : Validated) → r ≡ flat_of a → made a instance schema ≡ v → left r instance schema ≡ left_of v
left_made r a instance schema v p q = ap (λ (x : Flat). left x instance schema) p ∙ ap left_of q

abbrev compiled : Answer → List ℕ → List ℕ → List ℕ → Compiled
compiled a notes schemas links = record { answer = a; notes = notes; schemas = schemas; links = links }

abbrev left_tables : Flat → List ℕ → List ℕ → List ℕ → LeftTables
left_tables r notes schemas links = record { answer = r; notes = notes; schemas = schemas; links = links }

pub left-compiled : (r : Flat) (a : Answer) (notes schemas links : List ℕ) (v : Compiled) → r ≡ flat_of a → compiled a notes schemas links ≡ v → left_tables r notes schemas links ≡ left_tables_of v
left-compiled r a notes schemas links v p q = ap (λ (x : Flat). left_tables x notes schemas links) p ∙ ap left_tables_of q
