-- What a check finds: nothing, or a table and its first bad record. Assumes nothing.
use Rattle.std.specs.Prelude.{ℕ, Bool, ltb, Result, Ok, Err, ⊤}
use Rattle.text.specs.Choice.{pick}
use Rattle.error.specs.declared.Failure.{Failure}
use Rattle.error.specs.declared.Failure.TheVariants.{BadTable}
use Rattle.layout.specs.Walk.{first}

abbrev pub Fault : Type 0
Fault = Result ⊤ Failure

abbrev pub Sound : Fault
Sound = Ok tt

-- a table, and its first bad record or NONE for a size
abbrev pub Bad : ℕ → ℕ → Fault
Bad table n = Err (BadTable table n)

-- what a fault makes of its failure; without one, the rest
abbrev pub on_fault : {A : Type 0} → Fault → (Failure → A) → A → A
on_fault (Ok u) bad rest = rest
on_fault (Err failure) bad rest = bad failure

abbrev pub or_else : Fault → Fault → Fault
or_else f rest = on_fault f (λ failure. Err failure) rest

-- of the n records of a table, each good where f holds
unfoldable pub bad_or : ℕ → (ℕ → Bool) → ℕ → Fault → Fault
bad_or table f n rest = pick (ltb (first f 0 n) n) (Bad table (first f 0 n)) rest
