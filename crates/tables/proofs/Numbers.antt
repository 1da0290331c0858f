-- The number of what a fault answers: 20. Assumes nothing.
use mathlib.Core.Path.{◌≡◌, refl}
use mathlib.Core.Bool.{Bool, true, false}
use mathlib.Core.List.{List}
use mathlib.Core.Logic.{⊎_elim}
use Prim.Native.Nat.{ℕ, zero, suc}
use lib.Dec.{ltb}
use Rattle.std.specs.Prelude.{Ok, Err, ⊤}
use Rattle.text.specs.Choice.{true_or_false}
use Rattle.error.specs.declared.Failure.{Failure}
use Rattle.error.specs.declared.Failure.TheVariants.{BadTable, WrongNumber, ShortBuffer, TooDeep, NoPatternAnswer, NoAlternative, NoBases, BaseNotObject, UnknownReference, NoRoom, NotFound}
use Rattle.error.specs.Answers.{answer_of, number_of, failure_answer}
use Rattle.layout.specs.Layout.{Tables}
use Rattle.records.specs.declared.Counts.{Counts}
use Rattle.records.specs.Records.{counts_of}
use Rattle.tables.specs.Found.{Fault, Sound, or_else}
use Rattle.tables.specs.Check.{size_or, sizes_fault, record_count, first_bad, records_from, records_fault, lent_fault, tables_fault}

pub failure_number : (failure : Failure) → (failure_answer failure).number ≡ number_of failure
unfolding answer_of
failure_number (BadTable table n) = refl
failure_number WrongNumber = refl
failure_number ShortBuffer = refl
failure_number TooDeep = refl
failure_number NoPatternAnswer = refl
failure_number NoAlternative = refl
failure_number NoBases = refl
failure_number BaseNotObject = refl
failure_number UnknownReference = refl
failure_number NoRoom = refl
failure_number NotFound = refl

-- where there is a fault, its number is 20
abbrev pub Twenty : Fault → Type 0
Twenty (Ok u) = ⊤
Twenty (Err failure) = number_of failure ≡ 20

pub else_twenty : (a b : Fault) → Twenty a → Twenty b → Twenty (or_else a b)
else_twenty (Ok u) b p q = q
else_twenty (Err failure) b p q = p

size_twenty : (good : Bool) (table : ℕ) (rest : Fault) → Twenty rest → Twenty (size_or good table rest)
unfolding size_or
size_twenty true table rest q = q
size_twenty false table rest q = refl

pub sizes_twenty : (pool texts nodes registry patterns numbers : List ℕ) (n s l : Bool) → Twenty (sizes_fault pool texts nodes registry patterns numbers n s l)
unfolding sizes_fault
sizes_twenty pool texts nodes registry patterns numbers n s l =
    size_twenty _ _ _
    (size_twenty _ _ _
    (size_twenty _ _ _
    (size_twenty _ _ _
    (size_twenty _ _ _
    (size_twenty _ _ _
    (size_twenty _ _ _
    (size_twenty _ _ Sound tt)))))))

from_twenty : (z : Counts) (T : Tables) (n table : ℕ) → Twenty (records_from z T table n)
unfolding records_from
from_twenty z T zero table = tt
from_twenty z T (suc n) table =
    ⊎_elim (λ t. rw t refl) (λ t. rw t (from_twenty z T n (suc table)))
    (true_or_false (ltb (first_bad z T table) (record_count T table)))

pub records_twenty : (T : Tables) → Twenty (records_fault T)
unfolding records_fault
records_twenty T = from_twenty (counts_of T) T 6 1

pub tables_twenty : (T : Tables) → Twenty (tables_fault T)
unfolding tables_fault lent_fault
tables_twenty T = else_twenty (lent_fault T) (records_fault T) (sizes_twenty _ _ _ _ _ _ _ _ _) (records_twenty T)
