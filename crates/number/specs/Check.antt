-- The five tests of a number schema. A comparison with a NaN is false, so a NaN passes each. Assumes nothing.
use Rattle.std.specs.Prelude.{Bool, true, false, negsuc, Float, Result, Ok, Err}
use Rattle.std.specs.Float.{nan, inf, fin, binary64}
use Rattle.std.specs.Float.Ieee.{lt, le, rem}
use Rattle.number.specs.declared.tests.Bounds.{Bounds}
use Rattle.number.specs.declared.tests.NumberFault.{NumberFault}
use Rattle.number.specs.declared.tests.NumberFault.TheVariants.{OutOfRange, NotMultiple}
use Rattle.number.specs.declared.tests.Range.TheVariants.{BelowMinimum, AboveMaximum, AtOrBelowExclusiveMinimum, AtOrAboveExclusiveMaximum}

-- the absolute value
unfoldable pub abs : Float → Float
abs nan = nan
abs (inf s) = inf false
abs (fin s m e) = fin false m e

-- 2 ^ -52
abbrev pub step : Float
step = fin false 1 (negsuc 51)

-- the absolute value of the remainder, exact and its quotient cut towards zero, is above 2 ^ -52
unfoldable pub not_multiple_of : Float → Float → Bool
not_multiple_of value multiple = lt step (abs (rem binary64 value multiple))

-- the fault where its test refuses, else what the others answer
abbrev pub refused : Bool → NumberFault → Result (Unit {0}) NumberFault → Result (Unit {0}) NumberFault
refused true fault others = Err fault
refused false fault others = others

-- refused in order: below minimum; above maximum; at or below exclusive minimum; at or above exclusive maximum; no multiple
unfoldable pub check_number_of : Float → Bounds → Result (Unit {0}) NumberFault
check_number_of v b =
    refused (lt v b.minimum) (OutOfRange (BelowMinimum v b.minimum))
    (refused (lt b.maximum v) (OutOfRange (AboveMaximum v b.maximum))
    (refused (le v b.exclusive_minimum) (OutOfRange (AtOrBelowExclusiveMinimum v b.exclusive_minimum))
    (refused (le b.exclusive_maximum v) (OutOfRange (AtOrAboveExclusiveMaximum v b.exclusive_maximum))
    (refused (not_multiple_of v b.multiple_of) (NotMultiple v b.multiple_of) (Ok tt)))))
