-- Document 01, "Answers by number": the number and the values of each case of a detail. Assumes nothing.
use Rattle.std.specs.Prelude.{ℕ, Float}
use Rattle.std.specs.Float.{binary64}
use Rattle.std.specs.Float.Ieee.{of_bits}
use Rattle.number.specs.declared.tests.Range.{Range}
use Rattle.number.specs.declared.tests.Range.TheVariants.{BelowMinimum, AboveMaximum, AtOrBelowExclusiveMinimum, AtOrAboveExclusiveMaximum}
use Rattle.error.specs.declared.Detail.{Detail}
use Rattle.error.specs.declared.Detail.TheVariants.{Empty, Types, Property, Key, Count, Multiple, Pattern, Reference, OutOfRange}
use Rattle.error.specs.Answers.{NONE}

-- a range names the one bound broken
abbrev pub range_case : Range → ℕ
range_case (BelowMinimum value bound) = 8
range_case (AboveMaximum value bound) = 9
range_case (AtOrBelowExclusiveMinimum value bound) = 10
range_case (AtOrAboveExclusiveMaximum value bound) = 11

-- ... and holds the value's f64
abbrev pub range_value : Range → Float
range_value (BelowMinimum value bound) = value
range_value (AboveMaximum value bound) = value
range_value (AtOrBelowExclusiveMinimum value bound) = value
range_value (AtOrAboveExclusiveMaximum value bound) = value

-- ... and the bound's
abbrev pub range_bound : Range → Float
range_bound (BelowMinimum value bound) = bound
range_bound (AboveMaximum value bound) = bound
range_bound (AtOrBelowExclusiveMinimum value bound) = bound
range_bound (AtOrAboveExclusiveMaximum value bound) = bound

-- which case
abbrev pub detail_case : Detail → ℕ
detail_case Empty = 0
detail_case (Types expected found) = 1
detail_case (Property text schema) = 2
detail_case (Key text) = 3
detail_case (Count count limit) = 4
detail_case (Multiple value multiple) = 5
detail_case (Pattern subject pattern) = 6
detail_case (Reference text) = 7
detail_case (OutOfRange range) = range_case range

-- its two words, NONE where it has none
abbrev pub detail_a : Detail → ℕ
detail_a Empty = NONE
detail_a (Types expected found) = expected
detail_a (Property text schema) = text
detail_a (Key text) = text
detail_a (Count count limit) = count
detail_a (Multiple value multiple) = NONE
detail_a (Pattern subject pattern) = subject
detail_a (Reference text) = text
detail_a (OutOfRange range) = NONE

abbrev pub detail_b : Detail → ℕ
detail_b Empty = NONE
detail_b (Types expected found) = found
detail_b (Property text schema) = schema
detail_b (Key text) = NONE
detail_b (Count count limit) = limit
detail_b (Multiple value multiple) = NONE
detail_b (Pattern subject pattern) = pattern
detail_b (Reference text) = NONE
detail_b (OutOfRange range) = NONE

-- its two numbers, 0.0 where it has none: the value, and the bound or multiple
abbrev pub no_real : Float
no_real = of_bits binary64 0

abbrev pub detail_value : Detail → Float
detail_value Empty = no_real
detail_value (Types expected found) = no_real
detail_value (Property text schema) = no_real
detail_value (Key text) = no_real
detail_value (Count count limit) = no_real
detail_value (Multiple value multiple) = value
detail_value (Pattern subject pattern) = no_real
detail_value (Reference text) = no_real
detail_value (OutOfRange range) = range_value range

abbrev pub detail_bound : Detail → Float
detail_bound Empty = no_real
detail_bound (Types expected found) = no_real
detail_bound (Property text schema) = no_real
detail_bound (Key text) = no_real
detail_bound (Count count limit) = no_real
detail_bound (Multiple value multiple) = multiple
detail_bound (Pattern subject pattern) = no_real
detail_bound (Reference text) = no_real
detail_bound (OutOfRange range) = range_bound range
