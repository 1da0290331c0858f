-- Document 01, "Worked examples": each row is a schema, a value, a mode and what 01 says of them. Assumes nothing.
use Rattle.std.specs.Prelude.{ℕ, zero, suc, List, [], ◌∷◌, ◌++◌, take}
use Rattle.error.specs.declared.Detail.{Detail}
use Rattle.error.specs.declared.Detail.TheVariants as detail
use Rattle.error.specs.declared.Mode.{Mode}
use Rattle.error.specs.declared.Mode.TheVariants.{Source, Standard}
use Rattle.layout.specs.Layout.{Tables, tables, NONE}
use Rattle.layout.specs.Rows.{list_row, array_row}
use Rattle.validator.specs.Validate.{Validated, validate_of}

-- what an answer says: its number, the type name expected (its place in the name table, NONE where none is), the schema path
pub record Said : Type 0 where
  pub number : ℕ
  pub expected : ℕ
  pub path : List ℕ

pub record Row : Type 0 where
  pub given : Tables
  pub mode : Mode
  pub node : ℕ
  pub schema : ℕ
  pub said : Said

abbrev pub expected_in : Detail → ℕ
expected_in detail.Empty = NONE
expected_in (detail.Types expected found) = expected
expected_in (detail.Property text schema) = NONE
expected_in (detail.Key text) = NONE
expected_in (detail.Count count limit) = NONE
expected_in (detail.Multiple value multiple) = NONE
expected_in (detail.Pattern subject pattern) = NONE
expected_in (detail.Reference text) = NONE
expected_in (detail.OutOfRange range) = NONE

abbrev pub said_by : Validated → Said
said_by v = record { number = v.answer.number; expected = expected_in v.answer.detail; path = take v.answer.kinds v.schema }

-- what the public call says of a row, with buffers just long enough
unfoldable pub answer_to : Row → Said
answer_to r = said_by (validate_of r.given r.mode r.node r.schema 128 64)

unfoldable pub answers_to : List Row → List Said
answers_to [] = []
answers_to (r ∷ rs) = answer_to r ∷ answers_to rs

unfoldable pub wanted : List Row → List Said
wanted [] = []
wanted (r ∷ rs) = r.said ∷ wanted rs

-- ---- short forms
abbrev pub none : ℕ → Said
none number = record { number = number; expected = NONE; path = [] }

abbrev pub at : ℕ → List ℕ → Said
at number path = record { number = number; expected = NONE; path = path }

abbrev pub row : Tables → Mode → ℕ → ℕ → Said → Row
row T m n s said = record { given = T; mode = m; node = n; schema = s; said = said }

abbrev pub bare : ℕ → List ℕ
bare kind = kind ∷ NONE ∷ 0 ∷ 0 ∷ 0 ∷ 0 ∷ 0 ∷ 0 ∷ 0 ∷ 0 ∷ 0 ∷ 0 ∷ 0 ∷ 0 ∷ 0 ∷ 0 ∷ []

-- a number schema with a maximum and a multiple
abbrev pub number_row : ℕ → ℕ → List ℕ
number_row maximum multiple = 2 ∷ NONE ∷ NONE ∷ maximum ∷ NONE ∷ NONE ∷ multiple ∷ 0 ∷ 0 ∷ 0 ∷ 0 ∷ 0 ∷ 0 ∷ 0 ∷ 0 ∷ 0 ∷ []

-- a string schema with a maximum length and a pattern
abbrev pub string_row : ℕ → ℕ → List ℕ
string_row maximum pattern = 3 ∷ NONE ∷ NONE ∷ maximum ∷ pattern ∷ 0 ∷ 0 ∷ 0 ∷ 0 ∷ 0 ∷ 0 ∷ 0 ∷ 0 ∷ 0 ∷ 0 ∷ 0 ∷ []

abbrev pub ref_row : ℕ → List ℕ
ref_row text = 11 ∷ NONE ∷ text ∷ 0 ∷ 0 ∷ 0 ∷ 0 ∷ 0 ∷ 0 ∷ 0 ∷ 0 ∷ 0 ∷ 0 ∷ 0 ∷ 0 ∷ 0 ∷ []

-- ---- the tables
-- 127 and 128 against a maximum of 127.0
unfoldable pub p1 : Tables
p1 = tables [] [] (2 ∷ 1 ∷ 0 ∷ 0 ∷ 2 ∷ 2 ∷ 0 ∷ 0 ∷ []) [] (number_row 0 NONE) [] [] [] (4638637247447433216 ∷ 127 ∷ 128 ∷ [])

-- a ref to itself, by the name "a"
unfoldable pub p2_self : Tables
p2_self = tables (97 ∷ []) (0 ∷ 1 ∷ []) (0 ∷ 0 ∷ 0 ∷ 0 ∷ []) [] (ref_row 0) (0 ∷ 0 ∷ []) [] [] []

-- record 0 is boolean, record k + 1 is an allOf of record k
unfoldable pub nested : ℕ → List ℕ
nested zero = bare 1
nested (suc k) = nested k ++ list_row 8 NONE k 1

unfoldable pub up_to : ℕ → List ℕ
up_to zero = []
up_to (suc k) = up_to k ++ (k ∷ [])

unfoldable pub p2_nested : ℕ → Tables
p2_nested k = tables [] [] (1 ∷ 1 ∷ 0 ∷ 0 ∷ []) [] (nested k) [] [] (up_to k) []

-- 12 and 10 against multiples of 4.0 and of 0.0
unfoldable pub p3 : Tables
p3 = tables [] [] (2 ∷ 2 ∷ 0 ∷ 0 ∷ 2 ∷ 3 ∷ 0 ∷ 0 ∷ []) [] (number_row NONE 0 ++ number_row NONE 1) [] [] [] (4616189618054758400 ∷ 0 ∷ 12 ∷ 10 ∷ [])

-- the bytes C3 A9 against a maximum length of 1
unfoldable pub p4 : Tables
p4 = tables (195 ∷ 169 ∷ []) (0 ∷ 2 ∷ []) (4 ∷ 0 ∷ 0 ∷ 0 ∷ []) [] (string_row 1 NONE) [] [] [] []

-- [0.0, -0.0] against unique
unfoldable pub p5 : Tables
p5 = tables [] [] (3 ∷ 0 ∷ 0 ∷ 0 ∷ 3 ∷ 1 ∷ 1 ∷ 0 ∷ 5 ∷ 0 ∷ 2 ∷ 0 ∷ []) [] (array_row NONE NONE NONE NONE 1) [] [] (0 ∷ 1 ∷ []) (0 ∷ 9223372036854775808 ∷ [])

-- anyOf [boolean, null] on a string; an empty anyOf
unfoldable pub p6 : Tables
p6 = tables (120 ∷ []) (0 ∷ 1 ∷ []) (4 ∷ 0 ∷ 0 ∷ 0 ∷ []) [] (bare 1 ++ bare 4 ++ list_row 7 NONE 0 2 ++ list_row 7 NONE 2 0) [] [] (0 ∷ 1 ∷ []) []

-- anyOf [string with the pattern "[", null] on "x"; the pattern is answered as invalid
unfoldable pub p8 : Tables
p8 = tables (120 ∷ 91 ∷ []) (0 ∷ 1 ∷ 1 ∷ 1 ∷ []) (4 ∷ 0 ∷ 0 ∷ 0 ∷ []) [] (string_row NONE 1 ++ bare 4 ++ list_row 7 NONE 0 2) [] (1 ∷ 0 ∷ 2 ∷ []) (0 ∷ 1 ∷ []) []

-- ---- the rows
unfoldable pub examples : List Row
examples =
    row p1 Source 0 0 (none 0)
    ∷ row p1 Source 1 0 (at 5 (2 ∷ []))
    ∷ row p2_self Source 0 0 (none 23)
    ∷ row (p2_nested 63) Source 0 63 (none 0)
    ∷ row (p2_nested 64) Source 0 64 (none 23)
    ∷ row p3 Source 0 0 (none 0)
    ∷ row p3 Source 1 0 (at 6 (2 ∷ []))
    ∷ row p3 Source 1 1 (none 0)
    ∷ row p4 Source 0 0 (at 7 (3 ∷ []))
    ∷ row p4 Standard 0 0 (none 0)
    ∷ row p5 Source 2 0 (none 0)
    ∷ row p5 Standard 2 0 (at 10 (9 ∷ []))
    ∷ row p6 Source 0 2 (record { number = 1; expected = 1; path = 7 ∷ 1 ∷ [] })
    ∷ row p6 Source 0 3 (none 25)
    ∷ row p8 Source 0 2 (record { number = 1; expected = 4; path = 7 ∷ 4 ∷ [] })
    ∷ []
