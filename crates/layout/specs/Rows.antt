-- A record as its words, in table order, for whoever appends one. Assumes nothing.
use Rattle.std.specs.Prelude.{ℕ, List, [], ◌∷◌}
use Rattle.layout.specs.Layout.{NONE}

-- a note
abbrev pub note_row : ℕ → ℕ → ℕ → ℕ → ℕ → ℕ → ℕ → ℕ → ℕ → List ℕ
note_row id description documentation message hidden completions more tags detection =
    id ∷ description ∷ documentation ∷ message ∷ hidden ∷ completions ∷ more ∷ tags ∷ detection ∷ []

-- an anyOf (7) or an allOf (8)
abbrev pub list_row : ℕ → ℕ → ℕ → ℕ → List ℕ
list_row kind note first count =
    kind ∷ note ∷ first ∷ count ∷ 0 ∷ 0 ∷ 0 ∷ 0 ∷ 0 ∷ 0 ∷ 0 ∷ 0 ∷ 0 ∷ 0 ∷ 0 ∷ 0 ∷ []

-- an array
abbrev pub array_row : ℕ → ℕ → ℕ → ℕ → ℕ → List ℕ
array_row note items least most unique =
    9 ∷ note ∷ items ∷ least ∷ most ∷ unique ∷ 0 ∷ 0 ∷ 0 ∷ 0 ∷ 0 ∷ 0 ∷ 0 ∷ 0 ∷ 0 ∷ 0 ∷ []

-- an object without bases: what compiling makes
abbrev pub object_row : ℕ → ℕ → ℕ → ℕ → ℕ → ℕ → ℕ → ℕ → ℕ → ℕ → ℕ → ℕ → ℕ → List ℕ
object_row note props propCount patterns pattern_count additional required required_count least most closed names naming =
    10 ∷ note ∷ props ∷ propCount ∷ patterns ∷ pattern_count ∷ additional ∷ required ∷ required_count ∷ least ∷ most ∷ closed ∷ names ∷ naming ∷ NONE ∷ 0 ∷ []
