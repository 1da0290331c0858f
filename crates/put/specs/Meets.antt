-- What appending needs and leaves.
use Rattle.std.specs.Prelude.{ℕ, ◌+◌, ◌≤◌, ◌≡◌, Bool, true, List, ◌++◌, length, take}
use Rattle.append.specs.Append.{room}
use Rattle.layout.specs.Layout.{most_schemas, most_links, schema_note, properties_first, properties_count, pattern_properties_first, pattern_properties_count, required_first, required_count, object_minimum, object_maximum, object_closed, naming_convention}
use Rattle.layout.specs.Rows.{object_row}
use Rattle.compilation.specs.State.{Source, State, Out, and_then, source_of, state_of, add_schema, add_links}
use Rattle.compilation.specs.Table.{field, span, weld}
use Rattle.derive.specs.Meets.{Told, Ready, Built}
use Rattle.put.specs.Chase.{chase_at, weave_at}
use Rattle.error.specs.declared.Used.{Used}

-- count words appended
pub record Listed (L L' : List ℕ) (ul count : ℕ) (new : List ℕ) (r : Bool) : Type 0 where
  pub yes : r ≡ room most_links (length L) ul count
  pub grown : r ≡ true → take (ul + count) L' ≡ take ul L ++ new
  pub kept : take ul L' ≡ take ul L
  pub long : length L' ≡ length L

-- how a plain object ends: the links of both lists, then the record
unfoldable pub laid_at : Source → State → ℕ → List ℕ → List ℕ → ℕ → ℕ → Out
laid_at C st s ps qs additional names =
    and_then (add_links C st (weld (span C.links (properties_first C.schemas s) 2 (properties_count C.schemas s)) ps)) (λ st₁ at.
    and_then (add_links C st₁ (weld (span C.links (pattern_properties_first C.schemas s) 2 (pattern_properties_count C.schemas s)) qs)) (λ st₂ on.
    add_schema C st₂ (object_row (schema_note C.schemas s) at (properties_count C.schemas s) on (pattern_properties_count C.schemas s) additional (required_first C.schemas s) (required_count C.schemas s) (object_minimum C.schemas s) (object_maximum C.schemas s) (object_closed C.schemas s) names (naming_convention C.schemas s))))

-- the numbers of the values of a list of pairs
abbrev pub values_at : Source → ℕ → ℕ → ℕ → ℕ → List ℕ → ℕ → List ℕ
values_at C below s k n X sp = weave_at (chase_at C below) (span C.links (field C s k + 1) 2 (field C s n)) X sp

-- the links of both lists and the record appended, whatever the notes hold
pub record Laid (P T R : List ℕ) (b u : Used) (below s : ℕ) (S S' L L' X : List ℕ) (sp mid additional names : ℕ) (r : Told) : Type 0 where
  pub built : (N : List ℕ) → Built (laid_at (source_of P T R b N S L) (state_of u N S L) s (values_at (source_of P T R b N S L) below s 2 3 X sp) (values_at (source_of P T R b N S L) below s 4 5 X mid) additional names) (source_of P T R b N S L) (source_of P T R b N S' L') u N S' L' X X sp r

pub record LayReady (b u : Used) (X : List ℕ) (sp mid : ℕ) : Type 0 where
  pub ready : Ready b u X sp
  pub middle : mid ≤ most_schemas
