-- Document 01: what `validate` answers, and what both path buffers then hold. Order: 20, 21 node, 21 schema, 22, then the work.
-- Assumes nothing.
use Rattle.std.specs.Prelude.{ℕ, List, [], length, ltb}
use Rattle.text.specs.Choice.{either, pick}
use Rattle.error.specs.declared.Answer.{Answer}
use Rattle.error.specs.declared.Mode.{Mode}
use Rattle.error.specs.declared.Detail.TheVariants.{Empty}
use Rattle.error.specs.Answers.{NONE, plain_answer, failure_answer, refusal_of}
use Rattle.error.specs.Paths.{levels, Step, instance_buffer, schema_buffer}
use Rattle.layout.specs.Layout.{Tables, node_count, schema_count}
use Rattle.lookup.specs.Lookup.{find_in, answer_of_pattern}
use Rattle.tables.specs.Found.{Fault, on_fault}
use Rattle.tables.specs.Check.{tables_fault}
use Rattle.schema.specs.Look.{words_of, look}
use Rattle.validator.specs.Outcome.{Outcome, accepted, refused, invalid, ended}
use Rattle.validator.specs.Visit.{visit_at}
use Rattle.validator.specs.Nodes.{nodes_of}

-- a short path buffer: under 128 words (instance) or 64 (schema)
abbrev pub instance_words : ℕ
instance_words = 128

abbrev pub schema_step_words : ℕ
schema_step_words = 64

-- the visit on these tables, with k levels left
unfoldable pub visit_of : Tables → Mode → ℕ → ℕ → ℕ → Outcome
visit_of T mode k n s =
    visit_at (nodes_of T mode (answer_of_pattern T.pool T.texts T.patterns)) (λ x. x) (look (words_of T)) (find_in T) k n s

-- an answer, and what both buffers hold beside it
pub record Validated : Type 0 where
  pub answer : Answer
  pub instance : List ℕ
  pub schema : List ℕ

abbrev pub leaving : Answer → List Step → List ℕ → ℕ → ℕ → Validated
leaving a steps kinds i k = record { answer = a; instance = instance_buffer steps i; schema = schema_buffer kinds k }

-- answers other than 1 to 14 leave both buffers all 0
abbrev pub empty_handed : Answer → ℕ → ℕ → Validated
empty_handed a i k = leaving a [] [] i k

abbrev pub answered : Outcome → ℕ → ℕ → Validated
answered accepted i k = empty_handed (plain_answer 0) i k
answered (refused e) i k =
    leaving (refusal_of e.number e.node e.schema e.hint e.detail (length e.steps) (length e.kinds)) e.steps e.kinds i k
answered (invalid steps) i k = leaving (refusal_of 14 NONE NONE NONE Empty (length steps) 0) steps [] i k
answered (ended number) i k = empty_handed (plain_answer number) i k

abbrev pub checked_first : Fault → ℕ → ℕ → Validated → Validated
checked_first f i k rest = on_fault f (λ failure. empty_handed (failure_answer failure) i k) rest

-- for buffers of i and k words
unfoldable pub validate_of : Tables → Mode → ℕ → ℕ → ℕ → ℕ → Validated
validate_of T mode n s i k =
    checked_first (tables_fault T) i k
    (pick (ltb n (node_count T.nodes))
    (pick (ltb s (schema_count T.schemas))
    (pick (either (ltb i instance_words) (ltb k schema_step_words)) (empty_handed (plain_answer 22) i k)
    (answered (visit_of T mode levels n s) i k))
    (empty_handed (plain_answer 21) i k))
    (empty_handed (plain_answer 21) i k))
