-- What "same answer" keeps: number, node, hint, detail and instance path; the schema path once allOf steps are taken out. Schema record
-- numbers are replaced by what `tree` says they stand for. Assumes nothing.
use Rattle.std.specs.Prelude.{ℕ, List, [], ◌∷◌, eqb, Float}
use Rattle.std.proofs.Math.Option.{Option, some, none}
use Rattle.text.specs.Choice.{pick}
use Rattle.number.specs.declared.tests.Range.{Range}
use Rattle.error.specs.declared.Detail.{Detail}
use Rattle.error.specs.declared.Detail.TheVariants.{Empty, Types, Property, Key, Count, Multiple, Pattern, Reference, OutOfRange}
use Rattle.error.specs.Paths.{Step}
use Rattle.layout.specs.Layout.{NONE}
use Rattle.validator.specs.Outcome.{Error, Outcome, accepted, refused, invalid, ended}

-- a schema path without its allOf steps
unfoldable pub without_all : List ℕ → List ℕ
without_all [] = []
without_all (k ∷ ks) =
    let rest = without_all ks in
    pick (eqb k 8) rest (k ∷ rest)

-- a detail: a missing property and what its schema stands for, or words as they stand
pub data Told (N : Type 0) : Type 0 where
  property : ℕ → Option N → Told N
  words : Detail → Told N

pub record Refusal (N : Type 0) : Type 0 where
  pub number : ℕ
  pub node : ℕ
  pub schema : N
  pub hint : ℕ
  pub detail : Told N
  pub steps : List Step
  pub kinds : List ℕ

pub data Answered (N : Type 0) : Type 0 where
  accepts : Answered N
  refuses : Refusal N → Answered N
  invalidates : List Step → Answered N
  ends : ℕ → Answered N

-- a detail that names no schema
pub data Schemaless : Detail → Type 0 where
  no_words : Schemaless Empty
  of_types : {expected found : ℕ} → Schemaless (Types expected found)
  of_key : {text : ℕ} → Schemaless (Key text)
  of_count : {count limit : ℕ} → Schemaless (Count count limit)
  of_multiple : {value multiple : Float} → Schemaless (Multiple value multiple)
  of_pattern : {subject pattern : ℕ} → Schemaless (Pattern subject pattern)
  of_reference : {text : ℕ} → Schemaless (Reference text)
  of_range : {range : Range} → Schemaless (OutOfRange range)

module _ {N : Type 0} (tree : ℕ → N) where
  abbrev pub told_by : Detail → Told N
  told_by Empty = words Empty
  told_by (Types expected found) = words (Types expected found)
  told_by (Property text schema) = property text (pick (eqb schema NONE) none (some (tree schema)))
  told_by (Key text) = words (Key text)
  told_by (Count count limit) = words (Count count limit)
  told_by (Multiple value multiple) = words (Multiple value multiple)
  told_by (Pattern subject pattern) = words (Pattern subject pattern)
  told_by (Reference text) = words (Reference text)
  told_by (OutOfRange range) = words (OutOfRange range)

  abbrev pub refusal_by : Error → Refusal N
  refusal_by e =
      record {
        number = e.number;
        node = e.node;
        schema = tree e.schema;
        hint = e.hint;
        detail = told_by e.detail;
        steps = e.steps;
        kinds = without_all e.kinds;
      }

  unfoldable pub answered_by : Outcome → Answered N
  answered_by accepted = accepts
  answered_by (refused e) = refuses (refusal_by e)
  answered_by (invalid steps) = invalidates steps
  answered_by (ended number) = ends number
