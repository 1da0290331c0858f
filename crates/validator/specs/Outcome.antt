-- What a visit finds, as a value: accepted; refused with an error; an invalid pattern, which leaves no error; an end to everything
-- (23, 24, 25). Paths are those from the visited place on. Assumes nothing.
use Rattle.std.specs.Prelude.{ℕ, List, [], ◌∷◌}
use Rattle.std.proofs.Math.Option.{Option, some, none}
use Rattle.error.specs.declared.Detail.{Detail}
use Rattle.error.specs.Answers.{NONE, reason_number}
use Rattle.error.specs.Paths.{Step}
use Rattle.std.specs.Prelude.{Ok, Err}
use Rattle.judge.specs.declared.Wrong.TheVariants.{Value, BadPattern, Unanswered}
use Rattle.judge.specs.Judge.{Verdict}
use Rattle.schema.specs.Shape.{Note}

pub record Error : Type 0 where
  pub number : ℕ
  pub node : ℕ
  pub schema : ℕ
  pub hint : ℕ
  pub detail : Detail
  pub steps : List Step
  pub kinds : List ℕ

pub data Outcome : Type 0 where
  accepted : Outcome
  refused : Error → Outcome
  invalid : List Step → Outcome
  ended : ℕ → Outcome

-- the hint is the error message of the record that refuses
abbrev pub hint_of : Option Note → ℕ
hint_of none = NONE
hint_of (some x) = x.message

abbrev pub made : ℕ → ℕ → ℕ → Option Note → Detail → Error
made number node schema note detail =
    record {
      number = number;
      node = node;
      schema = schema;
      hint = hint_of note;
      detail = detail;
      steps = [];
      kinds = [];
    }

abbrev pub kinded : ℕ → Error → Error
kinded k e =
    record {
      number = e.number;
      node = e.node;
      schema = e.schema;
      hint = e.hint;
      detail = e.detail;
      steps = e.steps;
      kinds = k ∷ e.kinds;
    }

abbrev pub placed : Step → Error → Error
placed p e =
    record {
      number = e.number;
      node = e.node;
      schema = e.schema;
      hint = e.hint;
      detail = e.detail;
      steps = p ∷ e.steps;
      kinds = e.kinds;
    }

-- one schema step more; answer 14 has none
abbrev pub under : ℕ → Outcome → Outcome
under k accepted = accepted
under k (refused e) = refused (kinded k e)
under k (invalid p) = invalid p
under k (ended n) = ended n

-- one instance step more
abbrev pub place : Step → Outcome → Outcome
place s accepted = accepted
place s (refused e) = refused (placed s e)
place s (invalid p) = invalid (s ∷ p)
place s (ended n) = ended n

-- the first that is not accepted
abbrev pub and_then : Outcome → Outcome → Outcome
and_then accepted r = r
and_then (refused e) r = refused e
and_then (invalid p) r = invalid p
and_then (ended n) r = ended n

-- anyOf keeps the first error that an alternative left
abbrev pub first_of : Option Error → Error → Option Error
first_of none e = some e
first_of (some x) e = some x

-- no alternative accepts: that error, or 25
abbrev pub any_end : Option Error → Outcome
any_end none = ended 25
any_end (some e) = refused e

abbrev pub any_step : Outcome → Option Error → (Option Error → Outcome) → Outcome
any_step accepted best rest = accepted
any_step (refused e) best rest = rest (first_of best e)
any_step (invalid p) best rest = rest best
any_step (ended n) best rest = ended n

abbrev pub verdict : Verdict → ℕ → Option Note → Outcome
verdict (Ok u) schema _ = accepted
verdict (Err (Value why node detail)) schema note = refused (made (reason_number why) node schema note detail)
verdict (Err BadPattern) schema _ = invalid []
verdict (Err Unanswered) schema _ = ended 24
