-- The parts of a schema record's rule make up the rule. Assumes nothing.
use mathlib.Core.Path.{◌≡◌, refl}
use mathlib.Core.Bool.{Bool, true, false}
use mathlib.Core.Logic.{⊎_elim}
use mathlib.Core.List.{List}
use Prim.Native.Nat.{ℕ}
use borrow.Author.Tests.{eqb-true, ne_eqb}
use lib.Dec.{eqb}
use Rattle.text.specs.Choice.{either, either_cases, clash}
use Rattle.records.specs.declared.Counts.{Counts}
use Rattle.rules.specs.Schemas.{list_ok, object_ok, schema_rule}
use Rattle.rules.specs.Parts.{is_list, list_limit, plain_rule}

neither_left : (s t : Bool) → either s t ≡ false → s ≡ false
neither_left true t h = h
neither_left false t h = refl

neither_right : (s t : Bool) → either s t ≡ false → t ≡ false
neither_right true t h = clash refl h
neither_right false t h = h

module _ (z : Counts) (pool texts links schemas : List ℕ) (s kind : ℕ) {r : Bool} where
  -- with the kind known
  listed : {k : ℕ} → kind ≡ k → list_ok links schemas s (list_limit z s k) ≡ schema_rule z pool texts links schemas s k → r ≡ list_ok links schemas s (list_limit z s kind) → r ≡ schema_rule z pool texts links schemas s kind
  listed h l e = cc

  pub rule_list : is_list kind ≡ true → r ≡ list_ok links schemas s (list_limit z s kind) → r ≡ schema_rule z pool texts links schemas s kind
  unfolding is_list list_limit schema_rule
  rule_list t e =
      ⊎_elim (λ h. listed (eqb-true kind 5 h) refl e)
      (λ u. ⊎_elim (λ h. listed (eqb-true kind 7 h) refl e) (λ h. listed (eqb-true kind 8 h) refl e) (either_cases (eqb kind 7) (eqb kind 8) u))
      (either_cases (eqb kind 5) (either (eqb kind 7) (eqb kind 8)) t)

  pub rule_object : kind ≡ 10 → r ≡ object_ok z pool texts links schemas s → r ≡ schema_rule z pool texts links schemas s kind
  unfolding schema_rule
  rule_object h e = rw h e

  pub rule_plain : is_list kind ≡ false → (kind ≡ 10 → ⊥) → r ≡ plain_rule z schemas s kind → r ≡ schema_rule z pool texts links schemas s kind
  unfolding is_list schema_rule plain_rule
  rule_plain t h e =
      let u = neither_right (eqb kind 5) (either (eqb kind 7) (eqb kind 8)) t in
      simp (neither_left (eqb kind 5) (either (eqb kind 7) (eqb kind 8)) t, neither_left (eqb kind 7) (eqb kind 8) u, neither_right (eqb kind 7) (eqb kind 8) u, ne_eqb kind 10 h) e
