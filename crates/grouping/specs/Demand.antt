-- Document 01, demand 3, what it says of two compiled schemas: "the results have the same fields, nested joins opened; and where neither
-- check meets the depth limit every value gets the same answer". Assumes nothing.
use Rattle.std.specs.Prelude.{ℕ, ◌≤◌, ◌≡◌, take}
use Rattle.text.specs.Text.{same_text}
use Rattle.error.specs.declared.Mode.{Mode}
use Rattle.error.specs.Paths.{levels}
use Rattle.layout.specs.Layout.{Tables, NONE, most_notes, most_schemas}
use Rattle.lookup.specs.Lookup.{find_in}
use Rattle.schema.specs.Look.{words_of, look}
use Rattle.validator.specs.Outcome.{ended}
use Rattle.validator.specs.Validate.{visit_of, Validated}
use Rattle.compilation.specs.Compile.{Result, Room, compile_at}
use Rattle.grouping.specs.Tree.{whole, view}
use Rattle.grouping.specs.Grown.{Tree, trees}
use Rattle.grouping.specs.Same.{without_all, told_by, answered_by}

-- what schema record s stands for, nested joins opened: in additional an allOf, in names an anyOf, without note, is replaced by its parts,
-- again and again; the bases of uncompiled objects are left out
unfoldable pub opened : Tables → ℕ → Tree
opened T s = whole trees (view trees (look (words_of T)) s)

-- room within the limits of tables 3 and 4
pub record Limited (R : Room) : Type 0 where
  pub notes : R.notes ≤ most_notes
  pub schemas : R.schemas ≤ most_schemas

-- compiling schema record s of these tables
unfoldable pub compiling : Tables → Room → ℕ → Result ℕ
compiling T R s = compile_at R (same_text T.pool T.texts) (find_in T) levels s (words_of T)

-- this visit meets the depth limit
abbrev pub TooDeep : Tables → Mode → ℕ → ℕ → Type 0
TooDeep T mode node s = visit_of T mode levels node s ≡ ended 23

pub record SameSchema (T : Tables) (r : ℕ) (T' : Tables) (r' : ℕ) : Type 0 where
  pub fields : opened T r ≡ opened T' r'
  pub answers : (mode : Mode) (node : ℕ) → (TooDeep T mode node r → ⊥) → (TooDeep T' mode node r' → ⊥) →
      answered_by (opened T) (visit_of T mode levels node r) ≡ answered_by (opened T') (visit_of T' mode levels node r')

-- ---- said of the calls of `validate`
-- a call that comes to an answer for the value: tables, node, schema and buffers are good, and the depth limit is not met
pub record Comes (v : Validated) : Type 0 where
  pub tables : v.answer.number ≡ 20 → ⊥
  pub places : v.answer.number ≡ 21 → ⊥
  pub buffers : v.answer.number ≡ 22 → ⊥
  pub depth : v.answer.number ≡ 23 → ⊥

-- the same number, node, hint, detail and instance path; the same schema path once its allOf steps are taken out; schema records that stand
-- for the same tree
pub record SameCall (T T' : Tables) (v v' : Validated) : Type 0 where
  pub number : v.answer.number ≡ v'.answer.number
  pub node : v.answer.node ≡ v'.answer.node
  pub hint : v.answer.hint ≡ v'.answer.hint
  pub detail : told_by (opened T) v.answer.detail ≡ told_by (opened T') v'.answer.detail
  pub steps : v.answer.steps ≡ v'.answer.steps
  pub instance : v.instance ≡ v'.instance
  pub path : without_all (take v.answer.kinds v.schema) ≡ without_all (take v'.answer.kinds v'.schema)
  pub schema : (v.answer.schema ≡ NONE → ⊥) → (v'.answer.schema ≡ NONE → ⊥) → opened T v.answer.schema ≡ opened T' v'.answer.schema
