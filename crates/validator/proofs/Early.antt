-- A visit that accepts at once, kind by kind. Assumes nothing.
use Prim.Native.Nat.{ℕ, suc, ◌-◌, ◌≤◌}
use mathlib.Core.Path.{◌≡◌, refl, sym, ◌∙◌}
use mathlib.Core.Bool.{Bool, true, false, true≢false}
use mathlib.Core.Option.{Option}
use native.Mathlib.Omega.{arith}
use Rattle.error.specs.declared.Mode.{Mode}
use Rattle.layout.specs.Layout.{Tables, schema_kind, schema_word}
use Rattle.lookup.specs.Lookup.{answer_of_pattern}
use Rattle.std.specs.Prelude.{Ok, Err}
use Rattle.judge.specs.Judge.{Verdict, is_fine, boolean_verdict, number_verdict, string_verdict, enum_verdict}
use Rattle.schema.specs.Shape.{Note}
use Rattle.schema.specs.Look.{slice, own_words}
use Rattle.validator.specs.Outcome.{Outcome, accepted, verdict}
use Rattle.validator.specs.Validate.{visit_of}
use Rattle.validator.specs.Met.{Accepts, note_in, inner_in}
use Rattle.validator.proofs.ByKind.{visit_accepted, inner_boolean, inner_number, inner_string, inner_enum}

pub says_nothing : (o : Outcome) → Accepts false o
unfolding Accepts
says_nothing o h = absurd (true≢false (sym h))

pub says_accepted : {r : Bool} {o : Outcome} → Accepts r o → r ≡ true → o ≡ accepted
unfolding Accepts
says_accepted a h = a h

fine : (v : Verdict) (s : ℕ) (note : Option Note) → is_fine v ≡ true → verdict v s note ≡ accepted
fine (Ok u) s note h = refl
fine (Err wrong) s note h = absurd (true≢false (sym h))

pub level_over : (level : ℕ) → (level ≡ 0 → ⊥) → level ≡ suc (level - 1)
level_over level h = omega arith

module _ (T : Tables) (mode : Mode) (level n s kind : ℕ) (over : level ≡ 0 → ⊥) (own : kind ≡ schema_kind T.schemas s) (v : Verdict) (r : Bool) (f : r ≡ is_fine v) where
  by_verdict : kind ≤ 10 → inner_in T mode (level - 1) n s ≡ verdict v s (note_in T mode s) → Accepts r (visit_of T mode level n s)
  unfolding Accepts
  by_verdict h q t = visit_accepted T mode (level - 1) n s kind own level (level_over level over) h (q ∙ fine v s (note_in T mode s) (sym f ∙ t))

  pub accepts-boolean : v ≡ boolean_verdict T.nodes n → kind ≡ 1 → Accepts r (visit_of T mode level n s)
  accepts-boolean q h = by_verdict (omega (arith, h)) (inner_boolean T mode (level - 1) n s kind own v q h)

  pub accepts-number : v ≡ number_verdict T.nodes T.numbers (own_words T.schemas s 2 14) n → kind ≡ 2 → Accepts r (visit_of T mode level n s)
  accepts-number q h = by_verdict (omega (arith, h)) (inner_number T mode (level - 1) n s kind own v q h)

  pub accepts_string : v ≡ string_verdict mode (answer_of_pattern T.pool T.texts T.patterns) T.pool T.texts T.nodes (own_words T.schemas s 2 14) n → kind ≡ 3 → Accepts r (visit_of T mode level n s)
  accepts_string q h = by_verdict (omega (arith, h)) (inner_string T mode (level - 1) n s kind own v q h)

  pub accepts_enum : v ≡ enum_verdict mode T.pool T.texts T.nodes T.links T.numbers (slice T.links (schema_word T.schemas s 2) (schema_word T.schemas s 3)) n → kind ≡ 5 → Accepts r (visit_of T mode level n s)
  accepts_enum q h = by_verdict (omega (arith, h)) (inner_enum T mode (level - 1) n s kind own v q h)
