-- What the visit cites: a record's verdict by its kind. Assumes nothing.
use mathlib.Core.Path.{◌≡◌, refl}
use Prim.Native.Nat.{ℕ}
use Rattle.error.specs.declared.Mode.{Mode}
use Rattle.layout.specs.Layout.{Tables, schema_kind, list_first, list_count}
use Rattle.lookup.specs.Find.{Found}
use Rattle.schema.specs.Look.{words_of, slice, own_words, own_of, array_of}
use Rattle.judge.specs.Judge.{fine, boolean_verdict, number_verdict, string_verdict, null_verdict, enum_verdict, array_verdict, judge_of}

module _ (T : Tables) (m : Mode) (answer : ℕ → ℕ → Found) (s n : ℕ) where
  pub judge_true : schema_kind T.schemas s ≡ 0 → judge_of T m answer (own_of (words_of T) s) n ≡ fine
  unfolding judge_of own_of
  judge_true h = rw h

  pub judge_boolean : schema_kind T.schemas s ≡ 1 → judge_of T m answer (own_of (words_of T) s) n ≡ boolean_verdict T.nodes n
  unfolding judge_of own_of
  judge_boolean h = rw h

  pub judge_number : schema_kind T.schemas s ≡ 2 → judge_of T m answer (own_of (words_of T) s) n ≡ number_verdict T.nodes T.numbers (own_words T.schemas s 2 14) n
  unfolding judge_of own_of
  judge_number h = rw h

  pub judge_string : schema_kind T.schemas s ≡ 3 → judge_of T m answer (own_of (words_of T) s) n ≡ string_verdict m answer T.pool T.texts T.nodes (own_words T.schemas s 2 14) n
  unfolding judge_of own_of
  judge_string h = rw h

  pub judge_null : schema_kind T.schemas s ≡ 4 → judge_of T m answer (own_of (words_of T) s) n ≡ null_verdict T.nodes n
  unfolding judge_of own_of
  judge_null h = rw h

  pub judge_enum : schema_kind T.schemas s ≡ 5 → judge_of T m answer (own_of (words_of T) s) n ≡ enum_verdict m T.pool T.texts T.nodes T.links T.numbers (slice T.links (list_first T.schemas s) (list_count T.schemas s)) n
  unfolding judge_of own_of
  judge_enum h = rw h

  pub judge_any : schema_kind T.schemas s ≡ 6 → judge_of T m answer (own_of (words_of T) s) n ≡ fine
  unfolding judge_of own_of
  judge_any h = rw h

  pub judge_array : judge_of T m answer (array_of (words_of T) s) n ≡ array_verdict m T.pool T.texts T.nodes T.links T.numbers (own_words T.schemas s 3 3) n
  unfolding judge_of array_of
  judge_array = refl
