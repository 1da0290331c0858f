-- A string schema. Assumes nothing.
use mathlib.Core.Path.{◌≡◌, ◌∙◌}
use mathlib.Core.List.{List}
use Prim.Native.Nat.{ℕ}
use native.Mathlib.Omega.{arith}
use Rattle.text.specs.Text.{text_of}
use Rattle.std.specs.Prelude.{Err}
use Rattle.error.specs.declared.Mode.{Mode}
use Rattle.layout.specs.Layout.{node_a, string_minimum, string_maximum, string_pattern}
use Rattle.lookup.specs.Find.{Found}
use Rattle.schema.specs.Look.{own_words}
use Rattle.schema.proofs.Slices.{own_word}
use Rattle.error.specs.declared.Reason.{Reason}
use Rattle.judge.specs.declared.Wrong.{Wrong}
use Rattle.error.specs.declared.Reason.TheVariants as reason
use Rattle.judge.specs.Judge.{fine, first_wrong, length_in, kind_verdict, count_verdict, pattern_verdict, string_verdict}
use Rattle.judge.proofs.Verdicts.{kind_fits, kind_misfits}

module _ (m : Mode) (answer : ℕ → ℕ → Found) (pool texts nodes schemas : List ℕ) (s n : ℕ) where
  pub string_fits : kind_verdict nodes 4 3 n ≡ fine → string_verdict m answer pool texts nodes (own_words schemas s 2 14) n ≡ first_wrong (count_verdict reason.StringLength n (string_minimum schemas s) (string_maximum schemas s) (length_in m (text_of pool texts (node_a nodes n)))) (pattern_verdict answer nodes (string_pattern schemas s) n)
  unfolding string_verdict
  string_fits h =
      kind_fits nodes 4 3 n _ h ∙ rw (own_word schemas s 2 14 0 (omega arith), own_word schemas s 2 14 1 (omega arith), own_word schemas s 2 14 2 (omega arith))

  pub string_misfits : {e : Wrong Reason} → kind_verdict nodes 4 3 n ≡ Err e → string_verdict m answer pool texts nodes (own_words schemas s 2 14) n ≡ Err e
  unfolding string_verdict
  string_misfits h = kind_misfits nodes 4 3 n _ h
