-- What a schema's own words say of a node names no schema: only a missing property does, and the visit tells that itself. Assumes nothing.
use Prim.Native.Nat.{ℕ}
use mathlib.Core.Bool.{Bool, true, false}
use mathlib.Core.List.{List}
use lib.ListN.{get_or}
use lib.Dec.{eqb}
use lib.Ieee.{Float}
use Rattle.text.specs.Choice.{pick}
use Rattle.text.specs.Text.{text_of}
use Rattle.number.specs.declared.tests.NumberFault.{NumberFault}
use Rattle.number.specs.declared.tests.NumberFault.TheVariants.{OutOfRange, NotMultiple}
use Rattle.number.specs.Nearest.{nearest_of}
use Rattle.number.specs.Check.{check_number_of}
use Rattle.error.specs.declared.Mode.{Mode}
use Rattle.error.specs.declared.Reason.{Reason}
use Rattle.error.specs.declared.Reason.TheVariants as reason
use Rattle.layout.specs.Layout.{Tables, NONE, node_kind, node_a, node_b}
use Rattle.lookup.specs.Find.{Found, first_from}
use Rattle.std.specs.Prelude.{Some, None, Result, Ok, Err}
use Rattle.schema.specs.Shape.{Own}
use Rattle.judge.specs.Judge.{Verdict, enum_way, unique_way, length_in, is_short, is_long, count_verdict, first_wrong, real_at, bounds_of, number_wrong, answer_wrong, pattern_wrong, mismatch, boolean_verdict, null_verdict, value_verdict, number_verdict, pattern_verdict, string_verdict, is_listed, any_repeated, enum_verdict, items_of, unique_verdict, array_verdict, duplicate_wrong, is_duplicate, keys_verdict, object_verdict, size_verdict, judge_of}
use Rattle.validator.specs.Nodes.{nodes_of}
use Rattle.grouping.specs.Same.{Schemaless, no_words, of_types, of_key, of_count, of_multiple, of_pattern, of_range}
use Rattle.grouping.proofs.Simulation.{Says, says_fine, says_wrong, says_bad, says_unanswered, Quiet}

abbrev Mute : Verdict → Type 0
Mute v = Says Schemaless v

either_way : (b : Bool) {v w : Verdict} → Mute v → Mute w → Mute (pick b v w)
either_way true p q = p
either_way false p q = q

first_of : {v w : Verdict} → Mute v → Mute w → Mute (first_wrong v w)
first_of says_fine q = q
first_of (says_wrong p) q = says_wrong p
first_of says_bad q = says_bad
first_of says_unanswered q = says_unanswered

counts : (why : Reason) (n least most count : ℕ) → Mute (count_verdict why n least most count)
unfolding count_verdict
counts why n least most count = either_way (is_short count least) (says_wrong of_count) (either_way (is_long count most) (says_wrong of_count) says_fine)

mismatches : (nodes : List ℕ) (expected n : ℕ) → Mute (mismatch nodes expected n)
unfolding mismatch
mismatches nodes expected n = says_wrong of_types

numbers_mute : (n : ℕ) (x : Result (Unit {0}) NumberFault) → Mute (number_wrong n x)
numbers_mute n (Ok u) = says_fine
numbers_mute n (Err (OutOfRange range)) = says_wrong of_range
numbers_mute n (Err (NotMultiple value multiple)) = says_wrong of_multiple

answers_mute : (n subject pattern a : ℕ) → Mute (answer_wrong n subject pattern a)
unfolding answer_wrong
answers_mute n subject pattern a = either_way (eqb a 0) (says_wrong of_pattern) (either_way (eqb a 1) says_fine says_bad)

patterns_mute : (n subject pattern : ℕ) (x : Found) → Mute (pattern_wrong n subject pattern x)
patterns_mute n subject pattern None = says_unanswered
patterns_mute n subject pattern (Some a) = answers_mute n subject pattern a

values_mute : (numbers words : List ℕ) (n : ℕ) (x : Float) → Mute (value_verdict numbers words n x)
unfolding value_verdict
values_mute numbers words n x = numbers_mute n (check_number_of x (bounds_of numbers words))

module _ (T : Tables) (m : Mode) (answer : ℕ → ℕ → Found) where
  booleans : (n : ℕ) → Mute (boolean_verdict T.nodes n)
  unfolding boolean_verdict
  booleans n = either_way (eqb (node_kind T.nodes n) 1) says_fine (mismatches T.nodes 1 n)

  nulls : (n : ℕ) → Mute (null_verdict T.nodes n)
  unfolding null_verdict
  nulls n = either_way (eqb (node_kind T.nodes n) 0) says_fine (mismatches T.nodes 4 n)

  reals : (words : List ℕ) (n : ℕ) → Mute (number_verdict T.nodes T.numbers words n)
  unfolding number_verdict
  reals words n =
      either_way (eqb (node_kind T.nodes n) 2) (values_mute T.numbers words n (nearest_of (get_or T.numbers (node_a T.nodes n) 0)))
      (either_way (eqb (node_kind T.nodes n) 3) (values_mute T.numbers words n (real_at T.numbers (node_a T.nodes n))) (mismatches T.nodes 2 n))

  patterned : (pattern n : ℕ) → Mute (pattern_verdict answer T.nodes pattern n)
  unfolding pattern_verdict
  patterned pattern n = either_way (eqb pattern NONE) says_fine (patterns_mute n (node_a T.nodes n) pattern (answer pattern (node_a T.nodes n)))

  strings : (words : List ℕ) (n : ℕ) → Mute (string_verdict m answer T.pool T.texts T.nodes words n)
  unfolding string_verdict
  strings words n =
      either_way (eqb (node_kind T.nodes n) 4)
      (first_of (counts reason.StringLength n (get_or words 0 0) (get_or words 1 0) (length_in m (text_of T.pool T.texts (node_a T.nodes n)))) (patterned (get_or words 2 0) n))
      (mismatches T.nodes 3 n)

  enums : (words : List ℕ) (n : ℕ) → Mute (enum_verdict m T.pool T.texts T.nodes T.links T.numbers words n)
  unfolding enum_verdict
  enums words n = either_way (is_listed (enum_way m) T.pool T.texts T.nodes T.links T.numbers n words) says_fine (says_wrong no_words)

  uniques : (unique n : ℕ) → Mute (unique_verdict m T.pool T.texts T.nodes T.links T.numbers unique n)
  unfolding unique_verdict
  uniques unique n =
      either_way (eqb unique 1)
      (either_way (any_repeated (unique_way m) T.pool T.texts T.nodes T.links T.numbers (items_of T.nodes T.links n)) (says_wrong no_words) says_fine)
      says_fine

  arrays : (words : List ℕ) (n : ℕ) → Mute (array_verdict m T.pool T.texts T.nodes T.links T.numbers words n)
  unfolding array_verdict
  arrays words n =
      either_way (eqb (node_kind T.nodes n) 5) (first_of (counts reason.ArrayLength n (get_or words 0 0) (get_or words 1 0) (node_b T.nodes n)) (uniques (get_or words 2 0) n)) (mismatches T.nodes 9 n)

  judged : (w : Own) (n : ℕ) → Mute (judge_of T m answer w n)
  unfolding judge_of
  judged w n =
      either_way (eqb w.kind 1) (booleans n)
      (either_way (eqb w.kind 2) (reals w.words n)
      (either_way (eqb w.kind 3) (strings w.words n)
      (either_way (eqb w.kind 4) (nulls n)
      (either_way (eqb w.kind 5) (enums w.words n)
      (either_way (eqb w.kind 9) (arrays w.words n)
      says_fine)))))

  duplicates : (n : ℕ) (x : Found) → Mute (duplicate_wrong T.nodes T.links n x)
  duplicates n None = says_fine
  duplicates n (Some k) = says_wrong of_key

  firsts : (n : ℕ) → Mute (object_verdict T.pool T.texts T.nodes T.links n)
  unfolding object_verdict keys_verdict
  firsts n = either_way (eqb (node_kind T.nodes n) 6) (duplicates n (first_from (is_duplicate T.pool T.texts T.nodes T.links n) 0 (node_b T.nodes n))) (mismatches T.nodes 10 n)

  sizes : (least most n : ℕ) → Mute (size_verdict T.nodes least most n)
  unfolding size_verdict
  sizes least most n = counts reason.PropertyCount n least most (node_b T.nodes n)

  pub quiet-nodes : Quiet Schemaless (nodes_of T m answer)
  quiet-nodes = record { judge = judged; counted = sizes; object_first = firsts }
