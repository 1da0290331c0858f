-- Numbers, strings and enums that pass. Assumes nothing.
use Prim.Native.Nat.{ℕ, ◌+◌, ◌<◌}
use mathlib.Core.Path.{◌≡◌, refl, sym, ap, ◌∙◌}
use mathlib.Core.Bool.{Bool, true, false, not, ◌||◌}
use mathlib.Core.Logic.{⊎_elim}
use mathlib.Core.List.{List, [], ◌∷◌}
use native.Mathlib.Omega.{arith}
use lib.ListN.{get_or}
use lib.Dec.{eqb}
use lib.Ieee.{Float, nan, lt, le}
use borrow.Author.Tests.{eqb-true, eq-eqb}
use Rattle.text.specs.Choice.{clash, true_or_false, both_left, both_right, both-holds}
use Rattle.std.specs.List.{list_any, range_with_len}
use Rattle.text.specs.Text.{text_of, same_text}
use Rattle.text.proofs.Bytes.{same_complete}
use Rattle.number.specs.declared.equal.Equality.{Equality}
use Rattle.number.specs.Nearest.{nearest_of}
use Rattle.number.specs.Check.{not_multiple_of}
use Rattle.number.proofs.Passing.{absent_exclusive_minimum, absent_exclusive_maximum, absent-minimum, absent-maximum, absent_multiple, after_range}
use Rattle.error.specs.declared.Mode.{Mode}
use Rattle.layout.specs.Layout.{NONE, node_kind, node_a, schema_word, list_first, list_count, string_minimum, string_maximum, string_pattern, number_minimum, number_maximum, number_exclusive_minimum, number_exclusive_maximum, number_multiple}
use Rattle.lookup.specs.Find.{Found}
use Rattle.lookup.specs.Lookup.{key_is}
use Rattle.json_equality.specs.Value.{equal_nodes_of}
use Rattle.schema.specs.Look.{slice, own_words}
use Rattle.schema.proofs.Slices.{own_word}
use Rattle.error.specs.declared.Reason.TheVariants as reason
use Rattle.judge.specs.Judge.{fine, enum_way, length_in, count_verdict, pattern_verdict, real_at, bounds_of, number_wrong, value_verdict, number_verdict, string_verdict, is_listed, enum_verdict}
use Rattle.judge.proofs.Strings.{string_fits}
use Rattle.listed.proofs.Lists.{any_slice}
use Rattle.listed.proofs.Texts.{string_is}
use Rattle.glance.specs.Glance.{numbered, at_least, at_most}

-- ---- bounds
not_true : (t : Bool) → not t ≡ true → t ≡ false
not_true true h = clash h refl
not_true false h = refl

real_none : (numbers : List ℕ) (place : ℕ) → place ≡ NONE → real_at numbers place ≡ nan
unfolding real_at
real_none numbers place h = rw (eq-eqb place NONE h)

module _ (numbers : List ℕ) (place : ℕ) (v : Float) where
  pub least_absent : place ≡ NONE → true ≡ at_least numbers place v
  unfolding at_least
  least_absent h = rw (real_none numbers place h, absent-minimum v)

  pub most-absent : place ≡ NONE → true ≡ at_most numbers place v
  unfolding at_most
  most-absent h = rw (real_none numbers place h, absent-maximum v)

-- ---- numbers
module _ (numbers schemas : List ℕ) (s k : ℕ) {place : ℕ} (low : k < 14) (read : place ≡ schema_word schemas s (2 + k)) where
  bound_at : real_at numbers (get_or (own_words schemas s 2 14) k 0) ≡ real_at numbers place
  bound_at = ap (real_at numbers) (own_word schemas s 2 14 k low ∙ sym read)

  bound_none : place ≡ NONE → real_at numbers (get_or (own_words schemas s 2 14) k 0) ≡ nan
  bound_none h = bound_at ∙ real_none numbers place h

-- a value within its bounds, the other three absent
module _ (numbers schemas : List ℕ) (n s : ℕ) (v : Float) {least most low high multiple : ℕ} (le₁ : least ≡ number_minimum schemas s) (mo : most ≡ number_maximum schemas s) (lo : low ≡ number_exclusive_minimum schemas s) (lo₀ : low ≡ NONE) (hi : high ≡ number_exclusive_maximum schemas s) (hi₀ : high ≡ NONE) (mu : multiple ≡ number_multiple schemas s) (mu₀ : multiple ≡ NONE) where
  value_within : at_least numbers least v ≡ true → at_most numbers most v ≡ true → value_verdict numbers (own_words schemas s 2 14) n v ≡ fine
  unfolding value_verdict at_least at_most bounds_of
  value_within a b =
      ap (number_wrong n)
      (sym (after_range v (bounds_of numbers (own_words schemas s 2 14))
      (ap (lt v) (bound_at numbers schemas s 0 (omega arith) le₁) ∙ not_true (lt v (real_at numbers least)) a)
      (ap (λ (x : Float). lt x v) (bound_at numbers schemas s 1 (omega arith) mo) ∙ not_true (lt (real_at numbers most) v) b)
      (ap (le v) (bound_none numbers schemas s 2 (omega arith) lo lo₀) ∙ absent_exclusive_minimum v)
      (ap (λ (x : Float). le x v) (bound_none numbers schemas s 3 (omega arith) hi hi₀) ∙ absent_exclusive_maximum v)
      (ap (not_multiple_of v) (bound_none numbers schemas s 4 (omega arith) mu mu₀) ∙ absent_multiple v)))

module _ (nodes numbers schemas : List ℕ) (n s : ℕ) where
  pub number_fine : node_kind nodes n ≡ 2 → number_exclusive_minimum schemas s ≡ NONE → number_exclusive_maximum schemas s ≡ NONE → number_multiple schemas s ≡ NONE → at_least numbers (number_minimum schemas s) (nearest_of (get_or numbers (node_a nodes n) 0)) ≡ true → at_most numbers (number_maximum schemas s) (nearest_of (get_or numbers (node_a nodes n) 0)) ≡ true → number_verdict nodes numbers (own_words schemas s 2 14) n ≡ fine
  unfolding number_verdict
  number_fine ki lo hi mu a b =
      rw (eq-eqb (node_kind nodes n) 2 ki) (value_within numbers schemas n s (nearest_of (get_or numbers (node_a nodes n) 0)) refl refl refl lo refl hi refl mu a b)

-- ---- strings
module _ (m : Mode) (answer : ℕ → ℕ → Found) (pool texts nodes schemas : List ℕ) (n s : ℕ) where
  pub string_fine : node_kind nodes n ≡ 4 → string_pattern schemas s ≡ NONE → count_verdict reason.StringLength n (string_minimum schemas s) (string_maximum schemas s) (length_in m (text_of pool texts (node_a nodes n))) ≡ fine → string_verdict m answer pool texts nodes (own_words schemas s 2 14) n ≡ fine
  unfolding pattern_verdict
  string_fine ki pa co =
      string_fits m answer pool texts nodes schemas s n (rw (eq-eqb (node_kind nodes n) 4 ki))
      ∙ rw (co, eq-eqb (string_pattern schemas s) NONE pa)

-- ---- enums
-- strings of one text are equal, in every way
same_strings : (way : Equality) (pool texts nodes links numbers : List ℕ) (n x : ℕ) → node_kind nodes n ≡ 4 → node_kind nodes x ≡ 4 → node_a nodes x ≡ node_a nodes n → equal_nodes_of way pool texts nodes links numbers n x ≡ true
unfolding key_is same_text
same_strings way pool texts nodes links numbers n x p q e =
    sym (string_is way pool texts nodes links numbers n p x)
    ∙ both-holds (eq-eqb (node_kind nodes x) 4 q) (same_complete (text_of pool texts (node_a nodes x)) (text_of pool texts (node_a nodes n)) (ap (text_of pool texts) e))

-- where one test leads to another, a list that has one has the other
or_right : (s : Bool) {t : Bool} → t ≡ true → (s || t) ≡ true
or_right true h = refl
or_right false h = h

any_more : (f g : ℕ → Bool) → ((k : ℕ) → f k ≡ true → g k ≡ true) → (xs : List ℕ) → list_any f xs ≡ true → list_any g xs ≡ true
any_more f g more [] h = h
any_more f g more (x ∷ xs) h =
    ⊎_elim (λ t. rw (more x t) refl) (λ t. or_right (g x) (any_more f g more xs (rw t at h))) (true_or_false (f x))

module _ (m : Mode) (pool texts nodes schemas links numbers : List ℕ) (n s : ℕ) where
  enum_has : is_listed (enum_way m) pool texts nodes links numbers n (slice links (list_first schemas s) (list_count schemas s)) ≡ true → enum_verdict m pool texts nodes links numbers (slice links (list_first schemas s) (list_count schemas s)) n ≡ fine
  unfolding enum_verdict
  enum_has h = rw h

  pub enum_fine : node_kind nodes n ≡ 4 → list_any (λ k. numbered nodes (node_a nodes n) (get_or links (list_first schemas s + k) 0)) (range_with_len 0 (list_count schemas s)) ≡ true → enum_verdict m pool texts nodes links numbers (slice links (list_first schemas s) (list_count schemas s)) n ≡ fine
  unfolding numbered is_listed
  enum_fine ki h =
      let first = list_first schemas s in
      let listed = is_listed (enum_way m) pool texts nodes links numbers n in
      let equals = equal_nodes_of (enum_way m) pool texts nodes links numbers n in
      let start : first + 0 ≡ first = omega arith in
      enum_has (sym (any_slice listed equals refl (λ x xs. refl) links first 0 (list_count schemas s) ∙ ap (λ (at : ℕ). listed (slice links at (list_count schemas s))) start)
      ∙ any_more (λ k. numbered nodes (node_a nodes n) (get_or links (first + k) 0)) (λ k. equals (get_or links (first + k) 0))
      (λ k t. let x = get_or links (first + k) 0 in same_strings (enum_way m) pool texts nodes links numbers n x ki (eqb-true (node_kind nodes x) 4 (both_left (eqb (node_kind nodes x) 4) (eqb (node_a nodes x) (node_a nodes n)) t)) (eqb-true (node_a nodes x) (node_a nodes n) (both_right (eqb (node_kind nodes x) 4) (eqb (node_a nodes x) (node_a nodes n)) t)))
      (range_with_len 0 (list_count schemas s)) h)
