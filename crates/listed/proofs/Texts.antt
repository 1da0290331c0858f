-- A string equals strings alone, those with its bytes: a listed string is found by its text. Assumes nothing.
use mathlib.Core.Path.{◌≡◌, refl, sym, ap, ◌∙◌}
use mathlib.Core.Bool.{Bool, false}
use mathlib.Core.List.{List, ◌∷◌}
use mathlib.Core.Logic.{⊎_elim}
use Prim.Native.Nat.{ℕ, suc}
use lib.Dec.{eqb}
use borrow.Author.Tests.{eq-eqb, eqb-true}
use Rattle.text.specs.Choice.{either, true_or_false, clash}
use Rattle.text.specs.Text.{text_of, same_bytes, same_text}
use Rattle.text.proofs.Bytes.{same_sym}
use Rattle.number.specs.declared.equal.Equality.{Equality}
use Rattle.layout.specs.Layout.{node_kind, node_a, node_count}
use Rattle.lookup.specs.Lookup.{key_is}
use Rattle.json_equality.specs.Json.{on_string, equal_json}
use Rattle.json_equality.specs.Value.{json_of, value_at, value_of, equal_nodes_of}
use Rattle.json_equality.proofs.Shapes.{shape_cases}
use Rattle.json_equality.proofs.Values.{value_string}
use Rattle.judge.specs.Judge.{is_listed}

module _ (pool texts nodes links numbers : List ℕ) (test : List ℕ → Bool) (depth x : ℕ) where
  -- a node of another kind is no string
  no_string : (node_kind nodes x ≡ 4 → ⊥) → on_string test (value_at pool texts nodes links numbers (suc depth) x) ≡ false
  unfolding value_at json_of
  no_string h =
      shape_cases (λ s. on_string test (json_of pool texts (value_at pool texts nodes links numbers depth) nodes links x s) ≡ false) nodes numbers x
      refl (λ k. refl) (λ k. refl) (λ k bits t. refl) (λ k. absurd (h k)) (λ k. refl) (λ k. refl)

module _ (way : Equality) (pool texts nodes links numbers : List ℕ) (n : ℕ) (is : node_kind nodes n ≡ 4) where
  -- equality with a string is a test of the other's text
  string_by : (x : ℕ) → equal_nodes_of way pool texts nodes links numbers n x ≡ on_string (same_bytes (text_of pool texts (node_a nodes n))) (value_of pool texts nodes links numbers x)
  unfolding equal_nodes_of value_of equal_json
  string_by x = rw (value_string pool texts nodes links numbers (node_count nodes) n is)

  -- a listed node is equal to a string where it is a string with its bytes
  pub string_is : (x : ℕ) → key_is pool texts nodes (node_a nodes n) x ≡ equal_nodes_of way pool texts nodes links numbers n x
  unfolding key_is same_text value_of
  string_is x =
      ⊎_elim
      (λ t. rw t (same_sym (text_of pool texts (node_a nodes x)) (text_of pool texts (node_a nodes n)) ∙ sym (string_by x ∙ ap (on_string (same_bytes (text_of pool texts (node_a nodes n)))) (value_string pool texts nodes links numbers (node_count nodes) x (eqb-true _ _ t)))))
      (λ t. rw t (sym (string_by x ∙ no_string pool texts nodes links numbers (same_bytes (text_of pool texts (node_a nodes n))) (node_count nodes) x (λ e. clash (eq-eqb _ _ e) t))))
      (true_or_false (eqb (node_kind nodes x) 4))

  -- so a list of nodes is searched by that test
  pub text_step : (x : ℕ) (xs : List ℕ) → is_listed way pool texts nodes links numbers n (x ∷ xs) ≡ either (key_is pool texts nodes (node_a nodes n) x) (is_listed way pool texts nodes links numbers n xs)
  unfolding is_listed
  text_step x xs = rw (string_is x)
