-- One key, one name and one pattern answer, from the words that were read. Assumes nothing.
use mathlib.Core.Path.{◌≡◌, sym, ap, ◌∙◌}
use mathlib.Core.Bool.{Bool, true, false, true≢false, not}
use mathlib.Core.List.{List}
use mathlib.Core.Logic.{⊎_elim}
use Prim.Native.Nat.{ℕ, ◌<◌}
use native.Mathlib.Omega.{arith}
use lib.ListN.{length}
use lib.Dec.{eqb, ltb}
use borrow.Author.Tests.{eq-eqb, ne_eqb, ltb-true, lt-ltb, le-ltb}
use Rattle.text.specs.Choice.{true_or_false, both_left, both_right}
use Rattle.text.specs.Text.{text_length, text_fits, text_of, same_bytes, same_text}
use Rattle.text.proofs.Bytes.{same_no_length}
use Rattle.text.proofs.Parts.{text_long, text_out}
use Rattle.layout.specs.Layout.{node_kind, node_a, pair_key, pair_value, entry_text, pattern_text, subject_text}
use Rattle.lookup.specs.Find.{Found}
use Rattle.std.specs.Prelude.{Some, None}
use Rattle.lookup.specs.Lookup.{other_length, key_is, pair_has_key, property_place, property_of, entry_is_named, answers_pattern}

not_equal : (a b : ℕ) → not (eqb a b) ≡ true → a ≡ b → ⊥
not_equal a b t e = true≢false (sym t ∙ ap not (eq-eqb a b e))

module _ (texts : List ℕ) (t n : ℕ) where
  pub length_compared : {len : ℕ} → len ≡ text_length texts t → 0 < n → not (eqb len n) ≡ other_length texts t n
  unfolding other_length
  length_compared e h = rw (← e, lt-ltb 0 n h)

  pub length-free : (0 < n → ⊥) → false ≡ other_length texts t n
  unfolding other_length
  length-free h = rw (le-ltb 0 n (omega arith))

-- a text of another length has other bytes: it is as long as its record says, or empty
pub other_bytes : (pool texts bytes : List ℕ) (t : ℕ) → other_length texts t (length bytes) ≡ true → same_bytes (text_of pool texts t) bytes ≡ false
unfolding other_length
other_bytes pool texts bytes t o =
    let some : 0 < length bytes = ltb-true 0 (length bytes) (both_left (ltb 0 (length bytes)) (not (eqb (text_length texts t) (length bytes))) o) in
    let other = not_equal (text_length texts t) (length bytes) (both_right (ltb 0 (length bytes)) (not (eqb (text_length texts t) (length bytes))) o) in
    same_no_length (text_of pool texts t) bytes
    (λ e. ⊎_elim (λ f. other (sym (text_long pool texts t f) ∙ e)) (λ f. let z = sym (ap length (text_out pool texts t f)) ∙ e in omega arith) (true_or_false (text_fits pool texts t)))

module _ (pool texts : List ℕ) (t text : ℕ) {bytes : List ℕ} (hand : bytes ≡ text_of pool texts text) {r : Bool} where
  pub text_other : r ≡ other_length texts t (length bytes) → r ≡ true → false ≡ same_text pool texts t text
  unfolding same_text
  text_other o h = sym (ap (same_bytes (text_of pool texts t)) (sym hand) ∙ other_bytes pool texts bytes t (sym o ∙ h))

  pub text_compared : {a : List ℕ} → a ≡ text_of pool texts t → r ≡ same_bytes a bytes → r ≡ same_text pool texts t text
  unfolding same_text
  text_compared e h = h ∙ ap (λ (l : List ℕ). same_bytes l bytes) e ∙ ap (same_bytes (text_of pool texts t)) hand

module _ (pool texts : List ℕ) where
  module _ (nodes : List ℕ) (text key : ℕ) {kind : ℕ} (read : kind ≡ node_kind nodes key) where
    pub key_string : {a : ℕ} {r : Bool} → kind ≡ 4 → a ≡ node_a nodes key → r ≡ same_text pool texts a text → r ≡ key_is pool texts nodes text key
    unfolding key_is
    key_string k e h = rw (← read, eq-eqb kind 4 k, ← e) h

    pub key_other : (kind ≡ 4 → ⊥) → false ≡ key_is pool texts nodes text key
    unfolding key_is
    key_other k = rw (← read, ne_eqb kind 4 k)

  module _ (text : ℕ) {t : ℕ} {r : Bool} where
    pub pair-named : (links : List ℕ) (first k : ℕ) → t ≡ pair_key links first k → same_text pool texts t text ≡ r → pair_has_key pool texts links first text k ≡ r
    unfolding pair_has_key
    pair-named links first k e h = rw (← e) h

    pub entry_named : (registry : List ℕ) (i : ℕ) → t ≡ entry_text registry i → same_text pool texts t text ≡ r → entry_is_named pool texts registry text i ≡ r
    unfolding entry_is_named
    entry_named registry i e h = rw (← e) h

  module _ (patterns : List ℕ) (pattern subject i : ℕ) {p : ℕ} (read : p ≡ pattern_text patterns i) where
    pub pattern_same : {s : ℕ} {r : Bool} → same_text pool texts p pattern ≡ true → s ≡ subject_text patterns i → r ≡ same_text pool texts s subject → r ≡ answers_pattern pool texts patterns pattern subject i
    unfolding answers_pattern
    pattern_same t e h = rw (← read, t, ← e) h

    pub pattern_other : same_text pool texts p pattern ≡ false → false ≡ answers_pattern pool texts patterns pattern subject i
    unfolding answers_pattern
    pattern_other t = rw (← read, t)

-- a property's schema, from its place
module _ (pool texts links : List ℕ) (first count text : ℕ) {f : Found} (e : f ≡ property_place pool texts links first count text) where
  pub place_value : {k v : ℕ} → f ≡ Some k → v ≡ pair_value links first k → Some v ≡ property_of pool texts links first count text
  unfolding property_of
  place_value h q = rw (sym e ∙ h, q)

  pub place_none : f ≡ None → None ≡ property_of pool texts links first count text
  unfolding property_of
  place_none h = rw (sym e ∙ h)
