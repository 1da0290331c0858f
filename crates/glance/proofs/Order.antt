-- Keys in the order of their schema's properties: where the places rise, no key has the bytes of an earlier one. Assumes nothing.
use Prim.Native.Nat.{ℕ, ◌+◌, ◌<◌, ◌≤◌}
use mathlib.Core.Path.{◌≡◌, sym, ap, ◌∙◌}
use mathlib.Core.Bool.{true, false}
use mathlib.Core.List.{List}
use mathlib.Core.Logic.{⊎_elim}
use native.Mathlib.Omega.{arith}
use lib.Dec.{eqb, ltb}
use borrow.Author.Tests.{eqb-true, ltb-true}
use Rattle.text.specs.Choice.{either, le_or_lt, not-holds, both_right, either_cases}
use Rattle.text.specs.Text.{text_of, same_bytes, same_text}
use Rattle.text.proofs.Bytes.{same_sound}
use Rattle.layout.specs.Layout.{node_kind, node_b, pair_key}
use Rattle.lookup.specs.Find.{Found, first_from}
use Rattle.std.specs.Prelude.{Some, None}
use Rattle.lookup.specs.Lookup.{key_is, entry_key, entry_has_key, pair_has_key, property_place}
use Rattle.lookup.proofs.Find.{found_where, found_nowhere}
use Rattle.judge.specs.Judge.{fine, key_text, duplicate_wrong, has_earlier, is_duplicate, keys_verdict}

place_of : Found → ℕ
place_of (Some p) = p
place_of None = 0

-- ---- places that rise
-- the first k keys have their places, none beyond last, and none is a duplicate
pub record InOrder (pool texts nodes links : List ℕ) (n first count k last : ℕ) : Type 0 where
  pub places : (j : ℕ) → j < k → (p : ℕ) × (property_place pool texts links first count (key_text nodes links n j) ≡ Some p) × (p ≤ last)
  pub new : (j : ℕ) → j < k → is_duplicate pool texts nodes links n j ≡ false

module _ (pool texts nodes links : List ℕ) (n first count : ℕ) where
  -- a property's place goes by the bytes of its name
  same_place : (s t : ℕ) → same_text pool texts s t ≡ true → property_place pool texts links first count s ≡ property_place pool texts links first count t
  unfolding same_text pair_has_key
  same_place s t h =
      ap (λ (b : List ℕ). first_from (λ k. same_bytes (text_of pool texts (pair_key links first k)) b) 0 count) (same_sound (text_of pool texts s) (text_of pool texts t) h)

  same_entry : (t j : ℕ) → entry_has_key pool texts nodes links n t j ≡ true → property_place pool texts links first count (key_text nodes links n j) ≡ property_place pool texts links first count t
  unfolding entry_has_key key_is
  same_entry t j h =
      same_place (key_text nodes links n j) t
      (both_right (eqb (node_kind nodes (entry_key nodes links n j)) 4) (same_text pool texts (key_text nodes links n j) t) h)

  pub order_begin : (last : ℕ) → InOrder pool texts nodes links n first count 0 last
  order_begin last = record { places = λ j l. absurd (omega arith); new = λ j l. absurd (omega arith) }

  module _ (k last p : ℕ) (before : InOrder pool texts nodes links n first count k last) (at : property_place pool texts links first count (key_text nodes links n k) ≡ Some p) (rises : either (eqb k 0) (ltb last p) ≡ true) where
    -- beyond every earlier place
    beyond : (j : ℕ) → j < k → last < p
    beyond j l =
        ⊎_elim (λ t. let e = eqb-true k 0 t in absurd (omega arith)) (λ t. ltb-true last p t) (either_cases (eqb k 0) (ltb last p) rises)

    other_key : (j : ℕ) → j < k → entry_has_key pool texts nodes links n (key_text nodes links n k) j ≡ true → ⊥
    unfolding place_of
    other_key j l h =
        let earlier = before.places j l in
        let e : earlier.0 ≡ p = ap place_of (sym earlier.1 ∙ same_entry (key_text nodes links n k) j h ∙ at) in
        omega (arith, e, earlier.2, beyond j l)

    new_key : is_duplicate pool texts nodes links n k ≡ false
    unfolding is_duplicate has_earlier
    new_key =
        not-holds (is_duplicate pool texts nodes links n k)
        (λ t. let w = found_where (entry_has_key pool texts nodes links n (key_text nodes links n k)) 0 k (both_right (eqb (node_kind nodes (entry_key nodes links n k)) 4) (has_earlier pool texts nodes links n (key_text nodes links n k) k) t) in other_key w.0 (omega (arith, w.1)) w.2)

    pub order_more : InOrder pool texts nodes links n first count (k + 1) p
    order_more =
        record {
          places = λ j l. ⊎_elim (λ g. let e : k ≡ j = omega arith in (p, ap (λ (i : ℕ). property_place pool texts links first count (key_text nodes links n i)) (sym e) ∙ at, omega arith)) (λ g. let earlier = before.places j g in (earlier.0, earlier.1, omega (arith, earlier.2, beyond j g))) (le_or_lt k j);
          new = λ j l. ⊎_elim (λ g. let e : j ≡ k = omega arith in ap (is_duplicate pool texts nodes links n) e ∙ new_key) (λ g. before.new j g) (le_or_lt k j);
        }

  pub order_end : (last : ℕ) → InOrder pool texts nodes links n first count (node_b nodes n) last → keys_verdict pool texts nodes links n ≡ fine
  unfolding keys_verdict
  order_end last o =
      ap (duplicate_wrong nodes links n) (found_nowhere (is_duplicate pool texts nodes links n) 0 (node_b nodes n) (λ j l. o.new j (omega arith)))
