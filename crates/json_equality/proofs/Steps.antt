-- For the code: what each function of the walk answers, from what its calls answered. Assumes nothing.
use mathlib.Core.Path.{◌≡◌, refl, sym, ap, ◌∙◌}
use mathlib.Core.Bool.{Bool, true, false, not}
use mathlib.Core.List.{List}
use Prim.Native.Nat.{ℕ}
use lib.Dec.{eqb}
use borrow.Author.Tests.{eq-eqb, ne_eqb}
use Rattle.text.specs.Choice.{both_fails_left, both_fails_right}
use Rattle.layout.specs.Layout.{node_kind, node_a, node_b}
use Rattle.layout.specs.Walk.{every}
use Rattle.lookup.specs.Find.{Found}
use Rattle.std.specs.Prelude.{Some, None, is_some}
use Rattle.std.specs.Option.{option_eq}
use Rattle.lookup.specs.Lookup.{entry_key, entry_value, item_node, last_entry}
use Rattle.json_equality.specs.Walk.{is_at, is_found, is_last_of, key_value_of, key_in_of, keys_in_of, counterpart_of, equal_item_of, equal_arrays_of, equal_entry_of, equal_objects_of}

-- what `!` of a test says of it
pub denied : (t : Bool) → not t ≡ true → t ≡ false
denied true h = sym h
denied false h = refl

pub not_denied : (t : Bool) → not t ≡ false → t ≡ true
not_denied true h = refl
not_denied false h = sym h

at_place : (r : Found) (k : ℕ) → option_eq eqb r (Some k) ≡ is_at k r
at_place (Some j) k = refl
at_place None k = refl

found_or_not : (r : Found) → is_some r ≡ is_found r
found_or_not (Some j) = refl
found_or_not None = refl

module _ (pool texts nodes links : List ℕ) where
  -- ---- the last entry with a key
  module _ (n text : ℕ) {r : Found} (e : r ≡ last_entry pool texts nodes links n text) where
    pub last_at : (k : ℕ) → option_eq eqb r (Some k) ≡ is_last_of pool texts nodes links n text k
    unfolding is_last_of
    last_at k = at_place r k ∙ ap (is_at k) e

    pub value_is : {j v : ℕ} → r ≡ Some j → v ≡ entry_value nodes links n j → Some v ≡ key_value_of pool texts nodes links n text
    unfolding key_value_of
    value_is h g = rw (sym e ∙ h, g)

    pub value_missing : r ≡ None → None ≡ key_value_of pool texts nodes links n text
    unfolding key_value_of
    value_missing h = rw (sym e ∙ h)

  module _ (a b k : ℕ) where
    -- ---- a key of b in a
    module _ {key kind : ℕ} (e : key ≡ entry_key nodes links b k) (f : kind ≡ node_kind nodes key) where
      pub key_other : (kind ≡ 4 → ⊥) → true ≡ key_in_of pool texts nodes links a b k
      unfolding key_in_of
      key_other h = rw (ne_eqb (node_kind nodes (entry_key nodes links b k)) 4 (λ q. h (f ∙ ap (λ (m : ℕ). node_kind nodes m) e ∙ q)))

      module _ (h : kind ≡ 4) {t : ℕ} (g : t ≡ node_a nodes key) {r : Found} (l : r ≡ last_entry pool texts nodes links a t) where
        string_key : node_kind nodes (entry_key nodes links b k) ≡ 4
        string_key = rw e at (sym f ∙ h)

        pub key_asked : is_some r ≡ key_in_of pool texts nodes links a b k
        unfolding key_in_of
        key_asked = found_or_not r ∙ rw (string_key, rw (g, e) at (ap is_found l))

    -- ---- what an entry of a is compared with
    module _ {key kind : ℕ} (e : key ≡ entry_key nodes links a k) (f : kind ≡ node_kind nodes key) where
      pub part_other : {v : ℕ} → (kind ≡ 4 → ⊥) → v ≡ entry_value nodes links a k → Some v ≡ counterpart_of pool texts nodes links a b k
      unfolding counterpart_of
      part_other h g = rw (ne_eqb (node_kind nodes (entry_key nodes links a k)) 4 (λ q. h (f ∙ ap (λ (m : ℕ). node_kind nodes m) e ∙ q)), g)

      module _ (h : kind ≡ 4) {t : ℕ} (g : t ≡ node_a nodes key) {last : Bool} (l : last ≡ is_last_of pool texts nodes links a t k) where
        string_entry : node_kind nodes (entry_key nodes links a k) ≡ 4
        string_entry = rw e at (sym f ∙ h)

        pub part_covered : {v : ℕ} → last ≡ false → v ≡ entry_value nodes links a k → Some v ≡ counterpart_of pool texts nodes links a b k
        unfolding counterpart_of
        part_covered q p = rw (string_entry, rw (g, e) at (sym l ∙ q), p)

        pub part_is : {r : Found} → last ≡ true → r ≡ key_value_of pool texts nodes links b t → r ≡ counterpart_of pool texts nodes links a b k
        unfolding counterpart_of
        part_is q p = rw (string_entry, rw (g, e) at (sym l ∙ q)) (rw (g, e) at p)

  pub keys_start : (a b : ℕ) {count : ℕ} → count ≡ node_b nodes b → every (key_in_of pool texts nodes links a b) 0 count ≡ keys_in_of pool texts nodes links a b
  unfolding keys_in_of
  keys_start a b h = rw h

-- ---- arrays
module _ (equal : ℕ → ℕ → Bool) (nodes links : List ℕ) (a b : ℕ) where
  pub arrays_kind : {kind : ℕ} → kind ≡ node_kind nodes b → (kind ≡ 5 → ⊥) → false ≡ equal_arrays_of equal nodes links a b
  unfolding equal_arrays_of
  arrays_kind e h = rw (ne_eqb (node_kind nodes b) 5 (λ q. h (e ∙ q)))

  pub arrays_count : {mine other : ℕ} → mine ≡ node_b nodes a → other ≡ node_b nodes b → (other ≡ mine → ⊥) → false ≡ equal_arrays_of equal nodes links a b
  unfolding equal_arrays_of
  arrays_count e f h =
      sym (both_fails_right (eqb (node_kind nodes b) 5) (both_fails_left (every (equal_item_of equal nodes links a b) 0 (node_b nodes a)) (ne_eqb (node_b nodes b) (node_b nodes a) (λ q. h (f ∙ q ∙ sym e)))))

  pub arrays_start : {kind mine other : ℕ} → kind ≡ node_kind nodes b → kind ≡ 5 → mine ≡ node_b nodes a → other ≡ node_b nodes b → other ≡ mine → every (equal_item_of equal nodes links a b) 0 mine ≡ equal_arrays_of equal nodes links a b
  unfolding equal_arrays_of
  arrays_start k h e f g = rw (eq-eqb (node_kind nodes b) 5 (sym k ∙ h), eq-eqb (node_b nodes b) (node_b nodes a) (sym f ∙ g ∙ e), e)

  pub item_is : (i : ℕ) {x y : ℕ} {r t : Bool} → x ≡ item_node nodes links a i → y ≡ item_node nodes links b i → r ≡ equal x y → r ≡ t → equal_item_of equal nodes links a b i ≡ t
  unfolding equal_item_of
  item_is i e f g h = rw (← e, ← f) (sym g ∙ h)

-- ---- objects
module _ (equal : ℕ → ℕ → Bool) (pool texts nodes links : List ℕ) (a b : ℕ) where
  pub objects_kind : {kind : ℕ} → kind ≡ node_kind nodes b → (kind ≡ 6 → ⊥) → false ≡ equal_objects_of equal pool texts nodes links a b
  unfolding equal_objects_of
  objects_kind e h = rw (ne_eqb (node_kind nodes b) 6 (λ q. h (e ∙ q)))

  pub objects_keys : {t : Bool} → t ≡ keys_in_of pool texts nodes links a b → t ≡ false → false ≡ equal_objects_of equal pool texts nodes links a b
  unfolding equal_objects_of
  objects_keys e h =
      sym (both_fails_right (eqb (node_kind nodes b) 6) (both_fails_left (every (equal_entry_of equal pool texts nodes links a b) 0 (node_b nodes a)) (sym e ∙ h)))

  pub objects_start : {kind count : ℕ} {t : Bool} → kind ≡ node_kind nodes b → kind ≡ 6 → t ≡ keys_in_of pool texts nodes links a b → t ≡ true → count ≡ node_b nodes a → every (equal_entry_of equal pool texts nodes links a b) 0 count ≡ equal_objects_of equal pool texts nodes links a b
  unfolding equal_objects_of
  objects_start k h e t f = rw (eq-eqb (node_kind nodes b) 6 (sym k ∙ h), sym e ∙ t, f)

  pub entry-missing : (k : ℕ) {r : Found} → r ≡ counterpart_of pool texts nodes links a b k → r ≡ None → equal_entry_of equal pool texts nodes links a b k ≡ false
  unfolding equal_entry_of
  entry-missing k e h = rw (sym e ∙ h)

  pub entry_is : (k : ℕ) {x y : ℕ} {r : Found} {q t : Bool} → r ≡ counterpart_of pool texts nodes links a b k → r ≡ Some y → x ≡ entry_value nodes links a k → q ≡ equal x y → q ≡ t → equal_entry_of equal pool texts nodes links a b k ≡ t
  unfolding equal_entry_of
  entry_is k e h f g p = rw (sym e ∙ h, ← f) (sym g ∙ p)
