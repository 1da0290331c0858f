-- Equality of values is reflexive where every real is finite, and symmetric; in source mode it is transitive. Assumes nothing.
use mathlib.Core.Path.{◌≡◌, refl, sym, ◌∙◌}
use mathlib.Core.Bool.{Bool, true, false}
use mathlib.Core.List.{List}
use mathlib.Core.Option.{Option, none, some}
use Prim.Native.Nat.{ℕ}
use lib.Dec.{eqb}
use borrow.Author.Tests.{eq-eqb, eqb-true}
use Rattle.text.specs.Choice.{both, pick, clash, both-holds, both_left, both_right, same_test}
use Rattle.text.specs.Text.{same_bytes}
use Rattle.text.proofs.Bytes.{same_refl, same_sym, same_trans}
use Rattle.number.specs.declared.equal.Equality.{Equality}
use Rattle.number.specs.declared.equal.Number.{Number}
use Rattle.number.specs.Equal.{equal_numbers_of, of_source}
use Rattle.number.proofs.Equalities as numbers
use Rattle.json_equality.specs.Json.{Json, null, boolean, number, string, array, object, Items, no_items, item, Fields, no_fields, field, or_else, field_of, keys_within, on_null, on_boolean, on_number, on_string, on_array, on_object, on_no_items, on_item, on_some, is_none, equal_json, equal_items, equal_fields, agree, Sane, SaneItems, SaneFields}
use Rattle.json_equality.proofs.Maps.{equal_objects_agree, agree_equal_objects}

-- ---- what a test of one kind holds of is of that kind
is_null : (y : Json) → on_null y ≡ true → y ≡ null
is_null null h = refl
is_null (boolean b) h = clash h refl
is_null (number v) h = clash h refl
is_null (string s) h = clash h refl
is_null (array xs) h = clash h refl
is_null (object xs) h = clash h refl

is_boolean : (f : ℕ → Bool) (y : Json) → on_boolean f y ≡ true → (b : ℕ) × (y ≡ boolean b) × (f b ≡ true)
is_boolean f null h = clash h refl
is_boolean f (boolean b) h = (b, refl, h)
is_boolean f (number v) h = clash h refl
is_boolean f (string s) h = clash h refl
is_boolean f (array xs) h = clash h refl
is_boolean f (object xs) h = clash h refl

is_number : (f : Number → Bool) (y : Json) → on_number f y ≡ true → (v : Number) × (y ≡ number v) × (f v ≡ true)
is_number f null h = clash h refl
is_number f (boolean b) h = clash h refl
is_number f (number v) h = (v, refl, h)
is_number f (string s) h = clash h refl
is_number f (array xs) h = clash h refl
is_number f (object xs) h = clash h refl

is_string : (f : List ℕ → Bool) (y : Json) → on_string f y ≡ true → (s : List ℕ) × (y ≡ string s) × (f s ≡ true)
is_string f null h = clash h refl
is_string f (boolean b) h = clash h refl
is_string f (number v) h = clash h refl
is_string f (string s) h = (s, refl, h)
is_string f (array xs) h = clash h refl
is_string f (object xs) h = clash h refl

is_array : (f : Items → Bool) (y : Json) → on_array f y ≡ true → (xs : Items) × (y ≡ array xs) × (f xs ≡ true)
is_array f null h = clash h refl
is_array f (boolean b) h = clash h refl
is_array f (number v) h = clash h refl
is_array f (string s) h = clash h refl
is_array f (array xs) h = (xs, refl, h)
is_array f (object xs) h = clash h refl

is_object : (f : Fields → Bool) (y : Json) → on_object f y ≡ true → (xs : Fields) × (y ≡ object xs) × (f xs ≡ true)
is_object f null h = clash h refl
is_object f (boolean b) h = clash h refl
is_object f (number v) h = clash h refl
is_object f (string s) h = clash h refl
is_object f (array xs) h = clash h refl
is_object f (object xs) h = (xs, refl, h)

is_item : (f : Json → Items → Bool) (ys : Items) → on_item f ys ≡ true → (y : Json) × (rest : Items) × (ys ≡ item y rest) × (f y rest ≡ true)
is_item f no_items h = clash h refl
is_item f (item y ys) h = (y, ys, refl, h)

is_no_items : (ys : Items) → on_no_items ys ≡ true → ys ≡ no_items
is_no_items no_items h = refl
is_no_items (item y ys) h = clash h refl

is_some_lem : (f : Json → Bool) (o : Option Json) → on_some f o ≡ true → (y : Json) × (o ≡ some y) × (f y ≡ true)
is_some_lem f none h = clash h refl
is_some_lem f (some y) h = (y, refl, h)

is_none_lem : (o : Option Json) → is_none o ≡ true → o ≡ none
is_none_lem none h = refl
is_none_lem (some y) h = clash h refl

module _ (way : Equality) where
  -- ---- reflexive
  refl_step : (o : Option Json) (b : Bool) (v : Json) → equal_json way v v ≡ true → agree way o o ≡ true → agree way (or_else o (pick b (some v) none)) (or_else o (pick b (some v) none)) ≡ true
  refl_step (some z) b v h k = k
  refl_step none true v h k = h
  refl_step none false v h k = refl

  mutual
    unfolding equal_json field_of

    pub equal_refl : (x : Json) → Sane x → equal_json way x x ≡ true
    equal_refl null s = refl
    equal_refl (boolean b) s = eq-eqb b b refl
    equal_refl (number v) s = numbers.equal_refl way v s
    equal_refl (string t) s = same_refl t
    equal_refl (array xs) s = items_refl xs s
    equal_refl (object xs) s = agree_equal_objects way xs xs (λ key. fields_refl xs s key)

    items_refl : (xs : Items) → SaneItems xs → equal_items way xs xs ≡ true
    items_refl no_items s = refl
    items_refl (item x xs) s = both-holds (equal_refl x s.0) (items_refl xs s.1)

    fields_refl : (fs : Fields) → SaneFields fs → (key : List ℕ) → agree way (field_of key fs) (field_of key fs) ≡ true
    fields_refl no_fields s key = refl
    fields_refl (field k v fs) s key = refl_step (field_of key fs) (same_bytes k key) v (equal_refl v s.0) (fields_refl fs s.1 key)

  -- ---- symmetric
  sym_step : (p : Option Json) (b : Bool) (v : Json) (o : Option Json) → ((y : Json) → equal_json way v y ≡ true → equal_json way y v ≡ true) → (agree way p o ≡ true → agree way o p ≡ true) → agree way (or_else p (pick b (some v) none)) o ≡ true → agree way o (or_else p (pick b (some v) none)) ≡ true
  sym_step (some z) b v o f g h = g h
  sym_step none true v none f g h = clash h refl
  sym_step none true v (some y) f g h = f y h
  sym_step none false v o f g h = g h

  none_sym : (o : Option Json) → is_none o ≡ true → agree way o none ≡ true
  none_sym none h = refl
  none_sym (some y) h = h

  mutual
    unfolding equal_json field_of

    pub equal_sym : (x y : Json) → equal_json way x y ≡ true → equal_json way y x ≡ true
    equal_sym null y h = rw (is_null y h)
    equal_sym (boolean a) y h = let r = is_boolean (eqb a) y h in rw r.1 (eq-eqb r.0 a (sym (eqb-true a r.0 r.2)))
    equal_sym (number v) y h = let r = is_number (equal_numbers_of way v) y h in rw r.1 (numbers.equal_sym way v r.0 r.2)
    equal_sym (string s) y h = let r = is_string (same_bytes s) y h in rw r.1 (same_sym r.0 s ∙ r.2)
    equal_sym (array xs) y h = let r = is_array (equal_items way xs) y h in rw r.1 (items_sym xs r.0 r.2)
    equal_sym (object xs) y h =
        let r = is_object (λ ys. both (keys_within ys xs) (equal_fields way xs ys)) y h in
        rw r.1 (agree_equal_objects way r.0 xs (λ key. fields_sym xs key (field_of key r.0) (equal_objects_agree way xs r.0 r.2 key)))

    items_sym : (xs ys : Items) → equal_items way xs ys ≡ true → equal_items way ys xs ≡ true
    items_sym no_items ys h = rw (is_no_items ys h)
    items_sym (item x xs) ys h =
        let r = is_item (λ y ys. both (equal_json way x y) (equal_items way xs ys)) ys h in
        rw r.2 (both-holds (equal_sym x r.0 (both_left (equal_json way x r.0) (equal_items way xs r.1) r.3)) (items_sym xs r.1 (both_right (equal_json way x r.0) (equal_items way xs r.1) r.3)))

    fields_sym : (fs : Fields) (key : List ℕ) (o : Option Json) → agree way (field_of key fs) o ≡ true → agree way o (field_of key fs) ≡ true
    fields_sym no_fields key o h = none_sym o h
    fields_sym (field k v fs) key o h = sym_step (field_of key fs) (same_bytes k key) v o (λ y g. equal_sym v y g) (λ g. fields_sym fs key o g) h

  pub equal_swap : (x y : Json) → equal_json way x y ≡ equal_json way y x
  equal_swap x y = same_test (equal_json way x y) (equal_json way y x) (equal_sym x y) (equal_sym y x)

  -- ---- transitive in source mode
  module _ (source : of_source way ≡ true) where
    trans_step : (p : Option Json) (b : Bool) (v : Json) (o q : Option Json) → ((y z : Json) → equal_json way v y ≡ true → equal_json way y z ≡ true → equal_json way v z ≡ true) → (agree way p o ≡ true → agree way o q ≡ true → agree way p q ≡ true) → agree way (or_else p (pick b (some v) none)) o ≡ true → agree way o q ≡ true → agree way (or_else p (pick b (some v) none)) q ≡ true
    trans_step (some z) b v o q f g h k = g h k
    trans_step none true v none q f g h k = clash h refl
    trans_step none true v (some y) none f g h k = k
    trans_step none true v (some y) (some z) f g h k = f y z h k
    trans_step none false v o q f g h k = g h k

    mutual
      unfolding equal_json field_of

      pub equal_trans : (x y z : Json) → equal_json way x y ≡ true → equal_json way y z ≡ true → equal_json way x z ≡ true
      equal_trans null y z h k = rw (is_null y h) at k
      equal_trans (boolean a) y z h k =
          let r = is_boolean (eqb a) y h in
          rw (eqb-true a r.0 r.2) (rw r.1 at k)
      equal_trans (number v) y z h k =
          let r = is_number (equal_numbers_of way v) y h in
          let t = is_number (equal_numbers_of way r.0) z (rw r.1 at k) in
          rw t.1 (numbers.equal_trans way v r.0 t.0 source r.2 t.2)
      equal_trans (string s) y z h k =
          let r = is_string (same_bytes s) y h in
          let t = is_string (same_bytes r.0) z (rw r.1 at k) in
          rw t.1 (same_trans s r.0 t.0 r.2 t.2)
      equal_trans (array xs) y z h k =
          let r = is_array (equal_items way xs) y h in
          let t = is_array (equal_items way r.0) z (rw r.1 at k) in
          rw t.1 (items_trans xs r.0 t.0 r.2 t.2)
      equal_trans (object xs) y z h k =
          let r = is_object (λ ys. both (keys_within ys xs) (equal_fields way xs ys)) y h in
          let t = is_object (λ zs. both (keys_within zs r.0) (equal_fields way r.0 zs)) z (rw r.1 at k) in
          rw t.1
          (agree_equal_objects way xs t.0
          (λ key. fields_trans xs key (field_of key r.0) (field_of key t.0) (equal_objects_agree way xs r.0 r.2 key) (equal_objects_agree way r.0 t.0 t.2 key)))

      items_trans : (xs ys zs : Items) → equal_items way xs ys ≡ true → equal_items way ys zs ≡ true → equal_items way xs zs ≡ true
      items_trans no_items ys zs h k = rw (is_no_items ys h) at k
      items_trans (item x xs) ys zs h k =
          let r = is_item (λ y ys. both (equal_json way x y) (equal_items way xs ys)) ys h in
          let t = is_item (λ z zs. both (equal_json way r.0 z) (equal_items way r.1 zs)) zs (rw r.2 at k) in
          rw t.2 (both-holds (equal_trans x r.0 t.0 (both_left (equal_json way x r.0) (equal_items way xs r.1) r.3) (both_left (equal_json way r.0 t.0) (equal_items way r.1 t.1) t.3)) (items_trans xs r.1 t.1 (both_right (equal_json way x r.0) (equal_items way xs r.1) r.3) (both_right (equal_json way r.0 t.0) (equal_items way r.1 t.1) t.3)))

      fields_trans : (fs : Fields) (key : List ℕ) (o q : Option Json) → agree way (field_of key fs) o ≡ true → agree way o q ≡ true → agree way (field_of key fs) q ≡ true
      fields_trans no_fields key o q h k = rw (is_none_lem o h) at k
      fields_trans (field k v fs) key o q h g = trans_step (field_of key fs) (same_bytes k key) v o q (λ y z s t. equal_trans v y z s t) (λ s t. fields_trans fs key o q s t) h g
