-- An object as a finite map: its fields by key, and objects are equal where the maps agree at every key. Assumes nothing.
use mathlib.Core.Path.{◌≡◌, refl, sym, ◌∙◌}
use mathlib.Core.Bool.{Bool, true, false}
use mathlib.Core.List.{List}
use mathlib.Core.Option.{Option, none, some, none-ne-some, some-injective}
use mathlib.Core.Logic.{◌↔◌}
use Prim.Native.Nat.{ℕ}
use Rattle.text.specs.Choice.{either, pick, clash, both-holds, both_left, both_right}
use Rattle.text.specs.Text.{same_bytes}
use Rattle.text.proofs.Bytes.{same_sound, same_refl}
use Rattle.number.specs.declared.equal.Equality.{Equality}
use Rattle.json_equality.specs.Json.{Json, object, Fields, no_fields, field, or_else, field_of, is_some, has_field, keys_within, on_some, is_none, equal_json, equal_fields, agree}

-- ---- a map by key
module _ (key k : List ℕ) (v : Json) (fs : Fields) where
  pub field-later : {x : Json} → field_of key fs ≡ some x → field_of key (field k v fs) ≡ some x
  unfolding field_of
  field-later h = rw h

  pub field-own : same_bytes k key ≡ true → field_of key fs ≡ none → field_of key (field k v fs) ≡ some v
  unfolding field_of
  field-own t h = rw (h, t)

  pub field_other : same_bytes k key ≡ false → field_of key fs ≡ none → field_of key (field k v fs) ≡ none
  unfolding field_of
  field_other t h = rw (h, t)

  -- the value of a key is a later field's, or else this one's
  pub field_cases {ℓ} : (P : Option Json → Type ℓ) → ((x : Json) → field_of key fs ≡ some x → P (some x)) → (same_bytes k key ≡ true → field_of key fs ≡ none → P (some v)) → (same_bytes k key ≡ false → field_of key fs ≡ none → P none) → P (field_of key (field k v fs))
  unfolding field_of
  field_cases P later own other = go (field_of key fs) (same_bytes k key) later own other
    where
      go : (o : Option Json) (b : Bool) → ((x : Json) → o ≡ some x → P (some x)) → (b ≡ true → o ≡ none → P (some v)) → (b ≡ false → o ≡ none → P none) → P (or_else o (pick b (some v) none))
      go (some x) b f g h = f x refl
      go none true f g h = g refl refl
      go none false f g h = h refl refl

module _ (key : List ℕ) (fs : Fields) where
  pub some_has : {x : Json} → field_of key fs ≡ some x → has_field key fs ≡ true
  unfolding has_field
  some_has h = rw h

  pub none_has : field_of key fs ≡ none → has_field key fs ≡ false
  unfolding has_field
  none_has h = rw h

  pub has_cases {ℓ} : (P : Option Json → Bool → Type ℓ) → ((x : Json) → field_of key fs ≡ some x → P (some x) true) → (field_of key fs ≡ none → P none false) → P (field_of key fs) (has_field key fs)
  unfolding has_field
  has_cases P f g = go (field_of key fs) f g
    where
      go : (o : Option Json) → ((x : Json) → o ≡ some x → P (some x) true) → (o ≡ none → P none false) → P o (is_some o)
      go (some x) f g = f x refl
      go none f g = g refl

  pub has_not : has_field key fs ≡ false → field_of key fs ≡ none
  has_not = has_cases (λ o b. b ≡ false → o ≡ none) (λ x e h. clash refl h) (λ e h. refl)

  pub has_value : has_field key fs ≡ true → (x : Json) × (field_of key fs ≡ some x)
  has_value = has_cases (λ o b. b ≡ true → (x : Json) × (o ≡ some x)) (λ x e h. (x, refl)) (λ e h. clash h refl)

-- ---- every key of ys is one of xs
pub within_has : (ys xs : Fields) → keys_within ys xs ≡ true → (key : List ℕ) → has_field key ys ≡ true → has_field key xs ≡ true
unfolding keys_within has_field field_of
within_has no_fields xs h key t = clash t refl
within_has (field k v ys) xs h key t =
    field_cases key k v ys (λ o. is_some o ≡ true → has_field key xs ≡ true)
    (λ x e g. within_has ys xs (both_right (has_field k xs) (keys_within ys xs) h) key (some_has key ys e))
    (λ b e g. rw (same_sound k key b) at (both_left (has_field k xs) (keys_within ys xs) h))
    (λ b e g. clash g refl)
    t

pub has_within : (ys xs : Fields) → ((key : List ℕ) → has_field key ys ≡ true → has_field key xs ≡ true) → keys_within ys xs ≡ true
unfolding keys_within
has_within no_fields xs h = refl
has_within (field k v ys) xs h =
    both-holds
    (h k (own k v ys))
    (has_within ys xs (λ key t. h key (later key k v ys t)))
  where
    own : (k : List ℕ) (v : Json) (ys : Fields) → has_field k (field k v ys) ≡ true
    own k v ys =
        has_cases k ys (λ o b. field_of k ys ≡ o → has_field k (field k v ys) ≡ true)
        (λ x e g. some_has k (field k v ys) (field-later k k v ys e))
        (λ e g. some_has k (field k v ys) (field-own k k v ys (same_refl k) e))
        refl

    later : (key k : List ℕ) (v : Json) (ys : Fields) → has_field key ys ≡ true → has_field key (field k v ys) ≡ true
    later key k v ys t =
        let r = has_value key ys t in
        some_has key (field k v ys) (field-later key k v ys r.1)

-- ---- every field of xs that counts equals the value of its key in ys
module _ (way : Equality) where
  pub fields_value : (xs ys : Fields) → equal_fields way xs ys ≡ true → (key : List ℕ) (x : Json) → field_of key xs ≡ some x → on_some (equal_json way x) (field_of key ys) ≡ true
  unfolding equal_fields field_of
  fields_value no_fields ys h key x e = absurd (none-ne-some x e)
  fields_value (field k v xs) ys h key x e =
      field_cases key k v xs (λ o. o ≡ some x → on_some (equal_json way x) (field_of key ys) ≡ true)
      (λ z e g. fields_value xs ys (both_right (either (has_field k xs) (on_some (equal_json way v) (field_of k ys))) (equal_fields way xs ys) h) key x (e ∙ g))
      (λ b e g. rw (← some-injective v x g, ← same_sound k key b) (rw (none_has k xs (rw (← same_sound k key b) at e)) at (both_left (either (has_field k xs) (on_some (equal_json way v) (field_of k ys))) (equal_fields way xs ys) h)))
      (λ b e g. absurd (none-ne-some x g))
      e

  pub value_fields : (xs ys : Fields) → ((key : List ℕ) (x : Json) → field_of key xs ≡ some x → on_some (equal_json way x) (field_of key ys) ≡ true) → equal_fields way xs ys ≡ true
  unfolding equal_fields
  value_fields no_fields ys h = refl
  value_fields (field k v xs) ys h =
      both-holds
      (has_cases k xs (λ o b. either b (on_some (equal_json way v) (field_of k ys)) ≡ true) (λ x e. refl) (λ e. h k v (field-own k k v xs (same_refl k) e)))
      (value_fields xs ys (λ key x e. h key x (field-later key k v xs e)))

  module _ (xs ys : Fields) where
    -- equal objects agree at every key
    pub equal_objects_agree : equal_json way (object xs) (object ys) ≡ true → (key : List ℕ) → agree way (field_of key xs) (field_of key ys) ≡ true
    unfolding equal_json
    equal_objects_agree h key =
        has_cases key xs (λ o b. field_of key xs ≡ o → agree way o (field_of key ys) ≡ true)
        (λ x e g. fields_value xs ys (both_right (keys_within ys xs) (equal_fields way xs ys) h) key x e)
        (λ e g.
        has_cases key ys (λ o b. b ≡ has_field key ys → is_none o ≡ true)
        (λ y f t. clash (within_has ys xs (both_left (keys_within ys xs) (equal_fields way xs ys) h) key (sym t)) (none_has key xs e))
        (λ f t. refl)
        refl)
        refl

    -- objects that agree at every key are equal
    pub agree_equal_objects : ((key : List ℕ) → agree way (field_of key xs) (field_of key ys) ≡ true) → equal_json way (object xs) (object ys) ≡ true
    unfolding equal_json
    agree_equal_objects h =
        both-holds
        (has_within ys xs (λ key t. in_both key t (h key)))
        (value_fields xs ys (λ key x e. rw e at (h key)))
      where
        in_both : (key : List ℕ) → has_field key ys ≡ true → agree way (field_of key xs) (field_of key ys) ≡ true → has_field key xs ≡ true
        in_both key t =
            has_cases key xs (λ o b. agree way o (field_of key ys) ≡ true → b ≡ true)
            (λ x e g. refl)
            (λ e g. let r = has_value key ys t in clash refl (sym (rw r.1 at g)))

    -- objects are equal exactly where the two maps agree at every key
    pub equal_objects : (equal_json way (object xs) (object ys) ≡ true) ↔ ((key : List ℕ) → agree way (field_of key xs) (field_of key ys) ≡ true)
    equal_objects = (equal_objects_agree, agree_equal_objects)
