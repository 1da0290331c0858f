-- An object's fields and its entries: the value of a key in the map is that of the last entry with the key. Assumes nothing.
use mathlib.Core.Path.{◌≡◌, refl, sym, ap, ◌∙◌}
use mathlib.Core.Bool.{Bool, true, false, not}
use mathlib.Core.List.{List}
use mathlib.Core.Option.{Option, none, some}
use Prim.Native.Nat.{ℕ, zero, suc, ◌+◌, ◌≤◌}
use native.Mathlib.Omega.{arith}
use lib.Dec.{eqb}
use borrow.Author.Tests.{eq-eqb, ne_eqb}
use Rattle.text.specs.Choice.{both, pick}
use Rattle.text.specs.Text.{same_bytes, same_text, text_of}
use Rattle.layout.specs.Layout.{node_kind, node_a, node_b}
use Rattle.lookup.specs.Find.{Found, last_below}
use Rattle.std.specs.Prelude.{Some, None}
use Rattle.lookup.specs.Lookup.{key_is, entry_key, entry_value, entry_has_key, last_entry}
use Rattle.json_equality.specs.Json.{Json, Fields, field, or_else, is_some, field_of, has_field}
use Rattle.json_equality.specs.Value.{keyed, fields_from}
use Rattle.json_equality.specs.Walk.{is_at, is_found, is_last_of}

-- ---- the last of a run of places where a test holds, counted from its first place
or_later : Found → Found → Found
or_later (Some j) o = Some j
or_later None o = o

last_from : (ℕ → Bool) → ℕ → ℕ → Found
last_from h i zero = None
last_from h i (suc count) = or_later (last_from h (suc i) count) (pick (h i) (Some i) None)

or_later_lem : (l o : Found) (t : Bool) (i : ℕ) → or_later l (pick t (Some i) o) ≡ or_later (or_later l (pick t (Some i) None)) o
unfolding or_later
or_later_lem (Some j) o t i = refl
or_later_lem None o true i = refl
or_later_lem None o false i = refl

or_nothing : (l : Found) → or_later l None ≡ l
unfolding or_later
or_nothing (Some j) = refl
or_nothing None = refl

last_split : (h : ℕ → Bool) (i count : ℕ) → last_below h (i + count) ≡ or_later (last_from h i count) (last_below h i)
unfolding last_from or_later last_below
last_split h i zero =
    let e : i + 0 ≡ i = omega arith in
    ap (last_below h) e
last_split h i (suc count) =
    let e : i + suc count ≡ suc i + count = omega arith in
    ap (last_below h) e ∙ last_split h (suc i) count ∙ or_later_lem (last_from h (suc i) count) (last_below h i) (h i) i

last_bound : (h : ℕ → Bool) (i count : ℕ) (P : Found → Type 0) → ((j : ℕ) → i ≤ j → P (Some j)) → P None → P (last_from h i count)
unfolding last_from or_later
last_bound h i zero P f g = g
last_bound h i (suc count) P f g =
    last_bound h (suc i) count (λ l. P (or_later l (pick (h i) (Some i) None))) (λ j l. f j (omega arith)) (here (h i))
  where
    here : (t : Bool) → P (pick t (Some i) None)
    here true = f i (omega arith)
    here false = g

-- ---- what is found, as what a map holds
to_option : (ℕ → Json) → Found → Option Json
to_option g (Some k) = some (g k)
to_option g None = none

option_or : (g : ℕ → Json) (l : Found) (t : Bool) (i : ℕ) → or_else (to_option g l) (pick t (some (g i)) none) ≡ to_option g (or_later l (pick t (Some i) None))
unfolding to_option or_later
option_or g (Some j) t i = refl
option_or g None true i = refl
option_or g None false i = refl

is_some_lem : (g : ℕ → Json) (l : Found) → is_some (to_option g l) ≡ is_found l
unfolding to_option
is_some_lem g (Some j) = refl
is_some_lem g None = refl

module _ (pool texts : List ℕ) (f : ℕ → Json) (nodes links : List ℕ) (n text : ℕ) where
  has_key : ℕ → Bool
  has_key k = entry_has_key pool texts nodes links n text k

  value : ℕ → Json
  value k = f (entry_value nodes links n k)

  keyed-field : (key : ℕ) (x : Json) (fs : Fields) (l : Found) (i : ℕ) → x ≡ value i → field_of (text_of pool texts text) fs ≡ to_option value l → field_of (text_of pool texts text) (keyed pool texts nodes key x fs) ≡ to_option value (or_later l (pick (key_is pool texts nodes text key) (Some i) None))
  unfolding keyed field_of key_is same_text
  keyed-field key x fs l i e h = go (eqb (node_kind nodes key) 4)
    where
      go : (t : Bool) → field_of (text_of pool texts text) (pick t (field (text_of pool texts (node_a nodes key)) x fs) fs) ≡ to_option value (or_later l (pick (both t (same_bytes (text_of pool texts (node_a nodes key)) (text_of pool texts text))) (Some i) None))
      go true = rw (h, e) (option_or value l (same_bytes (text_of pool texts (node_a nodes key)) (text_of pool texts text)) i)
      go false = h ∙ ap (to_option value) (sym (or_nothing l))

  field_last : (i count : ℕ) → field_of (text_of pool texts text) (fields_from pool texts f nodes links n i count) ≡ to_option value (last_from has_key i count)
  unfolding fields_from last_from has_key value to_option entry_has_key field_of
  field_last i zero = refl
  field_last i (suc count) = keyed-field (entry_key nodes links n i) (value i) (fields_from pool texts f nodes links n (suc i) count) (last_from has_key (suc i) count) i refl (field_last (suc i) count)

  all_last : last_entry pool texts nodes links n text ≡ last_from has_key 0 (node_b nodes n)
  unfolding last_entry has_key last_below
  all_last =
      let e : node_b nodes n ≡ 0 + node_b nodes n = omega arith in
      ap (last_below (entry_has_key pool texts nodes links n text)) e
      ∙ last_split (entry_has_key pool texts nodes links n text) 0 (node_b nodes n)
      ∙ or_nothing (last_from has_key 0 (node_b nodes n))

  -- the value of a key, and whether the object has it, by the last entry with the key
  pub field_of_last {ℓ} : (P : Option Json → Found → Type ℓ) → ((k : ℕ) → P (some (f (entry_value nodes links n k))) (Some k)) → P none None → P (field_of (text_of pool texts text) (fields_from pool texts f nodes links n 0 (node_b nodes n))) (last_entry pool texts nodes links n text)
  unfolding to_option value
  field_of_last P at nothing = rw (field_last 0 (node_b nodes n), all_last) (go (last_from has_key 0 (node_b nodes n)))
    where
      go : (l : Found) → P (to_option value l) l
      go (Some k) = at k
      go None = nothing

  pub has_last : has_field (text_of pool texts text) (fields_from pool texts f nodes links n 0 (node_b nodes n)) ≡ is_found (last_entry pool texts nodes links n text)
  unfolding has_field
  has_last = rw (field_last 0 (node_b nodes n), all_last) (is_some_lem value (last_from has_key 0 (node_b nodes n)))

  -- an entry is the last with its key where no later field has the key
  pub is_last_field : (k count : ℕ) → suc k + count ≡ node_b nodes n → entry_has_key pool texts nodes links n text k ≡ true → is_last_of pool texts nodes links n text k ≡ not (has_field (text_of pool texts text) (fields_from pool texts f nodes links n (suc k) count))
  unfolding is_last_of last_entry has_field has_key last_below or_later
  is_last_field k count e t =
      rw (field_last (suc k) count, is_some_lem value (last_from has_key (suc k) count), ← e, last_split (entry_has_key pool texts nodes links n text) (suc k) count, t)
      (last_bound has_key (suc k) count (λ l. is_at k (or_later l (Some k)) ≡ not (is_found l)) (λ j g. ne_eqb j k (λ q. omega arith)) (eq-eqb k k refl))
