-- Navigation: what 01's sentences say of a small file. Assumes nothing.
use mathlib.Core.Path.{◌≡◌, refl}
use mathlib.Core.Bool.{Bool, true, false}
use mathlib.Core.List.{List, [], ◌∷◌}
use Prim.Native.Nat.{ℕ}
use Rattle.text.specs.Text.{text_count, text_word, text_start, text_length, fits_in, part_of, text_of, same_bytes, same_text}
use Rattle.layout.specs.Layout.{node_word, pair_key, pair_value}
use Rattle.error.specs.Paths.{Step, key_step, item_step}
use Rattle.lookup.specs.Find.{Found, last_below}
use Rattle.std.specs.Prelude.{Some, None}
use Rattle.lookup.specs.Lookup.{key_is, entry_key, entry_value, item_node, entry_has_key, last_entry}
use Rattle.navigate.specs.Walk.{and_then, entry_node, item_into, key_into, step_into, navigate_over}

module _ (pool texts nodes links : List ℕ) (n : ℕ) where
  -- the empty path finds its start
  pub empty-path : (wanted : Bool) → navigate_over pool texts nodes links wanted n [] ≡ Some n
  unfolding navigate_over
  empty-path wanted = refl

  -- a step that is not the last never answers a key node
  pub value_before_last : (wanted : Bool) (s t : Step) (path : List Step) → navigate_over pool texts nodes links wanted n (s ∷ (t ∷ path)) ≡ and_then (step_into pool texts nodes links n s false) (λ m. navigate_over pool texts nodes links wanted m (t ∷ path))
  unfolding navigate_over
  value_before_last wanted s t path = refl

-- the file `- a: null` with a second entry `a: true` in the same object; text 1 has the bytes of text 0, and nodes are numbered in order:
-- the key (0), null (1), true (2), the object (3), the array (4)
pub small_pool : List ℕ
small_pool = 97 ∷ []

pub small_texts : List ℕ
small_texts = 0 ∷ 1 ∷ 0 ∷ 1 ∷ []

pub small_nodes : List ℕ
small_nodes = 4 ∷ 0 ∷ 0 ∷ 0 ∷ 0 ∷ 0 ∷ 0 ∷ 0 ∷ 1 ∷ 1 ∷ 0 ∷ 0 ∷ 6 ∷ 0 ∷ 2 ∷ 0 ∷ 5 ∷ 4 ∷ 1 ∷ 0 ∷ []

pub small_links : List ℕ
small_links = 0 ∷ 1 ∷ 0 ∷ 2 ∷ 3 ∷ []

pub at_small : Bool → ℕ → List Step → Found
at_small wanted n path = navigate_over small_pool small_texts small_nodes small_links wanted n path

-- the last entry with that key, compared by bytes; its key node where that is wanted; no item past the end; no key of an array
pub worked_value : at_small false 4 (item_step 0 ∷ (key_step 1 ∷ [])) ≡ Some 2
unfolding at_small small_pool small_texts small_nodes small_links navigate_over step_into key_into item_into entry_node last_entry last_below entry_has_key key_is entry_key entry_value item_node pair_key pair_value node_word same_text same_bytes text_of text_count part_of fits_in text_start text_length text_word
worked_value = refl

pub worked_key : at_small true 4 (item_step 0 ∷ (key_step 1 ∷ [])) ≡ Some 0
unfolding at_small small_pool small_texts small_nodes small_links navigate_over step_into key_into item_into entry_node last_entry last_below entry_has_key key_is entry_key entry_value item_node pair_key pair_value node_word same_text same_bytes text_of text_count part_of fits_in text_start text_length text_word
worked_key = refl

pub worked_past_end : at_small false 4 (item_step 1 ∷ []) ≡ None
unfolding at_small small_pool small_texts small_nodes small_links navigate_over step_into item_into item_node node_word
worked_past_end = refl

pub worked_wrong_kind : at_small false 4 (key_step 0 ∷ []) ≡ None
unfolding at_small small_pool small_texts small_nodes small_links navigate_over step_into key_into node_word
worked_wrong_kind = refl
