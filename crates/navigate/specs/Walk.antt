-- Document 01, "A visit", Navigation: one step down, and the steps of a path in order. Assumes nothing.
use Rattle.std.specs.Prelude.{ℕ, Bool, false, List, [], ◌∷◌, eqb, ltb}
use Rattle.text.specs.Choice.{pick}
use Rattle.layout.specs.Layout.{node_kind, node_b}
use Rattle.error.specs.Paths.{Step, key_step, item_step}
use Rattle.lookup.specs.Find.{Found, found_at}
use Rattle.std.specs.Prelude.{Some, None}
use Rattle.lookup.specs.Lookup.{entry_key, entry_value, item_node, last_entry}

-- go on from the node that was found
abbrev pub and_then : Found → (ℕ → Found) → Found
and_then (Some n) go = go n
and_then None go = None

-- the key is wanted of the last step only; `left` steps are left with this one
unfoldable pub wanted_at : Bool → ℕ → Bool
wanted_at wanted left = pick (eqb left 1) wanted false

module _ (nodes links : List ℕ) where
  -- an entry is entered at its value node, or at its key node where that is wanted
  unfoldable pub entry_node : ℕ → Bool → ℕ → ℕ
  entry_node n wanted k = pick wanted (entry_key nodes links n k) (entry_value nodes links n k)

  -- an index step takes, of an array, the item of that index
  unfoldable pub item_into : ℕ → ℕ → Found
  item_into n index =
      pick (eqb (node_kind nodes n) 5)
      (pick (ltb index (node_b nodes n)) (Some (item_node nodes links n index)) None)
      None

module _ (pool texts nodes links : List ℕ) where
  -- a key step takes, of an object, the last entry with that string key
  unfoldable pub key_into : ℕ → ℕ → Bool → Found
  key_into n text wanted =
      pick (eqb (node_kind nodes n) 6)
      (found_at (entry_node nodes links n wanted) (last_entry pool texts nodes links n text))
      None

  -- one step down from a node
  unfoldable pub step_into : ℕ → Step → Bool → Found
  step_into n (key_step text) wanted = key_into n text wanted
  step_into n (item_step index) wanted = item_into nodes links n index

  -- the empty path finds its start; with the key wanted, a last key step answers the key node
  unfoldable pub navigate_over : Bool → ℕ → List Step → Found
  navigate_over wanted n [] = Some n
  navigate_over wanted n (s ∷ []) = step_into n s wanted
  navigate_over wanted n (s ∷ (t ∷ path)) = and_then (step_into n s false) (λ m. navigate_over wanted m (t ∷ path))
