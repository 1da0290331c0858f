-- What a glance says. Assumes nothing.
use Rattle.std.specs.Prelude.{ℕ, ◌≡◌, Bool, true, not, List, eqb, Float}
use Rattle.std.specs.Float.Ieee.{lt}
use Rattle.text.specs.Choice.{both}
use Rattle.layout.specs.Layout.{node_kind, node_a, properties_first, properties_count, required_first, required_count}
use Rattle.schema.specs.Look.{slice}
use Rattle.judge.specs.Judge.{Verdict, fine, real_at, has_key, required_verdict}

-- yes says that the verdict is fine; no says nothing
unfoldable pub Passes : Bool → Verdict → Type 0
Passes r v = r ≡ true → v ≡ fine

-- yes says that it is fine wherever the first one is
unfoldable pub PassesBut : Bool → Verdict → Verdict → Type 0
PassesBut r w v = r ≡ true → w ≡ fine → v ≡ fine

-- a node is a string of that text number
unfoldable pub numbered : List ℕ → ℕ → ℕ → Bool
numbered nodes t n = both (eqb (node_kind nodes n) 4) (eqb (node_a nodes n) t)

-- yes says that the object has that key, whatever its bytes
unfoldable pub HasKey : Bool → List ℕ → List ℕ → ℕ → ℕ → Type 0
HasKey r nodes links n t = r ≡ true → (pool texts : List ℕ) → has_key pool texts nodes links n t ≡ true

-- yes says that the object has each required key, whatever their bytes
unfoldable pub HasRequired : Bool → List ℕ → List ℕ → List ℕ → ℕ → ℕ → Type 0
HasRequired r nodes schemas links n s =
    r ≡ true → (pool texts : List ℕ)
    → required_verdict pool texts nodes links (properties_first schemas s) (properties_count schemas s) n (slice links (required_first schemas s) (required_count schemas s)) ≡ fine

-- a value is not below a bound of table 8, or not above it; an absent one is passed
unfoldable pub at_least : List ℕ → ℕ → Float → Bool
at_least numbers place v = not (lt v (real_at numbers place))

unfoldable pub at_most : List ℕ → ℕ → Float → Bool
at_most numbers place v = not (lt (real_at numbers place) v)
