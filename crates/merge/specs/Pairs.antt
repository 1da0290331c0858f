-- Lists of key and value as they stand in the links. Assumes nothing.
use Rattle.std.specs.Prelude.{ℕ, zero, suc, ◌+◌, Bool, List, [], ◌∷◌, get_or}
use Rattle.layout.specs.Layout.{schema_word}
use Rattle.schema.specs.Shape.{Pair}
use Rattle.merge.specs.Merge.{put_all}

abbrev pub pair : ℕ → ℕ → Pair ℕ
pair k v = record { key = k; value = v }

-- n pairs of words from `at` on
unfoldable pub pairs_at : List ℕ → ℕ → ℕ → List (Pair ℕ)
pairs_at L at zero = []
pairs_at L at (suc n) = pair (get_or L at 0) (get_or L (at + 1) 0) ∷ pairs_at L (at + 2) n

-- pairs as links: key, then value
unfoldable pub flat_pairs : List (Pair ℕ) → List ℕ
flat_pairs [] = []
flat_pairs (p ∷ ps) = p.key ∷ p.value ∷ flat_pairs ps

-- the lists of several records, one after the other: `list b` is the list of b
unfoldable pub merge_all : (ℕ → ℕ → Bool) → (ℕ → List (Pair ℕ)) → List (Pair ℕ) → List ℕ → List (Pair ℕ)
merge_all same list acc [] = acc
merge_all same list acc (b ∷ bs) = merge_all same list (put_all same acc (list b)) bs

-- n words from `at` on, each `step` after the one before
unfoldable pub span : List ℕ → ℕ → ℕ → ℕ → List ℕ
span L at step zero = []
span L at step (suc n) = get_or L at 0 ∷ span L (at + step) step n

-- the pairs of a record: words k and k + 1 are their first place and count
unfoldable pub record_pairs : List ℕ → List ℕ → ℕ → ℕ → List (Pair ℕ)
record_pairs S L k b = pairs_at L (schema_word S b k) (schema_word S b (k + 1))
