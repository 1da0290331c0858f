-- Document 01, "Tables": a list is (first place, count) in the links, never past their end. Assumes nothing.
use Rattle.std.specs.Prelude.{ℕ, ◌+◌, ◌*◌, List, Bool, not, length, get_or, leb, ltb, eqb}
use Rattle.text.specs.Choice.{both, either}
use Rattle.text.specs.Text.{same_text}
use Rattle.layout.specs.Layout.{NONE, pair_key, pair_value}
use Rattle.layout.specs.Walk.{every}

-- an optional number of a record: absent, or below the limit
unfoldable pub optional_below : ℕ → ℕ → Bool
optional_below w limit = either (eqb w NONE) (ltb w limit)

-- the link at k names a record below the limit
unfoldable pub link_below : List ℕ → ℕ → ℕ → Bool
link_below links limit k = ltb (get_or links k 0) limit

-- a list of records below the limit, inside the links
unfoldable pub list_below : List ℕ → ℕ → ℕ → ℕ → Bool
list_below links first count limit =
    both (leb (first + count) (length links)) (every (link_below links limit) first (first + count))

-- pair k holds a text and a schema before the record
unfoldable pub pair_ok : List ℕ → ℕ → ℕ → ℕ → ℕ → Bool
pair_ok links first texts limit k = both (ltb (pair_key links first k) texts) (ltb (pair_value links first k) limit)

-- the key of pair j differs in bytes from that of pair i
unfoldable pub keys_differ : List ℕ → List ℕ → List ℕ → ℕ → ℕ → ℕ → Bool
keys_differ pool texts links first j i = not (same_text pool texts (pair_key links first i) (pair_key links first j))

-- ... and from that of every pair before it
unfoldable pub key_is_new : List ℕ → List ℕ → List ℕ → ℕ → ℕ → Bool
key_is_new pool texts links first j = every (keys_differ pool texts links first j) 0 j

unfoldable pub keys_distinct : List ℕ → List ℕ → List ℕ → ℕ → ℕ → Bool
keys_distinct pool texts links first count = every (key_is_new pool texts links first) 0 count

unfoldable pub pairs_below : List ℕ → ℕ → ℕ → ℕ → ℕ → Bool
pairs_below links first count texts limit =
    both (leb (first + count * 2) (length links)) (every (pair_ok links first texts limit) 0 count)

-- a properties or pattern list: pairs inside the links, whose keys differ in bytes
unfoldable pub pairs_ok : List ℕ → List ℕ → List ℕ → ℕ → ℕ → ℕ → ℕ → Bool
pairs_ok pool texts links first count known limit =
    both (pairs_below links first count known limit) (keys_distinct pool texts links first count)
