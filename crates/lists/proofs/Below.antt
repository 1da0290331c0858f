-- Lists and pairs in the links, step by step: what the code has at hand, and what the definition says of it. Assumes nothing.
use mathlib.Core.Path.{◌≡◌, refl}
use mathlib.Core.Bool.{true, false}
use mathlib.Core.List.{List}
use Prim.Native.Nat.{ℕ, ◌+◌, ◌*◌, ◌<◌, ◌≤◌}
use borrow.Author.Tests.{lt-ltb, le-ltb, le-leb, lt-leb}
use lib.ListN.{length, get_or}
use Rattle.text.specs.Text.{same_text}
use Rattle.layout.specs.Layout.{pair_key}
use Rattle.layout.specs.Walk.{every}
use Rattle.lists.specs.Lists.{link_below, list_below, pair_ok, keys_differ, key_is_new, keys_distinct, pairs_below, pairs_ok}

module _ (links : List ℕ) where
  pub link_below_lem : (limit k : ℕ) → get_or links k 0 < limit → link_below links limit k ≡ true
  unfolding link_below
  link_below_lem limit k h = lt-ltb (get_or links k 0) limit h

  pub link_above : (limit k : ℕ) → limit ≤ get_or links k 0 → link_below links limit k ≡ false
  unfolding link_below
  link_above limit k h = le-ltb (get_or links k 0) limit h

  pub list_out : (first count limit : ℕ) → length links < first + count → false ≡ list_below links first count limit
  unfolding list_below
  list_out first count limit h = rw (lt-leb (first + count) (length links) h)

  pub list_in : (first count limit : ℕ) → first + count ≤ length links → every (link_below links limit) first (first + count) ≡ list_below links first count limit
  unfolding list_below
  list_in first count limit h = rw (le-leb (first + count) (length links) h)

  pub pairs-out : (first count texts limit : ℕ) → length links < first + count * 2 → false ≡ pairs_below links first count texts limit
  unfolding pairs_below
  pairs-out first count texts limit h = rw (lt-leb (first + count * 2) (length links) h)

  pub pairs_in : (first count texts limit : ℕ) → first + count * 2 ≤ length links → every (pair_ok links first texts limit) 0 count ≡ pairs_below links first count texts limit
  unfolding pairs_below
  pairs_in first count texts limit h = rw (le-leb (first + count * 2) (length links) h)

module _ (pool texts links : List ℕ) (first : ℕ) where
  pub keys_same : (j i : ℕ) → same_text pool texts (pair_key links first i) (pair_key links first j) ≡ true → keys_differ pool texts links first j i ≡ false
  unfolding keys_differ
  keys_same j i t = rw t

  pub keys_other : (j i : ℕ) → same_text pool texts (pair_key links first i) (pair_key links first j) ≡ false → keys_differ pool texts links first j i ≡ true
  unfolding keys_differ
  keys_other j i t = rw t

  pub new_is : (j : ℕ) → every (keys_differ pool texts links first j) 0 j ≡ key_is_new pool texts links first j
  unfolding key_is_new
  new_is j = refl

  pub distinct_is : (count : ℕ) → every (key_is_new pool texts links first) 0 count ≡ keys_distinct pool texts links first count
  unfolding keys_distinct
  distinct_is count = refl

  -- keys are compared only where the pairs are there
  pub pairs_there : (count known limit : ℕ) → pairs_below links first count known limit ≡ true → keys_distinct pool texts links first count ≡ pairs_ok pool texts links first count known limit
  unfolding pairs_ok
  pairs_there count known limit t = rw t

  pub pairs-missing : (count known limit : ℕ) → pairs_below links first count known limit ≡ false → false ≡ pairs_ok pool texts links first count known limit
  unfolding pairs_ok
  pairs-missing count known limit t = rw t
