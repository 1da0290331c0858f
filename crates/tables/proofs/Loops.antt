-- A loop over a table's records: its invariant is that what is left has the same first bad record. Assumes nothing.
use mathlib.Core.Path.{◌≡◌}
use mathlib.Core.Bool.{Bool, false}
use mathlib.Core.List.{List}
use Prim.Native.Nat.{ℕ, ◌+◌, ◌*◌, ◌<◌, ◌≤◌}
use native.Mathlib.Omega.{arith}
use borrow.Author.Tests.{lt-ltb, le-ltb}
use lib.ListN.{length}
use Rattle.layout.specs.Layout.{node_words, schema_words, node_count, schema_count}
use Rattle.layout.specs.Walk.{first}
use Rattle.layout.proofs.Walk.{first_stop, first_end}
use Rattle.tables.specs.Found.{Fault, Bad, bad_or}

module _ (table : ℕ) (f : ℕ → Bool) (n : ℕ) (rest : Fault) (i : ℕ) (inv : first f i n ≡ first f 0 n) where
  pub bad_here : i < n → f i ≡ false → Bad table i ≡ bad_or table f n rest
  unfolding bad_or
  bad_here h t = let e : i ≡ first f 0 n = first_stop f i n inv h t in rw (← e, lt-ltb i n h)

  pub none_bad : i ≤ n → n ≤ i → rest ≡ bad_or table f n rest
  unfolding bad_or
  none_bad h l = let e : n ≡ first f 0 n = first_end f i n inv h l in rw (← e, le-ltb n n (omega arith))

-- a record is there where all its words are
module _ (words : List ℕ) (i : ℕ) where
  pub node_there : i * node_words + node_words ≤ length words → i < node_count words
  unfolding node_count
  node_there h = omega arith

  pub nodes_over : length words < i * node_words + node_words → node_count words ≤ i
  unfolding node_count
  nodes_over h = omega arith

  pub schema_there : i * schema_words + schema_words ≤ length words → i < schema_count words
  unfolding schema_count
  schema_there h = omega arith

  pub schemas_over : length words < i * schema_words + schema_words → schema_count words ≤ i
  unfolding schema_count
  schemas_over h = omega arith
