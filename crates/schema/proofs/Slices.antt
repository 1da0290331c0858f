-- The words of a record, and the steps of a loop that walks a list: its invariant speaks of `slice xs (at + i) (n - i)`, counting i up
-- to n. Assumes nothing.
--     -begin    nothing walked yet: the whole list
--     -more     one word, and what is left after it
--     -end      nothing left
use mathlib.Core.Path.{◌≡◌, ap, ◌∙◌}
use mathlib.Core.List.{List, [], ◌∷◌}
use Prim.Native.Nat.{ℕ, zero, suc, ◌+◌, ◌-◌, ◌<◌, ◌≤◌}
use native.Mathlib.Omega.{arith}
use lib.ListN.{get_or}
use Rattle.text.proofs.Count.{one_more, none_left}
use Rattle.layout.specs.Layout.{schema_word}
use Rattle.schema.specs.Look.{slice, own_words}

next_place : (at i : ℕ) → at + i + 1 ≡ at + (i + 1)
next_place at i = omega arith

module _ (xs : List ℕ) (at : ℕ) where
  same_slice : {a m n : ℕ} → a ≡ at → m ≡ n → slice xs a m ≡ slice xs at n
  same_slice p q = rw (p, q)

  pub slice_begin : (n : ℕ) → slice xs (at + 0) (n - 0) ≡ slice xs at n
  slice_begin n = same_slice (omega arith) (omega arith)

  pub slice_more : (i n : ℕ) → i < n → slice xs (at + i) (n - i) ≡ get_or xs (at + i) 0 ∷ slice xs (at + (i + 1)) (n - (i + 1))
  unfolding slice
  slice_more i n h = rw (one_more i n h, next_place at i)

  pub slice-end : (i n : ℕ) → n ≤ i → slice xs (at + i) (n - i) ≡ []
  unfolding slice
  slice-end i n h = rw (none_left i n h)

-- word k of the n words from i on is the record's word i + k
pub own_word : (schemas : List ℕ) (s i n k : ℕ) → k < n → get_or (own_words schemas s i n) k 0 ≡ schema_word schemas s (i + k)
unfolding own_words
own_word schemas s i zero k h = absurd (omega arith)
own_word schemas s i (suc n) zero h = ap (schema_word schemas s) (omega arith)
own_word schemas s i (suc n) (suc k) h = own_word schemas s (i + 1) n k (omega arith) ∙ ap (schema_word schemas s) (omega arith)
