-- The words only grow: what is read below those at entry stays as it was. Assumes nothing.
use Prim.Native.Nat.{ℕ, zero, suc, ◌+◌, ◌*◌, ◌<◌, ◌≤◌}
use mathlib.Core.Path.{◌≡◌, refl, ◌∙◌}
use mathlib.Core.List.{List, ◌++◌}
use native.Mathlib.Omega.{arith}
use lib.ListN.{length, get_or, length-append, get_or-append}
use Rattle.layout.specs.Layout.{schema_word}
use Rattle.schema.specs.Look.{slice}
use Rattle.merge.specs.Pairs.{pairs_at}
use Rattle.compilation.specs.State.{Source, State}

-- ys begins with the words of xs
pub record Begins (xs ys : List ℕ) : Type 0 where
  pub long : length xs ≤ length ys
  pub same : (i : ℕ) → i < length xs → get_or ys i 0 ≡ get_or xs i 0

pub begins_itself : (xs : List ℕ) → Begins xs xs
begins_itself xs = record { long = omega arith; same = λ i h. refl }

pub begins_more : {xs ys : List ℕ} → Begins xs ys → (new : List ℕ) → Begins xs (ys ++ new)
begins_more {xs} {ys} b new =
    record {
      long = omega (arith, length-append ys new, b.long);
      same = λ i h. get_or-append ys new 0 i (omega (arith, b.long)) ∙ b.same i h;
    }

-- a state grown from the source, of whole records, counted
pub record Grown (C : Source) (st : State) : Type 0 where
  pub notes : Begins C.notes st.notes
  pub schemas : Begins C.schemas st.schemas
  pub links : Begins C.links st.links
  pub un : length st.notes ≡ st.un * 9
  pub us : length st.schemas ≡ st.us * 16
  pub ul : length st.links ≡ st.ul

-- a record of the source reads the same later
pub word_same : {S₀ S : List ℕ} → Begins S₀ S → (count s k : ℕ) → length S₀ ≡ count * 16 → s < count → k < 16 → schema_word S s k ≡ schema_word S₀ s k
unfolding schema_word
word_same b count s k e h l = b.same (s * 16 + k) (omega arith)

pub slice_same : {L₀ L : List ℕ} → Begins L₀ L → (at n : ℕ) → at + n ≤ length L₀ → slice L at n ≡ slice L₀ at n
unfolding slice
slice_same b at zero h = refl
slice_same {L₀} {L} b at (suc n) h = rw (b.same at (omega arith), slice_same b (at + 1) n (omega arith))

pub pairs_same : {L₀ L : List ℕ} → Begins L₀ L → (at n : ℕ) → at + n * 2 ≤ length L₀ → pairs_at L at n ≡ pairs_at L₀ at n
unfolding pairs_at
pairs_same b at zero h = refl
pairs_same {L₀} {L} b at (suc n) h = rw (b.same at (omega arith), b.same (at + 1) (omega arith), pairs_same b (at + 2) n (omega arith))
