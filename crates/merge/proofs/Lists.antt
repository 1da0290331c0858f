-- Lists in the links, by their places and one after the other. Assumes nothing.
use Prim.Native.Nat.{ℕ, zero, suc, ◌+◌, ◌*◌, ◌≤◌}
use mathlib.Core.Path.{◌≡◌, refl, sym, ap, ◌∙◌}
use mathlib.Core.List.{List, ◌∷◌}
use native.Mathlib.Omega.{arith}
use lib.ListN.{length, get_or, take, drop}
use lib.Seq.{take-take, drop-cons}
use Rattle.layout.specs.Layout.{pair_key, pair_value}
use Rattle.schema.specs.Shape.{Pair}
use Rattle.schema.specs.Look.{slice, pairs_from}
use Rattle.merge.specs.Pairs.{pair, pairs_at, span}

-- a shorter part of equal parts
pub part_same : (a b : ℕ) (X Y : List ℕ) → a ≤ b → take b X ≡ take b Y → take a X ≡ take a Y
part_same a b X Y h e = sym (take-take a b X h) ∙ ap (take a) e ∙ take-take a b Y h

pub span-length : (L : List ℕ) (at step n : ℕ) → length (span L at step n) ≡ n
unfolding span
span-length L at step zero = refl
span-length L at step (suc n) = ap suc (span-length L (at + step) step n)

-- words that follow one another are a list as `schema` reads it
pub span-slice : (L : List ℕ) (at n : ℕ) → span L at 1 n ≡ slice L at n
unfolding span slice
span-slice L at zero = refl
span-slice L at (suc n) = ap (λ (l : List ℕ). get_or L at 0 ∷ l) (span-slice L (at + 1) n)

-- the pairs of a list, as `schema` counts them and as they stand
pub pairs-from : (L : List ℕ) (first k n : ℕ) → pairs_from L first k n ≡ pairs_at L (first + k * 2) n
unfolding pairs_from pairs_at pair_key pair_value
pairs-from L first k zero = refl
pairs-from L first k (suc n) =
    let e : first + (k + 1) * 2 ≡ first + k * 2 + 2 = omega arith in
    ap (λ (l : List (Pair ℕ)). pair (get_or L (first + k * 2) 0) (get_or L (first + k * 2 + 1) 0) ∷ l) (pairs-from L first (k + 1) n ∙ ap (λ (i : ℕ). pairs_at L i n) e)

-- all of them
pub pairs_are : (L : List ℕ) (first n : ℕ) → pairs_from L first 0 n ≡ pairs_at L first n
pairs_are L first n = pairs-from L first 0 n ∙ ap (λ (at : ℕ). pairs_at L at n) (omega arith)

-- words that follow one another within a list are a part of it
pub span_part : (L : List ℕ) (at n : ℕ) → at + n ≤ length L → span L at 1 n ≡ take n (drop at L)
unfolding span
span_part L at zero h = refl
span_part L at (suc n) h =
    let a : drop at L ≡ get_or L at 0 ∷ drop (suc at) L = drop-cons L at 0 (omega arith) in
    let e : at + 1 ≡ suc at = omega arith in
    rw (a, e) (ap (λ (l : List ℕ). get_or L at 0 ∷ l) (span_part L (suc at) n (omega arith)))
