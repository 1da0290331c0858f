-- A run of the stack, walked, and the lists of bases and of a derived record as what was laid behind them leaves them. Assumes nothing.
use Prim.Native.Nat.{ℕ, suc, ◌+◌, ◌-◌, ◌≤◌, ◌<◌}
use mathlib.Core.Path.{◌≡◌, ap, ◌∙◌}
use mathlib.Core.Bool.{Bool}
use mathlib.Core.List.{List, [], ◌∷◌}
use native.Mathlib.Omega.{arith}
use lib.ListN.{length, get_or, take}
use lib.Seq.{take-length}
use Rattle.layout.specs.Layout.{required_first, required_count}
use Rattle.schema.specs.Look.{slice}
use Rattle.merge.specs.Pairs.{span}
use Rattle.merge.proofs.Lists.{part_same}
use Rattle.joins.specs.Joins.{required_of, pair_words, required_words}

-- a run of the stack, walked
pub span_turn : (X : List ℕ) (sp j count b : ℕ) → j < count → b ≡ get_or (take (length X) X) (sp + j) 0 → span X (sp + j) 1 (count - j) ≡ b ∷ span X (sp + (j + 1)) 1 (count - (j + 1))
unfolding span
span_turn X sp j count b h e =
    let a : count - j ≡ suc (count - (j + 1)) = omega arith in
    let d : sp + (j + 1) ≡ sp + j + 1 = omega arith in
    let x : b ≡ get_or X (sp + j) 0 = e ∙ ap (λ (l : List ℕ). get_or l (sp + j) 0) (take-length X) in
    rw (a, d, x)

pub span-done : (X : List ℕ) (sp j count : ℕ) → count ≤ j → span X (sp + j) 1 (count - j) ≡ []
unfolding span
span-done X sp j count h = let a : count - j ≡ 0 = omega arith in rw a

pub span-start : (X : List ℕ) (sp count : ℕ) → span X sp 1 count ≡ span X (sp + 0) 1 (count - 0)
span-start X sp count =
    let a : count - 0 ≡ count = omega arith in
    let b : sp + 0 ≡ sp = omega arith in
    rw (a, b)

-- required lists are read below bound, which what is laid leaves as it was
pub required_at_lem : (S L₀ L : List ℕ) (bound at b first n : ℕ) → bound ≤ at → take at L ≡ take at L₀ → first ≡ required_first S b → n ≡ required_count S b → slice (take bound L) first n ≡ required_of S (take bound L₀) b
unfolding required_of
required_at_lem S L₀ L bound at b first n h k e q = rw (part_same bound at L L₀ h k, e, q)

-- what was laid later leaves these lists as they were
module _ (S S₀ : List ℕ) (bound own at : ℕ) (low : bound ≤ at) (lower : own ≤ at) (L M : List ℕ) (same-below : take at M ≡ take at L) (bs : List ℕ) (s : ℕ) where
  pub pair-words-kept : (same : ℕ → ℕ → Bool) (k : ℕ) → pair_words same S S₀ bound own M bs k s ≡ pair_words same S S₀ bound own L bs k s
  unfolding pair_words
  pair-words-kept same k = rw (part_same bound at M L low same-below, part_same own at M L lower same-below)

  pub required_words_kept : required_words S S₀ bound own M bs s ≡ required_words S S₀ bound own L bs s
  unfolding required_words
  required_words_kept = rw (part_same bound at M L low same-below, part_same own at M L lower same-below)
