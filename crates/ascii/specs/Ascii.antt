-- The largest of some bytes; ASCII alone is where it is below 0x80. Assumes nothing.
use Rattle.std.specs.Prelude.{ℕ, List, [], ◌∷◌, Bool, ltb}
use Rattle.text.specs.Choice.{pick}

unfoldable pub larger_of : ℕ → ℕ → ℕ
larger_of a b = pick (ltb a b) b a

-- the largest of a number and those of a list
unfoldable pub largest_from : ℕ → List ℕ → ℕ
largest_from most [] = most
largest_from most (b ∷ s) = largest_from (larger_of most b) s

unfoldable pub largest_of : List ℕ → ℕ
largest_of s = largest_from 0 s

unfoldable pub ascii_of : List ℕ → Bool
ascii_of s = ltb (largest_of s) 0x80
