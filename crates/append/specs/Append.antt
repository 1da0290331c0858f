-- Document 01, "Compiling": what appending to a lent table leaves, and what clearing its room leaves. Assumes nothing.
use Rattle.std.specs.Prelude.{ℕ, ◌+◌, ◌-◌, ◌≡◌, List, ◌++◌, Bool, true, false, length, take, drop, replicate, leb}
use Rattle.text.specs.Choice.{both, pick}

-- room for n more words after the used ones: by limit and by what is lent
unfoldable pub room : ℕ → ℕ → ℕ → ℕ → Bool
room limit lent used n = both (leb (used + n) limit) (leb (used + n) lent)

-- the words new stand at used; earlier words never change, nor do those after them
unfoldable pub put : List ℕ → ℕ → List ℕ → List ℕ
put words used new = take used words ++ new ++ drop (used + length new) words

-- whether there was room, and the words at exit
pub record Appended : Type 0 where
  pub fits : Bool
  pub words : List ℕ

abbrev pub appended : Bool → List ℕ → Appended
appended fits words = record { fits = fits; words = words }

-- all of the new words, or none of them
unfoldable pub append_of : List ℕ → ℕ → ℕ → List ℕ → Appended
append_of words used limit new =
    pick (room limit (length words) used (length new)) (appended true (put words used new)) (appended false words)

-- the first used words, and 0 for all after them
unfoldable pub cleared : List ℕ → ℕ → List ℕ
cleared words used = take used words ++ replicate (length words - used) 0

-- new words after the used ones where there is room; the used ones as they were
pub record Grown (limit : ℕ) (words words' : List ℕ) (used : ℕ) (new : List ℕ) (r : Bool) : Type 0 where
  pub yes : r ≡ room limit (length words) used (length new)
  pub grown : r ≡ true → take (used + length new) words' ≡ take used words ++ new
  pub kept : take used words' ≡ take used words
  pub long : length words' ≡ length words
