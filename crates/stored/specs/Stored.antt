-- Places, words and parts of a stored file. Assumes nothing.
use Rattle.std.specs.Prelude.{ℕ, zero, suc, ◌+◌, ◌-◌, ◌*◌, List, [], length, get_or, set, take, drop, leb}
use Rattle.text.specs.Choice.{pick}
use Rattle.text.specs.Text.{fits_in}

-- the place so many words further on; no file is so long that the sum is not taken
unfoldable pub place_after : ℕ → ℕ → ℕ
place_after at count = pick (leb at 4294967296) (at + count) at

-- word k behind a place, 0 past the end
unfoldable pub word_behind : List ℕ → ℕ → ℕ → ℕ
word_behind input at k = get_or input (place_after at k) 0

-- two words as one number, the low one first
unfoldable pub number_of : ℕ → ℕ → ℕ
number_of low high = high * 4294967296 + low

-- the number whose two words stand at a place
unfoldable pub number_at : List ℕ → ℕ → ℕ
number_at input at = number_of (word_behind input at 0) (word_behind input at 1)

-- the elements between two places, none where they run past the end or the second is no later than the first
unfoldable pub between : {A : Type 0} → List A → ℕ → ℕ → List A
between elements start end = pick (fits_in (length elements) start (end - start)) (take (end - start) (drop start elements)) []

-- so many elements stored, each at its place; a place past the end takes none
unfoldable pub laid : {A : Type 0} → (ℕ → ℕ) → (ℕ → A) → ℕ → List A → List A
laid place element zero into = into
laid place element (suc n) into = set (laid place element n into) (place n) (element n)
