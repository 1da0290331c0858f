-- A text: a part of the pool, by its record in the table of texts. And what every table and buffer shares: an absent word, and 0 behind
-- what is held. Assumes nothing.
use Rattle.std.specs.Prelude.{ℕ, ◌+◌, ◌*◌, ◌/◌, ◌-◌, List, [], ◌∷◌, ◌++◌, Bool, true, false, length, get_or, take, drop, replicate, ltb, leb, eqb}
use Rattle.text.specs.Choice.{both, pick}

-- table 1: a text's record is two words, start and length in the pool
abbrev pub text_words : ℕ
text_words = 2

-- how many whole records there are
unfoldable pub text_count : List ℕ → ℕ
text_count texts = length texts / text_words

-- word k of record n, and 0 where there is no such record
unfoldable pub text_word : List ℕ → ℕ → ℕ → ℕ
text_word texts n k = pick (ltb n (text_count texts)) (get_or texts (text_words * n + k) 0) 0

-- where text n starts in the pool
unfoldable pub text_start : List ℕ → ℕ → ℕ
text_start texts n = text_word texts n 0

-- how many bytes text n has
unfoldable pub text_length : List ℕ → ℕ → ℕ
text_length texts n = text_word texts n 1

-- len elements from start are among the first whole
unfoldable pub fits_in : ℕ → ℕ → ℕ → Bool
fits_in whole start len = leb (start + len) whole

-- the len elements from start, and nothing where they run past the end
unfoldable pub part_of : List ℕ → ℕ → ℕ → List ℕ
part_of s start len = pick (fits_in (length s) start len) (take len (drop start s)) []

-- a good record: there is one, and its start + length is at most the pool's length
unfoldable pub text_fits : List ℕ → List ℕ → ℕ → Bool
text_fits pool texts n = both (ltb n (text_count texts)) (fits_in (length pool) (text_start texts n) (text_length texts n))

-- a text by number is that part of the pool; a wrong number, or a record that runs off, gives the empty part
unfoldable pub text_of : List ℕ → List ℕ → ℕ → List ℕ
text_of pool texts n = pick (ltb n (text_count texts)) (part_of pool (text_start texts n) (text_length texts n)) []

-- equal byte by byte
unfoldable pub same_bytes : List ℕ → List ℕ → Bool
same_bytes [] [] = true
same_bytes [] (y ∷ ys) = false
same_bytes (x ∷ xs) [] = false
same_bytes (x ∷ xs) (y ∷ ys) = both (eqb x y) (same_bytes xs ys)

-- texts are compared by bytes
unfoldable pub same_text : List ℕ → List ℕ → ℕ → ℕ → Bool
same_text pool texts m n = same_bytes (text_of pool texts m) (text_of pool texts n)

-- ---- tables and buffers
-- an optional word that is absent
abbrev pub NONE : ℕ
NONE = 4294967295

-- n words that hold these words, and 0 behind them
unfoldable pub padded : List ℕ → ℕ → List ℕ
padded words n = words ++ replicate (n - length words) 0
