-- A group of a stored file, unpacked: host/REPLAY.md has the format. Assumes nothing.
use Rattle.std.specs.Prelude.{ℕ, zero, suc, ◌+◌, ◌/◌, ◌%◌, List, set, replicate, ltb, eqb}
use Rattle.text.specs.Choice.{pick}
use Rattle.stored.specs.Stored.{place_after, word_behind, number_of, number_at, laid}
use Rattle.stored.specs.declared.group.Extent.{Extent}
use Rattle.stored.specs.declared.group.Group.{Group}

-- byte k of a word, the low one first
unfoldable pub octet_of : ℕ → ℕ → ℕ
octet_of word k =
    pick (eqb k 0) (word % 256) (pick (eqb k 1) (word / 256 % 256) (pick (eqb k 2) (word / 65536 % 256) (word / 16777216 % 256)))

-- the words that so many bytes take
unfoldable pub words_for : ℕ → ℕ
words_for bytes = bytes / 4 + (bytes % 4 + 3) / 4

-- the three words of a slice's head
unfoldable pub head_at : List ℕ → ℕ → Extent
head_at input at = record { length = word_behind input at 0; kept = word_behind input at 1; fill = word_behind input at 2 }

module _ {A : Type 0} (head : Extent) (stored : ℕ → A) (fill : A) where
  -- element i of a slice: a stored one, or the one that fills the rest
  abbrev pub kept_or : ℕ → A
  kept_or i = pick (ltb i head.kept) (stored i) fill

  -- the slice itself, each element at its place
  abbrev pub slice_unpacked : (ℕ → ℕ) → List A → List A
  slice_unpacked place into = laid place kept_or head.length into

module _ (input : List ℕ) (from : ℕ) (head : Extent) where
  -- element i of words
  unfoldable pub element_of : ℕ → ℕ
  element_of = kept_or head (word_behind input from) head.fill

  -- the same of bytes, four to a word
  unfoldable pub byte_element_of : ℕ → ℕ
  byte_element_of = kept_or head (λ i. octet_of (word_behind input from (i / 4)) (i % 4)) (octet_of head.fill 0)

  -- the same of numbers, two words each
  unfoldable pub number_element_of : ℕ → ℕ
  number_element_of = kept_or head (λ i. number_at input (place_after (place_after from i) i)) (number_of head.fill 0)

  -- the slices themselves: a table goes into the buffer of all tables from a place on, bytes and numbers have buffers of their own
  unfoldable pub words_unpacked : ℕ → List ℕ → List ℕ
  words_unpacked start into = laid (place_after start) element_of head.length into

  unfoldable pub bytes_unpacked : List ℕ → List ℕ
  bytes_unpacked into = laid (λ i. i) byte_element_of head.length into

  unfoldable pub numbers_unpacked : List ℕ → List ℕ
  numbers_unpacked into = laid (λ i. i) number_element_of head.length into

-- how far the tables are unpacked: the next head, the next stored words, where the last table ends, where each ends, and the buffer
pub record Unpacking : Type 0 where
  pub heads : ℕ
  pub at : ℕ
  pub end : ℕ
  pub ends : List ℕ
  pub words : List ℕ

abbrev pub unpacking : ℕ → ℕ → ℕ → List ℕ → List ℕ → Unpacking
unpacking heads at end ends words = record { heads = heads; at = at; end = end; ends = ends; words = words }

-- one more table, behind those before it
unfoldable pub table_unpacked : List ℕ → Unpacking → ℕ → Unpacking
table_unpacked input s k =
    let head : Extent = head_at input s.heads in
    unpacking (place_after s.heads 3) (place_after s.at head.kept) (place_after s.end head.length) (set s.ends (k + 1) (place_after s.end head.length)) (words_unpacked input s.at head s.end s.words)

unfoldable pub tables_unpacked : List ℕ → Unpacking → ℕ → Unpacking
tables_unpacked input s zero = s
tables_unpacked input s (suc n) = table_unpacked input (tables_unpacked input s n) n

-- the seven tables from their heads and from where their words start
unfoldable pub tables_at : List ℕ → ℕ → ℕ → List ℕ → Unpacking
tables_at input heads from words = tables_unpacked input (unpacking heads from 0 (replicate 8 0) words) 7

-- a group: where its tables end, how long its bytes and numbers are, the place behind it, and the three buffers
pub record Unpacked : Type 0 where
  pub group : Group
  pub words : List ℕ
  pub pool : List ℕ
  pub numbers : List ℕ

abbrev pub unpacked : Group → List ℕ → List ℕ → List ℕ → Unpacked
unpacked group words pool numbers = record { group = group; words = words; pool = pool; numbers = numbers }

abbrev pub unpacked_with : List ℕ → ℕ → Extent → Extent → Unpacking → List ℕ → List ℕ → Unpacked
unpacked_with input from bytes numbers tables pool into =
    unpacked
    (record { ends = tables.ends; bytes = bytes.length; numbers = numbers.length; after = place_after (place_after tables.at numbers.kept) numbers.kept })
    tables.words
    (bytes_unpacked input from bytes pool)
    (numbers_unpacked input tables.at numbers into)

-- the nine heads, the bytes, the tables and the numbers stand one behind the other
unfoldable pub unpacked_of : List ℕ → ℕ → List ℕ → List ℕ → List ℕ → Unpacked
unpacked_of input at words pool numbers =
    unpacked_with input (place_after at 27) (head_at input at) (head_at input (place_after at 24)) (tables_at input (place_after at 3) (place_after (place_after at 27) (words_for (head_at input at).kept)) words) pool numbers
