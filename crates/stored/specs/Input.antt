-- What stands at hand of a stored file while it is read; what a read brings, no contract of `io` says. Assumes nothing.
use Rattle.std.specs.Prelude.{ℕ, ◌+◌, ◌*◌, ◌-◌, ◌/◌, ◌≤◌, ◌≡◌, List, length, get_or, take, Bool, ltb, leb}
use Rattle.text.specs.Choice.{pick}
use Rattle.text.specs.Text.{part_of}
use Rattle.stored.specs.Stored.{laid}
use Rattle.stored.specs.declared.input.Held.{Held}

-- four bytes as a word, low byte first
unfoldable pub word_of : ℕ → ℕ → ℕ → ℕ → ℕ
word_of a b c d = a + b * 256 + c * 65536 + d * 16777216

-- word i of the whole words that bytes hold
unfoldable pub word_at : List ℕ → ℕ → ℕ
word_at bytes i =
    pick (ltb i (length bytes / 4)) (word_of (get_or bytes (4 * i) 0) (get_or bytes (4 * i + 1) 0) (get_or bytes (4 * i + 2) 0) (get_or bytes (4 * i + 3) 0)) 0

-- the whole words that bytes hold, stored from a place on
unfoldable pub words_put : List ℕ → ℕ → List ℕ → List ℕ
words_put bytes from into = laid (λ i. from + i) (word_at bytes) (length bytes / 4) into

-- so many words from a place on, stored at the front
unfoldable pub moved : List ℕ → ℕ → ℕ → List ℕ
moved words from count = laid (λ i. i) (λ i. get_or words (from + i) 0) count words

-- room for the words of so many bytes
unfoldable pub room_for : ℕ → ℕ → ℕ → Bool
room_for whole end bytes = leb (end + bytes / 4) whole

-- words are read behind those at hand: these stay, and what is then at hand ends within the buffer
pub record Behind (before after : List ℕ) (from end : ℕ) : Type 0 where
  pub kept : take from after ≡ take from before
  pub more : from ≤ end
  pub within : from ≤ length before → end ≤ length after

-- a buffer refilled: the words that were at hand still are, from the new place on, and what is at hand ends within the buffer
pub record Refilled (before after : List ℕ) (at end : ℕ) (held : Held) : Type 0 where
  pub kept : part_of after held.at (end - at) ≡ part_of before at (end - at)
  pub more : end - at ≤ held.end - held.at
  pub within : end ≤ length before → held.end ≤ length after
