-- A word of a record by place, and 0 where there is no such record. Assumes nothing.
use Prim.Native.Nat.{ℕ, ◌+◌, ◌*◌, ◌<◌, ◌≤◌}
use mathlib.Core.Path.{◌≡◌}
use mathlib.Core.List.{List}
use borrow.Author.Tests.{lt-ltb, le-ltb}
use lib.ListN.{get_or}
use Rattle.layout.specs.Layout.{registry_words, registry_word, entry_count, pattern_words, pattern_word, pattern_count}

module _ (words : List ℕ) (i k : ℕ) where
  pub registry_in : i < entry_count words → get_or words (i * registry_words + k) 0 ≡ registry_word words i k
  unfolding registry_word
  registry_in h = rw (lt-ltb i (entry_count words) h)

  pub registry-out : entry_count words ≤ i → 0 ≡ registry_word words i k
  unfolding registry_word
  registry-out h = rw (le-ltb i (entry_count words) h)

  pub pattern_in : i < pattern_count words → get_or words (i * pattern_words + k) 0 ≡ pattern_word words i k
  unfolding pattern_word
  pattern_in h = rw (lt-ltb i (pattern_count words) h)

  pub pattern_out : pattern_count words ≤ i → 0 ≡ pattern_word words i k
  unfolding pattern_word
  pattern_out h = rw (le-ltb i (pattern_count words) h)
