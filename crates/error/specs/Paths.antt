-- Document 01, "Path buffers": instance steps as pairs (0 with key text, 1 with index), schema steps as kind numbers; all further words
-- are 0. Assumes nothing.
use Rattle.std.specs.Prelude.{ℕ, zero, suc, List, [], ◌∷◌}
use Rattle.text.specs.Text.{padded}

-- 64 levels may nest, in a visit and in compiling: a path has at most as many steps
abbrev pub levels : ℕ
levels = 64

-- a step down: into an object by a key's text, into an array by an index
pub data Step : Type 0 where
  key_step : ℕ → Step
  item_step : ℕ → Step

-- a step's tag, and the word beside it
abbrev pub step_tag : Step → ℕ
step_tag (key_step text) = 0
step_tag (item_step index) = 1

abbrev pub step_word : Step → ℕ
step_word (key_step text) = text
step_word (item_step index) = index

-- the words of an instance path
unfoldable pub path_words : List Step → List ℕ
path_words [] = []
path_words (s ∷ path) = step_tag s ∷ step_word s ∷ path_words path

-- what an instance buffer of n words holds for a path, and a schema buffer for its kinds
unfoldable pub instance_buffer : List Step → ℕ → List ℕ
instance_buffer path n = padded (path_words path) n

unfoldable pub schema_buffer : List ℕ → ℕ → List ℕ
schema_buffer kinds n = padded kinds n

-- the step that two words stand for
abbrev pub step_of : ℕ → ℕ → Step
step_of zero word = key_step word
step_of (suc tag) word = item_step word

-- n steps read back
unfoldable pub read_path : List ℕ → ℕ → List Step
read_path words zero = []
read_path [] (suc n) = []
read_path (tag ∷ []) (suc n) = []
read_path (tag ∷ (word ∷ words)) (suc n) = step_of tag word ∷ read_path words n
