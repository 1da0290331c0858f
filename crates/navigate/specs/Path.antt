-- Document 01, "Answers by number": a path is step pairs, 0 with a text or 1 with an index; 20 with table 9 where it is not. Assumes nothing.
use Rattle.std.specs.Prelude.{ℕ, ◌+◌, ◌*◌, ◌/◌, ◌%◌, Bool, List, length, get_or, eqb, ltb}
use Rattle.text.specs.Choice.{both, pick}
use Rattle.layout.specs.Layout.{NONE}
use Rattle.layout.specs.Walk.{first}
use Rattle.error.specs.Paths.{Step, read_path}
use Rattle.tables.specs.Found.{Fault, Sound, Bad}

-- two words a step: its tag, and a text or an index
abbrev pub step_words : ℕ
step_words = 2

abbrev pub path_tag : List ℕ → ℕ → ℕ
path_tag path i = get_or path (i * step_words) 0

abbrev pub path_word : List ℕ → ℕ → ℕ
path_word path i = get_or path (i * step_words + 1) 0

unfoldable pub step_count : List ℕ → ℕ
step_count path = length path / step_words

-- the steps of a path
unfoldable pub steps_of : List ℕ → List Step
steps_of path = read_path path (step_count path)

-- not ragged, and few enough that a step's number is a word
unfoldable pub path_size : List ℕ → Bool
path_size path = both (eqb (length path % step_words) 0) (ltb (step_count path) NONE)

-- a good step: 0 with one of the texts, of which there are count, or 1 with an index
unfoldable pub words_ok : ℕ → ℕ → ℕ → Bool
words_ok count tag word = pick (eqb tag 0) (ltb word count) (eqb tag 1)

abbrev pub step_ok : ℕ → List ℕ → ℕ → Bool
step_ok count path i = words_ok count (path_tag path i) (path_word path i)

-- the first bad step, or how many there are
unfoldable pub first_bad_step : ℕ → List ℕ → ℕ
first_bad_step count path = first (step_ok count path) 0 (step_count path)

-- 20, table 9: the first bad step, NONE where the path is ragged or too long
unfoldable pub path_fault : ℕ → List ℕ → Fault
path_fault count path =
    pick (path_size path)
    (pick (ltb (first_bad_step count path) (step_count path)) (Bad 9 (first_bad_step count path)) Sound)
    (Bad 9 NONE)
