-- A path's steps by place, and what its check says of them. Assumes nothing.
use mathlib.Core.Path.{◌≡◌, ap, ◌∙◌}
use mathlib.Core.Bool.{true, false}
use mathlib.Core.List.{List, [], ◌∷◌}
use Prim.Native.Nat.{ℕ, suc, ◌+◌, ◌-◌, ◌*◌, ◌%◌, ◌<◌, ◌≤◌}
use native.Mathlib.Omega.{arith}
use lib.ListN.{length, drop}
use lib.Seq.{drop-cons}
use lib.Dec.{eqb, ltb}
use borrow.Author.Tests.{lt-ltb, le-ltb, ltb-true}
use Rattle.text.specs.Choice.{both_right}
use Rattle.text.proofs.Count.{one_more, none_left}
use Rattle.layout.specs.Layout.{NONE}
use Rattle.error.specs.Paths.{Step, step_of, read_path}
use Rattle.tables.specs.Found.{Sound, Bad}
use Rattle.navigate.specs.Path.{path_tag, path_word, step_count, steps_of, path_size, first_bad_step, path_fault}

-- the steps from step i on
unfoldable pub steps_from : List ℕ → ℕ → List Step
steps_from path i = read_path (drop (i * 2) path) (step_count path - i)

module _ (path : List ℕ) where
  pub steps_begin : steps_from path 0 ≡ steps_of path
  unfolding steps_from steps_of
  steps_begin = ap (read_path path) (omega arith)

  pub steps_end : (i : ℕ) → step_count path ≤ i → steps_from path i ≡ []
  unfolding steps_from read_path
  steps_end i h = rw (none_left i (step_count path) h)

  two_words : (i : ℕ) → i < step_count path → drop (i * 2) path ≡ path_tag path i ∷ (path_word path i ∷ drop ((i + 1) * 2) path)
  unfolding step_count
  two_words i h =
      let tag-next : suc (i * 2) ≡ i * 2 + 1 = omega arith in
      let word_next : suc (i * 2 + 1) ≡ (i + 1) * 2 = omega arith in
      drop-cons path (i * 2) 0 (omega arith)
      ∙ ap (λ (l : List ℕ). path_tag path i ∷ l)
      (ap (λ (k : ℕ). drop k path) tag-next ∙ drop-cons path (i * 2 + 1) 0 (omega arith)
      ∙ ap (λ (k : ℕ). path_word path i ∷ drop k path) word_next)

  pub steps_more : (i : ℕ) → i < step_count path → steps_from path i ≡ step_of (path_tag path i) (path_word path i) ∷ steps_from path (i + 1)
  unfolding steps_from read_path
  steps_more i h = rw (two_words i h, one_more i (step_count path) h)

  -- a size that passes: step numbers are words
  pub size_few : path_size path ≡ true → step_count path < NONE
  unfolding path_size
  size_few t = ltb-true (step_count path) NONE (both_right (eqb (length path % 2) 0) (ltb (step_count path) NONE) t)

  module _ (count : ℕ) where
    pub fault_size : path_size path ≡ false → Bad 9 NONE ≡ path_fault count path
    unfolding path_fault
    fault_size t = rw t

    pub fault_step : path_size path ≡ true → first_bad_step count path < step_count path → Bad 9 (first_bad_step count path) ≡ path_fault count path
    unfolding path_fault
    fault_step t h = rw (t, lt-ltb (first_bad_step count path) (step_count path) h)

    pub fault_none : path_size path ≡ true → step_count path ≤ first_bad_step count path → Sound ≡ path_fault count path
    unfolding path_fault
    fault_none t h = rw (t, le-ltb (first_bad_step count path) (step_count path) h)
