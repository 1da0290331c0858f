-- One step of the walk, and the loop along a path. The loop's invariant is that the walk over the steps from step i on, from the node that
-- was reached, is the whole walk. Assumes nothing.
--     -more     the step finds a node: the invariant one step further
--     -stop     it finds nothing: the answer
--     -end      no step is left: the answer
use mathlib.Core.Path.{◌≡◌, refl, sym, ap, ◌∙◌}
use mathlib.Core.Bool.{Bool, false}
use mathlib.Core.List.{List, [], ◌∷◌}
use mathlib.Core.Logic.{⊎_elim}
use Prim.Native.Nat.{ℕ, ◌+◌, ◌-◌, ◌<◌, ◌≤◌}
use native.Mathlib.Omega.{arith}
use borrow.Author.Tests.{eq-eqb, ne_eqb}
use Rattle.text.specs.Choice.{le_or_lt}
use Rattle.error.specs.Paths.{Step, step_of}
use Rattle.lookup.specs.Find.{Found}
use Rattle.std.specs.Prelude.{Some, None}
use Rattle.navigate.specs.Path.{path_tag, path_word, step_count, steps_of}
use Rattle.navigate.specs.Walk.{and_then, wanted_at, step_into, navigate_over}
use Rattle.navigate.proofs.Steps.{steps_from, steps_begin, steps_more, steps_end}

-- at the last step the key is wanted or not, before it never
pub wanted_last : (wanted : Bool) (left : ℕ) → left ≡ 1 → wanted ≡ wanted_at wanted left
unfolding wanted_at
wanted_last wanted left h = rw (eq-eqb left 1 h)

pub wanted-before : (wanted : Bool) (left : ℕ) → (left ≡ 1 → ⊥) → false ≡ wanted_at wanted left
unfolding wanted_at
wanted-before wanted left h = rw (ne_eqb left 1 h)

module _ (pool texts nodes links : List ℕ) where
  module _ (wanted : Bool) where
    over_last : (n : ℕ) (s : Step) (found : Found) → found ≡ step_into pool texts nodes links n s wanted → navigate_over pool texts nodes links wanted n (s ∷ []) ≡ and_then found (λ m. navigate_over pool texts nodes links wanted m [])
    unfolding navigate_over
    over_last n s (Some m) e = sym e
    over_last n s None e = sym e

    over_next : (n : ℕ) (s t : Step) (rest : List Step) → navigate_over pool texts nodes links wanted n (s ∷ (t ∷ rest)) ≡ and_then (step_into pool texts nodes links n s false) (λ m. navigate_over pool texts nodes links wanted m (t ∷ rest))
    unfolding navigate_over
    over_next n s t rest = refl

    module _ (path : List ℕ) (n i : ℕ) (h : i < step_count path) where
      -- what step i finds
      abbrev found_at : Found
      found_at = step_into pool texts nodes links n (step_of (path_tag path i) (path_word path i)) (wanted_at wanted (step_count path - i))

      over_more : navigate_over pool texts nodes links wanted n (steps_from path i) ≡ and_then found_at (λ m. navigate_over pool texts nodes links wanted m (steps_from path (i + 1)))
      over_more =
          ⊎_elim
          (λ l. rw (steps_more path i h, steps_end path (i + 1) l, ← wanted_last wanted (step_count path - i) (omega arith)) (over_last n (step_of (path_tag path i) (path_word path i)) (step_into pool texts nodes links n (step_of (path_tag path i) (path_word path i)) wanted) refl))
          (λ l. rw (steps_more path i h, steps_more path (i + 1) l, ← wanted-before wanted (step_count path - i) (λ e. absurd (omega arith))) (over_next n (step_of (path_tag path i) (path_word path i)) (step_of (path_tag path (i + 1)) (path_word path (i + 1))) (steps_from path (i + 1 + 1))))
          (le_or_lt (step_count path) (i + 1))

    module _ (path : List ℕ) (n i count : ℕ) {x found : Found} {key : Bool} (counted : count ≡ step_count path) (inv : navigate_over pool texts nodes links wanted n (steps_from path i) ≡ x) (h : i < count) (k : key ≡ wanted_at wanted (count - i)) (e : found ≡ step_into pool texts nodes links n (step_of (path_tag path i) (path_word path i)) key) where
      rest_after : Found → Found
      rest_after r = and_then r (λ m. navigate_over pool texts nodes links wanted m (steps_from path (i + 1)))

      whole : rest_after found ≡ x
      unfolding rest_after
      whole = ap rest_after (e ∙ ap (step_into pool texts nodes links n (step_of (path_tag path i) (path_word path i))) (k ∙ ap (λ (c : ℕ). wanted_at wanted (c - i)) counted)) ∙ sym (over_more path n i (omega arith)) ∙ inv

      pub walk_more : {m : ℕ} → found ≡ Some m → navigate_over pool texts nodes links wanted m (steps_from path (i + 1)) ≡ x
      unfolding rest_after
      walk_more f = sym (ap rest_after f) ∙ whole

      pub walk_stop : found ≡ None → None ≡ x
      unfolding rest_after
      walk_stop f = sym (ap rest_after f) ∙ whole

    pub walk_begin : (path : List ℕ) (n : ℕ) → navigate_over pool texts nodes links wanted n (steps_from path 0) ≡ navigate_over pool texts nodes links wanted n (steps_of path)
    walk_begin path n = ap (navigate_over pool texts nodes links wanted n) (steps_begin path)

    pub walk_end : {x : Found} (path : List ℕ) (n i : ℕ) → navigate_over pool texts nodes links wanted n (steps_from path i) ≡ x → step_count path ≤ i → Some n ≡ x
    unfolding navigate_over
    walk_end path n i inv l = rw (steps_end path i l) at inv
