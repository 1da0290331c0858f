-- The span of a text is the text: its part of the pool is `text_of`, and it lies within the pool. Assumes nothing.
use mathlib.Core.Path.{◌≡◌, sym, ap, ◌∙◌}
use mathlib.Core.Bool.{true, false}
use mathlib.Core.List.{List}
use mathlib.Core.Logic.{⊎_elim}
use Prim.Native.Nat.{ℕ, ◌+◌, ◌≤◌}
use native.Mathlib.Omega.{arith}
use lib.ListN.{length}
use Rattle.text.specs.Choice.{true_or_false, pick_yes, pick_no}
use Rattle.text.specs.Text.{text_start, text_length, text_fits, part_of, text_of}
use Rattle.text.proofs.Parts.{fits_within, part_none, text_part, text_out}
use Rattle.checker.specs.declared.span.Span.{Span}
use Rattle.checker.specs.Span.{span_at, span_of}

module _ (pool texts : List ℕ) (n : ℕ) where
  pub span_in : text_fits pool texts n ≡ true → span_of pool texts n ≡ span_at (text_start texts n) (text_length texts n)
  unfolding span_of
  span_in t = pick_yes (span_at (text_start texts n) (text_length texts n)) (span_at 0 0) t

  pub span-out : text_fits pool texts n ≡ false → span_of pool texts n ≡ span_at 0 0
  unfolding span_of
  span-out t = pick_no (span_at (text_start texts n) (text_length texts n)) (span_at 0 0) t

  part_at : Span → List ℕ
  part_at s = part_of pool s.start s.size

  -- its part of the pool is the text
  pub span_part : part_of pool (span_of pool texts n).start (span_of pool texts n).size ≡ text_of pool texts n
  unfolding part_at
  span_part =
      ⊎_elim (λ t. ap part_at (span_in t) ∙ sym (text_part pool texts n))
      (λ t. ap part_at (span-out t) ∙ part_none pool ∙ sym (text_out pool texts n t))
      (true_or_false (text_fits pool texts n))

  end_of : Span → ℕ
  end_of s = s.start + s.size

  -- and lies within it
  pub span_within : (span_of pool texts n).start + (span_of pool texts n).size ≤ length pool
  unfolding end_of
  span_within =
      ⊎_elim
      (λ t. omega (arith, ap end_of (span_in t), fits_within pool texts n t))
      (λ t. omega (arith, ap end_of (span-out t)))
      (true_or_false (text_fits pool texts n))
