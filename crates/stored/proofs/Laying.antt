-- Elements stored one after the other: the first, one more, all of them, and what the stores leave alone. Assumes nothing.
use Prim.Native.Nat.{ℕ, zero, suc, ◌+◌, ◌≤◌, ◌<◌}
use mathlib.Core.Path.{◌≡◌, refl, sym, ap, ◌∙◌, subst}
use mathlib.Core.List.{List}
use mathlib.Core.Logic.{⊎_elim}
use native.Mathlib.Omega.{arith}
use lib.ListN.{length, get_or, set, take, length-set}
use lib.Seq.{take-set-le, get_or-set_other, get_or-set_same}
use Rattle.text.specs.Choice.{le_or_lt}
use Rattle.stored.specs.Stored.{laid}

module _ {A : Type 0} (place : ℕ → ℕ) (element : ℕ → A) (into : List A) where
  pub laid_none : into ≡ laid place element 0 into
  unfolding laid
  laid_none = refl

  step : (i : ℕ) → set (laid place element i into) (place i) (element i) ≡ laid place element (suc i) into
  unfolding laid
  step i = refl

  -- what a turn of a loop leaves
  pub laid_more : (i : ℕ) {words : List A} {p : ℕ} {e : A} → words ≡ laid place element i into → p ≡ place i → e ≡ element i → set words p e ≡ laid place element (i + 1) into
  laid_more i {words} {p} {e} w q r =
      ap (λ (l : List A). set l p e) w
      ∙ ap (λ (k : ℕ). set (laid place element i into) k e) q
      ∙ ap (λ (x : A). set (laid place element i into) (place i) x) r
      ∙ step i
      ∙ ap (λ (n : ℕ). laid place element n into) (omega arith)

  pub laid_all : (i n : ℕ) {words : List A} → words ≡ laid place element i into → i ≡ n → words ≡ laid place element n into
  laid_all i n w e = w ∙ ap (λ (k : ℕ). laid place element k into) e

  pub laid-length : (n : ℕ) → length (laid place element n into) ≡ length into
  unfolding laid
  laid-length zero = refl
  laid-length (suc n) = length-set (laid place element n into) (place n) (element n) ∙ laid-length n

  -- the words before every place stay
  pub laid-before : (from n : ℕ) → ((i : ℕ) → from ≤ place i) → take from (laid place element n into) ≡ take from into
  unfolding laid
  laid-before from zero h = refl
  laid-before from (suc n) h = take-set-le from (laid place element n into) (place n) (element n) (h n) ∙ laid-before from n h

-- so does a word at none of them
module _ (place element : ℕ → ℕ) (into : List ℕ) where
  pub laid_beside : (j n : ℕ) → ((i : ℕ) → i < n → j ≡ place i → ⊥) → get_or (laid place element n into) j 0 ≡ get_or into j 0
  unfolding laid
  laid_beside j zero h = refl
  laid_beside j (suc n) h =
      get_or-set_other (laid place element n into) (place n) j (element n) 0 (h n (omega arith))
      ∙ laid_beside j n (λ i l. h i (omega arith))

-- elements stored from the front on are then read there
pub laid_at_lem : (element : ℕ → ℕ) (into : List ℕ) (n i : ℕ) → i < n → n ≤ length into → get_or (laid (λ j. j) element n into) i 0 ≡ element i
unfolding laid
laid_at_lem element into zero i l h = absurd (omega arith)
laid_at_lem element into (suc n) i l h =
    ⊎_elim
    (λ m. last (omega arith))
    (λ m. get_or-set_other (laid (λ j. j) element n into) n i (element n) 0 (λ e. omega arith) ∙ laid_at_lem element into n i m (omega arith))
    (le_or_lt n i)
  where
    last : n ≡ i → get_or (set (laid (λ j. j) element n into) n (element n)) i 0 ≡ element i
    last e =
        subst (λ (k : ℕ). get_or (set (laid (λ j. j) element n into) n (element n)) k 0 ≡ element k) e
        (get_or-set_same (laid (λ j. j) element n into) n (element n) 0 (subst (λ (k : ℕ). n < k) (sym (laid-length (λ j. j) element into n)) h))
