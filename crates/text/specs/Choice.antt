-- Tests joined and choices made by a test, with the laws that every layer cites. Assumes nothing.
use Rattle.std.specs.Prelude.{◌≡◌, refl, Bool, true, false, ◌⊎◌, ℕ, ◌≤◌, ◌<◌, leb}
use Rattle.std.proofs.Common.{sym, ◌∙◌, true≢false, inl, inr, ⊎_elim, leb-true, leb-false}

-- both hold
abbrev pub both : Bool → Bool → Bool
both true b = b
both false b = false

-- at least one holds
abbrev pub either : Bool → Bool → Bool
either true b = true
either false b = b

-- the first where the test holds, else the second
abbrev pub pick {ℓ} : {A : Type ℓ} → Bool → A → A → A
pick true a b = a
pick false a b = b

-- a test that holds and fails
pub clash {ℓ} : {A : Type ℓ} {t : Bool} → t ≡ true → t ≡ false → A
clash p q = absurd (true≢false (sym p ∙ q))

pub true_or_false : (t : Bool) → (t ≡ true) ⊎ (t ≡ false)
true_or_false true = inl refl
true_or_false false = inr refl

-- a number is at most another, or above it
pub le_or_lt : (a b : ℕ) → (a ≤ b) ⊎ (b < a)
le_or_lt a b = ⊎_elim (λ t. inl (leb-true a b t)) (λ t. inr (leb-false a b t)) (true_or_false (leb a b))

-- what does not hold fails
pub not-holds : (t : Bool) → (t ≡ true → ⊥) → t ≡ false
not-holds true h = absurd (h refl)
not-holds false h = refl

-- two tests that hold in the same cases are the same
pub same_test : (s t : Bool) → (s ≡ true → t ≡ true) → (t ≡ true → s ≡ true) → s ≡ t
same_test true t f g = sym (f refl)
same_test false true f g = g refl
same_test false false f g = refl

pub both-holds : {s t : Bool} → s ≡ true → t ≡ true → both s t ≡ true
both-holds p q = rw (p, q)

pub both_left : (s t : Bool) → both s t ≡ true → s ≡ true
both_left true t h = refl
both_left false t h = h

pub both_right : (s t : Bool) → both s t ≡ true → t ≡ true
both_right true t h = h
both_right false t h = clash h refl

pub both_fails_left : {s : Bool} (t : Bool) → s ≡ false → both s t ≡ false
both_fails_left t h = rw h

pub both_fails_right : (s : Bool) {t : Bool} → t ≡ false → both s t ≡ false
both_fails_right true h = h
both_fails_right false h = refl

pub either_left : {s : Bool} (t : Bool) → s ≡ true → either s t ≡ true
either_left t h = rw h

pub either_right : (s : Bool) {t : Bool} → t ≡ true → either s t ≡ true
either_right true h = refl
either_right false h = h

pub either_cases : (s t : Bool) → either s t ≡ true → (s ≡ true) ⊎ (t ≡ true)
either_cases true t h = inl refl
either_cases false t h = inr h

pub either_fails : {s t : Bool} → s ≡ false → t ≡ false → either s t ≡ false
either_fails p q = rw (p, q)

module _ {ℓ} {A : Type ℓ} where
  pub pick_yes : {t : Bool} (a b : A) → t ≡ true → pick t a b ≡ a
  pick_yes a b h = rw h

  pub pick_no : {t : Bool} (a b : A) → t ≡ false → pick t a b ≡ b
  pick_no a b h = rw h

  -- a choice between equals is no choice
  pub pick_same : (t : Bool) (a : A) → pick t a a ≡ a
  pick_same true a = refl
  pick_same false a = refl

-- what holds of each of the two in its case holds of the choice
pub pick_all {ℓ κ} : {A : Type ℓ} (P : A → Type κ) (t : Bool) (a b : A) → (t ≡ true → P a) → (t ≡ false → P b) → P (pick t a b)
pick_all P true a b f g = f refl
pick_all P false a b f g = g refl
