-- What passes the tests of a number schema: a NaN value, and whatever meets an absent bound, which is a NaN. Assumes nothing.
use Rattle.std.proofs.Common.{◌≡◌, Bool, true, false, ◌||◌, sym, refl, ap, ◌∙◌, Ok, Err}
use lib.Ieee.{Float, nan, inf, fin, neg, lt, eq, le, ne, rem}
use lib.Ieee.Compare.{differs_from_itself}
use Rattle.number.specs.Check.{abs, step, not_multiple_of, refused, check_number_of}
use Rattle.number.specs.declared.tests.Bounds.{Bounds}
use Rattle.number.specs.declared.tests.NumberFault.TheVariants.{OutOfRange, NotMultiple}
use Rattle.number.specs.declared.tests.Range.TheVariants.{BelowMinimum, AboveMaximum, AtOrBelowExclusiveMinimum, AtOrAboveExclusiveMaximum}

-- abs x > 2 ^ -52, as two comparisons with x itself
pub sides : (x : Float) → (lt step x || lt x (neg step)) ≡ lt step (abs x)
unfolding lt abs neg
sides nan = refl
sides (inf true) = refl
sides (inf false) = refl
sides (fin true m e) = refl
sides (fin false m e) = or_false _
  where
    or_false : (b : Bool) → (b || false) ≡ b
    or_false true = refl
    or_false false = refl

-- an absent bound refuses nothing
pub absent-minimum : (v : Float) → lt v nan ≡ false
unfolding lt
absent-minimum nan = refl
absent-minimum (inf s) = refl
absent-minimum (fin s m e) = refl

pub absent-maximum : (v : Float) → lt nan v ≡ false
unfolding lt
absent-maximum v = refl

pub absent_exclusive_minimum : (v : Float) → le v nan ≡ false
unfolding le lt eq
absent_exclusive_minimum nan = refl
absent_exclusive_minimum (inf s) = refl
absent_exclusive_minimum (fin s m e) = refl

pub absent_exclusive_maximum : (v : Float) → le nan v ≡ false
unfolding le lt eq
absent_exclusive_maximum v = refl

pub absent_multiple : (v : Float) → not_multiple_of v nan ≡ false
unfolding not_multiple_of rem abs lt
absent_multiple nan = refl
absent_multiple (inf s) = refl
absent_multiple (fin s m e) = refl

-- what differs from itself is an absent multiple
pub absent_tested : (v m : Float) → ne m m ≡ true → false ≡ not_multiple_of v m
absent_tested v m h = sym (ap (not_multiple_of v) (differs_from_itself m (rw h tt)) ∙ absent_multiple v)

-- ---- the answer, by the first test that refuses
module _ (v : Float) (b : Bounds) where
  pub under_minimum : lt v b.minimum ≡ true → Err (OutOfRange (BelowMinimum v b.minimum)) ≡ check_number_of v b
  unfolding check_number_of
  under_minimum p = simp p

  pub over_maximum : lt v b.minimum ≡ false → lt b.maximum v ≡ true → Err (OutOfRange (AboveMaximum v b.maximum)) ≡ check_number_of v b
  unfolding check_number_of
  over_maximum p q = simp (p, q)

  pub at_exclusive_minimum : lt v b.minimum ≡ false → lt b.maximum v ≡ false → le v b.exclusive_minimum ≡ true
      → Err (OutOfRange (AtOrBelowExclusiveMinimum v b.exclusive_minimum)) ≡ check_number_of v b
  unfolding check_number_of
  at_exclusive_minimum p q r = simp (p, q, r)

  pub at_exclusive_maximum : lt v b.minimum ≡ false → lt b.maximum v ≡ false → le v b.exclusive_minimum ≡ false → le b.exclusive_maximum v ≡ true
      → Err (OutOfRange (AtOrAboveExclusiveMaximum v b.exclusive_maximum)) ≡ check_number_of v b
  unfolding check_number_of
  at_exclusive_maximum p q r s = simp (p, q, r, s)

  pub after_range : {t : Bool} → lt v b.minimum ≡ false → lt b.maximum v ≡ false → le v b.exclusive_minimum ≡ false → le b.exclusive_maximum v ≡ false → not_multiple_of v b.multiple_of ≡ t
      → refused t (NotMultiple v b.multiple_of) (Ok tt) ≡ check_number_of v b
  unfolding check_number_of
  after_range p q r s t = simp (p, q, r, s, t)

-- a NaN value passes every test
pub nan_passes : (b : Bounds) → check_number_of nan b ≡ Ok tt
nan_passes b =
    sym (after_range nan b (absent-maximum _) (absent-minimum _) (absent_exclusive_maximum _) (absent_exclusive_minimum _) no_remainder)
  where
    no_remainder : not_multiple_of nan b.multiple_of ≡ false
    no_remainder = unfold not_multiple_of rem abs lt in refl

-- where all bounds are absent every value passes
pub no_bounds : (v : Float) → check_number_of v (record { minimum = nan; maximum = nan; exclusive_minimum = nan; exclusive_maximum = nan; multiple_of = nan }) ≡ Ok tt
no_bounds v =
    sym (after_range v _ (absent-minimum v) (absent-maximum v) (absent_exclusive_minimum v) (absent_exclusive_maximum v) (absent_multiple v))
