-- The laws of equality of numbers: on finite numbers the two ways of source mode are equivalences, and standard mode's is reflexive and symmetric. Assumes nothing.
use Rattle.std.proofs.Common.{◌≡◌, ℕ, ◌*◌, ◌/◌, ◌^◌, ◌<◌, Bool, true, false, ◌&&◌, ◌||◌, eqb, ◌⊎◌, sym, refl, ap, ◌∙◌, subst, ap₂, inl, inr, ⊎_elim, zero-mul, mul_right_comm, eq-eqb, eqb-true}
use mathlib.Core.Bool.{beq, false≢true}
use native.Mathlib.Nat.{eq_of_mul-eq-mul_right}
use lib.Ieee.{Float, nan, inf, fin, binary64, up, down, level, eq, of_bits, of_int}
use lib.Ieee.Fits.{down_pos}
use Rattle.text.specs.Choice.{same_test}
use Rattle.number.specs.Nearest.{nearest_of}
use Rattle.number.specs.Pattern.{is_finite, finite_of}
use Rattle.number.specs.Equal.{mixed_of, signs_agree, equal_reals_of, equal_numbers_of, finite_number, of_source}
use Rattle.number.specs.declared.equal.Equality.{Equality}
use Rattle.number.specs.declared.equal.Equality.TheVariants.{Enum, Unique, Standard}
use Rattle.number.specs.declared.equal.Number.{Number}
use Rattle.number.specs.declared.equal.Number.TheVariants.{Integer, Real}

-- ---- tests
pub both : (p q : Bool) → (p && q) ≡ true → (p ≡ true) × (q ≡ true)
both true q h = (refl, h)
both false q h = absurd (false≢true h)

and_true : (p q : Bool) → p ≡ true → q ≡ true → (p && q) ≡ true
and_true p q h k = ap₂ ◌&&◌ h k

eqb_swap : (a b : ℕ) → eqb a b ≡ eqb b a
eqb_swap a b = same_test (eqb a b) (eqb b a) (λ h. eq-eqb b a (sym (eqb-true a b h))) (λ h. eq-eqb a b (sym (eqb-true b a h)))

eqb_trans : (a b c : ℕ) → eqb a b ≡ true → eqb b c ≡ true → eqb a c ≡ true
eqb_trans a b c h k = eq-eqb a c (eqb-true a b h ∙ eqb-true b c k)

-- ---- ±a and ±b are one number: equal magnitudes, and equal signs or zero
beq_refl : (s : Bool) → beq s s ≡ true
beq_refl true = refl
beq_refl false = refl

beq_true : (s t : Bool) → beq s t ≡ true → s ≡ t
beq_true true true h = refl
beq_true false false h = refl
beq_true true false h = absurd (false≢true h)
beq_true false true h = absurd (false≢true h)

or_true : (p q : Bool) → (p || q) ≡ true → (p ≡ true) ⊎ (q ≡ true)
or_true true q h = inl refl
or_true false q h = inr h

pub level_true : (s : Bool) (a : ℕ) (t : Bool) (b : ℕ) → level s a t b ≡ true → (a ≡ b) × ((s ≡ t) ⊎ (a ≡ 0))
level_true s a t b h =
    let k = both (eqb a b) (beq s t || eqb a 0) h in
    (eqb-true a b k.0, ⊎_elim (λ g. inl (beq_true s t g)) (λ g. inr (eqb-true a 0 g)) (or_true (beq s t) (eqb a 0) k.1))

true_level : (s : Bool) (a : ℕ) (t : Bool) (b : ℕ) → a ≡ b → (s ≡ t) ⊎ (a ≡ 0) → level s a t b ≡ true
true_level s a t b e (inl h) = and_true (eqb a b) (beq s t || eqb a 0) (eq-eqb a b e) (ap (λ (x : Bool). x || eqb a 0) (subst (λ (x : Bool). beq s x ≡ true) h (beq_refl s)))
true_level s a t b e (inr h) = and_true (eqb a b) (beq s t || eqb a 0) (eq-eqb a b e) (ap (λ (x : Bool). beq s t || x) (eq-eqb a 0 h) ∙ or_right (beq s t))
  where
    or_right : (p : Bool) → (p || true) ≡ true
    or_right true = refl
    or_right false = refl

-- ---- floats
eq_self : (x : Float) → is_finite x ≡ true → eq x x ≡ true
unfolding eq
eq_self nan h = absurd (false≢true h)
eq_self (inf s) h = absurd (false≢true h)
eq_self (fin s m e) h = true_level s (m * up e * down e) s (m * up e * down e) refl (inl refl)

eq_sym : (x y : Float) → eq x y ≡ true → eq y x ≡ true
unfolding eq
eq_sym nan y h = absurd (false≢true h)
eq_sym (inf s) nan h = absurd (false≢true h)
eq_sym (inf s) (inf t) h = subst (λ (x : Bool). beq x s ≡ true) (beq_true s t h) (beq_refl s)
eq_sym (inf s) (fin t n d) h = absurd (false≢true h)
eq_sym (fin s m e) nan h = absurd (false≢true h)
eq_sym (fin s m e) (inf t) h = absurd (false≢true h)
eq_sym (fin s m e) (fin t n d) h =
    let k = level_true s (m * up e * down d) t (n * up d * down e) h in
    true_level t (n * up d * down e) s (m * up e * down d) (sym k.0) (⊎_elim (λ g. inl (sym g)) (λ g. inr (sym k.0 ∙ g)) k.1)

eq_swap : (x y : Float) → eq x y ≡ eq y x
eq_swap x y = same_test (eq x y) (eq y x) (eq_sym x y) (eq_sym y x)

-- x / p = y / q = z / r
cross : (x p y q z r : ℕ) → 0 < q → x * q ≡ y * p → y * r ≡ z * q → x * r ≡ z * p
cross x p y q z r Q h k =
    eq_of_mul-eq-mul_right q Q (x * r) (z * p)
    (mul_right_comm x r q ∙ ap (λ (n : ℕ). n * r) h ∙ mul_right_comm y p r ∙ ap (λ (n : ℕ). n * p) k ∙ mul_right_comm z q p)

vanish : (x q r : ℕ) → 0 < q → x * q ≡ 0 → x * r ≡ 0
vanish x q r Q h = ap (λ (n : ℕ). n * r) (eq_of_mul-eq-mul_right q Q x 0 (h ∙ sym (zero-mul q))) ∙ zero-mul r

level_trans : (s t u : Bool) (x p y q z r : ℕ) → 0 < p → 0 < q → 0 < r → level s (x * q) t (y * p) ≡ true → level t (y * r) u (z * q) ≡ true → level s (x * r) u (z * p) ≡ true
level_trans s t u x p y q z r P Q R h k =
    let a = level_true s (x * q) t (y * p) h in
    let b = level_true t (y * r) u (z * q) k in
    true_level s (x * r) u (z * p) (cross x p y q z r Q a.0 b.0)
    (⊎_elim
    (λ i. ⊎_elim (λ j. inl (i ∙ j)) (λ j. inr (vanish x q r Q (a.0 ∙ vanish y r p R j))) b.1)
    (λ i. inr (vanish x q r Q i))
    a.1)

eq_trans : (x y z : Float) → eq x y ≡ true → eq y z ≡ true → eq x z ≡ true
unfolding eq
eq_trans nan y z h k = absurd (false≢true h)
eq_trans (inf s) nan z h k = absurd (false≢true h)
eq_trans (inf s) (fin t n d) z h k = absurd (false≢true h)
eq_trans (inf s) (inf t) nan h k = absurd (false≢true k)
eq_trans (inf s) (inf t) (fin u l g) h k = absurd (false≢true k)
eq_trans (inf s) (inf t) (inf u) h k = subst (λ (x : Bool). beq s x ≡ true) (beq_true s t h ∙ beq_true t u k) (beq_refl s)
eq_trans (fin s m e) nan z h k = absurd (false≢true h)
eq_trans (fin s m e) (inf t) z h k = absurd (false≢true h)
eq_trans (fin s m e) (fin t n d) nan h k = absurd (false≢true k)
eq_trans (fin s m e) (fin t n d) (inf u) h k = absurd (false≢true k)
eq_trans (fin s m e) (fin t n d) (fin u l g) h k = level_trans s t u (m * up e) (down e) (n * up d) (down d) (l * up g) (down g) (down_pos e) (down_pos d) (down_pos g) h k

-- ---- signs
signs_self : (way : Equality) (p : ℕ) → signs_agree way p p ≡ true
signs_self Enum p = refl
signs_self Unique p = eq-eqb (p / 2 ^ 63) (p / 2 ^ 63) refl
signs_self Standard p = refl

signs_swap : (way : Equality) (p q : ℕ) → signs_agree way p q ≡ signs_agree way q p
signs_swap Enum p q = refl
signs_swap Unique p q = eqb_swap (p / 2 ^ 63) (q / 2 ^ 63)
signs_swap Standard p q = refl

signs_trans : (way : Equality) (p q r : ℕ) → signs_agree way p q ≡ true → signs_agree way q r ≡ true → signs_agree way p r ≡ true
signs_trans Enum p q r h k = refl
signs_trans Unique p q r h k = eqb_trans (p / 2 ^ 63) (q / 2 ^ 63) (r / 2 ^ 63) h k
signs_trans Standard p q r h k = refl

-- ---- numbers
source-apart : (way : Equality) (word bits : ℕ) → of_source way ≡ true → mixed_of way word bits ≡ true → ⊥
unfolding mixed_of
source-apart Enum w p h k = false≢true k
source-apart Unique w p h k = false≢true k
source-apart Standard w p h k = false≢true h

-- every way is reflexive on finite numbers
pub equal_refl : (way : Equality) (a : Number) → finite_number a ≡ true → equal_numbers_of way a a ≡ true
unfolding equal_numbers_of equal_reals_of finite_of
equal_refl way (Integer x) h = eq-eqb x x refl
equal_refl way (Real p) h = and_true _ _ (eq_self (of_bits binary64 p) h) (signs_self way p)

-- every way gives the same answer with its two numbers exchanged
pub equal_swap : (way : Equality) (a b : Number) → equal_numbers_of way a b ≡ equal_numbers_of way b a
unfolding equal_numbers_of equal_reals_of
equal_swap way (Integer x) (Integer y) = eqb_swap x y
equal_swap way (Integer x) (Real q) = refl
equal_swap way (Real p) (Integer y) = refl
equal_swap way (Real p) (Real q) = ap₂ ◌&&◌ (eq_swap (of_bits binary64 p) (of_bits binary64 q)) (signs_swap way p q)

pub equal_sym : (way : Equality) (a b : Number) → equal_numbers_of way a b ≡ true → equal_numbers_of way b a ≡ true
equal_sym way a b h = equal_swap way b a ∙ h

-- the ways of source mode are transitive
pub equal_trans : (way : Equality) (a b c : Number) → of_source way ≡ true → equal_numbers_of way a b ≡ true → equal_numbers_of way b c ≡ true → equal_numbers_of way a c ≡ true
unfolding equal_numbers_of equal_reals_of
equal_trans way (Integer x) (Integer y) (Integer z) s h k = eqb_trans x y z h k
equal_trans way (Integer x) (Integer y) (Real r) s h k = absurd (source-apart way y r s k)
equal_trans way (Integer x) (Real q) c s h k = absurd (source-apart way x q s h)
equal_trans way (Real p) (Integer y) c s h k = absurd (source-apart way y p s h)
equal_trans way (Real p) (Real q) (Integer z) s h k = absurd (source-apart way z q s k)
equal_trans way (Real p) (Real q) (Real r) s h k =
    let i = both _ _ h in
    let j = both _ _ k in
    and_true _ _ (eq_trans (of_bits binary64 p) (of_bits binary64 q) (of_bits binary64 r) i.0 j.0) (signs_trans way p q r i.1 j.1)

-- standard mode's is not: 2 ^ 53 + 1 and 2 ^ 53 both equal the real 2 ^ 53
pub standard_not_transitive : (equal_numbers_of Standard (Integer 9007199254740993) (Real 0x4340_0000_0000_0000) ≡ true) × (equal_numbers_of Standard (Real 0x4340_0000_0000_0000) (Integer 9007199254740992) ≡ true) × (equal_numbers_of Standard (Integer 9007199254740993) (Integer 9007199254740992) ≡ false)
unfolding equal_numbers_of mixed_of nearest_of of_int eq of_bits
standard_not_transitive = (refl, refl, refl)

-- 0.0 and -0.0 are equal in enum and in standard mode, and differ in unique
pub zeros : (equal_numbers_of Enum (Real 0) (Real 0x8000_0000_0000_0000) ≡ true) × (equal_numbers_of Standard (Real 0) (Real 0x8000_0000_0000_0000) ≡ true) × (equal_numbers_of Unique (Real 0) (Real 0x8000_0000_0000_0000) ≡ false)
unfolding equal_numbers_of equal_reals_of eq of_bits
zeros = (refl, refl, refl)
