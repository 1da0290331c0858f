-- same_bytes is the equality of lists: what holds of it, for this crate's proofs and for callers. Assumes nothing.
use mathlib.Core.Path.{◌≡◌, refl, sym, ap, ◌∙◌}
use mathlib.Core.Bool.{Bool, true, false}
use mathlib.Core.List.{List, [], ◌∷◌}
use Prim.Native.Nat.{ℕ, zero, suc, ◌-◌, ◌<◌, ◌≤◌}
use native.Mathlib.Omega.{arith}
use lib.ListN.{length, get_or, take, drop}
use lib.Dec.{eqb}
use lib.Pointwise.{pointwise}
use Rattle.std.proofs.lemmas.List.{length-take-le, take_rest}
use borrow.Author.Tests.{eq-eqb, eqb-true}
use Rattle.text.specs.Choice.{both, clash, both-holds, both_left, both_right, same_test, not-holds}
use Rattle.text.specs.Text.{text_of, same_bytes, same_text}

pub same_refl : (a : List ℕ) → same_bytes a a ≡ true
unfolding same_bytes
same_refl [] = refl
same_refl (x ∷ a) = both-holds (eq-eqb x x refl) (same_refl a)

-- true of equal lists, and of no others
pub same_complete : (a b : List ℕ) → a ≡ b → same_bytes a b ≡ true
same_complete a b e = rw e (same_refl b)

pub same_sound : (a b : List ℕ) → same_bytes a b ≡ true → a ≡ b
unfolding same_bytes
same_sound [] [] t = refl
same_sound [] (y ∷ b) t = clash t refl
same_sound (x ∷ a) [] t = clash t refl
same_sound (x ∷ a) (y ∷ b) t =
    rw (eqb-true x y (both_left (eqb x y) (same_bytes a b) t), same_sound a b (both_right (eqb x y) (same_bytes a b) t))

pub same_differs : (a b : List ℕ) → (a ≡ b → ⊥) → same_bytes a b ≡ false
same_differs a b h = not-holds (same_bytes a b) (λ t. h (same_sound a b t))

pub same_sym : (a b : List ℕ) → same_bytes a b ≡ same_bytes b a
same_sym a b =
    same_test (same_bytes a b) (same_bytes b a) (λ t. same_complete b a (sym (same_sound a b t)))
    (λ t. same_complete a b (sym (same_sound b a t)))

pub same_trans : (a b c : List ℕ) → same_bytes a b ≡ true → same_bytes b c ≡ true → same_bytes a c ≡ true
same_trans a b c s t = same_complete a c (same_sound a b s ∙ same_sound b c t)

-- what `==` of two slices answers
pub same_pointwise : (a b : List ℕ) → pointwise eqb a b ≡ same_bytes a b
unfolding same_bytes
same_pointwise [] [] = refl
same_pointwise [] (y ∷ b) = refl
same_pointwise (x ∷ a) [] = refl
same_pointwise (x ∷ a) (y ∷ b) = ap (both (eqb x y)) (same_pointwise a b)

-- the k in front, then the rest
pub same_parts : (k : ℕ) (a b : List ℕ) → k ≤ length a → k ≤ length b → both (same_bytes (take k a) (take k b)) (same_bytes (drop k a) (drop k b)) ≡ same_bytes a b
unfolding same_bytes
same_parts zero a b h l = refl
same_parts (suc k) [] b h l = absurd (omega arith)
same_parts (suc k) (x ∷ a) [] h l = absurd (omega arith)
same_parts (suc k) (x ∷ a) (y ∷ b) h l = first (eqb x y) (same_bytes (take k a) (take k b)) _ ∙ ap (both (eqb x y)) (same_parts k a b (omega arith) (omega arith))
  where
    first : (p q r : Bool) → both (both p q) r ≡ both p (both q r)
    first true q r = refl
    first false q r = refl

-- what the code asks of the k in front, and of the rest
pub same_front : (k : ℕ) (a b : List ℕ) → k ≤ length a → k ≤ length b → {f r : Bool} → f ≡ pointwise eqb (take k b) (take (length (take k b)) a) → r ≡ pointwise eqb (take (length a - k) (drop k a)) (take (length b - k) (drop k b)) → both f r ≡ same_bytes a b
same_front k a b h l e d =
    let n : length (take k b) ≡ k = length-take-le k b l in
    rw (e, d, n, take_rest a k, take_rest b k, same_pointwise (take k b) (take k a), same_sym (take k b) (take k a), same_pointwise (drop k a) (drop k b)) (same_parts k a b h l)

pub same_front_no : (k : ℕ) (a b : List ℕ) → k ≤ length a → k ≤ length b → pointwise eqb (take k b) (take (length (take k b)) a) ≡ false → same_bytes a b ≡ false
same_front_no k a b h l e =
    sym (same_front k a b h l {f = false} {r = pointwise eqb (take (length a - k) (drop k a)) (take (length b - k) (drop k b))} (sym e) refl)

-- lists of one length that agree at each place are the same, and where two differ they are not
pub same_yes : (a b : List ℕ) → length a ≡ length b → ((k : ℕ) → k < length a → get_or a k 0 ≡ get_or b k 0) → same_bytes a b ≡ true
unfolding same_bytes
same_yes [] [] e h = refl
same_yes [] (y ∷ b) e h = let z : ◌≡◌ {A = ℕ} 0 1 = cc in absurd (omega arith)
same_yes (x ∷ a) [] e h = let z : ◌≡◌ {A = ℕ} 0 1 = cc in absurd (omega arith)
same_yes (x ∷ a) (y ∷ b) e h =
    both-holds (eq-eqb x y (h 0 (omega arith))) (same_yes a b (omega arith) (λ k l. h (suc k) (omega arith)))

pub same_no_length : (a b : List ℕ) → (length a ≡ length b → ⊥) → same_bytes a b ≡ false
same_no_length a b h = same_differs a b (λ e. h (ap length e))

pub same_no_at : (a b : List ℕ) (k : ℕ) → (get_or a k 0 ≡ get_or b k 0 → ⊥) → same_bytes a b ≡ false
same_no_at a b k h = same_differs a b (λ e. h (ap (λ (l : List ℕ). get_or l k 0) e))

-- the same of two texts
module _ (pool texts : List ℕ) where
  pub same_text_bytes : (m n : ℕ) → same_text pool texts m n ≡ same_bytes (text_of pool texts m) (text_of pool texts n)
  unfolding same_text
  same_text_bytes m n = refl

  pub same_text_sound : (m n : ℕ) → same_text pool texts m n ≡ true → text_of pool texts m ≡ text_of pool texts n
  unfolding same_text
  same_text_sound m n t = same_sound (text_of pool texts m) (text_of pool texts n) t

  pub same_text_complete : (m n : ℕ) → text_of pool texts m ≡ text_of pool texts n → same_text pool texts m n ≡ true
  unfolding same_text
  same_text_complete m n e = same_complete (text_of pool texts m) (text_of pool texts n) e

  pub same_text_number : (m n : ℕ) → m ≡ n → same_text pool texts m n ≡ true
  same_text_number m n e = same_text_complete m n (ap (text_of pool texts) e)

  pub same_text_sym : (m n : ℕ) → same_text pool texts m n ≡ same_text pool texts n m
  unfolding same_text
  same_text_sym m n = same_sym (text_of pool texts m) (text_of pool texts n)

  pub same_text_trans : (l m n : ℕ) → same_text pool texts l m ≡ true → same_text pool texts m n ≡ true → same_text pool texts l n ≡ true
  unfolding same_text
  same_text_trans l m n = same_trans (text_of pool texts l) (text_of pool texts m) (text_of pool texts n)
