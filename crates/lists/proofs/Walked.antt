-- What a walk that found nothing bad says of each place, and what an iterator's `all` says of a walk. Assumes nothing.
use mathlib.Core.Path.{◌≡◌, refl, sym, ap, ◌∙◌}
use mathlib.Core.Bool.{Bool, true, ◌&&◌}
use mathlib.Core.List.{List, ◌∷◌}
use mathlib.Core.Logic.{⊎_elim}
use Prim.Native.Nat.{ℕ, zero, suc, ◌+◌, ◌-◌, ◌<◌, ◌≤◌}
use native.Mathlib.Omega.{arith}
use native.Mathlib.Numerals.{add-one}
use lib.ListN.{length, get_or, take, drop}
use Rattle.std.specs.List.{list_all, range_with_len}
use Rattle.std.proofs.Math.Seq.{drop-cons}
use Rattle.text.specs.Choice.{clash, true_or_false, le_or_lt}
use Rattle.layout.specs.Walk.{every, first}
use Rattle.layout.proofs.Walk.{every_more, every-stop, first_more, first_stop}

-- past the last place nothing is tested
pub every-none : (f : ℕ → Bool) (i e : ℕ) → e ≤ i → every f i e ≡ true
unfolding every
every-none f i e l = let z : e - i ≡ 0 = omega arith in rw z

-- with n for what is left
every_within : (f : ℕ → Bool) (n i e : ℕ) → e - i ≡ n → every f i e ≡ true → (k : ℕ) → i ≤ k → k < e → f k ≡ true
every_within f zero i e z t k l h = absurd (omega arith)
every_within f (suc n) i e z t k l h =
    ⊎_elim
    (λ u.
    ⊎_elim (λ m. let s : k ≡ i = omega arith in rw s u)
    (λ m. every_within f n (i + 1) e (omega arith) (every_more f i e t (omega arith) u) k (omega arith) h)
    (le_or_lt k i))
    (λ u. clash refl (sym (every-stop f i e t (omega arith) u)))
    (true_or_false (f i))

pub every_at : (f : ℕ → Bool) (i e : ℕ) → every f i e ≡ true → (k : ℕ) → i ≤ k → k < e → f k ≡ true
every_at f i e t = every_within f (e - i) i e refl t

first_within : (f : ℕ → Bool) (n i e : ℕ) → e - i ≡ n → e ≤ first f i e → (k : ℕ) → i ≤ k → k < e → f k ≡ true
first_within f zero i e z t k l h = absurd (omega arith)
first_within f (suc n) i e z t k l h =
    ⊎_elim
    (λ u.
    let m = first_more f i e refl (omega arith) u in
    ⊎_elim (λ q. let s : k ≡ i = omega arith in rw s u)
    (λ q. first_within f n (i + 1) e (omega arith) (omega arith) k (omega arith) h)
    (le_or_lt k i))
    (λ u. let s = first_stop f i e refl (omega arith) u in absurd (omega arith))
    (true_or_false (f i))

-- a search that ran to the end
pub first_at : (f : ℕ → Bool) (i e : ℕ) → e ≤ first f i e → (k : ℕ) → i ≤ k → k < e → f k ≡ true
first_at f i e t = first_within f (e - i) i e refl t

-- a test of each of a range's numbers
range_within : (f : ℕ → Bool) (n i e : ℕ) → e - i ≡ n → list_all f (range_with_len i n) ≡ every f i e
range_within f zero i e z = sym (every-none f i e (omega arith))
range_within f (suc n) i e z =
    ⊎_elim
    (λ u. rw u (range_within f n (i + 1) e (omega arith) ∙ every_more f i e refl (omega arith) u))
    (λ u. rw u (every-stop f i e refl (omega arith) u))
    (true_or_false (f i))

pub from_range : {r : Bool} (f : ℕ → Bool) (i e : ℕ) → r ≡ list_all f (range_with_len i (e - i)) → r ≡ every f i e
from_range f i e h = h ∙ range_within f (e - i) i e refl

-- a test of each of n words from i on
pub every_part : (p : ℕ → Bool) (words : List ℕ) (n i : ℕ) → i + n ≤ length words → list_all p (take n (drop i words)) ≡ every (λ k. p (get_or words k 0)) i (i + n)
every_part p words zero i h = sym (every-none (λ k. p (get_or words k 0)) i (i + 0) (omega arith))
every_part p words (suc n) i h =
    let e : i + suc n ≡ i + 1 + n = omega arith in
    let at = λ (k : ℕ). p (get_or words k 0) in
    let d : drop i words ≡ get_or words i 0 ∷ drop (i + 1) words = rw add-one (drop-cons words i 0 (omega arith)) in
    ⊎_elim
    (λ u. rw (d, e) (ap (λ (b : Bool). b && list_all p (take n (drop (i + 1) words))) u ∙ every_part p words n (i + 1) (omega arith) ∙ every_more at i (i + 1 + n) refl (omega arith) u))
    (λ u. rw d (ap (λ (b : Bool). b && list_all p (take n (drop (i + 1) words))) u ∙ every-stop at i (i + suc n) refl (omega arith) u))
    (true_or_false (p (get_or words i 0)))
