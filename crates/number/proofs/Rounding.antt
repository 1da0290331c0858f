-- The float of an integer's word is nearest to it, and a tie goes to the even significand. In units of the smallest value, 2 ^ -1074. Assumes nothing.
use Rattle.std.proofs.Common.{◌≡◌, ℕ, zero, suc, ◌+◌, ◌-◌, ◌*◌, ◌/◌, ◌%◌, ◌^◌, ◌<◌, ◌≤◌, Bool, true, false, cond, not, T, eqb, ltb, ◌⊎◌, ℤ, pos, negsuc, nat_abs, sym, refl, ap, ◌∙◌, subst, inl, inr, ⊎_elim, le_trans, le_of_eq, lt_of_lt_of_le, lt_of_le_of_lt, le_of_lt, lt_irrefl, mul-le-mul_right, mod-lt, mul_assoc, suc-mul, le_antisymm, eq-or-lt_of_le, mul-lt-mul_of_pos_right, one-mul, div-add-mod', le-div_iff_mul-le, arith, lit<, lit≤, eqb→eq, leb→le, pow_pos, pow_mono, pow-add}
use Prim.Native.Nat.{compare, Ordering}
use lib.Dec.{is_le, compare_is_eq, nleb→lt, eqb_refl}
use lib.Arith.{lt_of_le-ne}
use lib.Ieee.{Float, binary64, size, nearest, round, of_int}
use lib.Ieee.Fits.{round_is, round-fits, kept-lt, nearest-le}
use lib.Ieee.Digits.{size_reaches}
use lib.Ieee.Exact.{HasValue, units_val}
use lib.Ieee.Nearest.{closest, nearest-ge}
use lib.Ieee.Order.{drop, kept}
use lib.Ieee.Scale.{grid, overflow}
use Rattle.number.specs.Nearest.{signed, nearest_of, gap, apart, EvenSignificand, NearestTo, Nearest}
use Rattle.number.proofs.Units.{small, units_are, lt_or_ge, again}

-- ---- what `compare` says
abbrev Cmp : Ordering → ℕ → ℕ → Type 0
Cmp Ordering.lt a b = a < b
Cmp Ordering.eq a b = a ≡ b
Cmp Ordering.gt a b = b < a

cmp : (a b : ℕ) → Cmp (compare a b) a b
cmp a b = go (compare a b) (leb→le a b) (nleb→lt a b) (eqb→eq a b) (λ (e : a ≡ b). subst (λ (x : ℕ). T (eqb a x)) e (eqb_refl a))
  where
    go : (o : Ordering) → (T (is_le o) → a ≤ b) → (T (not (is_le o)) → b < a) → (T (compare_is_eq o) → a ≡ b) → (a ≡ b → T (compare_is_eq o)) → Cmp o a b
    go Ordering.lt h k e n = lt_of_le-ne (h tt) n
    go Ordering.eq h k e n = e tt
    go Ordering.gt h k e n = k tt

-- ---- where a multiple J of u lies, seen from the multiple Q
data Place (Q u J : ℕ) : Type 0 where
  under : J + u ≤ Q → Place Q u J
  here : J ≡ Q → Place Q u J
  next : J ≡ Q + u → Place Q u J
  over : Q + u + u ≤ J → Place Q u J

place : (q u j : ℕ) → Place (q * u) u (j * u)
place q u j = ⊎_elim below (λ h. ⊎_elim (λ g. above (eq-or-lt_of_le g)) (λ g. here (ap (λ (x : ℕ). x * u) (le_antisymm g h))) (lt_or_ge q j)) (lt_or_ge j q)
  where
    below : j < q → Place (q * u) u (j * u)
    below h = under (let p : suc j * u ≤ q * u = mul-le-mul_right u h in let e : suc j * u ≡ j * u + u = suc-mul j u in omega arith)

    above : (suc q ≡ j) ⊎ (suc q < j) → Place (q * u) u (j * u)
    above (inl e) = next (ap (λ (x : ℕ). x * u) (sym e) ∙ suc-mul q u)
    above (inr h) =
        over
        (let p : suc (suc q) * u ≤ j * u = mul-le-mul_right u h in
        let e : suc (suc q) * u ≡ suc q * u + u = suc-mul (suc q) u in
        let d : suc q * u ≡ q * u + u = suc-mul q u in
        omega arith)

-- `nearest` takes the nearer of two neighbours, c = q or the next one, and at a tie the even one
record Chosen (q u r c : ℕ) : Type 0 where
  nearer : ((c ≡ q) × (r * 2 ≤ u)) ⊎ ((c ≡ suc q) × (u ≤ r * 2))
  even : r * 2 ≡ u → c % 2 ≡ 0

chosen : (q u r : ℕ) (o : Ordering) → Cmp o (r * 2) u → Chosen q u r (nearest q o)
chosen q u r Ordering.lt h = record { nearer = inl (refl, omega arith); even = λ e. omega arith }
chosen q u r Ordering.gt h = record { nearer = inr (refl, omega arith); even = λ e. omega arith }
chosen q u r Ordering.eq h = record { nearer = go (q % 2) (mod-lt q (lit< tt)); even = λ e. omega arith }
  where
    go : (t : ℕ) → t < 2 → ((q + t ≡ q) × (r * 2 ≤ u)) ⊎ ((q + t ≡ suc q) × (u ≤ r * 2))
    go zero l = inl (omega arith, omega arith)
    go (suc t) l = inr (omega arith, omega arith)

-- ---- no multiple of u is nearer to N than the closest one, and where another is as near the rest is half of u and the closest one is even
abbrev Side : ℕ → ℕ → ℕ → ℕ → Type 0
Side Q u r C = ((C ≡ Q) × (r * 2 ≤ u)) ⊎ ((C ≡ Q + u) × (u ≤ r * 2))

side : (q u r c : ℕ) → ((c ≡ q) × (r * 2 ≤ u)) ⊎ ((c ≡ suc q) × (u ≤ r * 2)) → Side (q * u) u r (c * u)
side q u r c (inl h) = inl (ap (λ (x : ℕ). x * u) h.0, h.1)
side q u r c (inr h) = inr (ap (λ (x : ℕ). x * u) h.0 ∙ suc-mul q u, h.1)

best_of : (Q u r J C : ℕ) → r < u → Place Q u J → Side Q u r C → gap C (Q + r) ≤ gap J (Q + r)
best_of Q u r J C R (under p) (inl h) = omega arith
best_of Q u r J C R (under p) (inr h) = omega arith
best_of Q u r J C R (here p) (inl h) = omega arith
best_of Q u r J C R (here p) (inr h) = omega arith
best_of Q u r J C R (next p) (inl h) = omega arith
best_of Q u r J C R (next p) (inr h) = omega arith
best_of Q u r J C R (over p) (inl h) = omega arith
best_of Q u r J C R (over p) (inr h) = omega arith

tie_of : (Q u r J C : ℕ) → r < u → Place Q u J → Side Q u r C → gap C (Q + r) ≡ gap J (Q + r) → 0 < gap C J → r * 2 ≡ u
tie_of Q u r J C R (under p) (inl h) e d = omega arith
tie_of Q u r J C R (under p) (inr h) e d = omega arith
tie_of Q u r J C R (here p) (inl h) e d = omega arith
tie_of Q u r J C R (here p) (inr h) e d = omega arith
tie_of Q u r J C R (next p) (inl h) e d = omega arith
tie_of Q u r J C R (next p) (inr h) e d = omega arith
tie_of Q u r J C R (over p) (inl h) e d = omega arith
tie_of Q u r J C R (over p) (inr h) e d = omega arith

module _ (N u j : ℕ) (U : 0 < u) where
  picked : Chosen (N / u) u (N % u) (closest N u)
  picked = chosen (N / u) u (N % u) (compare (N % u * 2) u) (cmp (N % u * 2) u)

  sided : Side (N / u * u) u (N % u) (closest N u * u)
  sided = side (N / u) u (N % u) (closest N u) picked.nearer

  closest_best : gap (closest N u * u) N ≤ gap (j * u) N
  closest_best =
      subst (λ (n : ℕ). gap (closest N u * u) n ≤ gap (j * u) n) (div-add-mod' N u)
      (best_of (N / u * u) u (N % u) (j * u) (closest N u * u) (mod-lt N U) (place (N / u) u j) sided)

  closest_tie : gap (closest N u * u) N ≡ gap (j * u) N → 0 < gap (closest N u * u) (j * u) → N % u * 2 ≡ u
  closest_tie e d =
      tie_of (N / u * u) u (N % u) (j * u) (closest N u * u) (mod-lt N U) (place (N / u) u j) sided
      (subst (λ (n : ℕ). gap (closest N u * u) n ≡ gap (j * u) n) (sym (div-add-mod' N u)) e) d

-- a number of 53 digits, or 2 ^ 53, that is even
canonical : (c k : ℕ) → 2 ^ 52 ≤ c → c ≤ 2 ^ 53 → c % 2 ≡ 0 → EvenSignificand (c * 2 ^ k)
canonical c k a b e = ⊎_elim (λ h. record { significand = c; power = k; whole = refl; least = a; most = h; even = e }) top (lt_or_ge c (2 ^ 53))
  where
    one_up : (k : ℕ) → 53 + k ≡ 52 + (1 + k)
    one_up k = omega arith

    top : 2 ^ 53 ≤ c → EvenSignificand (c * 2 ^ k)
    top h = record {
      significand = 2 ^ 52;
      power = 1 + k;
      whole = ap (λ (x : ℕ). x * 2 ^ k) (le_antisymm b h) ∙ sym (pow-add 2 53 k) ∙ ap (λ (x : ℕ). 2 ^ x) (one_up k) ∙ pow-add 2 52 (1 + k);
      least = lit≤ tt;
      most = lit< tt;
      even = refl;
    }

some_cut : (k r : ℕ) → r * 2 ≡ 2 ^ k → 0 < k
some_cut zero r e = omega arith
some_cut (suc k) r e = omega arith

-- ---- N with all but its 53 leading digits rounded off, against m * 2 ^ j with an m of at most 53 digits
step : (j k : ℕ) → j < k → 53 + j ≤ 52 + k
step j k h = omega arith

counted : (z j : ℕ) → j < z - 53 → 52 + (z - 53) < z
counted z j h = omega arith

nearer_than : (x y p B N : ℕ) → y < p → p ≤ B → B ≤ N → x ≤ gap B N → x < gap y N
nearer_than x y p B N a b c d = omega arith

module _ (N : ℕ) where
  abbrev cut : ℕ
  cut = size N - 53

  abbrev left : ℕ
  left = closest N (2 ^ cut) * 2 ^ cut

  reached : (j : ℕ) → j < cut → 2 ^ 52 * 2 ^ cut ≤ N
  reached j h = le_trans (le_of_eq (sym (pow-add 2 52 cut))) (size_reaches N (52 + cut) (counted (size N) j h))

  -- a value with fewer digits than were cut off lies below 2 ^ 52 * 2 ^ cut, which is nearer
  finer : (m j : ℕ) → m < 2 ^ 53 → j < cut → gap left N < gap (m * 2 ^ j) N
  finer m j M h =
      let B = 2 ^ 52 * 2 ^ cut in
      let a : m * 2 ^ j < 2 ^ 53 * 2 ^ j = mul-lt-mul_of_pos_right M (pow_pos j) in
      let b : 2 ^ 53 * 2 ^ j ≤ B = le_trans (le_of_eq (sym (pow-add 2 53 j))) (le_trans (pow_mono {i = 53 + j} {j = 52 + cut} (step j cut h)) (le_of_eq (pow-add 2 52 cut))) in
      nearer_than (gap left N) (m * 2 ^ j) (2 ^ 53 * 2 ^ j) B N a b (reached j h) (closest_best N (2 ^ cut) (2 ^ 52) (pow_pos cut))

  -- any other is a multiple of 2 ^ cut
  coarser : (m j : ℕ) → cut ≤ j → m * 2 ^ (j - cut) * 2 ^ cut ≡ m * 2 ^ j
  coarser m j h = mul_assoc m (2 ^ (j - cut)) (2 ^ cut) ∙ ap (λ (x : ℕ). m * x) (sym (pow-add 2 (j - cut) cut) ∙ ap (λ (x : ℕ). 2 ^ x) (again j cut h))

  kept-best : (m j : ℕ) → m < 2 ^ 53 → gap left N ≤ gap (m * 2 ^ j) N
  kept-best m j M =
      ⊎_elim (λ h. le_of_lt (finer m j M h))
      (λ h. subst (λ (y : ℕ). gap left N ≤ gap y N) (coarser m j h) (closest_best N (2 ^ cut) (m * 2 ^ (j - cut)) (pow_pos cut)))
      (lt_or_ge j cut)

  kept_tie : (m j : ℕ) → m < 2 ^ 53 → gap left N ≡ gap (m * 2 ^ j) N → 0 < gap left (m * 2 ^ j) → N % 2 ^ cut * 2 ≡ 2 ^ cut
  kept_tie m j M e d =
      ⊎_elim (λ h. absurd (lt_irrefl _ (lt_of_lt_of_le (finer m j M h) (le_of_eq (sym e)))))
      (λ h. closest_tie N (2 ^ cut) (m * 2 ^ (j - cut)) (pow_pos cut)
      (e ∙ ap (λ (y : ℕ). gap y N) (sym (coarser m j h))) (subst (λ (y : ℕ). 0 < gap left y) (sym (coarser m j h)) d))
      (lt_or_ge j cut)

  -- at a tie some digit was cut off, so the number kept has 53 digits, or is 2 ^ 53
  tie_even : N % 2 ^ cut * 2 ≡ 2 ^ cut → EvenSignificand left
  tie_even e =
      canonical (closest N (2 ^ cut)) cut
      (le_trans ((le-div_iff_mul-le (pow_pos cut)).1 (reached 0 (some_cut cut (N % 2 ^ cut) e))) (nearest-ge (N / 2 ^ cut) (compare (N % 2 ^ cut * 2) (2 ^ cut))))
      (le_trans (nearest-le (N / 2 ^ cut) (compare (N % 2 ^ cut * 2) (2 ^ cut))) (kept-lt 53 N))
      ((picked N (2 ^ cut) 0 (pow_pos cut)).even e)

-- ---- with signs: what has the other sign is no nearer than 0
best_at : (s t : Bool) (N m j : ℕ) → m < 2 ^ 53 → apart s (left N) s N ≤ apart t (m * 2 ^ j) s N
best_at true true N m j M = kept-best N m j M
best_at false false N m j M = kept-best N m j M
best_at true false N m j M = let h : gap (left N) N ≤ gap 0 N = kept-best N 0 0 (lit< tt) in omega arith
best_at false true N m j M = let h : gap (left N) N ≤ gap 0 N = kept-best N 0 0 (lit< tt) in omega arith

zero_tie : (N y : ℕ) → gap (left N) N ≡ y + N → 0 < left N + y → EvenSignificand (left N)
zero_tie N y e d = let h : gap (left N) N ≤ gap 0 N = kept-best N 0 0 (lit< tt) in tie_even N (kept_tie N 0 0 (lit< tt) (omega arith) (omega arith))

ties_at : (s t : Bool) (N m j : ℕ) → m < 2 ^ 53 → apart s (left N) s N ≡ apart t (m * 2 ^ j) s N → 0 < apart s (left N) t (m * 2 ^ j) → EvenSignificand (left N)
ties_at true true N m j M e d = tie_even N (kept_tie N m j M e d)
ties_at false false N m j M e d = tie_even N (kept_tie N m j M e d)
ties_at true false N m j M e d = zero_tie N (m * 2 ^ j) e d
ties_at false true N m j M e d = zero_tie N (m * 2 ^ j) e d

-- ---- the theorem
over_one : (n : ℕ) → n / 1 ≡ n
over_one n = omega arith

grid_is : (n : ℕ) → grid binary64 n 1 ≡ left (n * 2 ^ 1074)
grid_is n =
    let N = n * 2 ^ 1074 in
    ap (λ (w : ℕ). closest N (1 * 2 ^ (size w - 53)) * 2 ^ (size w - 53)) (over_one N) ∙ ap (λ (w : ℕ). closest N w * 2 ^ (size N - 53)) (one-mul (2 ^ (size N - 53)))

-- 2 ^ 64 is a value of the format too, so what n rounds to is not above it
below : (x y n : ℕ) → n ≤ y → gap x n ≤ gap y n → x ≤ y
below x y n h k = omega arith

no_overflow : (n : ℕ) → n ≤ 2 ^ 64 → grid binary64 n 1 < overflow binary64
no_overflow n h =
    let N = n * 2 ^ 1074 in
    lt_of_le_of_lt (le_trans (le_of_eq (grid_is n)) (below (left N) (1 * 2 ^ 1138) N (le_trans (mul-le-mul_right (2 ^ 1074) h) (lit≤ tt)) (kept-best N 1 1138 (lit< tt))))
    (lit< tt)

rounded : (s : Bool) (n : ℕ) → n ≤ 2 ^ 64 → NearestTo s n (round binary64 s n 1)
rounded s n h =
    let N = n * 2 ^ 1074 in
    record {
      held = round-fits binary64 s n 1;
      sign = s;
      units = left N;
      value =
          subst (λ (a : ℕ). HasValue (round binary64 s n 1) s a (2 ^ 1074)) (grid_is n)
          (subst (λ (x : Float). HasValue x s (grid binary64 n 1) (2 ^ 1074)) (sym (round_is binary64 s n 1)) (units_val binary64 s (kept 53 N 1) (drop 53 N 1) (no_overflow n h)));
      best = λ t m e Y f v.
          let y = units_are t m e Y f v.1 in
          subst (λ (a : ℕ). apart s (left N) s N ≤ apart t a s N) (sym y.1) (best_at s t N m y.0 (small t m e f));
      ties = λ t m e Y f v same other.
          let y = units_are t m e Y f v.1 in
          ties_at s t N m y.0 (small t m e f) (same ∙ ap (λ (a : ℕ). apart t a s N) y.1) (subst (λ (a : ℕ). 0 < apart s (left N) t a) y.1 other);
    }

integer : (z : ℤ) → nat_abs z ≤ 2 ^ 64 → Nearest z (of_int binary64 z)
unfolding of_int
integer (pos n) h = rounded false n h
integer (negsuc n) h = rounded true (suc n) h

magnitude : (w : ℕ) → w < 2 ^ 64 → nat_abs (signed w) ≤ 2 ^ 64
magnitude w h = go (ltb w (2 ^ 63))
  where
    go : (b : Bool) → nat_abs (cond b (pos w) (negsuc (2 ^ 64 - suc w))) ≤ 2 ^ 64
    go true = omega arith
    go false = omega arith

-- the float of a word is nearest to the word's integer, a tie going to the even significand
pub nearest_word : (w : ℕ) → w < 2 ^ 64 → Nearest (signed w) (nearest_of w)
unfolding nearest_of
nearest_word w h = integer (signed w) (magnitude w h)
