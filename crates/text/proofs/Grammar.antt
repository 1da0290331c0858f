-- The walk takes just the octets that RFC 3629's grammar makes, and the count of code points is that of its characters. Assumes nothing.
use mathlib.Core.Path.{◌≡◌, refl, sym, ap, subst, ◌∙◌}
use mathlib.Core.Bool.{true, false}
use mathlib.Core.Logic.{⊎_elim}
use mathlib.Core.List.{List, [], ◌∷◌, ◌++◌}
use Prim.Native.Nat.{ℕ, zero, suc, ◌+◌, ◌-◌, ◌<◌}
use native.Mathlib.Omega.{arith}
use lib.Dec.{leb}
use borrow.Author.Tests.{eqb-true, eq-eqb, ne_eqb, leb-true, le-leb, lt-leb}
use Rattle.text.specs.declared.utf8.Wait.{Wait}
use Rattle.text.specs.Choice.{pick, both-holds, both_left, both_right, both_fails_right, not-holds, true_or_false, pick_yes, pick_no, pick_all}
use Rattle.text.specs.Utf8.{From, Tail, Character, one, two, three_e0, three_e1, three_ed, three_ee, four_f0, four_f1, four_f4, Octets, none, more, wait, bad, start, lead_of, step_of, run, within, utf8_of, point_of, code_points_of}
use Rattle.text.proofs.Octet.{lead_00, lead_c2, lead_e0, lead_e1, lead_ed, lead_ee, lead_f0, lead_f1, lead_f4}

within_yes : {lo hi b : ℕ} → From lo hi b → within lo hi b ≡ true
within_yes {lo} {hi} {b} h = both-holds (le-leb lo b h.0) (le-leb b hi h.1)

from : (lo hi b : ℕ) → within lo hi b ≡ true → From lo hi b
from lo hi b t = (leb-true lo b (both_left (leb lo b) (leb b hi) t), leb-true b hi (both_right (leb lo b) (leb b hi) t))

-- an octet in its range is taken, and one out of it never mended
taken : (m : ℕ) {lo hi b : ℕ} → From lo hi b → step_of (wait (suc m) lo hi) b ≡ wait m 0x80 0xBF
unfolding step_of
taken m h = let e : suc m - 1 ≡ m = omega arith in rw (ne_eqb (suc m) 0 (λ e. omega arith), within_yes h, e)

out_of : (m lo hi b : ℕ) → within lo hi b ≡ false → step_of (wait (suc m) lo hi) b ≡ bad
unfolding step_of
out_of m lo hi b h = rw (ne_eqb (suc m) 0 (λ e. omega arith), h)

bad_stays : (s : List ℕ) → run bad s ≡ bad
bad_stays [] = refl
bad_stays (b ∷ s) = rw (out_of 3 1 0 b (not-holds (within 1 0 b) (λ t. let h = from 1 0 b t in omega arith))) (bad_stays s)

along : {v w : Wait} (s : List ℕ) → v ≡ w → (run v s).left ≡ 0 → (run w s).left ≡ 0
along s p e = subst (λ (w : Wait). (run w s).left ≡ 0) p e

-- the octets after a first one lead to where a character may start
tail_1 : {lo hi b : ℕ} (s : List ℕ) → From lo hi b → (run (wait 0 0x80 0xBF) s).left ≡ 0 → (run (wait 1 lo hi) (b ∷ s)).left ≡ 0
tail_1 s q h = along s (sym (taken 0 q)) h

tail_2 : {lo hi b c : ℕ} (s : List ℕ) → From lo hi b → Tail c → (run (wait 0 0x80 0xBF) s).left ≡ 0 → (run (wait 2 lo hi) (b ∷ c ∷ s)).left ≡ 0
tail_2 {c} s q r h = along (c ∷ s) (sym (taken 1 q)) (tail_1 s r h)

tail_3 : {lo hi b c d : ℕ} (s : List ℕ) → From lo hi b → Tail c → Tail d → (run (wait 0 0x80 0xBF) s).left ≡ 0 → (run (wait 3 lo hi) (b ∷ c ∷ d ∷ s)).left ≡ 0
tail_3 {c} {d} s q r t h = along (c ∷ d ∷ s) (sym (taken 2 q)) (tail_2 s r t h)

-- so does a character
passed : {c : List ℕ} (s : List ℕ) → Character c → ((lo hi : ℕ) → (run (wait 0 lo hi) s).left ≡ 0) → (lo hi : ℕ) → (run (wait 0 lo hi) (c ++ s)).left ≡ 0
unfolding step_of
passed s (one p) h lo hi = along s (sym (lead_00 p)) (h 0 0)
passed s (two {b = b} p q) h lo hi = along (b ∷ s) (sym (lead_c2 p)) (tail_1 s q (h 0x80 0xBF))
passed s (three_e0 {b = b} {c = c} p q r) h lo hi = along (b ∷ c ∷ s) (sym (lead_e0 p)) (tail_2 s q r (h 0x80 0xBF))
passed s (three_e1 {b = b} {c = c} p q r) h lo hi = along (b ∷ c ∷ s) (sym (lead_e1 p)) (tail_2 s q r (h 0x80 0xBF))
passed s (three_ed {b = b} {c = c} p q r) h lo hi = along (b ∷ c ∷ s) (sym (lead_ed p)) (tail_2 s q r (h 0x80 0xBF))
passed s (three_ee {b = b} {c = c} p q r) h lo hi = along (b ∷ c ∷ s) (sym (lead_ee p)) (tail_2 s q r (h 0x80 0xBF))
passed s (four_f0 {b = b} {c = c} {d = d} p q r t) h lo hi = along (b ∷ c ∷ d ∷ s) (sym (lead_f0 p)) (tail_3 s q r t (h 0x80 0xBF))
passed s (four_f1 {b = b} {c = c} {d = d} p q r t) h lo hi = along (b ∷ c ∷ d ∷ s) (sym (lead_f1 p)) (tail_3 s q r t (h 0x80 0xBF))
passed s (four_f4 {b = b} {c = c} {d = d} p q r t) h lo hi = along (b ∷ c ∷ d ∷ s) (sym (lead_f4 p)) (tail_3 s q r t (h 0x80 0xBF))

ends : {s : List ℕ} {n : ℕ} → Octets s n → (lo hi : ℕ) → (run (wait 0 lo hi) s).left ≡ 0
ends none lo hi = refl
ends (more {s = s} c o) lo hi = passed s c (λ l h. ends o l h) lo hi

pub utf8_complete : {s : List ℕ} {n : ℕ} → Octets s n → utf8_of s ≡ true
unfolding utf8_of
utf8_complete {s} o = eq-eqb (run start s).left 0 (ends o 0 0)

-- some number of characters
abbrev Whole : List ℕ → Type 0
Whole s = (n : ℕ) × Octets s n

-- left octets of a character, the first of them from lo to hi, and whole characters after them
data Rest : ℕ → ℕ → ℕ → List ℕ → Type 0 where
  whole : {lo hi n : ℕ} {s : List ℕ} → Octets s n → Rest zero lo hi s
  tail : {m lo hi b : ℕ} {s : List ℕ} → From lo hi b → Rest m 0x80 0xBF s → Rest (suc m) lo hi (b ∷ s)

after_one : {a lo hi : ℕ} {s : List ℕ} → Character (a ∷ []) → Rest 0 lo hi s → Whole (a ∷ s)
after_one c (whole o) = (_, more c o)

after_two : {a lo hi : ℕ} {s : List ℕ} → ((b : ℕ) → From lo hi b → Character (a ∷ b ∷ [])) → Rest 1 lo hi s → Whole (a ∷ s)
after_two f (tail q (whole o)) = (_, more (f _ q) o)

after_three : {a lo hi : ℕ} {s : List ℕ} → ((b c : ℕ) → From lo hi b → Tail c → Character (a ∷ b ∷ c ∷ [])) → Rest 2 lo hi s → Whole (a ∷ s)
after_three f (tail q (tail r (whole o))) = (_, more (f _ _ q r) o)

after_four : {a lo hi : ℕ} {s : List ℕ} → ((b c d : ℕ) → From lo hi b → Tail c → Tail d → Character (a ∷ b ∷ c ∷ d ∷ [])) → Rest 3 lo hi s → Whole (a ∷ s)
after_four f (tail q (tail r (tail t (whole o)))) = (_, more (f _ _ _ q r t) o)

never : {s : List ℕ} {A : Type 0} → Rest 4 1 0 s → A
never (tail p r) = absurd (omega arith)

-- a first octet and what it has after it make characters: a line for each row
led : (a : ℕ) (s : List ℕ) → Rest (lead_of a).left (lead_of a).lo (lead_of a).hi s → Whole (a ∷ s)
unfolding lead_of
led a s =
    row 0x00 0x7F _ _ (λ p. after_one (one p))
    (row 0xC2 0xDF _ _ (λ p. after_two (λ b q. two p q))
    (row 0xE0 0xE0 _ _ (λ p. after_three (λ b c q r. three_e0 p q r))
    (row 0xE1 0xEC _ _ (λ p. after_three (λ b c q r. three_e1 p q r))
    (row 0xED 0xED _ _ (λ p. after_three (λ b c q r. three_ed p q r))
    (row 0xEE 0xEF _ _ (λ p. after_three (λ b c q r. three_ee p q r))
    (row 0xF0 0xF0 _ _ (λ p. after_four (λ b c d q r t. four_f0 p q r t))
    (row 0xF1 0xF3 _ _ (λ p. after_four (λ b c d q r t. four_f1 p q r t))
    (row 0xF4 0xF4 _ _ (λ p. after_four (λ b c d q r t. four_f4 p q r t))
    never))))))))
  where
    Makes : Wait → Type 0
    Makes w = Rest w.left w.lo w.hi s → Whole (a ∷ s)

    row : (lo hi : ℕ) (v w : Wait) → (From lo hi a → Makes v) → Makes w → Makes (pick (within lo hi a) v w)
    row lo hi v w f g = pick_all Makes (within lo hi a) v w (λ t. f (from lo hi a t)) (λ t. g)

-- what the walk takes from a state is what that state awaits
awaited : (s : List ℕ) (left lo hi : ℕ) → (run (wait left lo hi) s).left ≡ 0 → Rest left lo hi s
unfolding step_of
awaited [] zero lo hi e = whole none
awaited [] (suc m) lo hi e = absurd (omega arith)
awaited (a ∷ s) zero lo hi e = whole (led a s (awaited s (lead_of a).left (lead_of a).lo (lead_of a).hi e)).1
awaited (b ∷ s) (suc m) lo hi e =
    ⊎_elim (λ t. let p = from lo hi b t in tail p (awaited s m 0x80 0xBF (along s (taken m p) e)))
    (λ t. let z = ap (λ (w : Wait). w.left) (bad_stays s) in let y = along s (out_of m lo hi b t) e in absurd (omega arith))
    (true_or_false (within lo hi b))

pub utf8_sound : (s : List ℕ) → utf8_of s ≡ true → (n : ℕ) × Octets s n
unfolding utf8_of
utf8_sound s t = all (awaited s 0 0 0 (eqb-true (run start s).left 0 t))
  where
    all : {lo hi : ℕ} {s : List ℕ} → Rest 0 lo hi s → Whole s
    all (whole o) = (_, o)

-- a character's first octet counts 1, its tails 0
begins_low : {a : ℕ} → From 0x00 0x7F a → point_of a ≡ 1
unfolding point_of
begins_low {a} p = rw (lt-leb 0x80 a (omega arith))

begins : {a : ℕ} → 0xBF < a → point_of a ≡ 1
unfolding point_of
begins {a} p = pick_no 0 1 (both_fails_right (leb 0x80 a) (lt-leb a 0xBF p))

tails : {b : ℕ} → Tail b → point_of b ≡ 0
unfolding point_of
tails p = pick_yes 0 1 (within_yes p)

two_octets : {a b : ℕ} (s : List ℕ) → 0xBF < a → Tail b → point_of a + (point_of b + code_points_of s) ≡ suc (code_points_of s)
two_octets s p q = omega (arith, begins p, tails q)

three_octets : {a b c : ℕ} (s : List ℕ) → 0xBF < a → Tail b → Tail c → point_of a + (point_of b + (point_of c + code_points_of s)) ≡ suc (code_points_of s)
three_octets s p q r = omega (arith, begins p, tails q, tails r)

four_octets : {a b c d : ℕ} (s : List ℕ) → 0xBF < a → Tail b → Tail c → Tail d → point_of a + (point_of b + (point_of c + (point_of d + code_points_of s))) ≡ suc (code_points_of s)
four_octets s p q r t = omega (arith, begins p, tails q, tails r, tails t)

counted : {c : List ℕ} → Character c → (s : List ℕ) → code_points_of (c ++ s) ≡ suc (code_points_of s)
unfolding code_points_of
counted (one p) s = omega (arith, begins_low p)
counted (two p q) s = two_octets s (omega arith) q
counted (three_e0 p q r) s = three_octets s (omega arith) (omega arith, omega arith) r
counted (three_e1 p q r) s = three_octets s (omega arith) q r
counted (three_ed p q r) s = three_octets s (omega arith) (omega arith, omega arith) r
counted (three_ee p q r) s = three_octets s (omega arith) q r
counted (four_f0 p q r t) s = four_octets s (omega arith) (omega arith, omega arith) r t
counted (four_f1 p q r t) s = four_octets s (omega arith) q r t
counted (four_f4 p q r t) s = four_octets s (omega arith) (omega arith, omega arith) r t

pub code_points : {s : List ℕ} {n : ℕ} → Octets s n → code_points_of s ≡ n
unfolding code_points_of
code_points none = refl
code_points (more {s = s} c o) = counted c s ∙ ap suc (code_points o)
