-- The walk along octets, a step at a time. Assumes nothing.
use mathlib.Core.Path.{◌≡◌, refl, sym, ap, subst, ◌∙◌}
use mathlib.Core.Bool.{Bool, true, false, cond, not}
use mathlib.Core.List.{List, [], ◌∷◌}
use mathlib.Core.Logic.{⊎_elim}
use Prim.Native.Nat.{ℕ, zero, suc, ◌+◌, ◌-◌, ◌<◌, ◌≤◌}
use native.Mathlib.Nat.{eq-or-lt_of_le}
use native.Mathlib.Omega.{arith}
use native.Mathlib.Numerals.{add-one}
use lib.Seq.{drop-cons}
use Rattle.std.proofs.lemmas.List.{take_rest}
use lib.ListN.{length, get_or, take, drop, drop_of_length-le}
use lib.Dec.{eqb}
use borrow.Author.Tests.{eqb-true, ltb-true}
use Rattle.std.specs.List.{prefix_len, count_by}
use Rattle.std.specs.Char.{is_ascii}
use Rattle.std.proofs.lemmas.List.Recursion.{is_count_by}
use Rattle.text.specs.declared.utf8.Wait.{Wait}
use Rattle.text.specs.Choice.{both, both_left, both_right, le_or_lt, pick, pick_all}
use Rattle.text.specs.Utf8.{From, wait, bad, start, lead_of, step_of, run, within, utf8_of, point_of, code_points_of}

-- a test that antt computes at each number from lo on, n of them, holds at each
abbrev every : (ℕ → Bool) → ℕ → ℕ → Bool
every f lo zero = true
every f lo (suc n) = both (f lo) (every f (suc lo) n)

span : (f : ℕ → Bool) (lo n : ℕ) → every f lo n ≡ true → (b : ℕ) → lo ≤ b → b < lo + n → f b ≡ true
span f lo zero t b l h = absurd (omega arith)
span f lo (suc n) t b l h =
    ⊎_elim (λ e. subst (λ (k : ℕ). f k ≡ true) e (both_left (f lo) (every f (suc lo) n) t))
    (λ m. span f (suc lo) n (both_right (f lo) (every f (suc lo) n) t) b m (omega arith))
    (eq-or-lt_of_le l)

abbrev same_wait : Wait → Wait → Bool
same_wait v w = both (eqb v.left w.left) (both (eqb v.lo w.lo) (eqb v.hi w.hi))

same_fields : {a a' b b' d d' : ℕ} → a ≡ a' → b ≡ b' → d ≡ d' → wait a b d ≡ wait a' b' d'
same_fields p q r = rw (p, q, r)

same_wait_lem : (v w : Wait) → same_wait v w ≡ true → v ≡ w
same_wait_lem v w t =
    let a : v.left ≡ w.left = eqb-true _ _ (both_left (eqb v.left w.left) _ t) in
    let r = both_right (eqb v.left w.left) _ t in
    let b : v.lo ≡ w.lo = eqb-true _ _ (both_left (eqb v.lo w.lo) _ r) in
    let d : v.hi ≡ w.hi = eqb-true _ _ (both_right (eqb v.lo w.lo) _ r) in
    same_fields a b d

-- each first octet from lo to hi is followed by w, which antt computes of all of them
lead_at : (lo hi : ℕ) (w : Wait) → every (λ b. same_wait (lead_of b) w) lo (suc hi - lo) ≡ true → {b : ℕ} → From lo hi b → lead_of b ≡ w
lead_at lo hi w t {b} h = same_wait_lem (lead_of b) w (span (λ b. same_wait (lead_of b) w) lo (suc hi - lo) t b h.0 (omega arith))

pub lead_00 : {b : ℕ} → From 0x00 0x7F b → lead_of b ≡ start
unfolding lead_of
lead_00 = lead_at 0x00 0x7F start refl

pub lead_80 : {b : ℕ} → From 0x80 0xC1 b → lead_of b ≡ bad
unfolding lead_of
lead_80 = lead_at 0x80 0xC1 bad refl

pub lead_c2 : {b : ℕ} → From 0xC2 0xDF b → lead_of b ≡ wait 1 0x80 0xBF
unfolding lead_of
lead_c2 = lead_at 0xC2 0xDF (wait 1 0x80 0xBF) refl

pub lead_e0 : {b : ℕ} → From 0xE0 0xE0 b → lead_of b ≡ wait 2 0xA0 0xBF
unfolding lead_of
lead_e0 = lead_at 0xE0 0xE0 (wait 2 0xA0 0xBF) refl

pub lead_e1 : {b : ℕ} → From 0xE1 0xEC b → lead_of b ≡ wait 2 0x80 0xBF
unfolding lead_of
lead_e1 = lead_at 0xE1 0xEC (wait 2 0x80 0xBF) refl

pub lead_ed : {b : ℕ} → From 0xED 0xED b → lead_of b ≡ wait 2 0x80 0x9F
unfolding lead_of
lead_ed = lead_at 0xED 0xED (wait 2 0x80 0x9F) refl

pub lead_ee : {b : ℕ} → From 0xEE 0xEF b → lead_of b ≡ wait 2 0x80 0xBF
unfolding lead_of
lead_ee = lead_at 0xEE 0xEF (wait 2 0x80 0xBF) refl

pub lead_f0 : {b : ℕ} → From 0xF0 0xF0 b → lead_of b ≡ wait 3 0x90 0xBF
unfolding lead_of
lead_f0 = lead_at 0xF0 0xF0 (wait 3 0x90 0xBF) refl

pub lead_f1 : {b : ℕ} → From 0xF1 0xF3 b → lead_of b ≡ wait 3 0x80 0xBF
unfolding lead_of
lead_f1 = lead_at 0xF1 0xF3 (wait 3 0x80 0xBF) refl

pub lead_f4 : {b : ℕ} → From 0xF4 0xF4 b → lead_of b ≡ wait 3 0x80 0x8F
unfolding lead_of
lead_f4 = lead_at 0xF4 0xF4 (wait 3 0x80 0x8F) refl

pub lead_f5 : {b : ℕ} → From 0xF5 0xFF b → lead_of b ≡ bad
unfolding lead_of
lead_f5 = lead_at 0xF5 0xFF bad refl

-- the first octet of three that is not set apart
pub lead_three : {b : ℕ} → From 0xE1 0xEF b → (b ≡ 0xED → ⊥) → lead_of b ≡ wait 2 0x80 0xBF
lead_three {b} h n = ⊎_elim (λ l. lead_e1 (omega arith, omega arith)) (λ l. lead_ee (omega arith, omega arith)) (le_or_lt b 0xEC)

-- what follows each first octet
pub ruleset leads = (lead_00, lead_80, lead_c2, lead_e0, lead_e1, lead_ed, lead_ee, lead_f0, lead_f1, lead_f4, lead_f5)

-- ASCII leaves the walk where it began
pub run_ascii : (b : ℕ) (s : List ℕ) → b ≤ 0x7F → run start (b ∷ s) ≡ run start s
unfolding step_of
run_ascii b s p = ap (λ (w : Wait). run w s) (lead_00 (omega arith, p))

in_front : (b : ℕ) (s : List ℕ) (n : ℕ) (t : Bool) → t ≡ is_ascii b → run start (drop n s) ≡ run start s → run start (drop (cond t (1 + n) 0) (b ∷ s)) ≡ run start (b ∷ s)
in_front b s n true e h =
    let k : 1 + n ≡ suc n = omega arith in
    rw k (h ∙ sym (run_ascii b s (omega (arith, ltb-true b 128 (sym e)))))
in_front b s n false e h = refl

-- and so does all of it in front
pub run_ascii_front : (s : List ℕ) → run start (drop (prefix_len is_ascii s) s) ≡ run start s
run_ascii_front [] = refl
run_ascii_front (b ∷ s) = in_front b s (prefix_len is_ascii s) (is_ascii b) refl (run_ascii_front s)

-- one more turn along a list
pub run_more : (w : Wait) (s : List ℕ) (i : ℕ) → i < length s → run w (drop i s) ≡ run (step_of w (get_or s i 0)) (drop (i + 1) s)
run_more w s i h = rw (add-one i, drop-cons s i 0 h)

-- the code's walk, past a ASCII octets in front, to the end of what is left of them
pub walked : (s : List ℕ) (a i : ℕ) (w : Wait) → a ≡ prefix_len is_ascii s → length (take (length s - a) (drop a s)) ≤ i
    → run w (drop i (take (length s - a) (drop a s))) ≡ run start (take (length s - a) (drop a s)) → eqb w.left 0 ≡ utf8_of s
unfolding utf8_of
walked s a i w e h all =
    let q : w ≡ run start s =
    ap (run w) (sym (drop_of_length-le (take (length s - a) (drop a s)) h))
    ∙ all
    ∙ ap (run start) (take_rest s a ∙ ap (λ (n : ℕ). drop n s) e)
    ∙ run_ascii_front s in
    rw q

-- the code's count
pub starts_counted : (s : List ℕ) → count_by (λ b. not (within 0x80 0xBF b)) s ≡ code_points_of s
unfolding code_points_of point_of
starts_counted s = sym (is_count_by code_points_of (λ b. not (within 0x80 0xBF b)) refl (λ b s. one (within 0x80 0xBF b) (code_points_of s)) s)
  where
    one : (t : Bool) (n : ℕ) → pick t 0 1 + n ≡ cond (not t) (1 + n) n
    one true n = omega arith
    one false n = refl

pub points_more : (s : List ℕ) (i : ℕ) → i < length s → code_points_of (drop i s) ≡ point_of (get_or s i 0) + code_points_of (drop (i + 1) s)
unfolding code_points_of
points_more s i h = rw (add-one i, drop-cons s i 0 h)

pub point_le : (b : ℕ) → point_of b ≤ 1
unfolding point_of
point_le b = pick_all (λ (n : ℕ). n ≤ 1) (within 0x80 0xBF b) 0 1 (λ t. omega arith) (λ t. omega arith)

-- no more code points than octets
pub points_le : (s : List ℕ) → code_points_of s ≤ length s
unfolding code_points_of
points_le [] = omega arith
points_le (b ∷ s) = omega (arith, point_le b, points_le s)
