-- A negative integer's word by its own halves: the upper one is exact and negative, and so is its product; the sum with the lower one rounds once. Assumes nothing.
use Rattle.std.proofs.Common.{◌≡◌, ℕ, suc, ◌+◌, ◌-◌, ◌*◌, ◌/◌, ◌%◌, ◌^◌, ◌<◌, ◌≤◌, Bool, true, false, cond, ◌&&◌, T, ltb, pos, negsuc, sym, refl, ap, ◌∙◌, subst, true≢false, le_trans, lt_of_le_of_lt, le_of_lt, mul-le-mul_right, mod-lt, zero-lt-suc, mul_assoc, mul_comm, mul-lt-mul_of_pos_right, mul-pos, one-mul, mul-one, mul_right_comm, arith, lit<, lit≤, le→leb, pow_pos, pow-add, le-ltb, lt-ltb}
use mathlib.Core.Bool.{false≢true}
use native.Mathlib.Nat.{mul-sub}
use lib.Pow.{split}
use lib.Bits.{bit_and, and_mask}
use lib.Ieee.{Float, nan, inf, fin, Format, binary64, low, up, down, round, neg, add, sum, mul, of_int, in_float}
use lib.Ieee.Fits.{down_pos}
use lib.Ieee.Exact.{HasValue, round_exact}
use lib.Ieee.Back.{round_whole}
use lib.Ieee.Scale.{round_same}
use Rattle.number.specs.Nearest.{signed}
use Rattle.number.proofs.Units.{scaled}

common : (x a d g : ℕ) → x * 1 ≡ a * d → x * g ≡ a * (d * g)
common x a d g h = sym (mul-one (x * g)) ∙ scaled x a 1 d g h

sub_both : (a b d : ℕ) → a * d - b * d ≡ (a - b) * d
sub_both a b d = ap (λ (z : ℕ). z - b * d) (mul_comm a d) ∙ ap (λ (z : ℕ). d * a - z) (mul_comm b d) ∙ sym (mul-sub d a b) ∙ mul_comm d (a - b)

-- -A + B, for a B below A
add_mixed : (f : Format) (x y : Float) (a b : ℕ) → b < a → HasValue x true a 1 → HasValue y false b 1 → add f x y ≡ round f true (a - b) 1
unfolding add sum
add_mixed f nan y a b l h k = absurd h
add_mixed f (inf s) y a b l h k = absurd h
add_mixed f (fin s m e) nan a b l h k = absurd k
add_mixed f (fin s m e) (inf t) a b l h k = absurd k
add_mixed f (fin false m e) (fin t n d) a b l h k = absurd (false≢true h.0)
add_mixed f (fin true m e) (fin true n d) a b l h k = absurd (true≢false k.0)
add_mixed f (fin true m e) (fin false n d) a b l h k =
    let D = down e * down d in
    let P : 0 < D = mul-pos (down_pos e) (down_pos d) in
    let p : m * up e * down d ≡ a * D = common (m * up e) a (down e) (down d) h.1 in
    let q : n * up d * down e ≡ b * D = common (n * up d) b (down d) (down e) k.1 ∙ ap (λ (z : ℕ). b * z) (mul_comm (down d) (down e)) in
    let lt : b * D < a * D = mul-lt-mul_of_pos_right l P in
    ap (λ (z : ℕ). cond (ltb z (n * up d * down e)) (round f false (n * up d * down e - z) D) (round f (true && ltb (n * up d * down e) z) (z - n * up d * down e) D)) p
    ∙ ap (λ (z : ℕ). cond (ltb (a * D) z) (round f false (z - a * D) D) (round f (true && ltb z (a * D)) (a * D - z) D)) q
    ∙ ap (λ (t : Bool). cond t (round f false (b * D - a * D) D) (round f (true && ltb (b * D) (a * D)) (a * D - b * D) D)) (le-ltb (a * D) (b * D) (le_of_lt lt))
    ∙ ap (λ (t : Bool). round f (true && t) (a * D - b * D) D) (lt-ltb (b * D) (a * D) lt)
    ∙ ap (λ (z : ℕ). round f true z D) (sub_both a b D)
    ∙ round_same f true ((a - b) * D) D (a - b) 1 P (zero-lt-suc 0) (mul-one ((a - b) * D))

scale_neg : (f : Format) (x : Float) (a k : ℕ) → HasValue x true a 1 → mul f x (fin false 1 (pos k)) ≡ round f true (a * 2 ^ k) 1
unfolding mul
scale_neg f nan a k h = absurd h
scale_neg f (inf s) a k h = absurd h
scale_neg f (fin false m e) a k h = absurd (false≢true h.0)
scale_neg f (fin true m e) a k h =
    round_same f true (m * up e * (1 * 2 ^ k)) (down e * 1) (a * 2 ^ k) 1 (mul-pos (down_pos e) (zero-lt-suc 0)) (zero-lt-suc 0)
    (mul-one (m * up e * (1 * 2 ^ k))
    ∙ ap (λ (z : ℕ). m * up e * z) (one-mul (2 ^ k))
    ∙ ap (λ (z : ℕ). z * 2 ^ k) (sym (mul-one (m * up e)) ∙ h.1)
    ∙ mul_right_comm a (down e) (2 ^ k)
    ∙ sym (ap (λ (z : ℕ). a * 2 ^ k * z) (mul-one (down e))))

neg_value : (x : Float) (a c : ℕ) → HasValue x false a c → HasValue (neg x) true a c
unfolding neg
neg_value nan a c h = absurd h
neg_value (inf s) a c h = absurd h
neg_value (fin true m e) a c h = absurd (true≢false h.0)
neg_value (fin false m e) a c h = (refl, h.1)

-- a * 2 ^ 32 is a value of the format, for an a up to 2 ^ 32
scaled_exact : (a : ℕ) → a ≤ 2 ^ 32 → HasValue (round binary64 true (a * 2 ^ 32) 1) true (a * 2 ^ 32) 1
scaled_exact a h =
    round_exact binary64 true (a * 2 ^ 32) 1 a (32 + low binary64) (zero-lt-suc 0) (lt_of_le_of_lt h (lit< tt))
    (lt_of_le_of_lt (mul_le (2 ^ (32 + low binary64))) (lit< tt))
    (mul_assoc a (2 ^ 32) (2 ^ low binary64) ∙ ap (λ (z : ℕ). a * z) (sym (pow-add 2 32 (low binary64))) ∙ sym (mul-one (a * 2 ^ (32 + low binary64))))
  where
    mul_le : (k : ℕ) → a * k ≤ 2 ^ 32 * k
    mul_le k = mul-le-mul_right k h

whole_value : (n : ℕ) → n ≤ 2 ^ 53 → HasValue (of_int binary64 (pos n)) false n 1
unfolding of_int
whole_value n h = round_whole binary64 false n h

as_negative : (n m : ℕ) → n ≡ suc m → round binary64 true n 1 ≡ of_int binary64 (negsuc m)
unfolding of_int
as_negative n m e = ap (λ (k : ℕ). round binary64 true k 1) e

left : (w hi lo : ℕ) → hi * 2 ^ 32 + lo ≡ w → w < 2 ^ 64 → lo < 2 ^ 32 → (2 ^ 32 - hi) * 2 ^ 32 - lo ≡ suc (2 ^ 64 - suc w)
left w hi lo e f l = omega arith

over : (hi lo : ℕ) → hi < 2 ^ 32 → lo < 2 ^ 32 → lo < (2 ^ 32 - hi) * 2 ^ 32
over hi lo h l = omega arith

pub negative_halves : (w : ℕ) (c : Float) → c ≡ fin false 1 (pos 32) → w < 2 ^ 64 → 2 ^ 63 ≤ w
    → add binary64 (mul binary64 (neg (of_int binary64 (pos (2 ^ 32 - w / 2 ^ 32)))) c) (of_int binary64 (pos (bit_and w (2 ^ 32 - 1)))) ≡ of_int binary64 (signed w)
negative_halves w c ec f h =
    let hi = w / 2 ^ 32 in
    let lo = w % 2 ^ 32 in
    let H : hi < 2 ^ 32 = omega arith in
    let L : lo < 2 ^ 32 = mod-lt w (pow_pos 32) in
    let a = 2 ^ 32 - hi in
    let A : a ≤ 2 ^ 32 = omega arith in
    let x : HasValue (neg (of_int binary64 (pos a))) true a 1 = neg_value _ a 1 (whole_value a (le_trans A (lit≤ tt))) in
    let y : HasValue (of_int binary64 (pos lo)) false lo 1 = whole_value lo (le_trans (le_of_lt L) (lit≤ tt)) in
    let s = scale_neg binary64 (neg (of_int binary64 (pos a))) a 32 x in
    ap (λ (z : Float). add binary64 (mul binary64 (neg (of_int binary64 (pos a))) z) (of_int binary64 (pos (bit_and w (2 ^ 32 - 1))))) ec
    ∙ ap (λ (z : ℕ). add binary64 (mul binary64 (neg (of_int binary64 (pos a))) (fin false 1 (pos 32))) (of_int binary64 (pos z))) (and_mask w 32)
    ∙ add_mixed binary64 (mul binary64 (neg (of_int binary64 (pos a))) (fin false 1 (pos 32))) (of_int binary64 (pos lo)) (a * 2 ^ 32) lo (over hi lo H L)
    (subst (λ (z : Float). HasValue z true (a * 2 ^ 32) 1) (sym s) (scaled_exact a A)) y
    ∙ as_negative (a * 2 ^ 32 - lo) (2 ^ 64 - suc w) (left w hi lo (split w 32) f L)
    ∙ simp (le-ltb w (2 ^ 63) h)

-- a half is a whole number that the format holds
pub half_in : (n : ℕ) → n ≤ 2 ^ 32 → T (in_float binary64 (pos n))
unfolding in_float
half_in n h = le→leb n (2 ^ 53) (omega arith)

-- a word that is not negative: std's lemma on halves gives the float of its own number
pub signed_low : (w : ℕ) → w < 2 ^ 63 → of_int binary64 (pos w) ≡ of_int binary64 (signed w)
signed_low w h = simp (lt-ltb w (2 ^ 63) h)
