-- What the proofs cite on appending. Assumes nothing.
use mathlib.Core.Path.{◌≡◌, refl, sym, ap, ◌∙◌}
use mathlib.Core.Bool.{Bool, true, false}
use mathlib.Core.List.{List, ◌++◌, append_assoc}
use Prim.Native.Nat.{ℕ, ◌+◌, ◌-◌, ◌<◌, ◌≤◌, min}
use native.Mathlib.Omega.{arith}
use borrow.Author.Tests.{lt-leb, le-leb, leb-true}
use lib.Dec.{leb}
use lib.ListN.{length, take, drop, replicate, length-append, length-drop}
use borrow.Author.Rules.{rules}
use borrow.Rule.Slice.PartMut.{put_mid}
use Rattle.std.proofs.lemmas.Grind.{common_steps}
use Rattle.std.proofs.lemmas.Slice.{overwrites}
use lib.Seq.{length-take-le, take_at}
use mathlib.Core.Logic.{⊎_elim}
use Rattle.text.specs.Choice.{pick, le_or_lt, both-holds, both_fails_left, both_fails_right, both_left, both_right}
use Rattle.append.specs.Append.{room, put, Appended, appended, append_of, cleared, Grown}

module _ (limit lent used n : ℕ) where
  pub room-yes : used + n ≤ limit → used + n ≤ lent → room limit lent used n ≡ true
  unfolding room
  room-yes a b = both-holds (le-leb (used + n) limit a) (le-leb (used + n) lent b)

  pub room_full : limit < used + n → room limit lent used n ≡ false
  unfolding room
  room_full a = both_fails_left (leb (used + n) lent) (lt-leb (used + n) limit a)

  pub room_short : lent < used + n → room limit lent used n ≡ false
  unfolding room
  room_short a = both_fails_right (leb (used + n) limit) (lt-leb (used + n) lent a)

  pub room_limit : room limit lent used n ≡ true → used + n ≤ limit
  unfolding room
  room_limit e = leb-true (used + n) limit (both_left (leb (used + n) limit) (leb (used + n) lent) e)

  pub room_lent : room limit lent used n ≡ true → used + n ≤ lent
  unfolding room
  room_lent e = leb-true (used + n) lent (both_right (leb (used + n) limit) (leb (used + n) lent) e)

module _ (words : List ℕ) (used limit : ℕ) (new : List ℕ) where
  pub append-yes : (w : List ℕ) → w ≡ put words used new → used + length new ≤ limit → used + length new ≤ length words → appended true w ≡ append_of words used limit new
  unfolding append_of
  append-yes w e h l = rw (e, room-yes limit (length words) used (length new) h l)

  append_no : room limit (length words) used (length new) ≡ false → appended false words ≡ append_of words used limit new
  unfolding append_of
  append_no h = rw h

  pub append_full : limit < used + length new → appended false words ≡ append_of words used limit new
  append_full h = append_no (room_full limit (length words) used (length new) h)

  pub append_short : length words < used + length new → appended false words ≡ append_of words used limit new
  append_short h = append_no (room_short limit (length words) used (length new) h)

  pub append-over : min limit (length words) < used + length new → appended false words ≡ append_of words used limit new
  append-over h = ⊎_elim (λ l. append_short (omega arith)) append_full (le_or_lt (used + length new) limit)

  -- what was put there
  pub put-grown : used ≤ length words → take (used + length new) (put words used new) ≡ take used words ++ new
  unfolding put
  put-grown h =
      let e : length (take used words ++ new) ≡ used + length new = rw (length-append, length-take-le used words h) in
      take_at (take used words ++ new) (drop (used + length new) words) (used + length new) e

  pub put-kept : used ≤ length words → take used (put words used new) ≡ take used words
  unfolding put
  put-kept h = rw append_assoc (take_at (take used words) (new ++ drop (used + length new) words) used (length-take-le used words h))

  pub put-long : used + length new ≤ length words → length (put words used new) ≡ length words
  unfolding put
  put-long h =
      let k : length (take used words) ≡ used = length-take-le used words (omega arith) in
      simp (length-append, length-drop) (omega arith)

grown_by : (limit : ℕ) (words : List ℕ) (used : ℕ) (new words' : List ℕ) (t r : Bool) → room limit (length words) used (length new) ≡ t → appended r words' ≡ pick t (appended true (put words used new)) (appended false words) → Grown limit words words' used new r
grown_by limit words used new words' true r y e =
    let q : words' ≡ put words used new = ap (λ (a : Appended). a.words) e in
    let s : r ≡ true = ap (λ (a : Appended). a.fits) e in
    let h = room_lent limit (length words) used (length new) y in
    record {
      yes = s ∙ sym y;
      grown = λ _. ap (take (used + length new)) q ∙ put-grown words used limit new (omega arith);
      kept = ap (take used) q ∙ put-kept words used limit new (omega arith);
      long = ap length q ∙ put-long words used limit new h;
    }
grown_by limit words used new words' false r y e =
    let q : words' ≡ words = ap (λ (a : Appended). a.words) e in
    let s : r ≡ false = ap (λ (a : Appended). a.fits) e in
    record {
      yes = s ∙ sym y;
      grown = λ z. absurd (let z : ◌≡◌ {A = ℕ} 0 1 = cc in omega arith);
      kept = ap (take used) q;
      long = ap length q;
    }

-- what a caller of append has
pub grown_of : {limit : ℕ} {words : List ℕ} {used : ℕ} {new words' : List ℕ} {r : Bool} → appended r words' ≡ append_of words used limit new → Grown limit words words' used new r
unfolding append_of
grown_of {limit} {words} {used} {new} {words'} {r} e = grown_by limit words used new words' (room limit (length words) used (length new)) r refl e

-- what a copy of s into the part of d from at on leaves, k being how long that part is
pub put_copied : (d s ys : List ℕ) (at k : ℕ) → ys ≡ s → k ≡ length s → put_mid at k d ys ≡ put d at s
unfolding put
put_copied d s ys at k e h = search (rules, overwrites)

-- what zeros from at on leave
pub put_zeros : (d ys : List ℕ) (at k : ℕ) → ys ≡ replicate k 0 → k ≡ length d - at → at ≤ length d → put_mid at k d ys ≡ cleared d at
unfolding cleared
put_zeros d ys at k e h l = search (rules, overwrites)

pub none_cleared : (d : List ℕ) (at : ℕ) → length d ≤ at → d ≡ cleared d at
unfolding cleared
none_cleared d at h = grind (arith, common_steps)
