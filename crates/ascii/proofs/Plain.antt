-- Every part of ASCII alone is UTF-8. Assumes nothing.
use mathlib.Core.Path.{◌≡◌, refl, sym, ◌∙◌}
use mathlib.Core.Bool.{true}
use mathlib.Core.List.{List, [], ◌∷◌}
use Prim.Native.Nat.{ℕ, zero, suc, ◌<◌, ◌≤◌, max}
use native.Mathlib.Omega.{arith}
use borrow.Author.Tests.{ltb-true, ltb-false, lt-ltb, le-ltb}
use lib.ListN.{length, take, drop}
use lib.Dec.{ltb}
use mathlib.Core.Logic.{⊎_elim}
use Rattle.std.specs.List.{fold}
use Rattle.text.specs.Choice.{pick_all, le_or_lt}
use Rattle.text.specs.Text.{fits_in, text_count, text_start, text_length, part_of, text_of}
use Rattle.text.specs.Utf8.{start, run, utf8_of}
use Rattle.text.proofs.Octet.{run_ascii}
use Rattle.ascii.specs.Ascii.{larger_of, largest_from, largest_of, ascii_of}

larger_max : (a b : ℕ) → max a b ≡ larger_of a b
unfolding larger_of
larger_max a b = ⊎_elim (λ h. rw (le-ltb a b h) (omega arith)) (λ h. rw (lt-ltb a b h) (omega arith)) (le_or_lt b a)

folded : (s : List ℕ) (most : ℕ) → fold max most s ≡ largest_from most s
unfolding largest_from
folded [] most = refl
folded (b ∷ s) most = rw (larger_max most b) (folded s (larger_of most b))

-- the code's fold
pub largest_is : (s : List ℕ) → fold max 0 s ≡ largest_of s
unfolding largest_of
largest_is s = folded s 0

pub ascii_is : (s : List ℕ) {most : ℕ} → most ≡ largest_of s → ltb most 0x80 ≡ ascii_of s
unfolding ascii_of
ascii_is s e = rw e

larger_left : (a b : ℕ) → a ≤ larger_of a b
unfolding larger_of
larger_left a b = pick_all (λ (n : ℕ). a ≤ n) (ltb a b) b a (λ t. omega (arith, ltb-true a b t)) (λ t. omega arith)

larger_right : (a b : ℕ) → b ≤ larger_of a b
unfolding larger_of
larger_right a b = pick_all (λ (n : ℕ). b ≤ n) (ltb a b) b a (λ t. omega arith) (λ t. omega (arith, ltb-false a b t))

-- each of them is at most the largest
most_at : (s : List ℕ) (most : ℕ) → most ≤ largest_from most s
unfolding largest_from
most_at [] most = omega arith
most_at (b ∷ s) most = omega (arith, larger_left most b, most_at s (larger_of most b))

data Plain : List ℕ → Type 0 where
  none : Plain []
  more : {b : ℕ} {s : List ℕ} → b < 0x80 → Plain s → Plain (b ∷ s)

plain-from : (s : List ℕ) (most : ℕ) → largest_from most s < 0x80 → Plain s
unfolding largest_from
plain-from [] most h = none
plain-from (b ∷ s) most h =
    more {b = b} (omega (arith, larger_right most b, most_at s (larger_of most b))) (plain-from s (larger_of most b) h)

plain-drop : (n : ℕ) {s : List ℕ} → Plain s → Plain (drop n s)
plain-drop zero p = p
plain-drop (suc n) none = none
plain-drop (suc n) (more h p) = plain-drop n p

plain-take : (n : ℕ) {s : List ℕ} → Plain s → Plain (take n s)
plain-take zero p = none
plain-take (suc n) none = none
plain-take (suc n) (more h p) = more h (plain-take n p)

-- the walk is where it began after each of them
plain-run : {s : List ℕ} → Plain s → run start s ≡ start
plain-run none = refl
plain-run (more {b} {s} h p) = run_ascii b s (omega arith) ∙ plain-run p

plain_utf8 : {s : List ℕ} → Plain s → utf8_of s ≡ true
unfolding utf8_of
plain_utf8 p = rw (plain-run p)

plain_text : (pool texts : List ℕ) (n : ℕ) → Plain pool → Plain (text_of pool texts n)
unfolding text_of part_of
plain_text pool texts n p =
    let first = text_start texts n in
    let len = text_length texts n in
    let part = pick_all Plain (fits_in (length pool) first len) (take len (drop first pool)) [] (λ t. plain-take len (plain-drop first p)) (λ t. none) in
    pick_all Plain (ltb n (text_count texts)) (part_of pool first len) [] (λ t. part) (λ t. none)

-- a text of a pool of ASCII alone
pub ascii_text : (pool texts : List ℕ) (n : ℕ) → ascii_of pool ≡ true → utf8_of (text_of pool texts n) ≡ true
unfolding ascii_of largest_of
ascii_text pool texts n t = plain_utf8 (plain_text pool texts n (plain-from pool 0 (ltb-true (largest_from 0 pool) 0x80 t)))
