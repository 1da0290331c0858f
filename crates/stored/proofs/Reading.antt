-- What stands at hand while a file is read: moved to the front, and read behind. Assumes nothing.
use Prim.Native.Nat.{ℕ, zero, suc, ◌+◌, ◌*◌, ◌-◌, ◌/◌, ◌≤◌, ◌<◌}
use mathlib.Core.Path.{◌≡◌, refl, sym, ap, ◌∙◌}
use mathlib.Core.List.{List}
use native.Mathlib.Omega.{arith}
use lib.ListN.{length, get_or, set, take, drop, length-drop}
use lib.Seq.{ext_get_or, get_or-take, get_or-drop, length-take-le}
use lib.Dec.{leb}
use Rattle.std.specs.List.{copy_within}
use Rattle.std.proofs.Math.Seq.{paste, paste-zero, paste-suc}
use borrow.Author.Tests.{leb-true, le-leb, lt-leb, lt-ltb, le-ltb}
use mathlib.Core.Logic.{⊎_elim}
use mathlib.Core.Bool.{Bool, true, false}
use Rattle.text.specs.Choice.{pick_yes, pick_no, le_or_lt}
use Rattle.stored.specs.Stored.{laid}
use Rattle.stored.specs.Input.{word_of, word_at, words_put, room_for, moved, Behind, Refilled}
use Rattle.stored.proofs.Places.{part_within, front}
use Rattle.stored.proofs.Laying.{laid-length, laid-before, laid_at_lem}

-- words copied from a place on, one more at a time
pasted : (words : List ℕ) (from n : ℕ) → from + n ≤ length words → paste words 0 (drop from words) n ≡ laid (λ j. j) (λ j. get_or words (from + j) 0) n words
unfolding laid
pasted words from zero h = sym (paste-zero words 0 (drop from words))
pasted words from (suc n) h =
    sym (paste-suc words 0 (drop from words) n 0 (omega arith) (omega (arith, length-drop from words)))
    ∙ ap (λ (i : ℕ). set (paste words 0 (drop from words) n) i (get_or (drop from words) n 0)) (omega arith)
    ∙ ap (λ (x : ℕ). set (paste words 0 (drop from words) n) n x) (get_or-drop from words n 0)
    ∙ ap (λ (l : List ℕ). set l n (get_or words (from + n) 0)) (pasted words from n (omega arith))

pub moved_copied : (words : List ℕ) (from count : ℕ) → from + count ≤ length words → copy_within words from (from + count) 0 ≡ moved words from count
unfolding moved
moved_copied words from count h = let e : from + count - from ≡ count = omega arith in ap (paste words 0 (drop from words)) e ∙ pasted words from count h

module _ (words : List ℕ) (from count : ℕ) where
  pub moved_length : length (moved words from count) ≡ length words
  unfolding moved
  moved_length = laid-length (λ i. i) (λ i. get_or words (from + i) 0) words count

  long_part : from + count ≤ length words → count ≤ length (drop from words)
  long_part h = omega (arith, length-drop from words)

  moved_at : from + count ≤ length words → (i : ℕ) → i < count → get_or (take count (moved words from count)) i 0 ≡ get_or (take count (drop from words)) i 0
  unfolding moved
  moved_at h i l =
      get_or-take count (laid (λ j. j) (λ j. get_or words (from + j) 0) count words) i 0 l
      ∙ laid_at_lem (λ j. get_or words (from + j) 0) words count i l (omega arith)
      ∙ sym (get_or-take count (drop from words) i 0 l ∙ get_or-drop from words i 0)

  pub moved_front : from + count ≤ length words → take count (moved words from count) ≡ take count (drop from words)
  moved_front h =
      ext_get_or 0 (take count (moved words from count)) (take count (drop from words))
      (length-take-le count (moved words from count) (omega (arith, moved_length)) ∙ sym (length-take-le count (drop from words) (long_part h)))
      (λ i l. moved_at h i (omega (arith, length-take-le count (moved words from count) (omega (arith, moved_length)))))

-- nothing read yet
pub behind-none : (words : List ℕ) (from : ℕ) → Behind words words from from
behind-none words from = record { kept = refl; more = omega arith; within = λ h. h }

-- a chunk more
pub behind_more : (bytes : List ℕ) {before words after : List ℕ} {from end n : ℕ} → Behind before words from end → length bytes ≡ n → end + n / 4 ≤ length words → after ≡ words_put bytes end words → Behind before after from (end + n / 4)
unfolding words_put
behind_more bytes {before} {words} {after} {from} {end} {n} b e room w =
    record {
      kept = ap (take from) w ∙ laid-before (λ i. end + i) (word_at bytes) words from (length bytes / 4) (λ i. omega (arith, b.more)) ∙ b.kept;
      more = omega (arith, b.more);
      within = λ h. omega (arith, ap length w, laid-length (λ i. end + i) (word_at bytes) words (length bytes / 4));
    }

-- nothing moved and nothing read
pub refilled_same : (words : List ℕ) (at end : ℕ) → Refilled words words at end (record { at = at; end = end })
refilled_same words at end = record { kept = refl; more = omega arith; within = λ h. h }

-- moved to the front, and read behind
pub refilled_read : (before : List ℕ) {words after : List ℕ} (at end : ℕ) {last : ℕ} → at ≤ end → end ≤ length before → words ≡ moved before at (end - at) → Behind words after (end - at) last → Refilled before after at end (record { at = 0; end = last })
refilled_read before {words} {after} at end {last} h g w b =
    record {
      kept =
          front after (end - at) (omega (arith, long))
          ∙ b.kept
          ∙ ap (take (end - at)) w
          ∙ moved_front before at (end - at) (omega arith)
          ∙ sym (part_within before at (end - at) (omega arith));
      more = omega (arith, b.more);
      within = λ k. long;
    }
  where
    long : last ≤ length after
    long = b.within (omega (arith, ap length w, moved_length before at (end - at)))

-- room, as the code asks for it
module _ (whole end bytes : ℕ) where
  pub room_rest : end ≤ whole → leb (bytes / 4) (whole - end) ≡ room_for whole end bytes
  unfolding room_for
  room_rest h =
      ⊎_elim (λ l. le-leb (bytes / 4) (whole - end) l ∙ sym (le-leb (end + bytes / 4) whole (omega arith)))
      (λ l. lt-leb (bytes / 4) (whole - end) l ∙ sym (lt-leb (end + bytes / 4) whole (omega arith)))
      (le_or_lt (bytes / 4) (whole - end))

  pub room_past : whole < end → false ≡ room_for whole end bytes
  unfolding room_for
  room_past h = sym (lt-leb (end + bytes / 4) whole (omega arith))

  pub room_true : {r : Bool} → r ≡ room_for whole end bytes → r ≡ true → end + bytes / 4 ≤ whole
  unfolding room_for
  room_true e t = leb-true (end + bytes / 4) whole (sym e ∙ t)

-- a word of the bytes, and one that they do not hold whole
pub word_in : (bytes : List ℕ) (i : ℕ) → i < length bytes / 4 → word_of (get_or bytes (4 * i) 0) (get_or bytes (4 * i + 1) 0) (get_or bytes (4 * i + 2) 0) (get_or bytes (4 * i + 3) 0) ≡ word_at bytes i
unfolding word_at
word_in bytes i h = sym (pick_yes _ _ (lt-ltb _ _ h))

pub word_past : (bytes : List ℕ) (i : ℕ) → length bytes / 4 ≤ i → 0 ≡ word_at bytes i
unfolding word_at
word_past bytes i h = sym (pick_no _ _ (le-ltb _ _ h))
