-- Where a place so many words further on lies, and the part between two places. Assumes nothing.
use Prim.Native.Nat.{ℕ, ◌+◌, ◌-◌, ◌≤◌, ◌<◌}
use mathlib.Core.Path.{◌≡◌, sym, ap, ◌∙◌}
use mathlib.Core.List.{List, []}
use native.Mathlib.Omega.{arith}
use lib.ListN.{length, take, drop}
use borrow.Author.Tests.{le-leb, lt-leb}
use Rattle.text.specs.Choice.{pick, pick_yes, pick_no, pick_same}
use Rattle.text.specs.Text.{part_of, fits_in}
use Rattle.text.proofs.Parts.{part_in, fits-yes, fits_no}
use Rattle.stored.specs.Stored.{place_after, between}

pub place_near : (at count : ℕ) → at ≤ 4294967296 → place_after at count ≡ at + count
unfolding place_after
place_near at count h = pick_yes _ _ (le-leb _ _ h)

pub place_far : (at count : ℕ) → 4294967296 < at → place_after at count ≡ at
unfolding place_after
place_far at count h = pick_no _ _ (lt-leb _ _ h)

-- a part that lies within
pub part_within : (s : List ℕ) (start len : ℕ) → start + len ≤ length s → part_of s start len ≡ take len (drop start s)
part_within s start len h = part_in s start len (fits-yes (length s) start len h)

-- and one at the front
pub front : (s : List ℕ) (len : ℕ) → len ≤ length s → part_of s 0 len ≡ take len s
front s len h = part_within s 0 len (omega arith)

-- a part between two places
module _ {A : Type 0} (elements : List A) (start end : ℕ) where
  pub between_in : start ≤ end → end ≤ length elements → take (end - start) (drop start elements) ≡ between elements start end
  unfolding between
  between_in h g = sym (pick_yes _ _ (fits-yes (length elements) start (end - start) (omega arith)))

  pub between_past : length elements < end → [] ≡ between elements start end
  unfolding between
  between_past h = sym (pick_no _ _ (fits_no (length elements) start (end - start) (omega arith)))

  pub between_back : end < start → [] ≡ between elements start end
  unfolding between
  between_back h =
      let none : end - start ≡ 0 = omega arith in
      sym (ap (λ (n : ℕ). pick (fits_in (length elements) start n) (take n (drop start elements)) []) none ∙ pick_same (fits_in (length elements) start 0) [])
