-- What the pair writers leave in the room that they are lent.
use Rattle.std.specs.Prelude.{ℕ, ◌+◌, ◌*◌, ◌≤◌, ◌<◌, ◌≡◌, List, length, Option, Some, None}
use Rattle.layout.specs.Layout.{most_links}
use Rattle.schema.specs.Shape.{Pair}
use Rattle.merge.specs.Pairs.{pairs_at}

-- the pairs ps stand at its front; or it is too short for them
pub record Placed (R R' : List ℕ) (ps : List (Pair ℕ)) (r : Option ℕ) : Type 0 where
  pub stand : (n : ℕ) → r ≡ Some n → pairs_at R' 0 n ≡ ps
  pub room : (n : ℕ) → r ≡ Some n → n * 2 ≤ length R
  pub full : r ≡ None → length R < length ps * 2
  pub long : length R' ≡ length R

-- the same where `at` links stand before it: the pairs stand within the limit of the links; or they would pass the limit, or it is too short
pub record PlacedWithin (at : ℕ) (R R' : List ℕ) (ps : List (Pair ℕ)) (r : Option ℕ) : Type 0 where
  pub stand : (n : ℕ) → r ≡ Some n → pairs_at R' 0 n ≡ ps
  pub room : (n : ℕ) → r ≡ Some n → n * 2 ≤ length R
  pub limit : (n : ℕ) → r ≡ Some n → at + n * 2 ≤ most_links
  pub full : r ≡ None → at + length ps * 2 ≤ most_links → length R < length ps * 2
  pub long : length R' ≡ length R
