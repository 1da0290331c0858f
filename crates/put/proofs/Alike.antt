-- What a list of words that was appended left, told of an equal answer. Assumes nothing.
use Prim.Native.Nat.{ℕ}
use mathlib.Core.Path.{◌≡◌}
use mathlib.Core.Bool.{Bool}
use mathlib.Core.List.{List}
use Rattle.put.specs.Meets.{Listed}

pub listed_is : (L L' : List ℕ) (ul count : ℕ) (new : List ℕ) (r y : Bool) → r ≡ y → Listed L L' ul count new r → Listed L L' ul count new y
listed_is L L' ul count new r y e h = rw e at h
