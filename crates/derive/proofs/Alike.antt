-- What an appending of words left, told of an equal answer. Assumes nothing.
use Prim.Native.Nat.{ℕ}
use mathlib.Core.Path.{◌≡◌}
use mathlib.Core.Bool.{Bool}
use mathlib.Core.List.{List}
use Rattle.append.specs.Append.{Grown}

pub grown_is : (limit : ℕ) (W W' : List ℕ) (used : ℕ) (new : List ℕ) (r y : Bool) → r ≡ y → Grown limit W W' used new r → Grown limit W W' used new y
grown_is limit W W' used new r y e g = rw e at g
