use mathlib.Core.Path.{sym}
use native.Mathlib.Omega.{arith}
use Rattle.stored.proofs.Places.{place_near, place_far}
use Rattle.stored.proofs.after.Goals as goal

pub returns-then-at-le4294967296 : goal.returns-then-at-le4294967296
returns-then-at-le4294967296 c = sym (place_near _ _ (omega arith))

pub returns : goal.returns
returns c = sym (place_far _ _ (omega arith))
