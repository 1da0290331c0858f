use Rattle.std.proofs.Common.{◌≡◌}
use Prim.Native.Nat.{ℕ}
use lib.Dec.{ltb}
use Rattle.text.specs.Choice.{pick}
use Rattle.stored.specs.Stored.{place_after, laid}
use Rattle.stored.proofs.group.unpack_slice.Given as goal

-- an element at each place so far
abbrev pub invariant-loop-i : goal.invariant-loop-i
invariant-loop-i g l = (f : ℕ → g.row.T.Denot) → ((i : ℕ) (element : g.row.T.Denot) → goal.F-post g l.stored i element → element ≡ f i) → l.into ≡ laid (place_after l.start) (λ i. pick (ltb i l.head.kept) (f i) l.fill) l.i l.initial.into
