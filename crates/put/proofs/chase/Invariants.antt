use Prim.Native.Nat.{◌*◌}
use mathlib.Core.Path.{◌≡◌}
use lib.ListN.{take}
use Rattle.put.specs.Chase.{chase_in}
use Rattle.put.proofs.chase.Given as goal

abbrev pub invariant-loop-left : goal.invariant-loop-left
invariant-loop-left l =
    let lead = chase_in l.texts.pool.now l.texts.records.now l.registry (take (l.us * 16) l.schemas) l.us in
    lead l.level l.s ≡ lead l.left l.at
