-- `number::multiple::doubled_rest` meets its contract: each turn doubles what is left. Assumes nothing.
use Rattle.std.proofs.Common.{arith}
use Rattle.number.proofs.Doubling.{twice-below, twice-from, none-later}
use Rattle.number.proofs.multiple.doubled_rest.Goals as goal
use Rattle.number.proofs.multiple.doubled_rest.Goals.{then-twice-multiple, else-twice-multiple}

pub returns-then-rest-eq0 : goal.returns-then-rest-eq0
returns-then-rest-eq0 c =
    none-later c.args.value c.loop-turn.turn c.args.multiple c.loop-turn.rest c.loop-turn.invariant.left c.args.doublings (omega arith) c.if-rest-eq0.true

pub loop-turn-preserved : goal.loop-turn-preserved
loop-turn-preserved c =
    elim c.if-twice-multiple.branch [
      | then-twice-multiple w ↦ record { left = rw w.rest-is (twice-below _ _ _ _ c.loop-turn.invariant.left (omega arith)); below = omega arith }
      | else-twice-multiple w ↦ record { left = rw w.rest-is (twice-from _ _ _ _ c.loop-turn.invariant.left c.loop-turn.invariant.below (omega arith)); below = omega arith }
    ]
