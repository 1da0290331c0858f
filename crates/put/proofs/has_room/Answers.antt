use mathlib.Core.Path.{sym}
use native.Mathlib.Omega.{arith}
use Rattle.append.proofs.Laws.{room-yes}
use Rattle.put.proofs.Weave.{room_none}
use Rattle.put.proofs.has_room.Goals.{else-used-most-via-then-used-most+else-n-most, else-used-most-via-else-used-most}
use Rattle.put.proofs.has_room.Goals as goal

pub returns-then-n-most-clause-fits : goal.returns-then-n-most-clause-fits
returns-then-n-most-clause-fits c = sym (room-yes 16384 _ _ _ (omega arith) (omega arith))

pub returns-clause-fits : goal.returns-clause-fits
returns-clause-fits c =
    elim c.else-used-most.branch [
      | else-used-most-via-then-used-most+else-n-most w ↦ sym (room_none _ _ _ (omega arith))
      | else-used-most-via-else-used-most w ↦ sym (room_none _ _ _ (omega arith))
    ]
