use native.Mathlib.Omega.{arith}
use lib.ListN.{length-take}
use lib.Seq.{length-take-le}
use Rattle.stored.proofs.Reading.{behind-none, behind_more, room_true}
use Rattle.stored.proofs.input.read_words.Goals as goal

pub loop-init : goal.loop-init
loop-init c = behind-none _ _

pub put_words-requires : goal.put_words-requires
put_words-requires c = omega (arith, room_true _ _ _ c.has_room.ensures c.if-not-has_room.false, c.read_full-n.ensures, length-take c.read_full-n.result c.read_full-n.new.buf)

pub overflow_add-behind : goal.overflow_add-behind
overflow_add-behind c = omega (arith, room_true _ _ _ c.has_room.ensures c.if-not-has_room.false, c.read_full-n.ensures)

pub loop-preserved : goal.loop-preserved
loop-preserved c = behind_more _ c.loop.invariant (length-take-le _ _ (omega (arith, c.read_full-n.ensures))) (omega (arith, room_true _ _ _ c.has_room.ensures c.if-not-has_room.false, c.read_full-n.ensures)) c.put_words.ensures
