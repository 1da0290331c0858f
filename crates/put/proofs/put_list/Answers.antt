use mathlib.Core.Path.{refl, sym}
use native.Mathlib.Omega.{arith}
use Rattle.append.proofs.Laws.{room_limit, room_lent}
use Rattle.put.proofs.Weave as weave
use Rattle.put.proofs.put_list.Goals as goal

pub loop-i-init : goal.loop-i-init
loop-i-init c =
    let r = sym c.in_ok-has_room.ensures.fits in
    weave.put-none _ _ _ _ _ _ _ _ (room_limit 16384 _ c.args.ul (c.args.count) r) (room_lent 16384 _ c.args.ul (c.args.count) r) c.requires.0 c.requires.1

pub loop-i-preserved : goal.loop-i-preserved
loop-i-preserved c = weave.put_more _ _ _ _ _ _ _ _ _ _ _ c.loop-i.invariant _ _ _ _ _ c.loop-i-test.true c.word-s.ensures refl refl c.child-x.ensures.number c.child-x.ensures.top

pub returns-clause-listed : goal.returns-clause-listed
returns-clause-listed c = weave.put_all _ _ _ _ _ _ _ _ _ _ _ c.loop-i.invariant (omega arith)
