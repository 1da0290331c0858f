use native.Mathlib.Omega.{arith}
use lib.ListN.{drop_of_length-le}
use Rattle.text.specs.Utf8.{code_points_of}
use Rattle.text.proofs.Octet.{points_more, points_le}
use Rattle.text.proofs.utf8.code_points.Goals as goal

pub loop-b-preserved : goal.loop-b-preserved
loop-b-preserved c = omega (arith, c.loop-b.invariant, points_more c.args.s.now c.loop-b.b-index (omega arith), c.point-n.ensures)

pub overflow_add-n : goal.overflow_add-n
overflow_add-n c = omega (arith, c.loop-b.invariant, points_more c.args.s.now c.loop-b.b-index (omega arith), points_le c.args.s.now, c.point-n.ensures)

pub returns : goal.returns
unfolding code_points_of
returns c =
    let e = drop_of_length-le c.args.s.now {i = c.loop-b.b-index} (omega arith) in
    omega (arith, rw e at c.loop-b.invariant)
