use mathlib.Core.Path.{◌∙◌, ap}
use native.Mathlib.Omega.{arith}
use lib.ListN.{length}
use Rattle.text.specs.Utf8.{code_points_of}
use Rattle.text.proofs.Octet.{points_le}
use Rattle.judge.specs.Judge.{length_in}
use Rattle.judge.proofs.string.length_in.Goals as goal

pub overflow_cast-result-in-Standard : goal.overflow_cast-result-in-Standard
overflow_cast-result-in-Standard c = omega (arith, c.code_points.ensures, c.text-bytes.ensures.short, points_le c.text-bytes.result.now)

pub returns-in-Source : goal.returns-in-Source
unfolding length_in
returns-in-Source c = rw c.in-Source.is (ap length c.text-bytes.ensures.bytes)

pub returns-in-Standard : goal.returns-in-Standard
unfolding length_in
returns-in-Standard c = rw c.in-Standard.is (c.code_points.ensures ∙ ap code_points_of c.text-bytes.ensures.bytes)
