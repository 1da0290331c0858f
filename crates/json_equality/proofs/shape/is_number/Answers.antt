use Rattle.number.specs.Equal.{equal_numbers_of}
use Rattle.json_equality.proofs.Shapes as shapes
use borrow.Enum.Refused.{opened}
use Rattle.json_equality.proofs.shape.is_number.Goals as goal

pub returns-in-Numeric : goal.returns-in-Numeric
returns-in-Numeric c = simp c.in-Numeric.is c.equal_numbers.ensures

pub returns-in_default : goal.returns-in_default
returns-in_default c = shapes.not-number c.args.texts.now.pool.now c.args.texts.now.records.now (equal_numbers_of c.args.way c.args.v) c.args.y (opened c.in_default.in_default-own.keys2)
