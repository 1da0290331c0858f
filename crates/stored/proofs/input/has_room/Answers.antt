use native.Mathlib.Omega.{arith}
use mathlib.Core.Path.{◌∙◌}
use borrow.Author.Tests.{lt-leb}
use Rattle.stored.proofs.Reading.{room_rest, room_past}
use Rattle.stored.proofs.input.has_room.Goals as goal

pub returns-then-end-whole : goal.returns-then-end-whole
returns-then-end-whole c = room_rest _ _ _ (omega arith)

pub returns-else-end-whole : goal.returns-else-end-whole
returns-else-end-whole c = lt-leb _ _ (omega arith) ∙ room_past _ _ _ (omega arith)
