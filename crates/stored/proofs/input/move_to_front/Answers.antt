use mathlib.Core.Path.{◌∙◌}
use Rattle.stored.proofs.Reading.{moved_copied}
use Rattle.stored.proofs.input.move_to_front.Goals as goal

pub returns : goal.returns
returns c = c.copy_within.ensures.after ∙ moved_copied _ _ _ c.requires
