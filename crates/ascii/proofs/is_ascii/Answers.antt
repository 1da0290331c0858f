use Rattle.ascii.proofs.Plain.{ascii_is}
use Rattle.ascii.proofs.is_ascii.Goals as goal

pub returns : goal.returns
returns c = ascii_is _ c.largest.ensures
