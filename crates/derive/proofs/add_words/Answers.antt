use Rattle.append.proofs.Laws.{grown_of}
use Rattle.derive.proofs.add_words.Goals as goal

pub returns-then-append-clause-grown : goal.returns-then-append-clause-grown
returns-then-append-clause-grown c = rw c.if-append.true at (grown_of c.append.ensures)

pub returns-else-append-clause-grown : goal.returns-else-append-clause-grown
returns-else-append-clause-grown c = rw c.if-append.false at (grown_of c.append.ensures)
