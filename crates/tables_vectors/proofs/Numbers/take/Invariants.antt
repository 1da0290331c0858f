use lib.ListN.{length}
use Rattle.tables_vectors.proofs.Numbers.take.Given as goal

abbrev pub decreases-loop-byte : goal.decreases-loop-byte
decreases-loop-byte l = length l.self.rest.now
