use Rattle.inherit.proofs.Steps as steps
use Rattle.inherit.proofs.last_word.Given as goal

abbrev pub invariant-loop-base : goal.invariant-loop-base
invariant-loop-base l = steps.Reading l.notes l.schemas l.k l.j l.d l.bases l.base-index l.last
