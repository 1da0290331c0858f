use Rattle.layout.specs.Layout.{tables}
use Rattle.validator.proofs.AtOnce.{Gone}
use Rattle.validator.proofs.quick.accepts_entries.Given as goal

abbrev pub invariant-loop-k : goal.invariant-loop-k
invariant-loop-k l = Gone (tables l.t.texts.pool.now l.t.texts.records.now l.t.nodes.now l.t.notes.now l.t.schemas.now l.t.registry.now l.t.patterns.now l.t.links.now l.t.numbers.now) l.mode l.below l.node l.s l.count l.ordered l.last l.k
