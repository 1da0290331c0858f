use Rattle.std.proofs.Common.{rules, tests}
use Rattle.records.specs.Records.{pattern_ok}
use Rattle.tables.proofs.walk.patterns_fault.Goals as goal

pub returns : goal.returns
returns c = rw (← c.pattern_count.ensures) (c.first_bad.ensures (pattern_ok c.args.z c.args.t.now.patterns.now) (λ i b p. search (rules, tests)))
