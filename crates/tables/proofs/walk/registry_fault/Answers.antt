use Rattle.std.proofs.Common.{rules, tests}
use Rattle.records.specs.Records.{entry_ok}
use Rattle.tables.proofs.walk.registry_fault.Goals as goal

pub returns : goal.returns
returns c = rw (← c.entry_count.ensures) (c.first_bad.ensures (entry_ok c.args.z c.args.t.now.registry.now) (λ i b p. search (rules, tests)))
