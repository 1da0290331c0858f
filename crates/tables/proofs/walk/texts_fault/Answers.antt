use Rattle.std.proofs.Common.{rules, tests}
use Rattle.records.specs.Records.{text_ok}
use Rattle.tables.proofs.walk.texts_fault.Goals as goal

pub returns : goal.returns
returns c = rw (← c.count.ensures) (c.first_bad.ensures (text_ok c.args.texts.now.pool.now c.args.texts.now.records.now) (λ i b p. search (rules, tests)))
