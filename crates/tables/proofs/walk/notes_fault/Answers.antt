use Rattle.std.proofs.Common.{rules, tests}
use Rattle.records.specs.Records.{note_ok}
use Rattle.tables.proofs.walk.notes_fault.Goals as goal

pub returns : goal.returns
returns c = rw (← c.note_count.ensures) (c.first_bad.ensures (note_ok c.args.t.now.notes.now) (λ i b p. search (rules, tests)))
