use mathlib.Core.Path.{sym}
use Rattle.joins.proofs.Laws as laws
use Rattle.joins.proofs.note_field.Goals as goal

pub returns-then-note : goal.returns-then-note
returns-then-note c = sym (laws.note-none _ _ _ _ _ c.schema_note-note.ensures c.if-note.true)

pub returns : goal.returns
returns c = sym (laws.note_some _ _ _ _ _ _ c.schema_note-note.ensures c.if-note.false c.note_word.ensures)
