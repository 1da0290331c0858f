use Rattle.validator.proofs.Leaves as leaves
use Rattle.validator.proofs.paths.hint.Goals as goal

pub returns-then-note : goal.returns-then-note
returns-then-note c = leaves.hint-none _ _ _ c.schema_note-note.ensures c.if-note.true

pub returns : goal.returns
returns c = leaves.hint_some _ _ _ c.schema_note-note.ensures _ c.if-note.false c.note_error_message.ensures
