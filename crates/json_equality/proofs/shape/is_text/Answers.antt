use mathlib.Core.Path.{◌∙◌}
use Rattle.text.specs.Text.{same_bytes, text_of}
use Rattle.text.proofs.Bytes.{same_text_bytes}
use Rattle.json_equality.proofs.Shapes as shapes
use borrow.Enum.Refused.{opened}
use Rattle.json_equality.proofs.shape.is_text.Goals as goal

pub returns-in-Text : goal.returns-in-Text
returns-in-Text c = simp c.in-Text.is (c.is_text.ensures ∙ same_text_bytes _ _ _ _)

pub returns-in_default : goal.returns-in_default
returns-in_default c = shapes.not_text c.args.texts.now.pool.now c.args.texts.now.records.now (same_bytes (text_of c.args.texts.now.pool.now c.args.texts.now.records.now c.args.t)) c.args.y (opened c.in_default.in_default-own.keys2)
