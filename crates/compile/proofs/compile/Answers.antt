use mathlib.Core.Path.{sym, ◌∙◌}
use Rattle.compilation.proofs.Used.{used_few}
use Rattle.compile.proofs.Ended.{of_lent, answer_bad, answer_beyond, answer-built}
use Rattle.compile.proofs.compile.Goals as goal

pub returns-in-Err : goal.returns-in-Err
returns-in-Err c = answer_bad _ _ _ _ (sym (of_lent _ c.check_used-checked.ensures c.new-lent.ensures) ∙ c.in-Err.is) c.failed.ensures c.with_used.ensures

pub returns-then-used_schemas-schema : goal.returns-then-used_schemas-schema
returns-then-used_schemas-schema c = answer_beyond _ _ _ (sym (of_lent _ c.in_default.ensures c.new-lent.ensures)) c.if-used_schemas-schema.true c.failed-then-used_schemas-schema.ensures c.with_used-then-used_schemas-schema.ensures

pub compile_sound-requires : goal.compile_sound-requires
compile_sound-requires c = used_few _ _ (sym c.in_default.ensures)

pub returns : goal.returns
returns c = answer-built _ _ _ (sym (of_lent _ c.in_default.ensures c.new-lent.ensures)) c.if-used_schemas-schema.false c.compile_sound.ensures
