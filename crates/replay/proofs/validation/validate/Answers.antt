use Rattle.std.proofs.Common.{refl, sym, ◌∙◌, arith}
use Rattle.replay.proofs.Called.{validated, mode-none, mode-source, mode_standard}
use Rattle.replay.proofs.validation.validate.Goals as goal

pub returns-in-0 : goal.returns-in-0
returns-in-0 c = validated _ _ _ _ _ refl (mode-none _ (sym c.word.ensures ∙ c.in-0.is)) c.word-node.ensures c.word-schema.ensures c.qy_validate.ensures

pub returns-in-1 : goal.returns-in-1
returns-in-1 c = validated _ _ _ _ _ refl (mode-source _ (sym c.word.ensures ∙ c.in-1.is)) c.word-node.ensures c.word-schema.ensures c.qy_validate_source.ensures

pub returns-in_default : goal.returns-in_default
returns-in_default c = validated _ _ _ _ _ refl (mode_standard _ (λ q. omega arith) (λ q. omega arith)) c.word-node.ensures c.word-schema.ensures c.qy_validate_standard.ensures
