use Rattle.validator.proofs.Early.{says_nothing, accepts-boolean, accepts-number, accepts_string, accepts_enum}
use Rattle.validator.proofs.AtOnce.{glance_object}
use Rattle.validator.proofs.quick.accepts.Goals as goal

pub returns-then-level-eq0 : goal.returns-then-level-eq0
returns-then-level-eq0 c = says_nothing _

pub returns-in-1 : goal.returns-in-1
returns-in-1 c = accepts-boolean _ _ _ _ _ _ c.if-level-eq0.false c.schema_kind.ensures _ _ c.is_ok.ensures.value c.validate_boolean.ensures c.in-1.is

pub returns-in-2 : goal.returns-in-2
returns-in-2 c = accepts-number _ _ _ _ _ _ c.if-level-eq0.false c.schema_kind.ensures _ _ c.is_ok-in-2.ensures.value c.validate_number.ensures c.in-2.is

pub returns-in-3 : goal.returns-in-3
returns-in-3 c = accepts_string _ _ _ _ _ _ c.if-level-eq0.false c.schema_kind.ensures _ _ c.is_ok-in-3.ensures.value c.validate_string.ensures c.in-3.is

pub returns-in-5 : goal.returns-in-5
returns-in-5 c = accepts_enum _ _ _ _ _ _ c.if-level-eq0.false c.schema_kind.ensures _ _ c.is_ok-in-5.ensures.value c.validate_enum.ensures c.in-5.is

pub returns-in-10 : goal.returns-in-10
returns-in-10 c = glance_object _ _ _ _ _ _ c.if-level-eq0.false c.schema_kind.ensures _ c.accepts_object.ensures c.in-10.is

pub returns-in_default : goal.returns-in_default
returns-in_default c = says_nothing _
