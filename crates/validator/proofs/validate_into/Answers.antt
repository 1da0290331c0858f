use Rattle.validator.proofs.Ends as ends
use native.Mathlib.Omega.{arith}
use mathlib.Core.Path.{sym, ◌∙◌}
use Rattle.validator.proofs.validate_into.Goals as goal

pub first_visit-found-requires : goal.first_visit-found-requires
first_visit-found-requires c = let st = ends.started _ _ _ _ _ _ c.begin-begun.ensures c.in_default.is in omega (arith, st.instance, st.schema, st.bytes)

pub returns-in-Err-clause-validated : goal.returns-in-Err-clause-validated
returns-in-Err-clause-validated c = ends.stopped c.failed.ensures c.clear.ensures.instance c.clear.ensures.schema ∙ sym (ends.validate_stop _ _ _ _ _ _ _ c.begin-begun.ensures _ c.in-Err.is)

pub returns-clause-validated : goal.returns-clause-validated
returns-clause-validated c = let st = ends.started _ _ _ _ _ _ c.begin-begun.ensures c.in_default.is in ends.finished _ _ _ _ _ _ _ _ _ c.first_visit-found.ensures.met st.instance st.schema c.finish.ensures.finished ∙ sym (ends.validate_work _ _ _ _ _ _ _ c.begin-begun.ensures c.in_default.is)
