use Rattle.std.proofs.Common.{refl, ◌∙◌}
use Rattle.replay.proofs.Called.{tables_same, group_same}
use Rattle.replay.proofs.group_tables.Goals as goal

pub returns : goal.returns
returns c =
    c.new.ensures
    ∙ tables_same _ _ _ _ c.part-2.ensures c.part-3.ensures c.part-4.ensures c.part-5.ensures c.part-6.ensures c.part-7.ensures c.part-8.ensures
    ∙ group_same _ _ _ _ _ _ _ refl c.part.ensures c.part-9.ensures
