use mathlib.Core.Path.{sym, ◌∙◌}
use borrow.Author.Rules.{rules}
use Rattle.compile.proofs.Ended.{ended}
use Rattle.compile.proofs.compile_sound.Goals as goal

pub returns : goal.returns
returns c =
    let n = sym (c.clear.ensures.lent.0 ∙ c.one-made.ensures.lent.0) in
    let s = sym (c.clear.ensures.lent.1 ∙ c.one-made.ensures.lent.1) in
    ended _ _ _ _ _ _ _ _ _ _ _ _ _ _ _ _ _ _ _ c.one-made.ensures.made c.kept-left.ensures (search rules) c.answered.ensures
