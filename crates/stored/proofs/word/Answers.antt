use Prim.Native.Nat.{ℕ}
use mathlib.Core.Path.{ap, ◌∙◌}
use lib.ListN.{get_or}
use Rattle.stored.specs.Stored.{word_behind}
use Rattle.stored.proofs.word.Goals as goal

pub returns : goal.returns
unfolding word_behind
returns c = c.word.ensures ∙ ap (λ (place : ℕ). get_or c.args.input.now place 0) c.after.ensures
