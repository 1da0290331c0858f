use Rattle.std.proofs.Common.{◌+◌, ◌≡◌}
use Rattle.stored.specs.Stored.{laid}
use Rattle.stored.specs.Input.{word_at}
use Rattle.stored.proofs.input.put_words.Given as goal

-- a word at each place so far
abbrev pub invariant-loop-i : goal.invariant-loop-i
invariant-loop-i l = l.into ≡ laid (λ j. l.from + j) (word_at l.bytes) l.i l.initial.into
