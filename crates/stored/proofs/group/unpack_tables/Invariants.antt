use Rattle.std.proofs.Common.{◌≡◌, replicate}
use Rattle.stored.specs.Group.{unpacking, tables_unpacked}
use Rattle.stored.proofs.group.unpack_tables.Given as goal

-- a table more at each turn, behind those before it
abbrev pub invariant-loop-k : goal.invariant-loop-k
invariant-loop-k l = unpacking l.head_at l.at l.end l.ends l.words ≡ tables_unpacked l.input (unpacking l.heads l.from 0 (replicate 8 0) l.initial.words) l.k
