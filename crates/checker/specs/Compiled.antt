-- What a compile leaves over the boundary: the flat answer, and the three tables that it appends to. Assumes nothing.
use Rattle.std.specs.Prelude.{ℕ, List}
use Rattle.compilation.specs.Entry.{Compiled}
use Rattle.checker.specs.declared.flat.Flat.{Flat}
use Rattle.checker.specs.Flat.{flat_of}

pub record LeftTables : Type 0 where
  pub answer : Flat
  pub notes : List ℕ
  pub schemas : List ℕ
  pub links : List ℕ

abbrev pub left_tables_of : Compiled → LeftTables
left_tables_of x = record { answer = flat_of x.answer; notes = x.notes; schemas = x.schemas; links = x.links }
