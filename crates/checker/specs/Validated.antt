-- What a validation leaves over the boundary: the flat answer, and both path buffers. Assumes nothing.
use Rattle.std.specs.Prelude.{ℕ, List}
use Rattle.validator.specs.Validate.{Validated}
use Rattle.checker.specs.declared.flat.Flat.{Flat}
use Rattle.checker.specs.Flat.{flat_of}

pub record Left : Type 0 where
  pub answer : Flat
  pub instance : List ℕ
  pub schema : List ℕ

abbrev pub left_of : Validated → Left
left_of v = record { answer = flat_of v.answer; instance = v.instance; schema = v.schema }
