-- What a merged object keeps of its own record and of its bases, beside its note and its lists.
use Rattle.std.specs.Prelude.{ℕ, ◌≡◌, List, eqb}
use Rattle.layout.specs.Layout.{schema_word}
use Rattle.joins.specs.Joins.{closed_of}
use Rattle.inherit.specs.declared.Scalars.{Scalars}

-- of a derived record s of S₀ whose bases bs stand in S
pub record Carried (S₀ : List ℕ) (s : ℕ) (S bs : List ℕ) (k : Scalars) : Type 0 where
  pub minimum : k.minimum ≡ schema_word S₀ s 9
  pub maximum : k.maximum ≡ schema_word S₀ s 10
  pub closed : k.closed ≡ closed_of S (eqb (schema_word S₀ s 11) 1) bs
  pub naming : k.naming ≡ schema_word S₀ s 13
