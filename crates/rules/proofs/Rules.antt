-- The two cases of a bases list. Assumes nothing.
use mathlib.Core.Path.{◌≡◌}
use mathlib.Core.List.{List}
use Prim.Native.Nat.{ℕ}
use borrow.Author.Tests.{eq-eqb, ne_eqb}
use lib.Dec.{eqb}
use Rattle.layout.specs.Layout.{NONE, bases_first, bases_count}
use Rattle.lists.specs.Lists.{list_below}
use Rattle.rules.specs.Schemas.{bases_ok}

module _ (schemas : List ℕ) (s : ℕ) where
  module _ (links : List ℕ) where
    pub bases_absent : bases_first schemas s ≡ NONE → bases_ok links schemas s ≡ eqb (bases_count schemas s) 0
    unfolding bases_ok
    bases_absent h = rw (eq-eqb (bases_first schemas s) NONE h)

    pub bases_listed : (bases_first schemas s ≡ NONE → ⊥) → bases_ok links schemas s ≡ list_below links (bases_first schemas s) (bases_count schemas s) s
    unfolding bases_ok
    bases_listed h = rw (ne_eqb (bases_first schemas s) NONE h)
