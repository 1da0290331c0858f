-- A record of table 4 as its row of sixteen words, and what the row says: the proofs look at rows, since compiling appends rows. That a
-- row says what its record says is proved in `Rowed`. Assumes nothing.
use Rattle.std.specs.Prelude.{ℕ, List, [], ◌∷◌, get_or, eqb, leb}
use Rattle.std.proofs.Math.Option.{Option, some, none}
use Rattle.text.specs.Choice.{pick}
use Rattle.layout.specs.Layout.{NONE, schema_count}
use Rattle.schema.specs.Shape.{Note, Own, nameless, named, Object, Shape, plain, any_of, all_of, array, object, ref}
use Rattle.schema.specs.Look.{Words, slice, own_words, note_at, optional}
use Rattle.merge.specs.Pairs.{pairs_at}

abbrev pub count : Words → ℕ
count t = schema_count t.schemas

unfoldable pub row_at : Words → ℕ → List ℕ
row_at t s = own_words t.schemas s 0 16

abbrev pub note_in : Words → ℕ → Option Note
note_in t n = note_at t.notes n

-- what nine words of table 3 say
unfoldable pub note_of_row : List ℕ → Note
note_of_row r =
    record {
      id = get_or r 0 0;
      description = get_or r 1 0;
      documentation = get_or r 2 0;
      message = get_or r 3 0;
      hidden = get_or r 4 0;
      completions = get_or r 5 0;
      more = get_or r 6 0;
      tags = get_or r 7 0;
      detection = get_or r 8 0;
    }

unfoldable pub own_of : Words → List ℕ → Own
own_of t r =
    record {
      kind = get_or r 0 0;
      note = note_in t (get_or r 1 0);
      words = pick (eqb (get_or r 0 0) 5) (slice t.links (get_or r 2 0) (get_or r 3 0)) (slice r 2 14);
    }

unfoldable pub array_of : Words → List ℕ → Own
array_of t r = record { kind = 9; note = note_in t (get_or r 1 0); words = slice r 3 3 }

unfoldable pub object_of : Words → List ℕ → Object ℕ
object_of t r =
    record {
      note = note_in t (get_or r 1 0);
      props = pairs_at t.links (get_or r 2 0) (get_or r 3 0);
      patterns = pairs_at t.links (get_or r 4 0) (get_or r 5 0);
      additional = pick (eqb (get_or r 6 0) NONE) none (some (get_or r 6 0 ∷ []));
      required = slice t.links (get_or r 7 0) (get_or r 8 0);
      least = get_or r 9 0;
      most = get_or r 10 0;
      closed = eqb (get_or r 11 0) 1;
      names = pick (eqb (get_or r 12 0) NONE) nameless (named (get_or r 12 0 ∷ []));
      naming = get_or r 13 0;
    }

unfoldable pub shape_of : Words → List ℕ → Shape ℕ
shape_of t r =
    pick (leb (get_or r 0 0) 6) (plain (own_of t r))
    (pick (eqb (get_or r 0 0) 7) (any_of (note_in t (get_or r 1 0)) (slice t.links (get_or r 2 0) (get_or r 3 0)))
    (pick (eqb (get_or r 0 0) 8) (all_of (note_in t (get_or r 1 0)) (slice t.links (get_or r 2 0) (get_or r 3 0)))
    (pick (eqb (get_or r 0 0) 9) (array (array_of t r) (optional (get_or r 2 0)))
    (pick (eqb (get_or r 0 0) 10) (object (object_of t r))
    (ref (note_in t (get_or r 1 0)) (get_or r 2 0) (eqb (get_or r 3 0) 1))))))

unfoldable pub bases_of : Words → List ℕ → Option (List ℕ)
bases_of t r = pick (eqb (get_or r 14 0) NONE) none (some (slice t.links (get_or r 14 0) (get_or r 15 0)))
