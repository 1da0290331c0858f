-- A row says what its record says. Assumes nothing.
use Prim.Native.Nat.{ℕ, zero, suc, ◌+◌, ◌*◌}
use mathlib.Core.Path.{◌≡◌, refl, ap, ◌∙◌}
use mathlib.Core.List.{List, [], ◌∷◌}
use mathlib.Core.Option.{some, none}
use native.Mathlib.Omega.{arith}
use lib.ListN.{get_or}
use lib.Dec.{eqb, leb}
use Rattle.text.specs.Choice.{pick}
use Rattle.layout.specs.Layout.{NONE, note_word, schema_word}
use Rattle.schema.specs.Shape.{nameless, named, plain, any_of, all_of, array, object, ref}
use Rattle.schema.specs.Look as words
use Rattle.schema.specs.Look.{Words, slice, own_words, note_at, optional, raw, bases}
use Rattle.merge.proofs.Lists.{pairs_are}
use Rattle.grouping.specs.Record.{row_at, note_in, note_of_row, own_of, array_of, object_of, shape_of, bases_of}

-- the words of a record are a part of the table
pub row_slice : (schemas : List ℕ) (s k n : ℕ) → own_words schemas s k n ≡ slice schemas (s * 16 + k) n
unfolding own_words slice schema_word
row_slice schemas s k zero = refl
row_slice schemas s k (suc n) = ap (λ (x : List ℕ). get_or schemas (s * 16 + k) 0 ∷ x) (row_slice schemas s (k + 1) n ∙ ap (λ (at : ℕ). slice schemas at n) (omega arith))

-- the words of a note are a part of theirs
note_words_from : List ℕ → ℕ → ℕ → ℕ → List ℕ
note_words_from notes n k zero = []
note_words_from notes n k (suc m) = note_word notes n k ∷ note_words_from notes n (k + 1) m

note-slice : (notes : List ℕ) (n k m : ℕ) → note_words_from notes n k m ≡ slice notes (n * 9 + k) m
unfolding note_words_from slice note_word
note-slice notes n k zero = refl
note-slice notes n k (suc m) = ap (λ (x : List ℕ). get_or notes (n * 9 + k) 0 ∷ x) (note-slice notes n (k + 1) m ∙ ap (λ (at : ℕ). slice notes at m) (omega arith))

pub note_row_lem : (notes : List ℕ) (n : ℕ) → note_at notes n ≡ pick (eqb n NONE) none (some (note_of_row (slice notes (n * 9) 9)))
unfolding note_at note_of_row note_words_from
note_row_lem notes n = ap (λ (r : List ℕ). pick (eqb n NONE) none (some (note_of_row r))) (note-slice notes n 0 9 ∙ ap (λ (at : ℕ). slice notes at 9) (omega arith))

module _ (t : Words) (s : ℕ) where
  object_row_lem : words.object_of t s ≡ object_of t (row_at t s)
  unfolding words.object_of object_of row_at own_words
  object_row_lem = λ i. record {
    note = note_in t (get_or (row_at t s) 1 0);
    props = pairs_are t.links (get_or (row_at t s) 2 0) (get_or (row_at t s) 3 0) i;
    patterns = pairs_are t.links (get_or (row_at t s) 4 0) (get_or (row_at t s) 5 0) i;
    additional = pick (eqb (get_or (row_at t s) 6 0) NONE) none (some (get_or (row_at t s) 6 0 ∷ []));
    required = slice t.links (get_or (row_at t s) 7 0) (get_or (row_at t s) 8 0);
    least = get_or (row_at t s) 9 0;
    most = get_or (row_at t s) 10 0;
    closed = eqb (get_or (row_at t s) 11 0) 1;
    names = pick (eqb (get_or (row_at t s) 12 0) NONE) nameless (named (get_or (row_at t s) 12 0 ∷ []));
    naming = get_or (row_at t s) 13 0;
  }

  own_row : words.own_of t s ≡ own_of t (row_at t s)
  unfolding words.own_of own_of row_at own_words slice
  own_row = refl

  array_row : words.array_of t s ≡ array_of t (row_at t s)
  unfolding words.array_of array_of row_at own_words slice
  array_row = refl

  pub raw_row : raw t s ≡ shape_of t (row_at t s)
  unfolding raw shape_of row_at own_words
  raw_row = λ i.
      pick (leb (get_or (row_at t s) 0 0) 6) (plain (own_row i))
      (pick (eqb (get_or (row_at t s) 0 0) 7) (any_of (note_in t (get_or (row_at t s) 1 0)) (slice t.links (get_or (row_at t s) 2 0) (get_or (row_at t s) 3 0)))
      (pick (eqb (get_or (row_at t s) 0 0) 8) (all_of (note_in t (get_or (row_at t s) 1 0)) (slice t.links (get_or (row_at t s) 2 0) (get_or (row_at t s) 3 0)))
      (pick (eqb (get_or (row_at t s) 0 0) 9) (array (array_row i) (optional (get_or (row_at t s) 2 0)))
      (pick (eqb (get_or (row_at t s) 0 0) 10) (object (object_row_lem i))
      (ref (note_in t (get_or (row_at t s) 1 0)) (get_or (row_at t s) 2 0) (eqb (get_or (row_at t s) 3 0) 1))))))

  pub bases_row : bases t s ≡ bases_of t (row_at t s)
  unfolding bases bases_of row_at own_words
  bases_row = refl
