-- Tables in range read the same whatever is appended. Assumes nothing.
use Prim.Native.Nat.{ℕ, zero, suc, ◌+◌, ◌*◌, ◌≤◌, ◌<◌}
use mathlib.Core.Path.{◌≡◌, refl, sym, ap, ap₂, ◌∙◌}
use mathlib.Core.Bool.{Bool, true, false}
use mathlib.Core.List.{List, [], ◌∷◌, ◌++◌}
use mathlib.Core.Option.{Option, some, none}
use native.Mathlib.Omega.{arith}
use lib.ListN.{length, get_or, get_or-append}
use lib.Dec.{eqb, leb}
use borrow.Author.Tests.{eqb-true, eqb-false}
use Rattle.text.specs.Choice.{pick}
use Rattle.layout.specs.Layout.{NONE}
use Rattle.schema.specs.Shape.{Note, Own, nameless, named, plain, any_of, all_of, array, object, ref}
use Rattle.schema.specs.Look.{Words, slice, optional}
use Rattle.merge.specs.Pairs.{pairs_at}
use Rattle.grouping.specs.Record.{row_at, note_of_row, note_in, own_of, array_of, object_of, shape_of, bases_of, count}
use Rattle.grouping.proofs.Rowed.{note_row_lem, raw_row, bases_row}
use Rattle.grouping.proofs.Growing.{Extends, Placed, Sound, slice_kept, row_kept}

pub record RowIn (t : Words) (r : List ℕ) : Type 0 where
  pub note : (get_or r 1 0 ≡ NONE → ⊥) → get_or r 1 0 * 9 + 9 ≤ length t.notes
  pub enum : get_or r 0 0 ≡ 5 → get_or r 2 0 + get_or r 3 0 ≤ length t.links
  pub any : get_or r 0 0 ≡ 7 → get_or r 2 0 + get_or r 3 0 ≤ length t.links
  pub all : get_or r 0 0 ≡ 8 → get_or r 2 0 + get_or r 3 0 ≤ length t.links
  pub props : get_or r 0 0 ≡ 10 → get_or r 2 0 + 2 * get_or r 3 0 ≤ length t.links
  pub patterns : get_or r 0 0 ≡ 10 → get_or r 4 0 + 2 * get_or r 5 0 ≤ length t.links
  pub required : get_or r 0 0 ≡ 10 → get_or r 7 0 + get_or r 8 0 ≤ length t.links
  pub bases : (get_or r 14 0 ≡ NONE → ⊥) → get_or r 14 0 + get_or r 15 0 ≤ length t.links

pairs-kept : (xs ys : List ℕ) (at n : ℕ) → at + 2 * n ≤ length xs → pairs_at (xs ++ ys) at n ≡ pairs_at xs at n
unfolding pairs_at
pairs-kept xs ys at zero h = refl
pairs-kept xs ys at (suc n) h = rw (get_or-append xs ys 0 at (omega arith), get_or-append xs ys 0 (at + 1) (omega arith), pairs-kept xs ys (at + 2) n (omega arith))

module _ {t u : Words} (e : Extends t u) where
  list_steady : (at n : ℕ) → at + n ≤ length t.links → slice u.links at n ≡ slice t.links at n
  list_steady at n h = rw e.links_are (slice_kept t.links e.links at n h)

  pairs_steady : (at n : ℕ) → at + 2 * n ≤ length t.links → pairs_at u.links at n ≡ pairs_at t.links at n
  pairs_steady at n h = rw e.links_are (pairs-kept t.links e.links at n h)

  unequal : (a b : ℕ) → eqb a b ≡ false → a ≡ b → ⊥
  unequal a b h p = eqb-false a b h p

  note_steady : (w : ℕ) → ((w ≡ NONE → ⊥) → w * 9 + 9 ≤ length t.notes) → note_in u w ≡ note_in t w
  note_steady w h = note_row_lem u.notes w ∙ (at (eqb w NONE) refl ∙ sym (note_row_lem t.notes w))
    where
      at : (b : Bool) → eqb w NONE ≡ b → pick b none (some (note_of_row (slice u.notes (w * 9) 9))) ≡ pick b none (some (note_of_row (slice t.notes (w * 9) 9)))
      at true q = refl
      at false q = ap (λ (x : List ℕ). some (note_of_row x)) (rw e.notes_are (slice_kept t.notes e.notes (w * 9) 9 (h (unequal w NONE q))))

  bases_steady : (r : List ℕ) → RowIn t r → bases_of u r ≡ bases_of t r
  unfolding bases_of
  bases_steady r i = at (eqb (get_or r 14 0) NONE) refl
    where
      at : (b : Bool) → eqb (get_or r 14 0) NONE ≡ b → pick b none (some (slice u.links (get_or r 14 0) (get_or r 15 0))) ≡ pick b none (some (slice t.links (get_or r 14 0) (get_or r 15 0)))
      at true q = refl
      at false q = ap some (list_steady (get_or r 14 0) (get_or r 15 0) (i.bases (unequal (get_or r 14 0) NONE q)))

  own_steady : (r : List ℕ) → RowIn t r → own_of u r ≡ own_of t r
  unfolding own_of
  own_steady r i = ap₂ (λ (x : Option Note) (y : List ℕ). record { kind = get_or r 0 0; note = x; words = y }) (note_steady (get_or r 1 0) i.note) (at (eqb (get_or r 0 0) 5) refl)
    where
      at : (b : Bool) → eqb (get_or r 0 0) 5 ≡ b → pick b (slice u.links (get_or r 2 0) (get_or r 3 0)) (slice r 2 14) ≡ pick b (slice t.links (get_or r 2 0) (get_or r 3 0)) (slice r 2 14)
      at true q = list_steady (get_or r 2 0) (get_or r 3 0) (i.enum (eqb-true (get_or r 0 0) 5 q))
      at false q = refl

  array_steady : (r : List ℕ) → RowIn t r → array_of u r ≡ array_of t r
  unfolding array_of
  array_steady r i = ap (λ (x : Option Note). record { kind = 9; note = x; words = slice r 3 3 }) (note_steady (get_or r 1 0) i.note)

  object_steady : (r : List ℕ) → RowIn t r → get_or r 0 0 ≡ 10 → object_of u r ≡ object_of t r
  unfolding object_of
  object_steady r i k = λ j. record {
    note = note_steady (get_or r 1 0) i.note j;
    props = pairs_steady (get_or r 2 0) (get_or r 3 0) (i.props k) j;
    patterns = pairs_steady (get_or r 4 0) (get_or r 5 0) (i.patterns k) j;
    additional = pick (eqb (get_or r 6 0) NONE) none (some (get_or r 6 0 ∷ []));
    required = list_steady (get_or r 7 0) (get_or r 8 0) (i.required k) j;
    least = get_or r 9 0;
    most = get_or r 10 0;
    closed = eqb (get_or r 11 0) 1;
    names = pick (eqb (get_or r 12 0) NONE) nameless (named (get_or r 12 0 ∷ []));
    naming = get_or r 13 0;
  }

  shape_steady : (r : List ℕ) → RowIn t r → shape_of u r ≡ shape_of t r
  unfolding shape_of
  shape_steady r i = at (leb (get_or r 0 0) 6) (eqb (get_or r 0 0) 7) (eqb (get_or r 0 0) 8) (eqb (get_or r 0 0) 9) (eqb (get_or r 0 0) 10) refl refl refl
    where
      at : (a b c d f : Bool) → eqb (get_or r 0 0) 7 ≡ b → eqb (get_or r 0 0) 8 ≡ c → eqb (get_or r 0 0) 10 ≡ f →
          pick a (plain (own_of u r)) (pick b (any_of (note_in u (get_or r 1 0)) (slice u.links (get_or r 2 0) (get_or r 3 0)))
          (pick c (all_of (note_in u (get_or r 1 0)) (slice u.links (get_or r 2 0) (get_or r 3 0)))
          (pick d (array (array_of u r) (optional (get_or r 2 0))) (pick f (object (object_of u r)) (ref (note_in u (get_or r 1 0)) (get_or r 2 0) (eqb (get_or r 3 0) 1)))))) ≡
          pick a (plain (own_of t r)) (pick b (any_of (note_in t (get_or r 1 0)) (slice t.links (get_or r 2 0) (get_or r 3 0)))
          (pick c (all_of (note_in t (get_or r 1 0)) (slice t.links (get_or r 2 0) (get_or r 3 0)))
          (pick d (array (array_of t r) (optional (get_or r 2 0))) (pick f (object (object_of t r)) (ref (note_in t (get_or r 1 0)) (get_or r 2 0) (eqb (get_or r 3 0) 1))))))
      at true b c d f p q w = ap plain (own_steady r i)
      at false true c d f p q w = ap₂ (λ (x : Option Note) (y : List ℕ). any_of x y) (note_steady (get_or r 1 0) i.note) (list_steady (get_or r 2 0) (get_or r 3 0) (i.any (eqb-true (get_or r 0 0) 7 p)))
      at false false true d f p q w = ap₂ (λ (x : Option Note) (y : List ℕ). all_of x y) (note_steady (get_or r 1 0) i.note) (list_steady (get_or r 2 0) (get_or r 3 0) (i.all (eqb-true (get_or r 0 0) 8 q)))
      at false false false true f p q w = ap (λ (x : Own). array x (optional (get_or r 2 0))) (array_steady r i)
      at false false false false true p q w = ap object (object_steady r i (eqb-true (get_or r 0 0) 10 w))
      at false false false false false p q w = ap (λ (x : Option Note). ref x (get_or r 2 0) (eqb (get_or r 3 0) 1)) (note_steady (get_or r 1 0) i.note)

-- what the table check establishes of tables 3, 4 and 7
pub record InRange (t : Words) : Type 0 where
  pub placed : Placed t
  pub row : (s : ℕ) → s < count t → RowIn t (row_at t s)

pub sound : {t : Words} → InRange t → Sound t
sound {t} z = record {
  placed = z.placed;
  steady = λ s i u e. raw_row u s ∙ (ap (shape_of u) (row_kept z.placed e s i) ∙ (shape_steady e (row_at t s) (z.row s i) ∙ sym (raw_row t s)));
  steady_bases = λ s i u e. bases_row u s ∙ (ap (bases_of u) (row_kept z.placed e s i) ∙ (bases_steady e (row_at t s) (z.row s i) ∙ sym (bases_row t s)));
}
