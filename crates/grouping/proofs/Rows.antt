-- What stays of a record's words, by kind. Assumes nothing.
use Prim.Native.Nat.{ℕ, ◌<◌}
use mathlib.Core.Path.{◌≡◌, refl, sym, ap, subst, ◌∙◌}
use mathlib.Core.Bool.{Bool, true, false}
use mathlib.Core.List.{List, [], ◌∷◌}
use mathlib.Core.Option.{Option, some, none}
use native.Mathlib.Omega.{arith}
use lib.ListN.{get_or}
use lib.Dec.{eqb, leb}
use Rattle.text.specs.Choice.{pick}
use Rattle.layout.specs.Layout.{NONE}
use Rattle.schema.specs.Shape.{Note, nameless, detects, named, Object, Shape, plain, any_of, all_of, array, object, ref}
use Rattle.schema.specs.Look.{Words, slice, optional, detecting, sort_names, sort_object, sort_shape, raw, look}
use Rattle.merge.specs.Merge.{counting}
use Rattle.grouping.specs.Record.{row_at, note_in, own_of, array_of, object_of, shape_of, count}
use Rattle.grouping.specs.Tree.{nil, one, PerhapsEvery, absents, presents, Children, ObjectIn}
use Rattle.grouping.proofs.Shapes.{object_is, children-object}
use Rattle.grouping.proofs.Rowed.{raw_row}
use Rattle.grouping.proofs.Growing.{Extends, Sound, row_kept}
use Rattle.grouping.proofs.Joining.{Filled, no_list, a_list}
use Rattle.grouping.proofs.Natural.{Tidy}

-- a row, by its kind
pub data Reads (t : Words) (row : List ℕ) : Shape ℕ → Type 0 where
  r_plain : Reads t row (plain (own_of t row))
  r_any : Reads t row (any_of (note_in t (get_or row 1 0)) (slice t.links (get_or row 2 0) (get_or row 3 0)))
  r_all : Reads t row (all_of (note_in t (get_or row 1 0)) (slice t.links (get_or row 2 0) (get_or row 3 0)))
  r_array : Reads t row (array (array_of t row) (optional (get_or row 2 0)))
  r_object : Reads t row (object (object_of t row))
  r_ref : Reads t row (ref (note_in t (get_or row 1 0)) (get_or row 2 0) (eqb (get_or row 3 0) 1))

pub reads : (t : Words) (row : List ℕ) → Reads t row (shape_of t row)
unfolding shape_of
reads t row = at (leb (get_or row 0 0) 6) (eqb (get_or row 0 0) 7) (eqb (get_or row 0 0) 8) (eqb (get_or row 0 0) 9) (eqb (get_or row 0 0) 10)
  where
    at : (a b c d e : Bool) → Reads t row
        (pick a (plain (own_of t row)) (pick b (any_of (note_in t (get_or row 1 0)) (slice t.links (get_or row 2 0) (get_or row 3 0)))
        (pick c (all_of (note_in t (get_or row 1 0)) (slice t.links (get_or row 2 0) (get_or row 3 0)))
        (pick d (array (array_of t row) (optional (get_or row 2 0))) (pick e (object (object_of t row)) (ref (note_in t (get_or row 1 0)) (get_or row 2 0) (eqb (get_or row 3 0) 1)))))))
    at true b c d e = r_plain
    at false true c d e = r_any
    at false false true d e = r_all
    at false false false true e = r_array
    at false false false false true = r_object
    at false false false false false = r_ref

note_of_shape : Shape ℕ → Option Note
note_of_shape (plain w) = w.note
note_of_shape (any_of note xs) = note
note_of_shape (all_of note xs) = note
note_of_shape (array w x) = w.note
note_of_shape (object o) = o.note
note_of_shape (ref note t b) = note

note_read : {t : Words} {row : List ℕ} {sh : Shape ℕ} → Reads t row sh → note_of_shape sh ≡ note_in t (get_or row 1 0)
unfolding note_of_shape own_of array_of object_of
note_read r_plain = refl
note_read r_any = refl
note_read r_all = refl
note_read r_array = refl
note_read r_object = refl
note_read r_ref = refl

pub note_steady : {t u : Words} → Sound t → Extends t u → (s : ℕ) → s < count t → note_in u (get_or (row_at t s) 1 0) ≡ note_in t (get_or (row_at t s) 1 0)
note_steady {t} {u} z e s i =
    ap (λ (r : List ℕ). note_in u (get_or r 1 0)) (sym (row_kept z.placed e s i)) ∙
    (sym (note_read (reads u (row_at u s))) ∙ (ap note_of_shape (sym (raw_row u s) ∙ (z.steady s i u e ∙ raw_row t s)) ∙ note_read (reads t (row_at t s))))

required_of : Shape ℕ → List ℕ
required_of (plain w) = []
required_of (any_of note xs) = []
required_of (all_of note xs) = []
required_of (array w x) = []
required_of (object o) = o.required
required_of (ref note t b) = []

abbrev IsObject : Shape ℕ → Type 0
IsObject (plain w) = ⊥
IsObject (any_of note xs) = ⊥
IsObject (all_of note xs) = ⊥
IsObject (array w x) = ⊥
IsObject (object o) = Unit {0}
IsObject (ref note t b) = ⊥

required_read : {t : Words} {row : List ℕ} {sh : Shape ℕ} → Reads t row sh → IsObject sh → required_of sh ≡ slice t.links (get_or row 7 0) (get_or row 8 0)
unfolding required_of object_of
required_read r_plain i = absurd i
required_read r_any i = absurd i
required_read r_all i = absurd i
required_read r_array i = absurd i
required_read r_object i = refl
required_read r_ref i = absurd i

pub required_steady : {t u : Words} → Sound t → Extends t u → (s : ℕ) → s < count t → (o : Object ℕ) → raw t s ≡ object o →
    slice u.links (get_or (row_at t s) 7 0) (get_or (row_at t s) 8 0) ≡ slice t.links (get_or (row_at t s) 7 0) (get_or (row_at t s) 8 0)
required_steady {t} {u} z e s i o q =
    ap (λ (r : List ℕ). slice u.links (get_or r 7 0) (get_or r 8 0)) (sym (row_kept z.placed e s i)) ∙
    (sym (required_read (reads u (row_at u s)) (subst IsObject (sym (sym (raw_row u s) ∙ (z.steady s i u e ∙ q))) tt)) ∙
    (ap required_of (sym (raw_row u s) ∙ (z.steady s i u e ∙ raw_row t s)) ∙ required_read (reads t (row_at t s)) (subst IsObject (sym (sym (raw_row t s) ∙ q)) tt)))

-- an object of a table: at most one schema in additional and in names, and names that count do not detect
module _ (t : Words) where
  abbrev pub Plain : ℕ → Type 0
  Plain x = detecting (raw t x) ≡ false

  filled_word : (a : ℕ) (b : Bool) → Filled (pick b none (some (a ∷ [])))
  filled_word a true = no_list
  filled_word a false = a_list

  names_filled : (n : ℕ) (b : Bool) (f : ℕ → Bool) → Filled (counting (sort_names f (pick b nameless (named (n ∷ [])))))
  unfolding sort_names
  names_filled n true f = no_list
  names_filled n false f = at (f n)
    where
      at : (c : Bool) → Filled (counting (pick c (detects n) (named (n ∷ []))))
      at true = no_list
      at false = a_list

  names-plain : (n : ℕ) (b : Bool) → PerhapsEvery Plain (counting (sort_names (λ n. detecting (raw t n)) (pick b nameless (named (n ∷ [])))))
  unfolding sort_names
  names-plain n true = absents
  names-plain n false = at (detecting (raw t n)) refl
    where
      at : (c : Bool) → detecting (raw t n) ≡ c → PerhapsEvery Plain (counting (pick c (detects n) (named (n ∷ []))))
      at true e = absents
      at false e = presents (one e nil)

  tidy_read : {P : ℕ → Type 0} (row : List ℕ) → ObjectIn P (sort_object (λ n. detecting (raw t n)) (object_of t row)) → Tidy P Plain (sort_object (λ n. detecting (raw t n)) (object_of t row))
  unfolding object_of
  tidy_read row q = record {
    inside = q;
    filled = filled_word (get_or row 6 0) (eqb (get_or row 6 0) NONE);
    named_filled = names_filled (get_or row 12 0) (eqb (get_or row 12 0) NONE) _;
    names_too = names-plain (get_or row 12 0) (eqb (get_or row 12 0) NONE);
  }

  tidy_shape : {P : ℕ → Type 0} {row : List ℕ} {sh : Shape ℕ} → Reads t row sh → (o : Object ℕ) → sort_shape (λ n. detecting (raw t n)) sh ≡ object o → Children P (object o) → Tidy P Plain o
  unfolding sort_shape
  tidy_shape r_plain o e q = absurd (let z : ◌≡◌ {A = ℕ} 0 1 = cc in omega arith)
  tidy_shape r_any o e q = absurd (let z : ◌≡◌ {A = ℕ} 0 1 = cc in omega arith)
  tidy_shape r_all o e q = absurd (let z : ◌≡◌ {A = ℕ} 0 1 = cc in omega arith)
  tidy_shape r_array o e q = absurd (let z : ◌≡◌ {A = ℕ} 0 1 = cc in omega arith)
  tidy_shape {P} {row = row} r_object o e q =
      let f : sort_object (λ n. detecting (raw t n)) (object_of t row) ≡ o = object_is e in
      subst (Tidy P Plain) f (tidy_read row (children-object (subst (Children P) (sym e) q)))
  tidy_shape r_ref o e q = absurd (let z : ◌≡◌ {A = ℕ} 0 1 = cc in omega arith)

  pub tidy : {P : ℕ → Type 0} (s : ℕ) (o : Object ℕ) → look t s ≡ object o → Children P (object o) → Tidy P Plain o
  unfolding look
  tidy s o e q = tidy_shape (reads t (row_at t s)) o (ap (sort_shape (λ n. detecting (raw t n))) (sym (raw_row t s)) ∙ e) q
