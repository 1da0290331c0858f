-- What a record says, kind by kind, and which of several records are objects. Assumes nothing.
use Prim.Native.Nat.{ℕ, ◌≤◌}
use mathlib.Core.Path.{◌≡◌, refl}
use mathlib.Core.Bool.{Bool, true, false}
use mathlib.Core.List.{List, [], ◌∷◌}
use mathlib.Core.Logic.{⊎_elim}
use mathlib.Core.Option.{Option, some, none}
use lib.Dec.{eqb, leb}
use borrow.Author.Tests.{le-leb, eqb-true}
use Rattle.text.specs.Choice.{pick, both_left, both_right, clash, true_or_false}
use Rattle.layout.specs.Layout.{schema_kind, array_items, ref_text, ref_eager}
use Rattle.schema.specs.Shape.{Object, Shape, plain, any_of, all_of, array, object, ref}
use Rattle.schema.specs.Look.{Words, optional, note_of_schema, list_of, own_of, array_of, object_of, raw, detecting, sort_object, sort_shape, look}
use Rattle.joins.proofs.Gathered.{objects}
use Rattle.compilation.specs.Table.{all_objects}
use Rattle.compilation.specs.Compile.{objects_cons, objects_of, looks}

-- a record read as an object
abbrev pub seen : Words → ℕ → Object ℕ
seen t s = sort_object (λ n. detecting (raw t n)) (object_of t s)

-- a record that is no object, by the tests that tell which it is
abbrev no_object : Words → ℕ → Bool → Bool → Bool → Bool → Shape ℕ
no_object t s a b c d =
    pick a (plain (own_of t s))
    (pick b (any_of (note_of_schema t s) (list_of t s))
    (pick c (all_of (note_of_schema t s) (list_of t s))
    (pick d (array (array_of t s) (optional (array_items t.schemas s)))
    (ref (note_of_schema t s) (ref_text t.schemas s) (eqb (ref_eager t.schemas s) 1)))))

module _ (t : Words) (s : ℕ) where
  pub look-plain : schema_kind t.schemas s ≤ 6 → look t s ≡ plain (own_of t s)
  unfolding look raw sort_shape
  look-plain h = rw (le-leb (schema_kind t.schemas s) 6 h)

  pub look_any : schema_kind t.schemas s ≡ 7 → look t s ≡ any_of (note_of_schema t s) (list_of t s)
  unfolding look raw sort_shape
  look_any e = rw e

  pub look_all : schema_kind t.schemas s ≡ 8 → look t s ≡ all_of (note_of_schema t s) (list_of t s)
  unfolding look raw sort_shape
  look_all e = rw e

  pub look-array : schema_kind t.schemas s ≡ 9 → look t s ≡ array (array_of t s) (optional (array_items t.schemas s))
  unfolding look raw sort_shape
  look-array e = rw e

  pub look-object : schema_kind t.schemas s ≡ 10 → look t s ≡ object (seen t s)
  unfolding look raw sort_shape
  look-object e = rw e

  pub look_ref : schema_kind t.schemas s ≡ 11 → look t s ≡ ref (note_of_schema t s) (ref_text t.schemas s) (eqb (ref_eager t.schemas s) 1)
  unfolding look raw sort_shape
  look_ref e = rw e

  look_other : eqb (schema_kind t.schemas s) 10 ≡ false → (r : Option (List (Object ℕ))) → objects_cons (look t s) r ≡ none
  unfolding look raw sort_shape
  look_other e r = rw e (choose (leb (schema_kind t.schemas s) 6) (eqb (schema_kind t.schemas s) 7) (eqb (schema_kind t.schemas s) 8) (eqb (schema_kind t.schemas s) 9))
    where
      choose : (a b c d : Bool) → objects_cons (sort_shape (λ n. detecting (raw t n)) (no_object t s a b c d)) r ≡ none
      choose true b c d = refl
      choose false true c d = refl
      choose false false true d = refl
      choose false false false true = refl
      choose false false false false = refl

module _ (t : Words) where
  pub objects_all : (bs : List ℕ) → all_objects t.schemas bs ≡ true → objects_of (looks t bs) ≡ some (objects (seen t) bs)
  unfolding objects_of looks all_objects objects
  objects_all [] h = refl
  objects_all (b ∷ bs) h =
      let is = eqb (schema_kind t.schemas b) 10 in
      let rest = all_objects t.schemas bs in
      rw (look-object t b (eqb-true (schema_kind t.schemas b) 10 (both_left is rest h)), objects_all bs (both_right is rest h))

  pub objects_none : (bs : List ℕ) → all_objects t.schemas bs ≡ false → objects_of (looks t bs) ≡ none
  unfolding objects_of looks all_objects
  objects_none [] h = clash refl h
  objects_none (b ∷ bs) h =
      ⊎_elim
      (λ e. rw (look-object t b (eqb-true (schema_kind t.schemas b) 10 e), objects_none bs (rw e at h)))
      (λ e. look_other t b e (objects_of (looks t bs)))
      (true_or_false (eqb (schema_kind t.schemas b) 10))
