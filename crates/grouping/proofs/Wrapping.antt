-- The objects that a list of bases means, run by run. Assumes nothing.
use Prim.Native.Nat.{ℕ, suc}
use mathlib.Core.Path.{◌≡◌, refl, sym, ap}
use mathlib.Core.Bool.{Bool}
use mathlib.Core.List.{List, [], ◌∷◌, ◌++◌, append_assoc}
use mathlib.Core.Option.{Option, some, none}
use Rattle.schema.specs.Shape.{Object, Shape, plain, any_of, all_of, array, object, ref}
use Rattle.schema.specs.Look.{Words, look, bases}
use Rattle.merge.specs.Merge.{empty}
use Rattle.compilation.specs.Compile.{objects_cons, objects_of}
use Rattle.grouping.specs.Tree.{Trees, View, map_list, read_object, view}
use Rattle.grouping.specs.Meant.{bind, each_m, shape_of_view, merge_m, meant_shape, meant_at, meant_of}

module _ {N : Type 0} (B : Trees N) (eq : ℕ → ℕ → Bool) (find : ℕ → Option ℕ) (T : Words) where
  -- the objects that some bases mean
  unfoldable pub objs : (ℕ → Option (View N)) → List ℕ → Option (List (Object N))
  objs go xs = bind (each_m go xs) (λ vs. objects_of (map_list (shape_of_view B) vs))

  unfoldable pub both : Option (List (Object N)) → Option (List (Object N)) → Option (List (Object N))
  both a b = bind a (λ xs. bind b (λ ys. some (xs ++ ys)))

  unfoldable pub as_object : Shape N → Option (List (Object N))
  as_object x = objects_cons x (some [])

  cons_both : (x : Shape N) (r : Option (List (Object N))) → objects_cons x r ≡ both (as_object x) r
  unfolding both as_object
  cons_both (plain w) r = refl
  cons_both (any_of note xs) r = refl
  cons_both (all_of note xs) r = refl
  cons_both (array w x) r = refl
  cons_both (object o) none = refl
  cons_both (object o) (some os) = refl
  cons_both (ref note t b) r = refl

  pub both-none : (a : Option (List (Object N))) → both a none ≡ none
  unfolding both
  both-none none = refl
  both-none (some x) = refl

  pub both_assoc : (a b c : Option (List (Object N))) → both (both a b) c ≡ both a (both b c)
  unfolding both
  both_assoc none b c = refl
  both_assoc (some a) none c = refl
  both_assoc (some a) (some b) none = refl
  both_assoc (some a) (some b) (some c) = ap some (append_assoc a b c)

  unfoldable pub single : Option (View N) → Option (List (Object N))
  single v = bind v (λ x. as_object x.shape)

  pub objs_cons : (go : ℕ → Option (View N)) (x : ℕ) (xs : List ℕ) → objs go (x ∷ xs) ≡ both (single (go x)) (objs go xs)
  unfolding objs single each_m map_list objects_of
  objs_cons go x xs = at (go x) (each_m go xs)
    where
      at : (a : Option (View N)) (b : Option (List (View N))) →
          bind (bind a (λ y. bind b (λ ys. some (y ∷ ys)))) (λ vs. objects_of (map_list (shape_of_view B) vs)) ≡
          both (bind a (λ x. as_object x.shape)) (bind b (λ vs. objects_of (map_list (shape_of_view B) vs)))
      at none b = unfold both in refl
      at (some a) none = sym (both-none (as_object a.shape))
      at (some a) (some b) = cons_both a.shape (objects_of (map_list (shape_of_view B) b))

  pub objs_append : (go : ℕ → Option (View N)) (xs ys : List ℕ) → objs go (xs ++ ys) ≡ both (objs go xs) (objs go ys)
  objs_append go [] ys = sym (at (objs go ys))
    where
      at : (b : Option (List (Object N))) → both (objs go []) b ≡ b
      at none = unfold both objs each_m map_list objects_of in refl
      at (some b) = unfold both objs each_m map_list objects_of in refl
  objs_append go (x ∷ xs) ys = rw (objs_cons go x (xs ++ ys), objs_cons go x xs, objs_append go xs ys) (sym (both_assoc (single (go x)) (objs go xs) (objs go ys)))

  pub meant_bases : (k s : ℕ) (o : Object ℕ) (bs : List ℕ) → look T s ≡ object o → bases T s ≡ some bs →
      meant_at B eq find T (suc k) s ≡ merge_m B eq (objs (meant_at B eq find T k) bs) (read_object B (view B (look T)) o)
  unfolding meant_of meant_shape objs
  meant_bases k s o bs e f = rw (e, f) (at (each_m (meant_at B eq find T k) bs))
    where
      at : (x : Option (List (View N))) →
          bind x (λ vs. merge_m B eq (objects_of (map_list (shape_of_view B) vs)) (read_object B (view B (look T)) o)) ≡
          merge_m B eq (bind x (λ vs. objects_of (map_list (shape_of_view B) vs))) (read_object B (view B (look T)) o)
      at none = refl
      at (some x) = refl

  pub read_empty : read_object B (view B (look T)) empty ≡ empty
  unfolding read_object map_list
  read_empty = refl
