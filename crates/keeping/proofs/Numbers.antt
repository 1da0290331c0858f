-- No refusal of a compile has the number 0. Assumes nothing.
use Prim.Native.Nat.{ℕ, zero, suc, ◌+◌}
use mathlib.Core.Path.{◌≡◌}
use mathlib.Core.Bool.{Bool, true, false}
use mathlib.Core.List.{List, [], ◌∷◌}
use mathlib.Core.Option.{Option, some, none}
use native.Mathlib.Omega.{arith}
use lib.ListN.{length}
use lib.Dec.{eqb, leb}
use Rattle.text.specs.Choice.{pick}
use Rattle.layout.specs.Layout.{NONE, note_count, schema_count}
use Rattle.schema.specs.Shape.{Note, Pair, Object, Shape, plain, any_of, all_of, array, object, ref}
use Rattle.schema.specs.Look.{Words, look, bases}
use Rattle.compilation.specs.Compile.{Result, ok, refuse, then, Room, objects_of, looks, add_note, add_row, add_links, add_list, add_array, add_object, join_links, join_row, add_merged, each, each_pair, optionally, merge_from, eagerly, compile_shape, compile_at}

-- a value, or a refusal by a number other than 0
pub data Says {A : Type 0} : Result A → Type 0 where
  given : (a : A) (t : Words) → Says (ok a t)
  because : (n : ℕ) → (n ≡ 0 → ⊥) → Says (refuse n)

says_then : {A B : Type 0} {r : Result A} (f : A → Words → Result B) → Says r → ((a : A) (t : Words) → Says (f a t)) → Says (then r f)
says_then f (given a t) h = h a t
says_then f (because n z) h = because n z

says_pick : {A : Type 0} (b : Bool) {x y : Result A} → Says x → Says y → Says (pick b x y)
says_pick true p q = p
says_pick false p q = q

no_room : {A : Type 0} → Says {A = A} (refuse 33)
no_room = because 33 (λ e. omega arith)

module _ (R : Room) (eq : ℕ → ℕ → Bool) (find : ℕ → Option ℕ) where
  note_says : (x : List ℕ) (t : Words) → Says (add_note R eq find x t)
  unfolding add_note
  note_says x t = says_pick (leb (note_count t.notes + 1) R.notes) (given _ _) no_room

  row_says : (x : List ℕ) (t : Words) → Says (add_row R eq find x t)
  unfolding add_row
  row_says x t = says_pick (leb (schema_count t.schemas + 1) R.schemas) (given _ _) no_room

  links_says : (x : List ℕ) (t : Words) → Says (add_links R eq find x t)
  unfolding add_links
  links_says x t = says_pick (leb (length t.links + length x) R.links) (given _ _) no_room

  list_says : (kind note : ℕ) (xs : List ℕ) (t : Words) → Says (add_list R eq find kind note xs t)
  unfolding add_list
  list_says kind note xs t = says_then _ (links_says xs t) (λ at t. row_says _ t)

  array_says : (s items : ℕ) (t : Words) → Says (add_array R eq find s items t)
  unfolding add_array
  array_says s items t = row_says _ t

  object_says : (s : ℕ) (ps qs : List (Pair ℕ)) (a n : ℕ) (t : Words) → Says (add_object R eq find s ps qs a n t)
  unfolding add_object
  object_says s ps qs a n t = says_then _ (links_says _ t) (λ at t. says_then _ (links_says _ t) (λ on t. row_says _ t))

  join_links_says : (x : Option (List ℕ)) (t : Words) → Says (join_links R eq find x t)
  join_links_says none t = given _ _
  join_links_says (some []) t = given _ _
  join_links_says (some (x ∷ [])) t = given _ _
  join_links_says (some (x ∷ (y ∷ ys))) t = links_says _ t

  join_row_says : (kind at : ℕ) (x : Option (List ℕ)) (t : Words) → Says (join_row R eq find kind at x t)
  join_row_says kind at none t = given _ _
  join_row_says kind at (some []) t = given _ _
  join_row_says kind at (some (x ∷ [])) t = given _ _
  join_row_says kind at (some (x ∷ (y ∷ ys))) t = row_says _ t

  merged_says : (note : Note) (names : Option (List ℕ)) (o : Object ℕ) (t : Words) → Says (add_merged R eq find note names o t)
  unfolding add_merged
  merged_says note names o t =
      says_then _ (note_says _ t) (λ ν t. says_then _ (links_says _ t) (λ p t. says_then _ (links_says _ t) (λ q t. says_then _ (links_says _ t) (λ r t.
      says_then _ (join_links_says o.additional t) (λ a t. says_then _ (join_links_says names t) (λ n t. says_then _ (join_row_says 8 a o.additional t) (λ x t. says_then _ (join_row_says 7 n names t) (λ y t. row_says _ t))))))))

  module _ (go : ℕ → Words → Result ℕ) (h : (s : ℕ) (t : Words) → Says (go s t)) where
    each_says : (xs : List ℕ) (t : Words) → Says (each R eq find go xs t)
    unfolding each
    each_says [] t = given _ _
    each_says (x ∷ xs) t = says_then _ (h x t) (λ y t. says_then _ (each_says xs t) (λ ys t. given _ _))

    pairs_says : (xs : List (Pair ℕ)) (t : Words) → Says (each_pair R eq find go xs t)
    unfolding each_pair
    pairs_says [] t = given _ _
    pairs_says (x ∷ xs) t = says_then _ (h x.value t) (λ y t. says_then _ (pairs_says xs t) (λ ys t. given _ _))

    optionally_says : (x : ℕ) (t : Words) → Says (optionally R eq find go x t)
    unfolding optionally
    optionally_says x t = says_pick (eqb x NONE) (given _ _) (h x t)

    merge_says : (x : Option (List (Object ℕ))) (d : Object ℕ) (t : Words) → Says (merge_from R eq find x d t)
    merge_says none d t = because 31 (λ e. omega arith)
    merge_says (some []) d t = because 30 (λ e. omega arith)
    merge_says (some (o ∷ os)) d t = merged_says _ _ _ t

    eager_says : (x : Option ℕ) (t : Words) → Says (eagerly R eq find go x t)
    eager_says none t = because 32 (λ e. omega arith)
    eager_says (some x) t = h x t

    shape_says : (s : ℕ) (t : Words) (sh : Shape ℕ) (b : Option (List ℕ)) → Says (compile_shape R eq find go s t sh b)
    unfolding compile_shape
    shape_says s t (plain w) b = given _ _
    shape_says s t (any_of note xs) b = says_then _ (each_says xs t) (λ ys t. list_says 7 _ ys t)
    shape_says s t (all_of note xs) b = says_then _ (each_says xs t) (λ ys t. list_says 8 _ ys t)
    shape_says s t (array w x) b = says_then _ (optionally_says _ t) (λ y t. array_says s y t)
    shape_says s t (object o) none =
        says_then _ (pairs_says o.props t) (λ ps t. says_then _ (pairs_says o.patterns t) (λ qs t. says_then _ (optionally_says _ t) (λ a t. says_then _ (optionally_says _ t) (λ n t. object_says s ps qs a n t))))
    shape_says s t (object o) (some bs) = says_then _ (each_says bs t) (λ rs t. merge_says (objects_of (looks t rs)) o t)
    shape_says s t (ref note name false) b = given _ _
    shape_says s t (ref note name true) b = eager_says (find name) t

  pub compile_says : (k s : ℕ) (t : Words) → Says (compile_at R eq find k s t)
  unfolding compile_at
  compile_says zero s t = because 23 (λ e. omega arith)
  compile_says (suc k) s t = shape_says (λ s t. compile_at R eq find k s t) (compile_says k) s t (look t s) (bases t s)
