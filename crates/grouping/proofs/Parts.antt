-- The parts of a record in additional, as records: an allOf without note is replaced by its parts, again and again. And a record whose
-- additional is opened so. Assumes nothing.
use Prim.Native.Nat.{ℕ, zero, suc, ◌<◌, ◌≤◌}
use mathlib.Core.Path.{◌≡◌, refl, ap, ap₂, ◌∙◌}
use mathlib.Core.List.{List, [], ◌∷◌, ◌++◌}
use mathlib.Core.Option.{some, none}
use native.Mathlib.Omega.{arith}
use Rattle.schema.specs.Shape.{Object, Shape, plain, any_of, all_of, array, object, ref}
use Rattle.grouping.specs.Tree.{Trees, View, map_list, flat_list, map_option, whole, read_shape, open_all, view_body, view, Every, nil, one, Children, in_plain, in_any, in_all, in_array, in_object, in_ref, Ordered}
use Rattle.grouping.proofs.Shapes.{append_in}
use Rattle.grouping.proofs.Reading.{flat_same, view_is}

unfoldable pub parts_of : (ℕ → List ℕ) → ℕ → Shape ℕ → List ℕ
parts_of go s (plain w) = s ∷ []
parts_of go s (any_of note xs) = s ∷ []
parts_of go s (all_of none xs) = flat_list go xs
parts_of go s (all_of (some note) xs) = s ∷ []
parts_of go s (array w x) = s ∷ []
parts_of go s (object o) = s ∷ []
parts_of go s (ref note t b) = s ∷ []

unfoldable pub parts_at : (ℕ → Shape ℕ) → ℕ → ℕ → List ℕ
parts_at look zero s = []
parts_at look (suc f) s = parts_of (parts_at look f) s (look s)

unfoldable pub parts : (ℕ → Shape ℕ) → ℕ → List ℕ
parts look s = parts_at look (suc s) s

abbrev pub opened_object : (ℕ → Shape ℕ) → Object ℕ → Object ℕ
opened_object look o =
    record {
      note = o.note;
      props = o.props;
      patterns = o.patterns;
      additional = map_option (flat_list (parts look)) o.additional;
      required = o.required;
      least = o.least;
      most = o.most;
      closed = o.closed;
      names = o.names;
      naming = o.naming;
    }

unfoldable pub opened_shape : (ℕ → Shape ℕ) → Shape ℕ → Shape ℕ
opened_shape look (plain w) = plain w
opened_shape look (any_of note xs) = any_of note xs
opened_shape look (all_of note xs) = all_of note xs
opened_shape look (array w x) = array w x
opened_shape look (object o) = object (opened_object look o)
opened_shape look (ref note t b) = ref note t b

-- the records of a table, their additional opened
unfoldable pub opened : (ℕ → Shape ℕ) → ℕ → Shape ℕ
opened look s = opened_shape look (look s)

parts_same : {P : ℕ → Type 0} (f g : ℕ → List ℕ) → ((x : ℕ) → P x → f x ≡ g x) → (s : ℕ) {sh : Shape ℕ} → Children P sh → parts_of f s sh ≡ parts_of g s sh
unfolding parts_of
parts_same f g h s in_plain = refl
parts_same f g h s (in_any q) = refl
parts_same f g h s (in_all {note = none} q) = flat_same f g h q
parts_same f g h s (in_all {note = some note} q) = refl
parts_same f g h s (in_array q) = refl
parts_same f g h s (in_object q) = refl
parts_same f g h s in_ref = refl

map-append : {A : Type 0} (f : ℕ → A) (xs ys : List ℕ) → map_list f (xs ++ ys) ≡ map_list f xs ++ map_list f ys
unfolding map_list
map-append f [] ys = refl
map-append f (x ∷ xs) ys = ap (λ (z : List _). f x ∷ z) (map-append f xs ys)

map_flat : {A : Type 0} {P : ℕ → Type 0} (f : ℕ → A) (g : ℕ → List ℕ) (h : ℕ → List A) → ((x : ℕ) → P x → map_list f (g x) ≡ h x) → {xs : List ℕ} → Every P xs → map_list f (flat_list g xs) ≡ flat_list h xs
unfolding flat_list
map_flat f g h k nil = unfold map_list in refl
map_flat f g h k (one {x = x} {xs = xs} p ps) = map-append f (g x) (flat_list g xs) ∙ ap₂ (λ (a b : List _). a ++ b) (k x p) (map_flat f g h k ps)

pub every_flat : {P Q : ℕ → Type 0} (g : ℕ → List ℕ) → ((x : ℕ) → P x → Every Q (g x)) → {xs : List ℕ} → Every P xs → Every Q (flat_list g xs)
unfolding flat_list
every_flat g h nil = nil
every_flat g h (one {x = x} p ps) = append_in (h x p) (every_flat g h ps)

module _ (look : ℕ → Shape ℕ) (n : ℕ) (O : Ordered look n) where
  stable : (f g s : ℕ) → s < n → s < f → s < g → parts_at look f s ≡ parts_at look g s
  unfolding parts_at
  stable zero g s i a b = absurd (omega arith)
  stable (suc f) zero s i a b = absurd (omega arith)
  stable (suc f) (suc g) s i a b = parts_same (parts_at look f) (parts_at look g) (λ x p. stable f g x (omega arith) (omega arith) (omega arith)) s (O s i)

  pub parts_is : (s : ℕ) → s < n → parts look s ≡ parts_of (parts look) s (look s)
  unfolding parts parts_at
  parts_is s i = parts_same (parts_at look s) (parts look) (λ x p. stable s (suc x) x (omega arith) (omega arith) (omega arith)) s (O s i)

  -- parts are records of the table
  within_of : {s : ℕ} → s < n → ((x : ℕ) → x < s → Every (λ y. y < n) (parts look x)) → {sh : Shape ℕ} → Children (λ x. x < s) sh → Every (λ y. y < n) (parts_of (parts look) s sh)
  unfolding parts_of
  within_of i h in_plain = one i nil
  within_of i h (in_any q) = one i nil
  within_of i h (in_all {note = none} q) = every_flat (parts look) h q
  within_of i h (in_all {note = some note} q) = one i nil
  within_of i h (in_array q) = one i nil
  within_of i h (in_object q) = one i nil
  within_of i h in_ref = one i nil

  within_below : (f s : ℕ) → s < f → s < n → Every (λ y. y < n) (parts look s)
  within_below zero s a i = absurd (omega arith)
  within_below (suc f) s a i = rw (parts_is s i) (within_of i (λ x p. within_below f x (omega arith) (omega arith)) (O s i))

  pub parts_within : (s : ℕ) → s < n → Every (λ y. y < n) (parts look s)
  parts_within s i = within_below (suc s) s (omega arith) i

  module _ {N : Type 0} (B : Trees N) where
    abbrev W : ℕ → N
    W s = whole B (view B look s)

    shape_is : (x : ℕ) → x < n → (sh : Shape ℕ) → look x ≡ sh → (view B look x).shape ≡ read_shape B (view B look) sh
    unfolding view_body
    shape_is x i sh e = ap (λ (v : View N). v.shape) (view_is B look n O x i) ∙ ap (read_shape B (view B look)) e

    alls_is : (x : ℕ) → x < n → (view B look x).alls ≡ open_all B (view B look) (look x)
    unfolding view_body
    alls_is x i = ap (λ (v : View N). v.alls) (view_is B look n O x i)

    itself : (s : ℕ) → s < n → (sh : Shape ℕ) → look s ≡ sh → map_list W (s ∷ []) ≡ B.build (read_shape B (view B look) sh) ∷ []
    unfolding map_list
    itself s i sh e = ap (λ (x : Shape N). B.build x ∷ []) (shape_is s i sh e)

    trees_of : (s : ℕ) → s < n → ((x : ℕ) → x < s → map_list W (parts look x) ≡ (view B look x).alls) → (sh : Shape ℕ) → look s ≡ sh → Children (λ x. x < s) sh →
        map_list W (parts_of (parts look) s sh) ≡ open_all B (view B look) sh
    unfolding parts_of open_all read_shape
    trees_of s i h (plain w) e c = itself s i (plain w) e
    trees_of s i h (any_of note xs) e c = itself s i (any_of note xs) e
    trees_of s i h (all_of none xs) e (in_all q) = map_flat W (parts look) (λ x. (view B look x).alls) h q
    trees_of s i h (all_of (some note) xs) e c = itself s i (all_of (some note) xs) e
    trees_of s i h (array w x) e c = itself s i (array w x) e
    trees_of s i h (object o) e c = itself s i (object o) e
    trees_of s i h (ref note t b) e c = itself s i (ref note t b) e

    trees_below : (f s : ℕ) → s < f → s < n → map_list W (parts look s) ≡ (view B look s).alls
    trees_below zero s a i = absurd (omega arith)
    trees_below (suc f) s a i = rw (parts_is s i, alls_is s i) (trees_of s i (λ x p. trees_below f x (omega arith) (omega arith)) (look s) refl (O s i))

    -- the parts' trees are the parts of the tree
    pub parts-trees : (s : ℕ) → s < n → map_list W (parts look s) ≡ (view B look s).alls
    parts-trees s i = trees_below (suc s) s (omega arith) i

    pub lists_trees : {s : ℕ} → s ≤ n → {xs : List ℕ} → Every (λ x. x < s) xs → map_list W (flat_list (parts look) xs) ≡ flat_list (λ x. (view B look x).alls) xs
    lists_trees {s} le q = map_flat W (parts look) (λ x. (view B look x).alls) (λ x p. parts-trees x (omega arith)) q

    pub tree_shape : (s : ℕ) → s < n → B.look (W s) ≡ read_shape B (view B look) (look s)
    tree_shape s i = B.back (view B look s).shape ∙ shape_is s i (look s) refl
