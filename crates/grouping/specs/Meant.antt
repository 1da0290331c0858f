-- What compiling means, as trees with joins opened: no record numbers, no room, no links; none where it refuses. Assumes nothing.
use Rattle.std.specs.Prelude.{ℕ, zero, suc, Bool, true, false, List, [], ◌∷◌}
use Rattle.std.proofs.Math.Option.{Option, some, none}
use Rattle.text.specs.Choice.{pick}
use Rattle.schema.specs.Shape.{Pair, Names, nameless, detects, named, Object, Shape, plain, any_of, all_of, array, object, ref}
use Rattle.schema.specs.Look.{Words, look, bases, detecting}
use Rattle.merge.specs.Merge.{merge}
use Rattle.compilation.specs.Compile.{objects_of}
use Rattle.grouping.specs.Tree.{Trees, View, map_list, read_object, view_body, view}

abbrev pub bind : {A B : Type 0} → Option A → (A → Option B) → Option B
bind none f = none
bind (some a) f = f a

unfoldable pub each_m : {A B : Type 0} → (A → Option B) → List A → Option (List B)
each_m go [] = some []
each_m go (x ∷ xs) = bind (go x) (λ y. bind (each_m go xs) (λ ys. some (y ∷ ys)))

unfoldable pub each_pair_m : {A B : Type 0} → (A → Option B) → List (Pair A) → Option (List (Pair B))
each_pair_m go [] = some []
each_pair_m go (x ∷ xs) = bind (go x.value) (λ y. bind (each_pair_m go xs) (λ ys. some (record { key = x.key; value = y } ∷ ys)))

unfoldable pub option_m : {A B : Type 0} → (A → Option B) → Option A → Option (Option B)
option_m go none = some none
option_m go (some x) = bind (go x) (λ y. some (some y))

-- a table's object has at most one schema in additional, and in names
abbrev pub one_part : {A : Type 0} → Option (List A) → Option A
one_part none = none
one_part (some []) = none
one_part (some (x ∷ xs)) = some x

abbrev pub one_name : {A : Type 0} → Names A → Option A
one_name nameless = none
one_name (detects x) = some x
one_name (named []) = none
one_name (named (x ∷ xs)) = some x

module _ {N : Type 0} (B : Trees N) where
  abbrev pub self_view : View N → View N
  self_view v = v

  abbrev pub shape_of_view : View N → Shape N
  shape_of_view v = v.shape

  unfoldable pub closed : Object N → View N
  closed o = record { shape = object o; alls = B.build (object o) ∷ []; anys = B.build (object o) ∷ [] }

  -- names of a compiled object, from the view of its compiled names schema
  unfoldable pub names_from : Option (View N) → Names (View N)
  names_from none = nameless
  names_from (some v) = pick (detecting v.shape) (detects v) (named (v ∷ []))

  abbrev pub additional_from : Option (View N) → Option (List (View N))
  additional_from none = none
  additional_from (some v) = some (v ∷ [])

  abbrev pub object_from : {S : Type 0} → Object S → List (Pair (View N)) → List (Pair (View N)) → Option (View N) → Option (View N) → Object (View N)
  object_from o ps qs a n = record { note = o.note; props = ps; patterns = qs; additional = additional_from a; required = o.required; least = o.least; most = o.most; closed = o.closed; names = names_from n; naming = o.naming }

  abbrev pub merge_m : (ℕ → ℕ → Bool) → Option (List (Object N)) → Object N → Option (View N)
  merge_m eq none d = none
  merge_m eq (some []) d = none
  merge_m eq (some (o ∷ os)) d = some (closed (merge eq (o ∷ os) d))

  abbrev pub eagerly_m : {S : Type 0} → (S → Option (View N)) → Option S → Option (View N)
  eagerly_m go none = none
  eagerly_m go (some x) = go x

  -- S is what stands for a schema before it is compiled, a record number or a tree; `stands` is its tree as it stands
  module _ {S : Type 0} (eq : ℕ → ℕ → Bool) (find : ℕ → Option S) (stands : S → View N) where
    unfoldable pub meant_shape : (S → Option (View N)) → S → Shape S → Option (List S) → Option (View N)
    meant_shape go s (plain w) b = some (stands s)
    meant_shape go s (any_of note xs) b = bind (each_m go xs) (λ vs. some (view_body B self_view (any_of note vs)))
    meant_shape go s (all_of note xs) b = bind (each_m go xs) (λ vs. some (view_body B self_view (all_of note vs)))
    meant_shape go s (array w x) b = bind (option_m go x) (λ v. some (view_body B self_view (array w v)))
    meant_shape go s (object o) none =
        bind (each_pair_m go o.props) (λ ps.
        bind (each_pair_m go o.patterns) (λ qs.
        bind (option_m go (one_part o.additional)) (λ a.
        bind (option_m go (one_name o.names)) (λ n.
        some (view_body B self_view (object (object_from o ps qs a n)))))))
    meant_shape go s (object o) (some bs) = bind (each_m go bs) (λ vs. merge_m eq (objects_of (map_list shape_of_view vs)) (read_object B stands o))
    meant_shape go s (ref _ name false) b = some (stands s)
    meant_shape go s (ref _ name true) b = eagerly_m go (find name)

    unfoldable pub meant_of : (S → Shape S) → (S → Option (List S)) → ℕ → S → Option (View N)
    meant_of see based zero s = none
    meant_of see based (suc k) s = meant_shape (meant_of see based k) s (see s) (based s)

  -- of the records of a table
  abbrev pub meant_at : (ℕ → ℕ → Bool) → (ℕ → Option ℕ) → Words → ℕ → ℕ → Option (View N)
  meant_at eq find T k s = meant_of eq find (view B (look T)) (look T) (bases T) k s
