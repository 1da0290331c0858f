-- Compile's result stands for the tree that compiling the tree gives. Assumes nothing.
use Prim.Native.Nat.{ℕ, zero, suc, ◌≤◌, ◌<◌}
use mathlib.Core.Path.{◌≡◌, refl, sym, ap, ap₂, ◌∙◌}
use mathlib.Core.Bool.{Bool, true, false}
use mathlib.Core.List.{List, [], ◌∷◌, ◌++◌}
use mathlib.Core.Option.{Option, some, none}
use native.Mathlib.Omega.{arith}
use Rattle.text.specs.Text.{same_text}
use Rattle.error.specs.Paths.{levels}
use Rattle.layout.specs.Layout.{Tables, schema_count}
use Rattle.lookup.specs.Lookup.{find_in}
use Rattle.tables.specs.Found.{Sound}
use Rattle.tables.specs.Check.{tables_fault}
use Rattle.schema.specs.Shape.{Pair, Names, nameless, detects, named, Object, Shape, plain, any_of, all_of, array, object, ref}
use Rattle.schema.specs.Look.{Words, words_of, look, bases}
use Rattle.compilation.specs.Compile.{ok, Room, objects_of}
use Rattle.grouping.specs.Record.{count}
use Rattle.grouping.specs.Tree.{Trees, View, map_list, flat_list, map_option, map_pair, map_names, whole, read_object, read_shape, open_all, open_any, view_body, view, Every, nil, one, EveryPair, nil_pair, one_pair, Perhaps, absent, present, PerhapsEvery, absents, presents, NamesIn, in_none, in_detects, in_named, ObjectIn, Children, in_plain, in_any, in_all, in_array, in_object, in_ref}
use Rattle.grouping.specs.Grown.{Tree, trees}
use Rattle.grouping.specs.Meant.{bind, each_m, each_pair_m, option_m, one_part, one_name, self_view, shape_of_view, merge_m, eagerly_m, meant_shape, meant_of, meant_at}
use Rattle.grouping.specs.Source.{Source, listed, paired, item_in, joined_in, named_in, see, based, stands, standing, stands_fields, stands_item, stands_joined, stands_named, sources, fields, to_item, to_joined, to_named, sow, map_named, map_whole, map_shape, source_at, source_of, compile_tree}
use Rattle.grouping.specs.Values.{grown}
use Rattle.grouping.specs.Demand.{opened, Limited, compiling}
use Rattle.grouping.proofs.Reading.{object_same, view_same, view_is}
use Rattle.grouping.proofs.Growing.{Sound as Steady, extends_self, limit, limit_notes}
use Rattle.grouping.proofs.Frame.{ordered}
use Rattle.grouping.proofs.Compiled.{compiled}
use Rattle.grouping.proofs.WellFormed.{checked, names_known}

-- ---- what was sown is seen
listed-sources : (xs : List Source) → listed (sources xs) ≡ xs
unfolding listed sources
listed-sources [] = refl
listed-sources (x ∷ xs) = ap (λ (y : List Source). x ∷ y) (listed-sources xs)

paired-fields : (xs : List (Pair Source)) → paired (fields xs) ≡ xs
unfolding paired fields
paired-fields [] = refl
paired-fields (x ∷ xs) = ap (λ (y : List (Pair Source)). x ∷ y) (paired-fields xs)

item_back : (x : Option Source) → item_in (to_item x) ≡ x
unfolding item_in to_item
item_back none = refl
item_back (some x) = refl

joined_back : (x : Option (List Source)) → joined_in (to_joined x) ≡ x
unfolding joined_in to_joined
joined_back none = refl
joined_back (some xs) = ap some (listed-sources xs)

named_back : (x : Names Source) → named_in (to_named x) ≡ x
unfolding named_in to_named
named_back nameless = refl
named_back (detects x) = refl
named_back (named xs) = ap named (listed-sources xs)

see-sow : (sh : Shape Source) (b : Option (List Source)) → see (sow sh b) ≡ sh
unfolding see sow
see-sow (plain w) b = refl
see-sow (any_of note xs) b = ap (λ (y : List Source). any_of note y) (listed-sources xs)
see-sow (all_of note xs) b = ap (λ (y : List Source). all_of note y) (listed-sources xs)
see-sow (array w x) b = ap (λ (y : Option Source). array w y) (item_back x)
see-sow (object o) b = λ i. object (record {
  note = o.note;
  props = paired-fields o.props i;
  patterns = paired-fields o.patterns i;
  additional = joined_back o.additional i;
  required = o.required;
  least = o.least;
  most = o.most;
  closed = o.closed;
  names = named_back o.names i;
  naming = o.naming;
})
see-sow (ref note t b) c = refl

based_sow : (o : Object Source) (b : Option (List Source)) → based (sow (object o) b) ≡ b
unfolding based sow
based_sow o b = joined_back b

-- ---- and stands for its tree
standing-sources : (xs : List Source) → standing (sources xs) ≡ map_list stands xs
unfolding stands sources map_list
standing-sources [] = refl
standing-sources (x ∷ xs) = ap (λ (y : List (View Tree)). stands x ∷ y) (standing-sources xs)

standing-fields : (xs : List (Pair Source)) → stands_fields (fields xs) ≡ map_list (map_pair stands) xs
unfolding stands fields map_list
standing-fields [] = refl
standing-fields (x ∷ xs) = ap (λ (y : List (Pair (View Tree))). map_pair stands x ∷ y) (standing-fields xs)

standing-item : (x : Option Source) → stands_item (to_item x) ≡ map_option stands x
unfolding stands to_item
standing-item none = refl
standing-item (some x) = refl

standing_joined : (x : Option (List Source)) → stands_joined (to_joined x) ≡ map_option (map_list stands) x
unfolding stands to_joined
standing_joined none = refl
standing_joined (some xs) = ap some (standing-sources xs)

standing-named : (x : Names Source) → stands_named (to_named x) ≡ map_named stands x
unfolding stands to_named
standing-named nameless = refl
standing-named (detects x) = refl
standing-named (named xs) = ap named (standing-sources xs)

stands_mapped : (sh : Shape Source) (b : Option (List Source)) → stands (sow sh b) ≡ view_body trees (self_view trees) (map_shape stands sh)
unfolding stands sow map_shape
stands_mapped (plain w) b = refl
stands_mapped (any_of note xs) b = ap (λ (y : List (View Tree)). view_body trees (self_view trees) (any_of note y)) (standing-sources xs)
stands_mapped (all_of note xs) b = ap (λ (y : List (View Tree)). view_body trees (self_view trees) (all_of note y)) (standing-sources xs)
stands_mapped (array w x) b = ap (λ (y : Option (View Tree)). view_body trees (self_view trees) (array w y)) (standing-item x)
stands_mapped (object o) b = λ i. view_body trees (self_view trees) (object (record {
  note = o.note;
  props = standing-fields o.props i;
  patterns = standing-fields o.patterns i;
  additional = standing_joined o.additional i;
  required = o.required;
  least = o.least;
  most = o.most;
  closed = o.closed;
  names = standing-named o.names i;
  naming = o.naming;
}))
stands_mapped (ref note t b) c = refl

-- ---- reading what was mapped
map-map : {A B C : Type 0} (f : B → C) (g : A → B) (xs : List A) → map_list f (map_list g xs) ≡ map_list (λ x. f (g x)) xs
unfolding map_list
map-map f g [] = refl
map-map f g (x ∷ xs) = ap (λ (y : List _). f (g x) ∷ y) (map-map f g xs)

flat_map : {A B C : Type 0} (f : B → List C) (g : A → B) (xs : List A) → flat_list f (map_list g xs) ≡ flat_list (λ x. f (g x)) xs
unfolding map_list flat_list
flat_map f g [] = refl
flat_map f g (x ∷ xs) = ap (λ (y : List _). f (g x) ++ y) (flat_map f g xs)

pairs-map : {A B C : Type 0} (f : B → C) (g : A → B) (xs : List (Pair A)) → map_list (map_pair f) (map_list (map_pair g) xs) ≡ map_list (map_pair (λ x. f (g x))) xs
unfolding map_list
pairs-map f g [] = refl
pairs-map f g (x ∷ xs) = ap (λ (y : List (Pair _)). map_pair (λ x. f (g x)) x ∷ y) (pairs-map f g xs)

option_map : {A B C : Type 0} (f : B → C) (g : A → B) (x : Option A) → map_option f (map_option g x) ≡ map_option (λ x. f (g x)) x
option_map f g none = refl
option_map f g (some x) = refl

parts-map : {A B C : Type 0} (f : B → List C) (g : A → B) (x : Option (List A)) → map_option (flat_list f) (map_option (map_list g) x) ≡ map_option (flat_list (λ x. f (g x))) x
parts-map f g none = refl
parts-map f g (some xs) = ap some (flat_map f g xs)

names-map : {A B C : Type 0} (f : B → C) (h : B → List C) (g : A → B) (x : Names A) → map_names f h (map_named g x) ≡ map_names (λ x. f (g x)) (λ x. h (g x)) x
names-map f h g nameless = refl
names-map f h g (detects x) = refl
names-map f h g (named xs) = ap named (flat_map h g xs)

module _ {N A C : Type 0} (B : Trees N) (v : C → View N) (g : A → C) where
  read_object_lem : (o : Object A) → read_object B v (map_whole g o) ≡ read_object B (λ x. v (g x)) o
  unfolding read_object
  read_object_lem o = λ i. record {
    note = o.note;
    props = pairs-map (λ x. whole B (v x)) g o.props i;
    patterns = pairs-map (λ x. whole B (v x)) g o.patterns i;
    additional = parts-map (λ x. (v x).alls) g o.additional i;
    required = o.required;
    least = o.least;
    most = o.most;
    closed = o.closed;
    names = names-map (λ x. whole B (v x)) (λ x. (v x).anys) g o.names i;
    naming = o.naming;
  }

  read_mapped : (sh : Shape A) → view_body B v (map_shape g sh) ≡ view_body B (λ x. v (g x)) sh
  unfolding view_body read_shape open_all open_any map_shape
  read_mapped (plain w) = refl
  read_mapped (any_of none xs) = λ i. record {
    shape = any_of none (map-map (λ x. whole B (v x)) g xs i);
    alls = B.build (any_of none (map-map (λ x. whole B (v x)) g xs i)) ∷ [];
    anys = flat_map (λ x. (v x).anys) g xs i;
  }
  read_mapped (any_of (some note) xs) = λ i. record {
    shape = any_of (some note) (map-map (λ x. whole B (v x)) g xs i);
    alls = B.build (any_of (some note) (map-map (λ x. whole B (v x)) g xs i)) ∷ [];
    anys = B.build (any_of (some note) (map-map (λ x. whole B (v x)) g xs i)) ∷ [];
  }
  read_mapped (all_of none xs) = λ i. record {
    shape = all_of none (map-map (λ x. whole B (v x)) g xs i);
    alls = flat_map (λ x. (v x).alls) g xs i;
    anys = B.build (all_of none (map-map (λ x. whole B (v x)) g xs i)) ∷ [];
  }
  read_mapped (all_of (some note) xs) = λ i. record {
    shape = all_of (some note) (map-map (λ x. whole B (v x)) g xs i);
    alls = B.build (all_of (some note) (map-map (λ x. whole B (v x)) g xs i)) ∷ [];
    anys = B.build (all_of (some note) (map-map (λ x. whole B (v x)) g xs i)) ∷ [];
  }
  read_mapped (array w x) = λ i. record {
    shape = array w (option_map (λ x. whole B (v x)) g x i);
    alls = B.build (array w (option_map (λ x. whole B (v x)) g x i)) ∷ [];
    anys = B.build (array w (option_map (λ x. whole B (v x)) g x i)) ∷ [];
  }
  read_mapped (object o) = λ i. record { shape = object (read_object_lem o i); alls = B.build (object (read_object_lem o i)) ∷ []; anys = B.build (object (read_object_lem o i)) ∷ [] }
  read_mapped (ref note t b) = refl

stands-sow : (sh : Shape Source) (b : Option (List Source)) → stands (sow sh b) ≡ view_body trees stands sh
stands-sow sh b = stands_mapped sh b ∙ read_mapped trees (self_view trees) stands sh

-- ---- the source of a record is made of its children's sources
module _ {P : ℕ → Type 0} (f g : ℕ → Source) (h : (x : ℕ) → P x → f x ≡ g x) where
  list_same : {xs : List ℕ} → Every P xs → map_list f xs ≡ map_list g xs
  unfolding map_list
  list_same nil = refl
  list_same (one {x = x} p ps) = ap₂ (λ (a : Source) (b : List Source). a ∷ b) (h x p) (list_same ps)

  pairs_same : {xs : List (Pair ℕ)} → EveryPair P xs → map_list (map_pair f) xs ≡ map_list (map_pair g) xs
  unfolding map_list
  pairs_same nil_pair = refl
  pairs_same (one_pair {x = x} p ps) = λ i. record { key = x.key; value = h x.value p i } ∷ pairs_same ps i

  option_same : {x : Option ℕ} → Perhaps P x → map_option f x ≡ map_option g x
  option_same absent = refl
  option_same (present {x = x} p) = ap some (h x p)

  lists_same : {x : Option (List ℕ)} → PerhapsEvery P x → map_option (map_list f) x ≡ map_option (map_list g) x
  lists_same absents = refl
  lists_same (presents ps) = ap some (list_same ps)

  named_same : {x : Names ℕ} → NamesIn P x → map_named f x ≡ map_named g x
  named_same in_none = refl
  named_same (in_detects {x = x} p) = ap detects (h x p)
  named_same (in_named ps) = ap named (list_same ps)

  shape_same : {sh : Shape ℕ} → Children P sh → map_shape f sh ≡ map_shape g sh
  unfolding map_shape
  shape_same in_plain = refl
  shape_same (in_any {note = note} q) = ap (λ (y : List Source). any_of note y) (list_same q)
  shape_same (in_all {note = note} q) = ap (λ (y : List Source). all_of note y) (list_same q)
  shape_same (in_array {w = w} q) = ap (λ (y : Option Source). array w y) (option_same q)
  shape_same (in_object {o = o} q) = λ i. object (record {
    note = o.note;
    props = pairs_same q.props i;
    patterns = pairs_same q.patterns i;
    additional = lists_same q.additional i;
    required = o.required;
    least = o.least;
    most = o.most;
    closed = o.closed;
    names = named_same q.names i;
    naming = o.naming;
  })
  shape_same in_ref = refl

module _ (T : Words) (z : Steady T) where
  abbrev S : ℕ → Source
  S s = source_of T s

  stable : (f g s : ℕ) → s < count T → s < f → s < g → source_at T f s ≡ source_at T g s
  unfolding source_at
  stable zero g s i a b = absurd (omega arith)
  stable (suc f) zero s i a b = absurd (omega arith)
  stable (suc f) (suc g) s i a b =
      ap₂ sow (shape_same (source_at T f) (source_at T g) (λ x p. stable f g x (omega arith) (omega arith) (omega arith)) (ordered z s i))
      (lists_same (source_at T f) (source_at T g) (λ x p. stable f g x (omega arith) (omega arith) (omega arith)) (z.placed.bases_below s i))

  source_is : (s : ℕ) → s < count T → S s ≡ sow (map_shape S (look T s)) (map_option (map_list S) (bases T s))
  unfolding source_of source_at
  source_is s i =
      ap₂ sow (shape_same (source_at T s) S (λ x p. stable s (suc x) x (omega arith) (omega arith) (omega arith)) (ordered z s i))
      (lists_same (source_at T s) S (λ x p. stable s (suc x) x (omega arith) (omega arith) (omega arith)) (z.placed.bases_below s i))

  stands_below : (f s : ℕ) → s < f → s < count T → stands (S s) ≡ view trees (look T) s
  stands_below zero s a i = absurd (omega arith)
  stands_below (suc f) s a i =
      ap stands (source_is s i) ∙
      (stands-sow (map_shape S (look T s)) (map_option (map_list S) (bases T s)) ∙
      (read_mapped trees stands S (look T s) ∙
      (view_same trees (λ x. stands (S x)) (view trees (look T)) (λ x p. stands_below f x (omega arith) (omega arith)) (ordered z s i) ∙
      sym (view_is trees (look T) (count T) (ordered z) s i))))

  -- as it stands a record stands for the tree of its source
  pub stands-source : (s : ℕ) → s < count T → stands (S s) ≡ view trees (look T) s
  stands-source s i = stands_below (suc s) s (omega arith) i

  module _ (go : ℕ → Option (View Tree)) (go' : Source → Option (View Tree)) (H : (x : ℕ) → x < count T → go' (S x) ≡ go x) where
    each-source : {n : ℕ} → n ≤ count T → {xs : List ℕ} → Every (λ x. x < n) xs → each_m go' (map_list S xs) ≡ each_m go xs
    unfolding each_m map_list
    each-source le nil = refl
    each-source le (one {x = x} {xs = xs} p ps) = ap₂ (λ (a : Option (View Tree)) (b : Option (List (View Tree))). bind a (λ y. bind b (λ ys. some (y ∷ ys)))) (H x (omega arith)) (each-source le ps)

    pairs-source : {n : ℕ} → n ≤ count T → {xs : List (Pair ℕ)} → EveryPair (λ x. x < n) xs → each_pair_m go' (map_list (map_pair S) xs) ≡ each_pair_m go xs
    unfolding each_pair_m map_list
    pairs-source le nil_pair = refl
    pairs-source le (one_pair {x = x} {xs = xs} p ps) =
        ap₂ (λ (a : Option (View Tree)) (b : Option (List (Pair (View Tree)))). bind a (λ y. bind b (λ ys. some (record { key = x.key; value = y } ∷ ys)))) (H x.value (omega arith)) (pairs-source le ps)

    option_source : {n : ℕ} → n ≤ count T → {x : Option ℕ} → Perhaps (λ x. x < n) x → option_m go' (map_option S x) ≡ option_m go x
    unfolding option_m
    option_source le absent = refl
    option_source le (present {x = x} p) = ap (λ (a : Option (View Tree)). bind a (λ y. some (some y))) (H x (omega arith))

    part_source : {n : ℕ} → n ≤ count T → {x : Option (List ℕ)} → PerhapsEvery (λ x. x < n) x → option_m go' (one_part (map_option (map_list S) x)) ≡ option_m go (one_part x)
    unfolding map_list option_m
    part_source le absents = refl
    part_source le (presents nil) = refl
    part_source le (presents (one {x = x} p ps)) = ap (λ (a : Option (View Tree)). bind a (λ y. some (some y))) (H x (omega arith))

    name_source : {n : ℕ} → n ≤ count T → {x : Names ℕ} → NamesIn (λ x. x < n) x → option_m go' (one_name (map_named S x)) ≡ option_m go (one_name x)
    unfolding map_list option_m
    name_source le in_none = refl
    name_source le (in_detects {x = x} p) = ap (λ (a : Option (View Tree)). bind a (λ y. some (some y))) (H x (omega arith))
    name_source le (in_named nil) = refl
    name_source le (in_named (one {x = x} p ps)) = ap (λ (a : Option (View Tree)). bind a (λ y. some (some y))) (H x (omega arith))

    module _ (eq : ℕ → ℕ → Bool) (find : ℕ → Option ℕ) (known : (t : ℕ) → Perhaps (λ x. x < count T) (find t)) where
      abbrev find' : ℕ → Option Source
      find' t = map_option S (find t)

      eager_source : {x : Option ℕ} → Perhaps (λ x. x < count T) x → eagerly_m trees go' (map_option S x) ≡ eagerly_m trees go x
      eager_source absent = refl
      eager_source (present {x = x} p) = H x p

      object-source : (s : ℕ) → s < count T → (o : Object ℕ) → ObjectIn (λ x. x < s) o → {b : Option (List ℕ)} → PerhapsEvery (λ x. x < s) b →
          meant_shape trees eq find' stands go' (S s) (object (map_whole S o)) (map_option (map_list S) b) ≡ meant_shape trees eq find (view trees (look T)) go s (object o) b
      unfolding meant_shape
      object-source s i o c absents =
          let le : s ≤ count T = omega arith in
          rw (pairs-source le c.props, pairs-source le c.patterns, part_source le c.additional, name_source le c.names)
      object-source s i o c (presents {xs = bs} q) =
          let le : s ≤ count T = omega arith in
          rw (each-source le q)
          (ap (λ (d : Object Tree). bind (each_m go bs) (λ vs. merge_m trees eq (objects_of (map_list (shape_of_view trees) vs)) d))
          (read_object_lem trees stands S o ∙ object_same trees (λ x. stands (S x)) (view trees (look T)) (λ x p. stands-source x (omega arith)) c))

      shape-source : (s : ℕ) → s < count T → {sh : Shape ℕ} → Children (λ x. x < s) sh → (b' : Option (List Source)) {b : Option (List ℕ)} → PerhapsEvery (λ x. x < s) b →
          ((o : Object ℕ) → sh ≡ object o → b' ≡ map_option (map_list S) b) → meant_shape trees eq find' stands go' (S s) (map_shape S sh) b' ≡ meant_shape trees eq find (view trees (look T)) go s sh b
      unfolding map_shape meant_shape
      shape-source s i in_plain b' q h = ap some (stands-source s i)
      shape-source s i (in_any {note = note} c) b' q h = ap (λ (a : Option (List (View Tree))). bind a (λ vs. some (view_body trees (self_view trees) (any_of note vs)))) (each-source {n = s} (omega arith) c)
      shape-source s i (in_all {note = note} c) b' q h = ap (λ (a : Option (List (View Tree))). bind a (λ vs. some (view_body trees (self_view trees) (all_of note vs)))) (each-source {n = s} (omega arith) c)
      shape-source s i (in_array {w = w} c) b' q h = ap (λ (a : Option (Option (View Tree))). bind a (λ v. some (view_body trees (self_view trees) (array w v)))) (option_source {n = s} (omega arith) c)
      shape-source s i (in_object {o = o} c) b' q h =
          ap (meant_shape trees eq find' stands go' (S s) (object (map_whole S o))) (h o refl) ∙ object-source s i o c q
      shape-source s i (in_ref {note = note} {t = t} {b = false}) b' q h = ap some (stands-source s i)
      shape-source s i (in_ref {note = note} {t = t} {b = true}) b' q h = eager_source (known t)

  module _ (eq : ℕ → ℕ → Bool) (find : ℕ → Option ℕ) (known : (t : ℕ) → Perhaps (λ x. x < count T) (find t)) where
    bases_seen : (s : ℕ) → s < count T → (o : Object ℕ) → look T s ≡ object o → based (S s) ≡ map_option (map_list S) (bases T s)
    unfolding map_shape
    bases_seen s i o e =
        ap based (source_is s i) ∙ (ap (λ (sh : Shape ℕ). based (sow (map_shape S sh) (map_option (map_list S) (bases T s)))) e ∙ based_sow (map_whole S o) (map_option (map_list S) (bases T s)))

    -- compiling a record means what compiling its source means
    pub meant_source : (k s : ℕ) → s < count T → meant_of trees eq (λ t. map_option S (find t)) stands see based k (S s) ≡ meant_at trees eq find T k s
    unfolding meant_of
    meant_source zero s i = refl
    meant_source (suc k) s i =
        let go' = meant_of trees eq (λ t. map_option S (find t)) stands see based k in
        ap (λ (sh : Shape Source). meant_shape trees eq (λ t. map_option S (find t)) stands go' (S s) sh (based (S s))) (ap see (source_is s i) ∙ see-sow (map_shape S (look T s)) (map_option (map_list S) (bases T s))) ∙
        shape-source (meant_at trees eq find T k) go' (λ x j. meant_source k x j) eq find known s i (ordered z s i) (based (S s)) (z.placed.bases_below s i) (λ o e. bases_seen s i o e)

-- what compile's record stands for is what compiling the tree of its source gives
pub compile_stands : (T : Tables) → tables_fault T ≡ Sound → (R : Room) → Limited R → (s : ℕ) → s < schema_count T.schemas → (r : ℕ) (U : Words) → compiling T R s ≡ ok r U →
    compile_tree (same_text T.pool T.texts) (λ t. map_option (source_of (words_of T)) (find_in T t)) levels (source_of (words_of T) s) ≡ some (opened (grown T U) r)
unfolding compiling compile_tree opened
compile_stands T sound_tables R l s i r U h =
    let z = checked T sound_tables in
    let eq = same_text T.pool T.texts in
    let d = compiled trees R eq (find_in T) (limit l.schemas) (limit_notes l.notes) (words_of T) z (names_known T sound_tables) levels s i (words_of T) U r z (extends_self (words_of T)) h in
    ap (map_option (whole trees)) (meant_source (words_of T) z eq (find_in T) (names_known T sound_tables) levels s i ∙ d.is)
