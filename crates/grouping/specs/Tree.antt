-- Document 01, "Opened": records as trees, where in additional an allOf, in names an anyOf, without note, is replaced by its parts, again and
-- again. `N` is any type of trees; `Grown` has one. Assumes nothing.
use Rattle.std.specs.Prelude.{ℕ, zero, suc, ◌<◌, ◌≡◌, Bool, false, List, [], ◌∷◌, ◌++◌}
use Rattle.std.proofs.Math.Option.{Option, some, none}
use Rattle.schema.specs.Shape.{Note, Pair, Own, Names, nameless, detects, named, Object, Shape, plain, any_of, all_of, array, object, ref}

-- a type of trees
pub record Trees (N : Type 0) : Type 0 where
  pub build : Shape N → N
  pub look : N → Shape N
  pub back : (x : Shape N) → look (build x) ≡ x

-- a record opened out, by itself, as a part of additional and as a part of names
pub record View (N : Type 0) : Type 0 where
  pub shape : Shape N
  pub alls : List N
  pub anys : List N

unfoldable pub map_list : {A B : Type 0} → (A → B) → List A → List B
map_list f [] = []
map_list f (x ∷ xs) = f x ∷ map_list f xs

unfoldable pub flat_list : {A B : Type 0} → (A → List B) → List A → List B
flat_list f [] = []
flat_list f (x ∷ xs) = f x ++ flat_list f xs

abbrev pub map_option : {A B : Type 0} → (A → B) → Option A → Option B
map_option f none = none
map_option f (some x) = some (f x)

abbrev pub map_pair : {A B : Type 0} → (A → B) → Pair A → Pair B
map_pair f p = record { key = p.key; value = f p.value }

abbrev pub map_names : {A B : Type 0} → (A → B) → (A → List B) → Names A → Names B
map_names f g nameless = nameless
map_names f g (detects x) = detects (f x)
map_names f g (named xs) = named (flat_list g xs)

-- an object with its children read by f, additional by g, names by h
abbrev pub map_object : {A B : Type 0} → (A → B) → (A → List B) → (A → List B) → Object A → Object B
map_object f g h o = record {
  note = o.note;
  props = map_list (map_pair f) o.props;
  patterns = map_list (map_pair f) o.patterns;
  additional = map_option (flat_list g) o.additional;
  required = o.required;
  least = o.least;
  most = o.most;
  closed = o.closed;
  names = map_names f h o.names;
  naming = o.naming;
}

module _ {N : Type 0} (B : Trees N) where
  abbrev pub whole : View N → N
  whole v = B.build v.shape

  unfoldable pub read_object : {A : Type 0} → (A → View N) → Object A → Object N
  read_object go o = map_object (λ x. whole (go x)) (λ x. (go x).alls) (λ x. (go x).anys) o

  unfoldable pub read_shape : {A : Type 0} → (A → View N) → Shape A → Shape N
  read_shape go (plain w) = plain w
  read_shape go (any_of note xs) = any_of note (map_list (λ x. whole (go x)) xs)
  read_shape go (all_of note xs) = all_of note (map_list (λ x. whole (go x)) xs)
  read_shape go (array w x) = array w (map_option (λ y. whole (go y)) x)
  read_shape go (object o) = object (read_object go o)
  read_shape go (ref note t eager) = ref note t eager

  -- "in additional an allOf without note is replaced by its parts, again and again"
  unfoldable pub open_all : {A : Type 0} → (A → View N) → Shape A → List N
  open_all go (plain w) = B.build (plain w) ∷ []
  open_all go (any_of note xs) = B.build (read_shape go (any_of note xs)) ∷ []
  open_all go (all_of none xs) = flat_list (λ x. (go x).alls) xs
  open_all go (all_of (some note) xs) = B.build (read_shape go (all_of (some note) xs)) ∷ []
  open_all go (array w x) = B.build (read_shape go (array w x)) ∷ []
  open_all go (object o) = B.build (read_shape go (object o)) ∷ []
  open_all go (ref note t eager) = B.build (ref note t eager) ∷ []

  -- "in names an anyOf"
  unfoldable pub open_any : {A : Type 0} → (A → View N) → Shape A → List N
  open_any go (plain w) = B.build (plain w) ∷ []
  open_any go (all_of note xs) = B.build (read_shape go (all_of note xs)) ∷ []
  open_any go (any_of none xs) = flat_list (λ x. (go x).anys) xs
  open_any go (any_of (some note) xs) = B.build (read_shape go (any_of (some note) xs)) ∷ []
  open_any go (array w x) = B.build (read_shape go (array w x)) ∷ []
  open_any go (object o) = B.build (read_shape go (object o)) ∷ []
  open_any go (ref note t eager) = B.build (ref note t eager) ∷ []

  unfoldable pub view_body : {A : Type 0} → (A → View N) → Shape A → View N
  view_body go sh = record { shape = read_shape go sh; alls = open_all go sh; anys = open_any go sh }

  unfoldable pub view_at : (ℕ → Shape ℕ) → ℕ → ℕ → View N
  view_at look zero s = record { shape = ref none 0 false; alls = []; anys = [] }
  view_at look (suc f) s = view_body (view_at look f) (look s)

  -- records stand after their children, so a record's number bounds its depth
  unfoldable pub view : (ℕ → Shape ℕ) → ℕ → View N
  view look s = view_at look (suc s) s

-- every child of a record meets P
pub data Every (P : ℕ → Type 0) : List ℕ → Type 0 where
  nil : Every P []
  one : {x : ℕ} {xs : List ℕ} → P x → Every P xs → Every P (x ∷ xs)

pub data EveryPair (P : ℕ → Type 0) : List (Pair ℕ) → Type 0 where
  nil_pair : EveryPair P []
  one_pair : {x : Pair ℕ} {xs : List (Pair ℕ)} → P x.value → EveryPair P xs → EveryPair P (x ∷ xs)

pub data Perhaps (P : ℕ → Type 0) : Option ℕ → Type 0 where
  absent : Perhaps P none
  present : {x : ℕ} → P x → Perhaps P (some x)

pub data PerhapsEvery (P : ℕ → Type 0) : Option (List ℕ) → Type 0 where
  absents : PerhapsEvery P none
  presents : {xs : List ℕ} → Every P xs → PerhapsEvery P (some xs)

pub data NamesIn (P : ℕ → Type 0) : Names ℕ → Type 0 where
  in_none : NamesIn P nameless
  in_detects : {x : ℕ} → P x → NamesIn P (detects x)
  in_named : {xs : List ℕ} → Every P xs → NamesIn P (named xs)

pub record ObjectIn (P : ℕ → Type 0) (o : Object ℕ) : Type 0 where
  pub props : EveryPair P o.props
  pub patterns : EveryPair P o.patterns
  pub additional : PerhapsEvery P o.additional
  pub names : NamesIn P o.names

pub data Children (P : ℕ → Type 0) : Shape ℕ → Type 0 where
  in_plain : {w : Own} → Children P (plain w)
  in_any : {note : Option Note} {xs : List ℕ} → Every P xs → Children P (any_of note xs)
  in_all : {note : Option Note} {xs : List ℕ} → Every P xs → Children P (all_of note xs)
  in_array : {w : Own} {x : Option ℕ} → Perhaps P x → Children P (array w x)
  in_object : {o : Object ℕ} → ObjectIn P o → Children P (object o)
  in_ref : {note : Option Note} {t : ℕ} {b : Bool} → Children P (ref note t b)

-- each of the first n records stands after its children
abbrev pub Ordered : (ℕ → Shape ℕ) → ℕ → Type 0
Ordered look n = (s : ℕ) → s < n → Children (λ x. x < s) (look s)
