-- A record's tree is made of its children's trees. Assumes nothing.
use Prim.Native.Nat.{ℕ, zero, suc, ◌<◌}
use mathlib.Core.Path.{◌≡◌, refl, ap}
use mathlib.Core.List.{List, [], ◌∷◌}
use mathlib.Core.Option.{Option, some, none}
use native.Mathlib.Omega.{arith}
use Rattle.schema.specs.Shape.{Pair, Names, detects, named, Object, Shape, any_of, all_of, array, object}
use Rattle.grouping.specs.Tree.{Trees, View, map_list, flat_list, map_option, map_pair, map_names, whole, read_object, read_shape, open_all, open_any, view_body, view_at, view, Every, nil, one, EveryPair, nil_pair, one_pair, Perhaps, absent, present, PerhapsEvery, absents, presents, NamesIn, in_none, in_detects, in_named, ObjectIn, Children, in_plain, in_any, in_all, in_array, in_object, in_ref, Ordered}

map_same : {A : Type 0} {P : ℕ → Type 0} (f g : ℕ → A) → ((x : ℕ) → P x → f x ≡ g x) → {xs : List ℕ} → Every P xs → map_list f xs ≡ map_list g xs
unfolding map_list
map_same f g h nil = refl
map_same f g h (one {x = x} p ps) = cc (h x p, map_same f g h ps)

pub flat_same : {A : Type 0} {P : ℕ → Type 0} (f g : ℕ → List A) → ((x : ℕ) → P x → f x ≡ g x) → {xs : List ℕ} → Every P xs → flat_list f xs ≡ flat_list g xs
unfolding flat_list
flat_same f g h nil = refl
flat_same f g h (one {x = x} p ps) = cc (h x p, flat_same f g h ps)

pairs_same : {A : Type 0} {P : ℕ → Type 0} (f g : ℕ → A) → ((x : ℕ) → P x → f x ≡ g x) → {xs : List (Pair ℕ)} → EveryPair P xs → map_list (map_pair f) xs ≡ map_list (map_pair g) xs
unfolding map_list
pairs_same f g h nil_pair = refl
pairs_same f g h (one_pair {x = x} p ps) = cc (h x.value p, pairs_same f g h ps)

option_same : {A : Type 0} {P : ℕ → Type 0} (f g : ℕ → A) → ((x : ℕ) → P x → f x ≡ g x) → {x : Option ℕ} → Perhaps P x → map_option f x ≡ map_option g x
option_same f g h absent = refl
option_same f g h (present {x = x} p) = ap some (h x p)

extra_same : {A : Type 0} {P : ℕ → Type 0} (f g : ℕ → List A) → ((x : ℕ) → P x → f x ≡ g x) → {x : Option (List ℕ)} → PerhapsEvery P x → map_option (flat_list f) x ≡ map_option (flat_list g) x
extra_same f g h absents = refl
extra_same f g h (presents ps) = ap some (flat_same f g h ps)

names_same : {A : Type 0} {P : ℕ → Type 0} (f g : ℕ → A) (k l : ℕ → List A) → ((x : ℕ) → P x → f x ≡ g x) → ((x : ℕ) → P x → k x ≡ l x) → {x : Names ℕ} → NamesIn P x → map_names f k x ≡ map_names g l x
names_same f g k l h i in_none = refl
names_same f g k l h i (in_detects {x = x} p) = ap detects (h x p)
names_same f g k l h i (in_named ps) = ap named (flat_same k l i ps)

module _ {N : Type 0} (B : Trees N) {P : ℕ → Type 0} (f g : ℕ → View N) (h : (x : ℕ) → P x → f x ≡ g x) where
  h_whole : (x : ℕ) → P x → whole B (f x) ≡ whole B (g x)
  h_whole x p = ap (whole B) (h x p)

  h_alls : (x : ℕ) → P x → (f x).alls ≡ (g x).alls
  h_alls x p = ap (λ (v : View N). v.alls) (h x p)

  h_anys : (x : ℕ) → P x → (f x).anys ≡ (g x).anys
  h_anys x p = ap (λ (v : View N). v.anys) (h x p)

  pub object_same : {o : Object ℕ} → ObjectIn P o → read_object B f o ≡ read_object B g o
  unfolding read_object
  object_same {o} q =
      object_cong (pairs_same _ _ h_whole q.props) (pairs_same _ _ h_whole q.patterns) (extra_same _ _ h_alls q.additional) (names_same _ _ _ _ h_whole h_anys q.names)
    where
      object_cong : {a b c d : List (Pair N)} {e k : Option (List N)} {l m : Names N} → a ≡ b → c ≡ d → e ≡ k → l ≡ m →
          ◌≡◌ {A = Object N}
          (record { note = o.note; props = a; patterns = c; additional = e; required = o.required; least = o.least; most = o.most; closed = o.closed; names = l; naming = o.naming })
          (record { note = o.note; props = b; patterns = d; additional = k; required = o.required; least = o.least; most = o.most; closed = o.closed; names = m; naming = o.naming })
      object_cong p q r s = λ i. record { note = o.note; props = p i; patterns = q i; additional = r i; required = o.required; least = o.least; most = o.most; closed = o.closed; names = s i; naming = o.naming }

  pub shape_same : {sh : Shape ℕ} → Children P sh → read_shape B f sh ≡ read_shape B g sh
  unfolding read_shape
  shape_same in_plain = refl
  shape_same (in_any {note = note} q) = ap (λ (x : List N). any_of note x) (map_same _ _ h_whole q)
  shape_same (in_all {note = note} q) = ap (λ (x : List N). all_of note x) (map_same _ _ h_whole q)
  shape_same (in_array {w = w} q) = ap (λ (x : Option N). array w x) (option_same _ _ h_whole q)
  shape_same (in_object q) = ap object (object_same q)
  shape_same in_ref = refl

  built : {x y : Shape N} → x ≡ y → B.build x ∷ [] ≡ B.build y ∷ []
  built p = ap (λ (z : Shape N). B.build z ∷ []) p

  all_same : {sh : Shape ℕ} → Children P sh → open_all B f sh ≡ open_all B g sh
  unfolding open_all
  all_same in_plain = refl
  all_same (in_any {note = note} q) = built (shape_same (in_any {note = note} q))
  all_same (in_all {note = none} q) = flat_same _ _ h_alls q
  all_same (in_all {note = some note} q) = built (shape_same (in_all {note = some note} q))
  all_same (in_array q) = built (shape_same (in_array q))
  all_same (in_object q) = built (shape_same (in_object q))
  all_same in_ref = refl

  any_same : {sh : Shape ℕ} → Children P sh → open_any B f sh ≡ open_any B g sh
  unfolding open_any
  any_same in_plain = refl
  any_same (in_all {note = note} q) = built (shape_same (in_all {note = note} q))
  any_same (in_any {note = none} q) = flat_same _ _ h_anys q
  any_same (in_any {note = some note} q) = built (shape_same (in_any {note = some note} q))
  any_same (in_array q) = built (shape_same (in_array q))
  any_same (in_object q) = built (shape_same (in_object q))
  any_same in_ref = refl

  pub view_same : {sh : Shape ℕ} → Children P sh → view_body B f sh ≡ view_body B g sh
  unfolding view_body
  view_same q = λ i. record { shape = shape_same q i; alls = all_same q i; anys = any_same q i }

module _ {N : Type 0} (B : Trees N) (look : ℕ → Shape ℕ) (n : ℕ) (O : Ordered look n) where
  -- more depth than the record's number changes nothing
  stable : (f g s : ℕ) → s < n → s < f → s < g → view_at B look f s ≡ view_at B look g s
  unfolding view_at
  stable zero g s i a b = absurd (omega arith)
  stable (suc f) zero s i a b = absurd (omega arith)
  stable (suc f) (suc g) s i a b = view_same B (view_at B look f) (view_at B look g) (λ x p. stable f g x (omega arith) (omega arith) (omega arith)) (O s i)

  pub view_is : (s : ℕ) → s < n → view B look s ≡ view_body B (view B look) (look s)
  unfolding view view_at
  view_is s i = view_same B (view_at B look s) (view B look) (λ x p. stable s (suc x) x (omega arith) (omega arith) (omega arith)) (O s i)
