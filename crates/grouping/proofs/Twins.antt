-- Two records that stand for one tree answer alike, whatever tables they stand in. Assumes nothing.
use Prim.Native.Nat.{ℕ, ◌+◌, ◌<◌, ◌≤◌}
use mathlib.Core.Path.{◌≡◌, refl, sym, ap, subst, ◌∙◌}
use mathlib.Core.Bool.{Bool, false}
use mathlib.Core.List.{List, [], ◌∷◌}
use mathlib.Core.Option.{Option, some, none}
use native.Mathlib.Omega.{arith}
use lib.Dec.{eqb}
use borrow.Author.Tests.{ne_eqb}
use Rattle.text.specs.Choice.{pick}
use Rattle.error.specs.declared.Detail.{Detail}
use Rattle.error.specs.declared.Detail.TheVariants.{Property}
use Rattle.error.specs.Paths.{Step}
use Rattle.layout.specs.Layout.{NONE}
use Rattle.schema.specs.Shape.{Note, Pair, Own, Object, Shape, plain, any_of, all_of, array, object, ref}
use Rattle.validator.specs.Outcome.{Error, Outcome, ended, made, kinded, placed}
use Rattle.validator.specs.Visit.{Nodes, number_or, visit_at}
use Rattle.grouping.specs.Tree.{Trees, View, map_list, flat_list, map_option, map_pair, whole, read_object, read_shape, view, Every, nil, one, EveryPair, nil_pair, one_pair, Perhaps, absent, present, PerhapsEvery, absents, presents, ObjectIn, Children, in_any, in_all, in_array, in_object, Ordered}
use Rattle.grouping.specs.Same.{without_all, Refusal, refuses as refusing, property, Schemaless, no_words, of_types, of_key, of_count, of_multiple, of_pattern, of_reference, of_range, told_by, refusal_by, answered_by}
use Rattle.grouping.specs.Regrouped.{Each, stop, also, Maybe, neither, both, Pairs, end_pairs, pair}
use Rattle.grouping.proofs.Shapes.{object_is}
use Rattle.grouping.proofs.Simulation.{Erasure, Quiet, Below, deep, accepts, refuses, invalids, ends, Opens, shut, keep, Extra, no_extra, extra, ObjectAlike, Alike, plains, anys, alls, arrays, objects, refs, Simulates, simulation}
use Rattle.grouping.proofs.Parts.{parts, opened_object, opened_shape, opened, parts_within, every_flat, lists_trees, tree_shape}
use Rattle.grouping.proofs.Opened.{self, stepless, steplessly, visit_opened}

-- the kind of a shape
tag : {A : Type 0} → Shape A → ℕ
tag (plain w) = 0
tag (any_of note xs) = 1
tag (all_of note xs) = 2
tag (array w x) = 3
tag (object o) = 4
tag (ref note t b) = 5

data SameKind : Shape ℕ → Shape ℕ → Type 0 where
  k_plain : {w v : Own} → SameKind (plain w) (plain v)
  k_any : {a b : Option Note} {xs ys : List ℕ} → SameKind (any_of a xs) (any_of b ys)
  k_all : {a b : Option Note} {xs ys : List ℕ} → SameKind (all_of a xs) (all_of b ys)
  k_array : {w v : Own} {x y : Option ℕ} → SameKind (array w x) (array v y)
  k_object : {o p : Object ℕ} → SameKind (object o) (object p)
  k_ref : {a b : Option Note} {t u : ℕ} {c d : Bool} → SameKind (ref a t c) (ref b u d)

same_kind : (x y : Shape ℕ) → tag x ≡ tag y → SameKind x y
unfolding tag
same_kind (plain a) (plain d) h = k_plain
same_kind (plain a) (any_of d e) h = absurd (omega arith)
same_kind (plain a) (all_of d e) h = absurd (omega arith)
same_kind (plain a) (array d e) h = absurd (omega arith)
same_kind (plain a) (object d) h = absurd (omega arith)
same_kind (plain a) (ref d e f) h = absurd (omega arith)
same_kind (any_of a b) (plain d) h = absurd (omega arith)
same_kind (any_of a b) (any_of d e) h = k_any
same_kind (any_of a b) (all_of d e) h = absurd (omega arith)
same_kind (any_of a b) (array d e) h = absurd (omega arith)
same_kind (any_of a b) (object d) h = absurd (omega arith)
same_kind (any_of a b) (ref d e f) h = absurd (omega arith)
same_kind (all_of a b) (plain d) h = absurd (omega arith)
same_kind (all_of a b) (any_of d e) h = absurd (omega arith)
same_kind (all_of a b) (all_of d e) h = k_all
same_kind (all_of a b) (array d e) h = absurd (omega arith)
same_kind (all_of a b) (object d) h = absurd (omega arith)
same_kind (all_of a b) (ref d e f) h = absurd (omega arith)
same_kind (array a b) (plain d) h = absurd (omega arith)
same_kind (array a b) (any_of d e) h = absurd (omega arith)
same_kind (array a b) (all_of d e) h = absurd (omega arith)
same_kind (array a b) (array d e) h = k_array
same_kind (array a b) (object d) h = absurd (omega arith)
same_kind (array a b) (ref d e f) h = absurd (omega arith)
same_kind (object a) (plain d) h = absurd (omega arith)
same_kind (object a) (any_of d e) h = absurd (omega arith)
same_kind (object a) (all_of d e) h = absurd (omega arith)
same_kind (object a) (array d e) h = absurd (omega arith)
same_kind (object a) (object d) h = k_object
same_kind (object a) (ref d e f) h = absurd (omega arith)
same_kind (ref a b c) (plain d) h = absurd (omega arith)
same_kind (ref a b c) (any_of d e) h = absurd (omega arith)
same_kind (ref a b c) (all_of d e) h = absurd (omega arith)
same_kind (ref a b c) (array d e) h = absurd (omega arith)
same_kind (ref a b c) (object d) h = absurd (omega arith)
same_kind (ref a b c) (ref d e f) h = k_ref

of_plain : {A : Type 0} → Own → Shape A → Own
of_plain d (plain w) = w
of_plain d (any_of note xs) = d
of_plain d (all_of note xs) = d
of_plain d (array w x) = w
of_plain d (object o) = d
of_plain d (ref note t b) = d

of_list : {A : Type 0} → Shape A → List A
of_list (plain w) = []
of_list (any_of note xs) = xs
of_list (all_of note xs) = xs
of_list (array w x) = []
of_list (object o) = []
of_list (ref note t b) = []

of_items : {A : Type 0} → Shape A → Option A
of_items (plain w) = none
of_items (any_of note xs) = none
of_items (all_of note xs) = none
of_items (array w x) = x
of_items (object o) = none
of_items (ref note t b) = none

of_note : {A : Type 0} → Shape A → Option Note
of_note (plain w) = none
of_note (any_of note xs) = none
of_note (all_of note xs) = none
of_note (array w x) = none
of_note (object o) = none
of_note (ref note t b) = note

of_text : {A : Type 0} → Shape A → ℕ
of_text (plain w) = 0
of_text (any_of note xs) = 0
of_text (all_of note xs) = 0
of_text (array w x) = 0
of_text (object o) = 0
of_text (ref note t b) = t

of_eager : {A : Type 0} → Shape A → Bool
of_eager (plain w) = false
of_eager (any_of note xs) = false
of_eager (all_of note xs) = false
of_eager (array w x) = false
of_eager (object o) = false
of_eager (ref note t b) = b

tag_read : {N : Type 0} (B : Trees N) (v : ℕ → View N) (sh : Shape ℕ) → tag (read_shape B v sh) ≡ tag sh
unfolding tag read_shape
tag_read B v (plain w) = refl
tag_read B v (any_of note xs) = refl
tag_read B v (all_of note xs) = refl
tag_read B v (array w x) = refl
tag_read B v (object o) = refl
tag_read B v (ref note t b) = refl

schemaless-told : {N : Type 0} (f g : ℕ → N) {d : Detail} → Schemaless d → told_by f d ≡ told_by g d
schemaless-told f g no_words = refl
schemaless-told f g of_types = refl
schemaless-told f g of_key = refl
schemaless-told f g of_count = refl
schemaless-told f g of_multiple = refl
schemaless-told f g of_pattern = refl
schemaless-told f g of_reference = refl
schemaless-told f g of_range = refl

nothing_is : {A B : Type 0} {x : A} {xs : List A} → ◌≡◌ {A = List A} [] (x ∷ xs) → B
nothing_is h = absurd (let q : ◌≡◌ {A = ℕ} 0 1 = cc in omega arith)

head_or : {A : Type 0} → A → List A → A
head_or d [] = d
head_or d (x ∷ xs) = x

tail_of : {A : Type 0} → List A → List A
tail_of [] = []
tail_of (x ∷ xs) = xs

head_is : {A : Type 0} {x y : A} {xs ys : List A} → x ∷ xs ≡ y ∷ ys → x ≡ y
unfolding head_or
head_is {x = x} h = ap (head_or x) h

tail_is : {A : Type 0} {x y : A} {xs ys : List A} → x ∷ xs ≡ y ∷ ys → xs ≡ ys
unfolding tail_of
tail_is h = ap tail_of h

option_or : {A : Type 0} → A → Option A → A
option_or d none = d
option_or d (some x) = x

some_is : {A : Type 0} {x y : A} → some x ≡ some y → x ≡ y
unfolding option_or
some_is {x = x} h = ap (option_or x) h

none-not : {A B : Type 0} {x : A} → ◌≡◌ {A = Option A} none (some x) → B
none-not h = absurd (let q : ◌≡◌ {A = ℕ} 0 1 = cc in omega arith)

module _ {N : Type 0} (B : Trees N) (look look' : ℕ → Shape ℕ) (n n' : ℕ) (O : Ordered look n) (O' : Ordered look' n') (few : n ≤ NONE) (few' : n' ≤ NONE) where
  abbrev W : ℕ → N
  W s = whole B (view B look s)

  abbrev W' : ℕ → N
  W' s = whole B (view B look' s)

  -- records that stand for one tree
  pub record Twins (s u : ℕ) : Type 0 where
    pub within : s < n
    pub within' : u < n'
    pub is : W s ≡ W' u

  abbrev refused_more : ℕ → Refusal N → Refusal N
  refused_more k e = record { number = e.number; node = e.node; schema = e.schema; hint = e.hint; detail = e.detail; steps = e.steps; kinds = pick (eqb k 8) e.kinds (k ∷ e.kinds) }

  abbrev refused_at : Step → Refusal N → Refusal N
  refused_at s e = record { number = e.number; node = e.node; schema = e.schema; hint = e.hint; detail = e.detail; steps = s ∷ e.steps; kinds = e.kinds }

  keeps_kind : (k : ℕ) (x y : Error) → refusal_by W x ≡ refusal_by W' y → refusal_by W (kinded k x) ≡ refusal_by W' (kinded k y)
  unfolding without_all
  keeps_kind k x y p = ap (refused_more k) p

  keeps_place : (s : Step) (x y : Error) → refusal_by W x ≡ refusal_by W' y → refusal_by W (placed s x) ≡ refusal_by W' (placed s y)
  keeps_place s x y p = ap (refused_at s) p

  treewise : Erasure (Refusal N) Schemaless
  treewise = record { er = refusal_by W; er' = refusal_by W'; kind = keeps_kind; place = keeps_place; key = λ t. of_key; reference = λ t. of_reference }

  each : {s u : ℕ} → s ≤ n → u ≤ n' → (xs ys : List ℕ) → Every (λ x. x < s) xs → Every (λ x. x < u) ys → map_list W xs ≡ map_list W' ys → Each Twins xs ys
  unfolding map_list
  each le le' [] [] nil nil h = stop
  each le le' [] (y ∷ ys) nil (one q qs) h = nothing_is h
  each le le' (x ∷ xs) [] (one p ps) nil h = nothing_is (sym h)
  each le le' (x ∷ xs) (y ∷ ys) (one p ps) (one q qs) h = also {s = x} {u = y} (record { within = omega arith; within' = omega arith; is = head_is h }) (each le le' xs ys ps qs (tail_is h))

  pairs : {s u : ℕ} → s ≤ n → u ≤ n' → (xs ys : List (Pair ℕ)) → EveryPair (λ x. x < s) xs → EveryPair (λ x. x < u) ys → map_list (map_pair W) xs ≡ map_list (map_pair W') ys → Pairs Twins xs ys
  unfolding map_list
  pairs le le' [] [] nil_pair nil_pair h = end_pairs
  pairs le le' [] (y ∷ ys) nil_pair (one_pair q qs) h = nothing_is h
  pairs le le' (x ∷ xs) [] (one_pair p ps) nil_pair h = nothing_is (sym h)
  pairs le le' (x ∷ xs) (y ∷ ys) (one_pair p ps) (one_pair q qs) h =
      pair {s = x} {u = y} (ap (λ (z : Pair N). z.key) (head_is h)) (record { within = omega arith; within' = omega arith; is = ap (λ (z : Pair N). z.value) (head_is h) }) (pairs le le' xs ys ps qs (tail_is h))

  option : {s u : ℕ} → s ≤ n → u ≤ n' → {x y : Option ℕ} → Perhaps (λ x. x < s) x → Perhaps (λ x. x < u) y → map_option W x ≡ map_option W' y → Maybe Twins x y
  option le le' absent absent h = neither
  option le le' absent (present q) h = none-not h
  option le le' (present p) absent h = none-not (sym h)
  option le le' (present {x = x} p) (present {x = y} q) h = both {s = x} {u = y} (record { within = omega arith; within' = omega arith; is = some_is h })

  kept : {xs ys : List ℕ} → Each Twins xs ys → Opens treewise Twins (opened look) xs ys
  kept stop = shut
  kept (also q qs) = keep q (kept qs)

  extras : {s u : ℕ} → s ≤ n → u ≤ n' → {x y : Option (List ℕ)} → PerhapsEvery (λ x. x < s) x → PerhapsEvery (λ x. x < u) y →
      map_option (flat_list (λ x. (view B look x).alls)) x ≡ map_option (flat_list (λ x. (view B look' x).alls)) y →
      Extra treewise Twins (opened look) (map_option (flat_list (parts look)) x) (map_option (flat_list (parts look')) y)
  extras le le' absents absents h = no_extra
  extras le le' absents (presents q) h = none-not h
  extras le le' (presents p) absents h = none-not (sym h)
  extras {s} {u} le le' (presents {xs = xs} p) (presents {xs = ys} q) h =
      let low : n ≤ n = omega arith in
      let low' : n' ≤ n' = omega arith in
      extra (kept (each low low' (flat_list (parts look) xs) (flat_list (parts look') ys)
      (every_flat (parts look) (λ x i. parts_within look n O x (omega arith)) p)
      (every_flat (parts look') (λ x i. parts_within look' n' O' x (omega arith)) q)
      (lists_trees look n O B le p ∙ (some_is h ∙ sym (lists_trees look' n' O' B le' q)))))

  objects_alike : {s u : ℕ} → s ≤ n → u ≤ n' → {o p : Object ℕ} → ObjectIn (λ x. x < s) o → ObjectIn (λ x. x < u) p → read_object B (view B look) o ≡ read_object B (view B look') p →
      ObjectAlike treewise Twins (opened look) (opened_object look o) (opened_object look' p)
  unfolding read_object
  objects_alike le le' {o = o} {p = p} c c' h = record {
    note = ap (λ (x : Object N). x.note) h;
    props = pairs le le' o.props p.props c.props c'.props (ap (λ (x : Object N). x.props) h);
    additional = extras le le' c.additional c'.additional (ap (λ (x : Object N). x.additional) h);
    required = ap (λ (x : Object N). x.required) h;
    least = ap (λ (x : Object N). x.least) h;
    most = ap (λ (x : Object N). x.most) h;
    closed = ap (λ (x : Object N). x.closed) h;
  }

  shapes_alike : {s u : ℕ} → s ≤ n → u ≤ n' → {x y : Shape ℕ} → SameKind x y → Children (λ x. x < s) x → Children (λ x. x < u) y → read_shape B (view B look) x ≡ read_shape B (view B look') y →
      Alike treewise Twins (opened look) (opened_shape look x) (opened_shape look' y)
  unfolding opened_shape read_shape of_plain of_list of_items of_note of_text of_eager
  shapes_alike le le' (k_plain {w = w}) c c' h = subst (λ (v : Own). Alike treewise Twins (opened look) (plain w) (plain v)) (ap (of_plain w) h) plains
  shapes_alike le le' (k_any {xs = xs} {ys = ys}) (in_any c) (in_any c') h = anys (each le le' xs ys c c' (ap of_list h))
  shapes_alike le le' (k_all {xs = xs} {ys = ys}) (in_all c) (in_all c') h = alls (each le le' xs ys c c' (ap of_list h))
  shapes_alike le le' (k_array {w = w} {x = x} {y = y}) (in_array c) (in_array c') h =
      subst (λ (v : Own). Alike treewise Twins (opened look) (array w x) (array v y)) (ap (of_plain w) h) (arrays (option le le' c c' (ap of_items h)))
  shapes_alike le le' k_object (in_object c) (in_object c') h = objects (objects_alike le le' c c' (object_is h))
  shapes_alike le le' (k_ref {a = a} {b = b} {t = t} {u = u} {c = c} {d = d}) i i' h =
      subst (λ (x : Option Note). Alike treewise Twins (opened look) (ref a t c) (ref x u d)) (ap of_note h)
      (subst (λ (x : ℕ). Alike treewise Twins (opened look) (ref a t c) (ref a x d)) (ap of_text h)
      (subst (λ (x : Bool). Alike treewise Twins (opened look) (ref a t c) (ref a t x)) (ap of_eager h) refs))

  stepping : {s u : ℕ} → Twins s u → Alike treewise Twins (opened look) (opened look s) (opened look' u)
  unfolding opened
  stepping {s} {u} r =
      let e : read_shape B (view B look) (look s) ≡ read_shape B (view B look') (look' u) = sym (tree_shape look n O B s r.within) ∙ (ap B.look r.is ∙ tree_shape look' n' O' B u r.within') in
      shapes_alike {s = s} {u = u} (omega (arith, r.within)) (omega (arith, r.within'))
      (same_kind (look s) (look' u) (sym (tag_read B (view B look) (look s)) ∙ (ap tag e ∙ tag_read B (view B look') (look' u))))
      (O s r.within) (O' u r.within') e

  refused_by : {s u : ℕ} → Twins s u → (k m : ℕ) (note : Option Note) (d d' : Detail) → told_by W d ≡ told_by W' d' → refusal_by W (made k m (self s) note d) ≡ refusal_by W' (made k m (self u) note d')
  refused_by r k m note d d' e = λ i. record { number = k; node = m; schema = r.is i; hint = (made k m 0 note d).hint; detail = e i; steps = []; kinds = without_all [] }

  number-told : (s : ℕ) → s < NONE → (f : ℕ → N) → pick (eqb s NONE) none (some (f s)) ≡ some (f s)
  number-told s i f = rw (ne_eqb s NONE (λ e. omega arith))

  lacking : (D : Nodes) {s u : ℕ} {a b : Option ℕ} → Twins s u → Maybe Twins a b → (k t : ℕ) (note : Option Note) →
      refusal_by W (made 2 k (self s) note (Property t (number_or D self a))) ≡ refusal_by W' (made 2 k (self u) note (Property t (number_or D self b)))
  lacking D r neither k t note = refused_by r 2 k note (Property t NONE) (Property t NONE) refl
  lacking D r (both {s = x} {u = y} q) k t note =
      refused_by r 2 k note (Property t x) (Property t y)
      (ap (λ (z : Option N). property t z) (number-told x (omega (arith, q.within)) W ∙ (ap some q.is ∙ sym (number-told y (omega (arith, q.within')) W'))))

  module _ (find find' : ℕ → Option ℕ) (found : (t : ℕ) → Maybe Twins (find t) (find' t)) where
    simulates : Simulates treewise Twins self self (opened look) (opened look') find find'
    unfolding treewise
    simulates = record {
      tells = λ r k m note d q. refused_by r k m note d d (schemaless-told W W' q);
      lacks = λ D r q k t note. lacking D r q k t note;
      step = λ r. stepping r;
      found = found;
    }

    twins_opened : (D : Nodes) → Quiet Schemaless D → (m k s u : ℕ) → Twins s u → Below treewise (visit_at D self (opened look) find m k s) (visit_at D self (opened look') find' m k u)
    twins_opened D quiet m k s u r = simulation D quiet treewise Twins self self (opened look) (opened look') find find' simulates m m (omega arith) k s u r

    -- what is kept of an error does not count its allOf steps
    counted : (f : ℕ → N) → Error → Refusal N
    counted f e = record { number = e.number; node = e.node; schema = f e.schema; hint = e.hint; detail = told_by f e.detail; steps = e.steps; kinds = e.kinds }

    stepless_kept : (f : ℕ → N) (x y : Error) → stepless x ≡ stepless y → refusal_by f x ≡ refusal_by f y
    unfolding counted
    stepless_kept f x y p = ap (counted f) p

    opened_answers : (f : ℕ → N) {a b : Outcome} → Below steplessly a b → (a ≡ ended 23 → ⊥) → answered_by f a ≡ answered_by f b
    unfolding answered_by steplessly
    opened_answers f deep h = absurd (h refl)
    opened_answers f accepts h = refl
    opened_answers f (refuses {x = x} {y = y} e) h = ap refusing (stepless_kept f x y e)
    opened_answers f invalids h = refl
    opened_answers f ends h = refl

    not-deep : {a b : Outcome} → Below steplessly a b → (a ≡ ended 23 → ⊥) → b ≡ ended 23 → ⊥
    not-deep deep h e = h refl
    not-deep accepts h e = h e
    not-deep (refuses {x = x} {y = y} p) h e = absurd (let q : ◌≡◌ {A = ℕ} 0 1 = cc in omega arith)
    not-deep invalids h e = h e
    not-deep ends h e = h e

    twins_answers : {a b : Outcome} → Below treewise a b → (a ≡ ended 23 → ⊥) → answered_by W a ≡ answered_by W' b
    unfolding answered_by treewise
    twins_answers deep h = absurd (h refl)
    twins_answers accepts h = refl
    twins_answers (refuses e) h = ap refusing e
    twins_answers invalids h = refl
    twins_answers ends h = refl

    known : {x y : Option ℕ} → Maybe Twins x y → Perhaps (λ x. x < n) x
    known neither = absent
    known (both q) = present q.within

    known' : {x y : Option ℕ} → Maybe Twins x y → Perhaps (λ x. x < n') y
    known' neither = absent
    known' (both q) = present q.within'

    -- where neither visit meets the depth limit both answer alike, even with other level counts
    pub twins_visits : (D : Nodes) → Quiet Schemaless D → (j j' k s u : ℕ) → Twins s u →
        (visit_at D self look find j k s ≡ ended 23 → ⊥) → (visit_at D self look' find' j' k u ≡ ended 23 → ⊥) →
        answered_by W (visit_at D self look find j k s) ≡ answered_by W' (visit_at D self look' find' j' k u)
    twins_visits D quiet j j' k s u r a a' =
        let p : Below steplessly (visit_at D self look find j k s) (visit_at D self (opened look) find (j + j') k s) =
        visit_opened look n O find (λ t. known (found t)) D (j + j') j (omega arith) k s r.within in
        let p' : Below steplessly (visit_at D self look' find' j' k u) (visit_at D self (opened look') find' (j + j') k u) =
        visit_opened look' n' O' find' (λ t. known' (found t)) D (j + j') j' (omega arith) k u r.within' in
        opened_answers W p a ∙
        (twins_answers (twins_opened D quiet (j + j') k s u r) (not-deep p a) ∙ sym (opened_answers W' p' a'))
