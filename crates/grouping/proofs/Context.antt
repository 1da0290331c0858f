-- What compiling means is the same for related records, anywhere in two tables. Assumes nothing.
use Prim.Native.Nat.{ℕ, zero, suc, ◌<◌}
use mathlib.Core.Path.{◌≡◌, refl, sym, ap, ap₂, subst, ◌∙◌}
use mathlib.Core.Bool.{Bool, true, false}
use mathlib.Core.List.{List, [], ◌∷◌, ◌++◌}
use mathlib.Core.Option.{Option, some, none}
use native.Mathlib.Omega.{arith}
use Rattle.schema.specs.Shape.{Note, Pair, Own, Names, detects, named, Object, Shape, plain, any_of, all_of, array, object, ref}
use Rattle.schema.specs.Look.{Words, look, bases}
use Rattle.merge.specs.Merge.{Gathered, start, add, gather, derive, merge, empty}
use Rattle.compilation.specs.Compile.{objects_of}
use Rattle.grouping.specs.Record.{count}
use Rattle.grouping.specs.Tree.{Trees, View, map_list, flat_list, map_option, map_pair, map_names, whole, read_object, read_shape, open_all, open_any, view_body, view, Every, nil, one, EveryPair, nil_pair, one_pair, Perhaps, absent, present, PerhapsEvery, absents, presents, NamesIn, in_none, in_detects, in_named, ObjectIn, Children, in_any, in_all, in_array}
use Rattle.grouping.specs.Meant.{bind, each_m, each_pair_m, option_m, one_part, one_name, self_view, shape_of_view, closed, names_from, object_from, merge_m, eagerly_m, meant_shape, meant_at, meant_of}
use Rattle.grouping.specs.Regrouped.{Parts, no_parts, parts, Namings, no_names, detected, namings, Kin, Runs, done, base, run, BasesKin, no_base, runs, Related, plains, anys, alls, arrays, objects, refs, Regrouped, Each, stop, also, Maybe, neither, both as bothOf, Pairs, end_pairs, pair}
use Rattle.grouping.proofs.Shapes.{children-object}
use Rattle.grouping.proofs.Reading.{view_is}
use Rattle.grouping.proofs.Growing.{Sound}
use Rattle.grouping.proofs.Frame.{ordered}
use Rattle.grouping.proofs.Merging.{Keys, add-run, gather_append}
use Rattle.grouping.proofs.Wrapping.{objs, both, single, as_object, objs_cons, objs_append, meant_bases, read_empty}

-- related children read alike
module _ {N : Type 0} {Q : ℕ → ℕ → Type 0} {P : ℕ → Type 0} where
  list_kin : (f g : ℕ → N) → ((x y : ℕ) → Q x y → P x → f x ≡ g y) → {xs ys : List ℕ} → Each Q xs ys → Every P xs → map_list f xs ≡ map_list g ys
  unfolding map_list
  list_kin f g h stop nil = refl
  list_kin f g h (also q qs) (one p ps) = ap₂ (λ (a : N) (b : List N). a ∷ b) (h _ _ q p) (list_kin f g h qs ps)

  flat_kin : (f g : ℕ → List N) → ((x y : ℕ) → Q x y → P x → f x ≡ g y) → {xs ys : List ℕ} → Each Q xs ys → Every P xs → flat_list f xs ≡ flat_list g ys
  unfolding flat_list
  flat_kin f g h stop nil = refl
  flat_kin f g h (also q qs) (one p ps) = ap₂ (λ (a b : List N). a ++ b) (h _ _ q p) (flat_kin f g h qs ps)

  pairs-kin : (f g : ℕ → N) → ((x y : ℕ) → Q x y → P x → f x ≡ g y) → {xs ys : List (Pair ℕ)} → Pairs Q xs ys → EveryPair P xs → map_list (map_pair f) xs ≡ map_list (map_pair g) ys
  unfolding map_list
  pairs-kin f g h end_pairs nil_pair = refl
  pairs-kin f g h (pair k q qs) (one_pair p ps) = λ i. record { key = k i; value = h _ _ q p i } ∷ pairs-kin f g h qs ps i

  parts-kin : (f g : ℕ → List N) → ((x y : ℕ) → Q x y → P x → f x ≡ g y) → {x y : Option (List ℕ)} → Parts Q x y → PerhapsEvery P x → map_option (flat_list f) x ≡ map_option (flat_list g) y
  parts-kin f g h no_parts absents = refl
  parts-kin f g h (parts q) (presents p) = ap some (flat_kin f g h q p)

  option_kin : (f g : ℕ → N) → ((x y : ℕ) → Q x y → P x → f x ≡ g y) → {x y : Option ℕ} → Maybe Q x y → Perhaps P x → map_option f x ≡ map_option g y
  option_kin f g h neither absent = refl
  option_kin f g h (bothOf q) (present p) = ap some (h _ _ q p)

  names-kin : (f g : ℕ → N) (k l : ℕ → List N) → ((x y : ℕ) → Q x y → P x → f x ≡ g y) → ((x y : ℕ) → Q x y → P x → k x ≡ l y) → {x y : Names ℕ} → Namings Q x y → NamesIn P x → map_names f k x ≡ map_names g l y
  names-kin f g k l h m no_names in_none = refl
  names-kin f g k l h m (detected q) (in_detects p) = ap detects (h _ _ q p)
  names-kin f g k l h m (namings q) (in_named p) = ap named (flat_kin k l m q p)

module _ {N : Type 0} (B : Trees N) {Q : ℕ → ℕ → Type 0} {P : ℕ → Type 0} (f g : ℕ → View N) (h : (x y : ℕ) → Q x y → P x → f x ≡ g y) where
  wholes : (x y : ℕ) → Q x y → P x → whole B (f x) ≡ whole B (g y)
  wholes x y q p = ap (whole B) (h x y q p)

  allses : (x y : ℕ) → Q x y → P x → (f x).alls ≡ (g y).alls
  allses x y q p = ap (λ (v : View N). v.alls) (h x y q p)

  anyses : (x y : ℕ) → Q x y → P x → (f x).anys ≡ (g y).anys
  anyses x y q p = ap (λ (v : View N). v.anys) (h x y q p)

  object-kin : {o p : Object ℕ} → Kin Q o p → ObjectIn P o → read_object B f o ≡ read_object B g p
  unfolding read_object
  object-kin k c = λ i. record {
    note = k.note i;
    props = pairs-kin _ _ wholes k.props c.props i;
    patterns = pairs-kin _ _ wholes k.patterns c.patterns i;
    additional = parts-kin _ _ allses k.additional c.additional i;
    required = k.required i;
    least = k.least i;
    most = k.most i;
    closed = k.closed i;
    names = names-kin _ _ _ _ wholes anyses k.names c.names i;
    naming = k.naming i;
  }

  any_kin : (note : Option Note) {xs ys : List ℕ} → Each Q xs ys → Every P xs → view_body B f (any_of note xs) ≡ view_body B g (any_of note ys)
  unfolding view_body read_shape open_all open_any
  any_kin none q c = λ i. record { shape = any_of none (list_kin _ _ wholes q c i); alls = B.build (any_of none (list_kin _ _ wholes q c i)) ∷ []; anys = flat_kin _ _ anyses q c i }
  any_kin (some note) q c = λ i. record { shape = any_of (some note) (list_kin _ _ wholes q c i); alls = B.build (any_of (some note) (list_kin _ _ wholes q c i)) ∷ []; anys = B.build (any_of (some note) (list_kin _ _ wholes q c i)) ∷ [] }

  all_kin : (note : Option Note) {xs ys : List ℕ} → Each Q xs ys → Every P xs → view_body B f (all_of note xs) ≡ view_body B g (all_of note ys)
  unfolding view_body read_shape open_all open_any
  all_kin none q c = λ i. record { shape = all_of none (list_kin _ _ wholes q c i); alls = flat_kin _ _ allses q c i; anys = B.build (all_of none (list_kin _ _ wholes q c i)) ∷ [] }
  all_kin (some note) q c = λ i. record { shape = all_of (some note) (list_kin _ _ wholes q c i); alls = B.build (all_of (some note) (list_kin _ _ wholes q c i)) ∷ []; anys = B.build (all_of (some note) (list_kin _ _ wholes q c i)) ∷ [] }

  array-kin : (w : Own) {x y : Option ℕ} → Maybe Q x y → Perhaps P x → view_body B f (array w x) ≡ view_body B g (array w y)
  unfolding view_body read_shape open_all open_any
  array-kin w q c = λ i. record { shape = array w (option_kin _ _ wholes q c i); alls = B.build (array w (option_kin _ _ wholes q c i)) ∷ []; anys = B.build (array w (option_kin _ _ wholes q c i)) ∷ [] }

  objects_kin : {o p : Object ℕ} → Kin Q o p → ObjectIn P o → view_body B f (object o) ≡ view_body B g (object p)
  unfolding view_body read_shape open_all open_any
  objects_kin k c = λ i. record { shape = object (object-kin k c i); alls = B.build (object (object-kin k c i)) ∷ []; anys = B.build (object (object-kin k c i)) ∷ [] }

  plain-kin : (w : Own) → view_body B f (plain w) ≡ view_body B g (plain w)
  unfolding view_body read_shape open_all open_any
  plain-kin w = refl

  ref-kin : (note : Option Note) (t : ℕ) (b : Bool) → view_body B f (ref note t b) ≡ view_body B g (ref note t b)
  unfolding view_body read_shape open_all open_any
  ref-kin note t b = refl

in_any_of : {P : ℕ → Type 0} {note : Option Note} {xs : List ℕ} → Children P (any_of note xs) → Every P xs
in_any_of (in_any q) = q

in_all_of : {P : ℕ → Type 0} {note : Option Note} {xs : List ℕ} → Children P (all_of note xs) → Every P xs
in_all_of (in_all q) = q

in_array_of : {P : ℕ → Type 0} {w : Own} {x : Option ℕ} → Children P (array w x) → Perhaps P x
in_array_of (in_array q) = q

-- where both are there, they are the same
pub data Compat {A : Type 0} : Option A → Option A → Type 0 where
  left : {y : Option A} → Compat none y
  right : {x : Option A} → Compat x none
  alike : {x : Option A} → Compat x x

compat_bind : {A C : Type 0} {a b : Option A} (f g : A → Option C) → Compat a b → ((x : A) → Compat (f x) (g x)) → Compat (bind a f) (bind b g)
compat_bind f g left h = left
compat_bind f g right h = right
compat_bind f g (alike {x = x}) h = go x
  where
    go : (x : Option _) → Compat (bind x f) (bind x g)
    go none = left
    go (some x) = h x

pub compat_same : {A : Type 0} {a b : Option A} {v w : A} → Compat a b → a ≡ some v → b ≡ some w → v ≡ w
compat_same left e f = cc
compat_same right e f = cc
compat_same alike e f = cc

module _ {A : Type 0} {Q : ℕ → ℕ → Type 0} (go go' : ℕ → Option A) (h : (x y : ℕ) → Q x y → Compat (go x) (go' y)) where
  each_compat : {xs ys : List ℕ} → Each Q xs ys → Compat (each_m go xs) (each_m go' ys)
  unfolding each_m
  each_compat stop = alike
  each_compat (also q qs) = compat_bind _ _ (h _ _ q) (λ y. compat_bind _ _ (each_compat qs) (λ ys. alike))

  pairs_compat : {xs ys : List (Pair ℕ)} → Pairs Q xs ys → Compat (each_pair_m go xs) (each_pair_m go' ys)
  unfolding each_pair_m
  pairs_compat end_pairs = alike
  pairs_compat (pair {s = s} {u = u} k q qs) = rw k (compat_bind _ _ (h _ _ q) (λ y. compat_bind _ _ (pairs_compat qs) (λ ys. alike)))

  option_compat : {x y : Option ℕ} → Maybe Q x y → Compat (option_m go x) (option_m go' y)
  unfolding option_m
  option_compat neither = alike
  option_compat (bothOf q) = compat_bind _ _ (h _ _ q) (λ y. alike)

part_kin : {Q : ℕ → ℕ → Type 0} {x y : Option (List ℕ)} → Parts Q x y → Maybe Q (one_part x) (one_part y)
part_kin no_parts = neither
part_kin (parts stop) = neither
part_kin (parts (also q qs)) = bothOf q

name_kin : {Q : ℕ → ℕ → Type 0} {x y : Names ℕ} → Namings Q x y → Maybe Q (one_name x) (one_name y)
name_kin no_names = neither
name_kin (detected q) = bothOf q
name_kin (namings stop) = neither
name_kin (namings (also q qs)) = bothOf q

module _ {N : Type 0} (B : Trees N) (T T' : Words) (z : Sound T) (z' : Sound T') (Q : ℕ → ℕ → Type 0) (find find' : ℕ → Option ℕ) (K : Regrouped T T' Q find find') where
  body_kin : (s s' : ℕ) → Related T T' Q s s' → Children (λ x. x < s) (look T s) → ((x y : ℕ) → Q x y → x < s → view B (look T) x ≡ view B (look T') y) →
      view_body B (view B (look T)) (look T s) ≡ view_body B (view B (look T')) (look T' s')
  body_kin s s' (plains w e e') c h = rw (e, e') (plain-kin B {P = λ x. x < s} _ _ h w)
  body_kin s s' (anys note xs ys e e' q) c h = rw (e, e') (any_kin B {P = λ x. x < s} _ _ h note q (in_any_of (subst (Children (λ x. x < s)) e c)))
  body_kin s s' (alls note xs ys e e' q) c h = rw (e, e') (all_kin B {P = λ x. x < s} _ _ h note q (in_all_of (subst (Children (λ x. x < s)) e c)))
  body_kin s s' (arrays w x y e e' q) c h = rw (e, e') (array-kin B {P = λ x. x < s} _ _ h w q (in_array_of (subst (Children (λ x. x < s)) e c)))
  body_kin s s' (objects o p e e' k b) c h = rw (e, e') (objects_kin B {P = λ x. x < s} _ _ h k (children-object (subst (Children (λ x. x < s)) e c)))
  body_kin s s' (refs note t b e e') c h = rw (e, e') (ref-kin B {P = λ x. x < s} _ _ h note t b)

  view_kin_below : (f s s' : ℕ) → s < f → Q s s' → view B (look T) s ≡ view B (look T') s'
  view_kin_below zero s s' i q = absurd (omega arith)
  view_kin_below (suc f) s s' i q =
      view_is B (look T) (count T) (ordered z) s (K.within s s' q) ∙
      (body_kin s s' (K.related s s' q) (ordered z s (K.within s s' q)) (λ x y r j. view_kin_below f x y (omega arith) r) ∙
      sym (view_is B (look T') (count T') (ordered z') s' (K.within' s s' q)))

  -- related records read alike, uncompiled: bases do not count
  pub view-kin : (s s' : ℕ) → Q s s' → view B (look T) s ≡ view B (look T') s'
  view-kin s s' q = view_kin_below (suc s) s s' (omega arith) q

  module _ (eq : ℕ → ℕ → Bool) (L : Keys eq) where
    -- lists of objects that gather alike
    data Together : Option (List (Object N)) → Option (List (Object N)) → Type 0 where
      t_left : {y : Option (List (Object N))} → Together none y
      t_right : {x : Option (List (Object N))} → Together x none
      t_both : {x y : List (Object N)} → ((g : Gathered N) → gather eq g x ≡ gather eq g y) → Together (some x) (some y)

    together_both : {a b c d : Option (List (Object N))} → Together a b → Together c d → Together (both B eq find T a c) (both B eq find' T' b d)
    unfolding both
    together_both t_left q = t_left
    together_both t_right q = t_right
    together_both (t_both h) t_left = t_left
    together_both (t_both h) t_right = t_right
    together_both (t_both {x = x} {y = y} h) (t_both {x = u} {y = w} k) =
        t_both (λ g. gather_append eq L g x u ∙ (k (gather eq g x) ∙ (ap (λ (a : Gathered N). gather eq a w) (h g) ∙ sym (gather_append eq L g y w))))

    single_compat : {a b : Option (View N)} → Compat a b → Together (single B eq find T a) (single B eq find' T' b)
    unfolding single
    single_compat left = t_left
    single_compat right = t_right
    single_compat (alike {x = x}) = go x
      where
        go : (x : Option (View N)) → Together (single B eq find T x) (single B eq find' T' x)
        go none = t_left
        go (some v) = at v.shape
          where
            at : (sh : Shape N) → Together (as_object B eq find T sh) (as_object B eq find' T' sh)
            at (plain w) = unfold as_object in t_left
            at (any_of note xs) = unfold as_object in t_left
            at (all_of note xs) = unfold as_object in t_left
            at (array w x) = unfold as_object in t_left
            at (object o) = unfold as_object in t_both (λ g. refl)
            at (ref note t b) = unfold as_object in t_left

    -- an empty object over some bases gathers as they do
    wrapper : {a b : Option (List (Object N))} → Together a b → Together a (single B eq find' T' (merge_m B eq b empty))
    unfolding single as_object closed
    wrapper t_left = t_left
    wrapper t_right = t_right
    wrapper (t_both {y = []} h) = t_right
    wrapper (t_both {x = x} {y = o ∷ os} h) = t_both (λ g. h g ∙ (sym (add-run eq L g (o ∷ os)) ∙ sym (last g (merge eq (o ∷ os) empty))))
      where
        last : (g : Gathered N) (m : Object N) → gather eq g (m ∷ []) ≡ add eq g m
        last g m = unfold gather in refl

    unmeant : (a : Option (List (Object N))) (e : ℕ) (b : Option (List (Object N))) → Together a (both B eq find' T' (single B eq find' T' (meant_at B eq find' T' zero e)) b)
    unfolding meant_of single both
    unmeant a e b = t_right

    compat_eq : {A : Type 0} (a b : A) → a ≡ b → Compat (some a) (some b)
    compat_eq a b e = subst (λ (x : _). Compat (some a) (some x)) e alike

    merge_compat : {a b : Option (List (Object N))} (d d' : Object N) → Together a b → d ≡ d' → Compat (merge_m B eq a d) (merge_m B eq b d')
    merge_compat d d' t_left e = left
    merge_compat d d' t_right e = right
    merge_compat d d' (t_both {x = []} h) e = left
    merge_compat d d' (t_both {x = x ∷ xs} {y = []} h) e = right
    merge_compat d d' (t_both {x = x ∷ xs} {y = y ∷ ys} h) e = compat_eq _ _ (ap₂ (λ (g : Gathered N) (o : Object N). closed B (derive eq g o)) (h start) e)

    shape_bases : (f : ℕ → Option ℕ) (U : Words) (gm : ℕ → Option (View N)) (s : ℕ) (o : Object ℕ) (bs : List ℕ) →
        meant_shape B eq f (view B (look U)) gm s (object o) (some bs) ≡ merge_m B eq (objs B eq f U gm bs) (read_object B (view B (look U)) o)
    unfolding meant_shape objs
    shape_bases f U gm s o bs = at (each_m gm bs)
      where
        at : (x : Option (List (View N))) →
            bind x (λ vs. merge_m B eq (objects_of (map_list (shape_of_view B) vs)) (read_object B (view B (look U)) o)) ≡ merge_m B eq (bind x (λ vs. objects_of (map_list (shape_of_view B) vs))) (read_object B (view B (look U)) o)
        at none = refl
        at (some x) = refl

    module _ (k : ℕ) (H : (j s s' : ℕ) → Q s s' → Compat (meant_at B eq find T k s) (meant_at B eq find' T' j s')) where
      together : (j : ℕ) {bs bs' : List ℕ} → Runs T T' Q bs bs' → Together (objs B eq find T (meant_at B eq find T k) bs) (objs B eq find' T' (meant_at B eq find' T' j) bs')
      together j done = nothing
        where
          nothing : Together (objs B eq find T (meant_at B eq find T k) []) (objs B eq find' T' (meant_at B eq find' T' j) [])
          nothing = unfold objs each_m map_list objects_of in t_both (λ g. refl)
      together j (base {b = b} {b' = b'} {bs = bs} {bs' = bs'} q r) =
          rw (objs_cons B eq find T (meant_at B eq find T k) b bs, objs_cons B eq find' T' (meant_at B eq find' T' j) b' bs')
          (together_both (single_compat (H j b b' q)) (together j r))
      together zero (run {e = e} {some-run = xs} {inner = ys} {bs = bs} {bs' = bs'} w v i r) =
          rw (objs_cons B eq find' T' (meant_at B eq find' T' zero) e bs') (unmeant (objs B eq find T (meant_at B eq find T k) (xs ++ bs)) e (objs B eq find' T' (meant_at B eq find' T' zero) bs'))
      together (suc j) (run {e = e} {some-run = xs} {inner = ys} {bs = bs} {bs' = bs'} w v i r) =
          rw (objs_append B eq find T (meant_at B eq find T k) xs bs, objs_cons B eq find' T' (meant_at B eq find' T' (suc j)) e bs', meant_bases B eq find' T' j e empty ys w v, read_empty B eq find' T')
          (together_both (wrapper (together j i)) (together (suc j) r))

      same_facts : (o p : Object ℕ) → Kin Q o p → (ps qs : List (Pair (View N))) (a n : Option (View N)) → object_from B o ps qs a n ≡ object_from B p ps qs a n
      same_facts o p q ps qs a n = λ i. record { note = q.note i; props = ps; patterns = qs; additional = (object_from B o ps qs a n).additional; required = q.required i; least = q.least i; most = q.most i; closed = q.closed i; names = names_from B n; naming = q.naming i }

      object-step : (j s s' : ℕ) → Q s s' → (o p : Object ℕ) → look T s ≡ object o → Kin Q o p → {b b' : Option (List ℕ)} → BasesKin T T' Q b b' →
          Compat (meant_shape B eq find (view B (look T)) (meant_at B eq find T k) s (object o) b) (meant_shape B eq find' (view B (look T')) (meant_at B eq find' T' j) s' (object p) b')
      object-step j s s' q o p e kin no_base = unfold meant_shape in
          compat_bind _ _ (pairs_compat _ _ (H j) kin.props) (λ ps.
          compat_bind _ _ (pairs_compat _ _ (H j) kin.patterns) (λ qs.
          compat_bind _ _ (option_compat _ _ (H j) (part_kin kin.additional)) (λ x.
          compat_bind _ _ (option_compat _ _ (H j) (name_kin kin.names)) (λ y.
          compat_eq _ _ (ap (λ (v : Object (View N)). view_body B (self_view B) (object v)) (same_facts o p kin ps qs x y))))))
      object-step j s s' q o p e kin (runs {bs = bs} {bs' = bs'} r) =
          rw (shape_bases find T (meant_at B eq find T k) s o bs, shape_bases find' T' (meant_at B eq find' T' j) s' p bs')
          (merge_compat _ _ (together j r)
          (object-kin B {P = λ x. x < s} _ _ (λ x y r i. view-kin x y r) kin (children-object (subst (Children (λ x. x < s)) e (ordered z s (K.within s s' q))))))

      step : (j s s' : ℕ) → Q s s' → Related T T' Q s s' →
          Compat (meant_shape B eq find (view B (look T)) (meant_at B eq find T k) s (look T s) (bases T s)) (meant_shape B eq find' (view B (look T')) (meant_at B eq find' T' j) s' (look T' s') (bases T' s'))
      unfolding meant_shape
      step j s s' q (plains w e e') = rw (e, e') (compat_eq _ _ (view-kin s s' q))
      step j s s' q (anys note xs ys e e' r) = rw (e, e') (compat_bind _ _ (each_compat _ _ (H j) r) (λ vs. alike))
      step j s s' q (alls note xs ys e e' r) = rw (e, e') (compat_bind _ _ (each_compat _ _ (H j) r) (λ vs. alike))
      step j s s' q (arrays w x y e e' r) = rw (e, e') (compat_bind _ _ (option_compat _ _ (H j) r) (λ v. alike))
      step j s s' q (objects o p e e' kin b) = rw (e, e') (object-step j s s' q o p e kin b)
      step j s s' q (refs note t false e e') = rw (e, e') (compat_eq _ _ (view-kin s s' q))
      step j s s' q (refs note t true e e') = rw (e, e') (at (K.found t))
        where
          at : {x y : Option ℕ} → Maybe Q x y → Compat (eagerly_m B (meant_at B eq find T k) x) (eagerly_m B (meant_at B eq find' T' j) y)
          at neither = left
          at (bothOf r) = H j _ _ r

    -- what compiling means is the same for related records, where both compile
    pub meaning_kin : (k j s s' : ℕ) → Q s s' → Compat (meant_at B eq find T k s) (meant_at B eq find' T' j s')
    unfolding meant_of
    meaning_kin zero j s s' q = left
    meaning_kin (suc k) zero s s' q = right
    meaning_kin (suc k) (suc j) s s' q = step k (λ j s s' q. meaning_kin k j s s' q) j s s' q (K.related s s' q)
